use Rattle.end_words.proofs.tally.with_done.Goals as goal

pub returns-in_ok-line-in-Some : goal.returns-in_ok-line-in-Some
returns-in_ok-line-in-Some c = rw c.in-Some.is (rw (c.in_ok-line-in-Some.ensures, c.saturating_sub.ensures) at c.with_part-in-Some-2.ensures)
