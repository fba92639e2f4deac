use Rattle.end_words.proofs.tally.with_jobs.Goals as goal

pub returns : goal.returns
returns c = rw (c.in_ok-line-2.ensures, c.in_ok-line.ensures.ok) at c.with_done.ensures
