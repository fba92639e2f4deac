use Rattle.std.proofs.lemmas.Result.{on_ok_weaker}
use Rattle.cwl_program.proofs.Ends.{told_alone, told_with_words}
use Rattle.cwl_program.proofs.entry.tell.Goals as goal

pub returns-then-end : goal.returns-then-end
returns-then-end g c =
    on_ok_weaker c.put_left.result
    (λ stays. told_with_words _ _ _ _ _ _ _ _ _ _ _ _ _ c.if-end.true c.in_ok-print.ensures c.in_ok-explain_exit.ensures c.in_ok-put_notes.ensures
    c.in_ok-put_savings.ensures stays)
    c.put_left.ensures

pub returns : goal.returns
returns g c =
    on_ok_weaker c.put_unkept.result (λ lost. told_alone _ _ _ _ _ _ _ _ _ _ c.if-end.false c.in_ok-print.ensures lost) c.put_unkept.ensures
