use Rattle.std.proofs.lemmas.Result.{IfOk-weaker}
use Rattle.record_program.proofs.file.seen_in_copy.Goals as goal

pub returns-in-Ok-clause-whose : goal.returns-in-Ok-clause-whose
returns-in-Ok-clause-whose g c =
    IfOk-weaker c.opened_in.result _ _ (λ kept is. record { found = c.in-Ok.conn; opened = c.in-Ok.ensures.opened; is_of = is }) c.opened_in.ensures.of
