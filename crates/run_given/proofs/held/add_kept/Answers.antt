use Rattle.std.proofs.lemmas.Result.{on_ok_weaker}
use Rattle.run_given.proofs.held.add_kept.Goals as goal

pub returns-clause-keeps : goal.returns-clause-keeps
returns-clause-keeps g c =
    on_ok_weaker c.add_times.result (λ times file there. times file (c.in_ok-add_record.ensures.keeps file there)) c.add_times.ensures.keeps
