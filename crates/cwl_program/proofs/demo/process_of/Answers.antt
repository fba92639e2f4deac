use Rattle.std.proofs.lemmas.Result.{IfOk-weaker}
use Rattle.run_given.proofs.Stops.{stops_so}
use Rattle.cwl_program.proofs.demo.process_of.Goals as goal

pub returns-clause-ok : goal.returns-clause-ok
returns-clause-ok c =
    IfOk-weaker c.accepted_of-2.result _ _ (λ process is. (c.in_ok-base.base, c.in_ok-base.ensures.ok, is))
    (rw (c.in_ok-document.ensures, c.in_ok-docs.ensures, c.new.ensures) at c.accepted_of-2.ensures.ok)

pub returns-clause-err : goal.returns-clause-err
returns-clause-err c =
    stops_so _ _ (λ exit end. (c.in_ok-base.base, c.in_ok-base.ensures.ok, end)) c.accepted_of-2.result
    (rw (c.in_ok-document.ensures, c.in_ok-docs.ensures, c.new.ensures) at c.accepted_of-2.ensures.err)
