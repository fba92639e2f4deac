use Rattle.std.proofs.lemmas.Result.{IfOk-weaker}
use Rattle.run_given.proofs.Stops.{stops_so}
use Rattle.cwl_program.proofs.demo.inputs_of.Goals as goal

pub returns-clause-ok : goal.returns-clause-ok
returns-clause-ok c =
    IfOk-weaker c.inputs_at.result _ _ (λ inputs are. (c.in_ok-base.base, c.in_ok-base.ensures.ok, are)) (rw c.as_bytes.ensures.value at c.inputs_at.ensures.ok)

pub returns-clause-err : goal.returns-clause-err
returns-clause-err c =
    stops_so _ _ (λ exit end. (c.in_ok-base.base, c.in_ok-base.ensures.ok, end)) c.inputs_at.result (rw c.as_bytes.ensures.value at c.inputs_at.ensures.err)
