use Rattle.std.proofs.Common.{◌∙◌, sym}
use Rattle.std.proofs.lemmas.Result.{err_from_is_err_and}
use Rattle.workflow_engine.specs.inner.Looks.{has_failed, is_made, ran_out}
use Rattle.workflow_engine.proofs.plan.told.Goals as goal

pub returns-in_err-made-in-None : goal.returns-in_err-made-in-None
returns-in_err-made-in-None c =
    let p = err_from_is_err_and c.from_residual.result c.from_residual.ensures.1 in
    rw (p.1, p.2) ran_out

pub returns-in_ok-made-in-None : goal.returns-in_ok-made-in-None
returns-in_ok-made-in-None c = is_made c.in_ok-made-in-None.field-0 (sym c.failure_of.ensures ∙ c.in-None.is) c.in_ok-made-in-None.ensures

pub returns-in-Some : goal.returns-in-Some
returns-in-Some c = has_failed c.in-Some.fault (sym c.failure_of.ensures ∙ c.in-Some.is)
