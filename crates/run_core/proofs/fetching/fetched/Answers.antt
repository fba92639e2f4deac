use Rattle.std.proofs.Common.{◌≡◌, ◌∙◌, true, false, sym, subst}
use Rattle.run_core.specs.inner.Fetches.{AgreesAt}
use Rattle.run_core.specs.inner.Picks.{agrees, differs}
use Rattle.run_core.proofs.Lists.{also_ok}
use Rattle.run_core.proofs.fetching.fetched.Goals as goal

pub returns-in-true-clause-is : goal.returns-in-true-clause-is
returns-in-true-clause-is c =
    also_ok c.loaded.result
    (λ turn is past.
    agrees (subst (AgreesAt c.args.course.now c.args.number) c.as_slice.ensures (c.agrees.ensures.0 c.in-true.is)) is past c.loaded.ensures.known)
    c.loaded.ensures.is c.loaded.ensures.past

pub returns-in-false-clause-is : goal.returns-in-false-clause-is
returns-in-false-clause-is c =
    also_ok c.missed.result
    (λ turn is past.
    differs
    (λ same.
    let never : true ≡ false = sym (c.agrees.ensures.1 (subst (AgreesAt c.args.course.now c.args.number) (sym c.as_slice.ensures) same)) ∙ c.in-false.is in cc)
    is past c.missed.ensures.known)
    c.missed.ensures.is c.missed.ensures.past
