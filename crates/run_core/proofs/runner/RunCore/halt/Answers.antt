use Rattle.std.proofs.Common.{sym, subst}
use Rattle.run_core.specs.Core.{Halts, IsAtRest}
use Rattle.run_core.specs.Machine.{Machine}
use Rattle.run_core.proofs.ending.Halting.{halts}
use Rattle.run_core.proofs.runner.RunCore.halt.Goals as goal

pub returns : goal.returns
returns c = λ rest.
    subst (λ (core : Machine). Halts core c.what_is_left.result) c.self.view_is
    (halts c.self.inside c.what_is_left.result c.what_is_left.ensures.known c.what_is_left.ensures.planned c.what_is_left.ensures.outcome c.self.invariant (subst IsAtRest (sym c.self.view_is) rest))
