use Rattle.std.proofs.Common.{◌∙◌, sym}
use Rattle.run_given.specs.Named.{not_given, twofold}
use Rattle.run_given.proofs.Stops.{stops_so}
use Rattle.run_given.proofs.given.ready_of.Goals as goal

pub returns-then-is_twofold-clause-err : goal.returns-then-is_twofold-clause-err
returns-then-is_twofold-clause-err g c = twofold (sym c.is_twofold.ensures ∙ c.if-is_twofold.true)

pub returns-clause-err : goal.returns-clause-err
returns-clause-err g c = stops_so _ _ (λ exit end. not_given (sym c.is_twofold.ensures ∙ c.if-is_twofold.false) end) _ c.given_of.ensures.err
