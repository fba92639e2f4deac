use Rattle.std.proofs.Common.{drop}
use Rattle.std.specs.Prelude.{◌||◌}
use Rattle.type_check.specs.inner.Members.{is_held, is_in}
use Rattle.type_check.proofs.Kept.{Holds}
use Rattle.type_check.proofs.members.add_texts.Given as goal

abbrev pub invariant-loop-symbol : goal.invariant-loop-symbol
invariant-loop-symbol l = Holds l.held.items (drop l.symbol-index l.symbols) (λ q. is_held q l.fn.held.items || is_in q l.fn.symbols)
