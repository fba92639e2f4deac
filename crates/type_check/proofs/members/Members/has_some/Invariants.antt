use Rattle.std.proofs.Common.{◌≡◌, drop}
use Rattle.std.specs.List.{list_any}
use Rattle.type_check.specs.inner.Members.{is_held}
use Rattle.type_check.proofs.members.Members.has_some.Given as goal

abbrev pub invariant-loop-symbol : goal.invariant-loop-symbol
invariant-loop-symbol l =
    list_any (λ text. is_held text l.self.symbols.items) (drop l.symbol-index l.fn.symbols) ≡ list_any (λ text. is_held text l.fn.self.symbols.items) l.fn.symbols
