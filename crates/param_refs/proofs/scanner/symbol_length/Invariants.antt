use Rattle.std.proofs.Common.{◌≡◌, true, take}
use Rattle.std.specs.List.{list_all}
use Rattle.param_refs.specs.Grammar.{is_symbol_byte}
use Rattle.param_refs.proofs.scanner.symbol_length.Given as goal

abbrev pub invariant-loop-at : goal.invariant-loop-at
invariant-loop-at l = list_all is_symbol_byte (take l.at l.bytes) ≡ true
