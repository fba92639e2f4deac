use Rattle.std.proofs.Common.{◌≡◌, ◌∷◌, ◌++◌, take, string_bytes, decimal}
use Rattle.std.specs.List.{flat_map}
use Rattle.cwl_value.proofs.print.push_index.Given as goal

abbrev pub invariant-loop-number : goal.invariant-loop-number
invariant-loop-number l = string_bytes l.text ≡ string_bytes l.initial.text ++ flat_map (λ m. 44 ∷ decimal m) (take l.number-index l.rest)
