-- Item bindings of an array type, level by level.
use Rattle.std.proofs.Common.{◌≡◌, Bool, false, ◌||◌, List, [], ◌∷◌, map, refl, ap, ◌∙◌}
use Rattle.std.specs.Option.{is_some}
use Rattle.std.specs.List.{list_any}
use Rattle.cwl_types.specs.declared.types.ArrayType.{ArrayType, out-ArrayType}
use Rattle.cwl_types.specs.declared.types.MemberType.TheFolds.{fold_out-ArrayType}
use Rattle.command_line.specs.Added.{array_binds, array_binds_items, binds_items, member_binds}

any_map : {X : Type 0} (f : X → Bool) (xs : List X) → list_any (λ b. b) (map f xs) ≡ list_any f xs
any_map f [] = refl
any_map f (x ∷ xs) = ap (λ rest. f x || rest) (any_map f xs)

-- an array without a binding of its own has those of its items
pub none_of_its_own : (array : ArrayType) → is_some (out-ArrayType array).binding ≡ false → array_binds_items array ≡ list_any binds_items (out-ArrayType array).items
none_of_its_own array none =
    fold_out-ArrayType Bool Bool member_binds array_binds array
    ∙ ap (λ b. b || list_any (λ b. b) (map binds_items (out-ArrayType array).items)) none
    ∙ any_map binds_items (out-ArrayType array).items
