-- How much a type is made of: a level weighs more than the next one.
use Rattle.std.proofs.Common.{◌≡◌, ◌∙◌, ◌+◌, ◌<◌, ◌≢◌, ℕ, suc, List, [], ◌∷◌, length, refl, ap, arith}
use Rattle.std.specs.Prelude.{sum}
use Rattle.std.specs.List.{sum_by}
use Rattle.std.proofs.lemmas.List.Sums.{sum-map, sum_by-append, sum_by-cons}
use Rattle.cwl_types.specs.declared.types.ArrayType.{ArrayType, fold-ArrayType, out-ArrayType}
use Rattle.cwl_types.specs.declared.types.MemberType.{MemberType, out-MemberType, fold-MemberType, map-MemberType}
use Rattle.cwl_types.specs.declared.types.MemberType.TheOpen.{MemberType-F, ArrayType-F}
use Rattle.cwl_types.specs.declared.types.MemberType.TheFolds.{fold_out-ArrayType, fold_out-MemberType}
use Rattle.type_check.specs.Depths.{items_at, items_of}
use Rattle.type_check.specs.Overlaps.{Seen}

abbrev member_weight : MemberType-F ℕ ℕ → ℕ
member_weight (MemberType-F.Plain kind) = 1
member_weight (MemberType-F.Array weight) = weight
member_weight (MemberType-F.Enum symbols) = 1

abbrev array_weight : ArrayType-F ℕ ℕ → ℕ
array_weight array = suc (sum array.items)

abbrev weight : MemberType → ℕ
weight = fold-MemberType ℕ ℕ member_weight array_weight

-- of members together
abbrev pub weights : List MemberType → ℕ
weights members = sum_by weight members

at_step : (v : Seen) → member_weight (map-MemberType MemberType ArrayType ℕ ℕ weight (fold-ArrayType ℕ ℕ member_weight array_weight) v) ≡ suc (weights (items_at v))
at_step (MemberType-F.Plain kind) = refl
at_step (MemberType-F.Array a) = fold_out-ArrayType ℕ ℕ member_weight array_weight a ∙ ap suc (sum-map weight (out-ArrayType a).items)
at_step (MemberType-F.Enum symbols) = refl

opened : (m : MemberType) → weight m ≡ suc (weights (items_at (out-MemberType m)))
opened m = fold_out-MemberType ℕ ℕ member_weight array_weight m ∙ at_step (out-MemberType m)

lighter : (ms : List MemberType) → weights (items_of ms) + length ms ≡ weights ms
lighter [] = refl
lighter (m ∷ ms) =
    let items : weights (items_of (m ∷ ms)) ≡ weights (items_at (out-MemberType m)) + weights (items_of ms) = sum_by-append weight (items_at (out-MemberType m)) (items_of ms) in
    let all : weights (m ∷ ms) ≡ weight m + weights ms = sum_by-cons weight m ms in
    let count : length (m ∷ ms) ≡ suc (length ms) = refl in
    let one : weight m ≡ suc (weights (items_at (out-MemberType m))) = opened m in
    let rest : weights (items_of ms) + length ms ≡ weights ms = lighter ms in
    omega arith

pub next_is_lighter : (ms : List MemberType) → length ms ≢ 0 → weights (items_of ms) < weights ms
next_is_lighter ms some = omega (arith, lighter ms)
