-- Two places are found to be the same where they are.
use Rattle.std.specs.Prelude.{bytes_eq}
use Rattle.std.specs.Cmp.Lexicographic.{bytes_decides}
use Rattle.std.proofs.Common.{◌≡◌, true, [], ◌∷◌, refl}
use Rattle.cwl_value.specs.declared.place.Segment.{Segment}
use Rattle.job_graph.specs.Words.{JobPlace, is_same_place, segment_eq}
use Rattle.run_rules.proofs.Measuring.{both_true, left_true, right_true}

same_segment : (a b : Segment) → segment_eq a b ≡ true → a ≡ b
same_segment a b same =
    let step : a.step ≡ b.step = (bytes_decides a.step b.step).0 (left_true (bytes_eq a.step b.step) (bytes_eq a.index b.index) same) in
    let index : a.index ≡ b.index = (bytes_decides a.index b.index).0 (right_true (bytes_eq a.step b.step) (bytes_eq a.index b.index) same) in
    λ i. record { step = step i; index = index i }

pub same_place : (p q : JobPlace) → is_same_place p q ≡ true → p ≡ q
same_place [] [] same = refl
same_place [] (b ∷ q) same = absurd cc
same_place (a ∷ p) [] same = absurd cc
same_place (a ∷ p) (b ∷ q) same =
    let first : a ≡ b = same_segment a b (left_true (segment_eq a b) (is_same_place p q) same) in
    let rest : p ≡ q = same_place p q (right_true (segment_eq a b) (is_same_place p q) same) in
    λ i. first i ∷ rest i

same_segment_itself : (a : Segment) → segment_eq a a ≡ true
same_segment_itself a = both_true (bytes_eq a.step a.step) (bytes_eq a.index a.index) ((bytes_decides a.step a.step).1 refl) ((bytes_decides a.index a.index).1 refl)

pub same_itself : (p : JobPlace) → is_same_place p p ≡ true
same_itself [] = refl
same_itself (a ∷ p) = both_true (segment_eq a a) (is_same_place p p) (same_segment_itself a) (same_itself p)
