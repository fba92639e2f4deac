-- Reading one after another, up to the first refusal.
use Rattle.std.proofs.Common.{◌≡◌, List, [], ◌∷◌, ◌++◌, Ok, Err, refl, ap, ◌∙◌}
use Rattle.cwl_value.specs.Reading.{Reads, and_then, and_map, all_read}
use Rattle.cwl_value.specs.declared.refusal.ValueRefusal.{ValueRefusal}

module _ {T : Type 0} where
  alone : (r : Reads (List T)) → r ≡ and_map (λ xs. [] ++ xs) r
  alone (Ok xs) = refl
  alone (Err e) = refl

  joins : (x : T) (r s : Reads (List T)) → and_map (λ xs. x ∷ xs) (and_then r (λ xs. and_map (λ ys. xs ++ ys) s)) ≡ and_then (and_map (λ xs. x ∷ xs) r) (λ xs. and_map (λ ys. xs ++ ys) s)
  joins x (Ok xs) (Ok ys) = refl
  joins x (Ok xs) (Err e) = refl
  joins x (Err e) s = refl

  pub all_read-append : (rs ss : List (Reads T)) → all_read (rs ++ ss) ≡ and_then (all_read rs) (λ xs. and_map (λ ys. xs ++ ys) (all_read ss))
  all_read-append [] ss = alone (all_read ss)
  all_read-append (Ok x ∷ rs) ss = ap (and_map (λ xs. x ∷ xs)) (all_read-append rs ss) ∙ joins x (all_read rs) (all_read ss)
  all_read-append (Err e ∷ rs) ss = refl

  -- one more
  pub all_read-push : (rs : List (Reads T)) (r : Reads T) (xs : List T) (x : T) → all_read rs ≡ Ok xs → r ≡ Ok x → all_read (rs ++ r ∷ []) ≡ Ok (xs ++ x ∷ [])
  all_read-push rs r xs x before now = all_read-append rs (r ∷ []) ∙ rw (before, now) refl

  -- the first refusal is that of the whole
  pub all_read-stop : (rs : List (Reads T)) (r : Reads T) (rest : List (Reads T)) (xs : List T) (e : ValueRefusal) → all_read rs ≡ Ok xs → r ≡ Err e → all_read (rs ++ r ∷ rest) ≡ Err e
  all_read-stop rs r rest xs e before now = all_read-append rs (r ∷ rest) ∙ rw (before, now) refl
