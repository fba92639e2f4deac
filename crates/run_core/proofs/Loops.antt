-- Steps of loops over a list.
use Rattle.std.proofs.Common.{◌≡◌, ◌∙◌, ℕ, suc, ◌+◌, ◌<◌, Bool, true, false, bytes_eq, refl, List, [], ◌∷◌, ◌++◌, length, get_or, take, drop, sym, ap, add-one, drop-cons}
use Rattle.std.specs.Prelude.{◌||◌}
use Rattle.std.specs.Cmp.Lexicographic.{bytes_decides}
use Rattle.std.proofs.lemmas.Bool.{or_left}
use Rattle.run_core.specs.inner.Course.{is_lost_in}
use Rattle.std.proofs.lemmas.List.{take_more}

pub drop_at : {X : Type 0} (xs : List X) (i : ℕ) (x : X) → i < length xs → x ≡ get_or xs i x → drop i xs ≡ x ∷ drop (i + 1) xs
drop_at xs i x within is = rw (add-one, drop-cons xs i x) (ap (λ y. y ∷ drop (suc i) xs) (sym is))

pub take_at : {X : Type 0} (xs : List X) (i : ℕ) (x : X) → i < length xs → x ≡ get_or xs i x → take (i + 1) xs ≡ take i xs ++ x ∷ []
take_at xs i x within is = take_more xs i x within ∙ ap (λ y. take i xs ++ y ∷ []) (sym is)

-- a key is looked for among those that were lost
lost_at : (lost : List (List ℕ)) (key : List ℕ) (i : ℕ) (other : List ℕ) → i < length lost → other ≡ get_or lost i other →
    is_lost_in (drop i lost) key ≡ (bytes_eq other key || is_lost_in (drop (i + 1) lost) key)
lost_at lost key i other within is = ap (λ (l : List (List ℕ)). is_lost_in l key) (drop_at lost i other within is)

pub lost_here : (lost : List (List ℕ)) (key : List ℕ) (i : ℕ) (other : List ℕ) → i < length lost → other ≡ get_or lost i other → other ≡ key → is_lost_in (drop i lost) key ≡ true
lost_here lost key i other within is same =
    lost_at lost key i other within is ∙ or_left (bytes_eq other key) (is_lost_in (drop (i + 1) lost) key) ((bytes_decides other key).1 same)

pub lost_later : (lost : List (List ℕ)) (key : List ℕ) (i : ℕ) (other : List ℕ) → i < length lost → other ≡ get_or lost i other → (other ≡ key → ⊥) →
    is_lost_in (drop i lost) key ≡ is_lost_in (drop (i + 1) lost) key
lost_later lost key i other within is differ = lost_at lost key i other within is ∙ ap (λ b. b || is_lost_in (drop (i + 1) lost) key) (by (bytes_eq other key) refl)
  where
    by : (b : Bool) → bytes_eq other key ≡ b → bytes_eq other key ≡ false
    by true same = absurd (differ ((bytes_decides other key).0 same))
    by false same = same
