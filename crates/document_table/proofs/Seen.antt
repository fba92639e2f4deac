-- Names that are looked at one by one, each beside those before it.
use Rattle.std.proofs.Common.{◌≡◌, ℕ, ◌+◌, ◌<◌, List, [], ◌∷◌, ◌++◌, length, map, get_or, take, drop, Bool, true, false, cond, ◌||◌, Some, refl, sym, ap, ◌∙◌, bytes_eq}
use Rattle.std.specs.Cmp.Lexicographic.{nat_list_eq_equiv, slice_cmp}
use Rattle.std.specs.List.{list_any}
use Rattle.std.specs.Ordering.{is_eq, nat_cmp}
use Rattle.std.proofs.lemmas.List.{drop_more, take_more, map-append}
use Rattle.std.proofs.lemmas.List.Folds.{list_any-append}
use Rattle.std.proofs.lemmas.Map.Text.{is_eq-slice_cmp}
use Rattle.std.specs.Prelude.{if◌then◌else◌}
use Rattle.document_table.specs.Repeats.{repeat_after}

same_test : (id other : List ℕ) → bytes_eq id other ≡ bytes_eq other id
same_test id other = nat_list_eq_equiv.symm id other

joined : (test old : Bool) → cond test true old ≡ (old || (test || false))
joined true true = refl
joined true false = refl
joined false true = refl
joined false false = refl

-- a set that had the names before, and one more
pub seen-more : (id other : List ℕ) (before : List (List ℕ)) (old new : Bool) → old ≡ list_any (bytes_eq other) before → new ≡ cond (is_eq (slice_cmp nat_cmp id other)) true old → new ≡ list_any (bytes_eq other) (before ++ id ∷ [])
seen-more id other before old new was is =
    is ∙ ap (λ test. cond test true old) (is_eq-slice_cmp id other ∙ same_test id other) ∙ joined (bytes_eq other id) old
    ∙ ap (λ b. b || (bytes_eq other id || false)) was ∙ sym (list_any-append (bytes_eq other) before (id ∷ []))

-- the names up to one, and those from it on
module _ {A : Type 0} (f : A → List ℕ) (xs : List A) (i : ℕ) (d : A) (within : i < length xs) where
  pub names_more : map f (take (i + 1) xs) ≡ map f (take i xs) ++ f (get_or xs i d) ∷ []
  names_more = ap (map f) (take_more xs i d within) ∙ map-append f (take i xs) (get_or xs i d ∷ [])

  pub names_left : map f (drop i xs) ≡ f (get_or xs i d) ∷ map f (drop (i + 1) xs)
  names_left = ap (map f) (drop_more xs i d within)

-- one name that is new
pub repeat-next : (before names : List (List ℕ)) (name : List ℕ) → list_any (bytes_eq name) before ≡ false → repeat_after before (name ∷ names) ≡ repeat_after (before ++ name ∷ []) names
repeat-next before names name new = ap (λ t. if t then Some name else repeat_after (before ++ name ∷ []) names) new
