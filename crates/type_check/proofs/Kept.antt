-- Symbols, as they are taken one after another.
use Rattle.std.proofs.Common.{◌≡◌, ◌∙◌, ◌+◌, ◌<◌, ◌≤◌, ℕ, Bool, true, false, List, [], ◌∷◌, ◌++◌, length, drop, get_or, refl, sym, ap}
use Rattle.std.specs.Borrow.{Bor}
use Rattle.std.specs.Prelude.{◌||◌}
use Rattle.std.specs.List.{list_any}
use Rattle.std.specs.Str.{bytes_eq}
use Rattle.std.proofs.lemmas.List.{drop_all, drop_more}
use Rattle.std.proofs.lemmas.List.Folds.{list_any-append}
use Rattle.cwl_types.specs.declared.types.MemberType.{MemberType}
use Rattle.type_check.specs.inner.Members.{AreSymbolsOf, all_lent, has_symbol, is_held, is_in}
use Rattle.type_check.proofs.Tests.{or_false}

module _ {X : Type 0} (xs : List X) (i : ℕ) where
  -- what is left at an element begins with it
  left : (x : X) → i < length xs → x ≡ get_or xs i x → x ∷ drop (i + 1) xs ≡ drop i xs
  left x within is = ap (λ y. y ∷ drop (i + 1) xs) is ∙ sym (drop_more xs i x within)

or_next : (was here rest : Bool) → ((was || (here || false)) || rest) ≡ (was || (here || rest))
or_next true here rest = refl
or_next false true rest = refl
or_next false false rest = refl

-- texts, as far as these have been put among them
abbrev pub Holds : List (Bor (List ℕ)) → List (List ℕ) → (List ℕ → Bool) → Type 0
Holds held rest whole = (q : List ℕ) → (is_held q held || is_in q rest) ≡ whole q

pub one_held : (texts : List (List ℕ)) (whole : List ℕ → Bool) (i : ℕ) (old new : List (Bor (List ℕ))) (key : Bor (List ℕ)) (text : List ℕ) → key.now ≡ text
    → i < length texts → text ≡ get_or texts i text → new ≡ old ++ key ∷ [] → Holds old (drop i texts) whole → Holds new (drop (i + 1) texts) whole
one_held texts whole i old new key text same within is more holds q =
    ap (λ (ks : List (Bor (List ℕ))). is_held q ks || is_in q (drop (i + 1) texts)) more
    ∙ ap (λ (b : Bool). b || is_in q (drop (i + 1) texts)) (list_any-append (λ k. bytes_eq k.now q) old (key ∷ []))
    ∙ or_next (is_held q old) (bytes_eq key.now q) (is_in q (drop (i + 1) texts))
    ∙ ap (λ (t : List ℕ). is_held q old || (bytes_eq t q || is_in q (drop (i + 1) texts))) same
    ∙ ap (λ (ts : List (List ℕ)). is_held q old || is_in q ts) (left texts i text within is)
    ∙ holds q

-- texts, as far as the symbols of these have been put among them
abbrev pub Notes : List (Bor (List ℕ)) → List (Bor MemberType) → List MemberType → Type 0
Notes held rest whole = (q : List ℕ) → (is_held q held || list_any (has_symbol q) (all_lent rest)) ≡ list_any (has_symbol q) whole

-- where none is left, all are noted
pub all_noted : (held : List (Bor (List ℕ))) (ms : List (Bor MemberType)) (whole : List MemberType) (i : ℕ) → length ms ≤ i → Notes held (drop i ms) whole → AreSymbolsOf held whole
all_noted held ms whole i end notes q =
    sym (or_false (is_held q held)) ∙ ap (λ (rest : List (Bor MemberType)). is_held q held || list_any (has_symbol q) (all_lent rest)) (sym (drop_all i ms end)) ∙ notes q
