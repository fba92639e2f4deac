-- Names that climb, of which none is twice.
use Rattle.std.proofs.Common.{◌≡◌, ℕ, List, [], ◌∷◌, ◌++◌, Bool, true, false, true≢false, ◌||◌, None, refl, sym, ap, ◌∙◌, bytes_eq}
use Rattle.std.specs.Cmp.Lexicographic.{nat_list_eq_equiv, slice_cmp}
use Rattle.std.specs.List.{list_any}
use Rattle.std.specs.Ordering.{is_eq, is_lt, nat_cmp}
use Rattle.std.specs.declared.cmp.Ordering.{Ordering}
use Rattle.std.specs.declared.cmp.Ordering.TheVariants.{Less, Equal, Greater}
use Rattle.std.proofs.lemmas.Bool.{and_parts}
use Rattle.std.proofs.lemmas.Cmp.{nat_list_cmp_total}
use Rattle.std.proofs.lemmas.List.Folds.{list_any-append}
use Rattle.std.proofs.lemmas.Map.Text.{is_eq-slice_cmp}
use Rattle.document_table.specs.Repeats.{repeat_after}
use Rattle.document_table.specs.inner.Climbs.{climb, climb_from}
use Rattle.document_table.proofs.Seen.{repeat-next}

abbrev IsBelow : List ℕ → List ℕ → Type 0
IsBelow one other = slice_cmp nat_cmp one other ≡ Less

less : (o : Ordering) → is_lt o ≡ true → o ≡ Less
less Less is = refl
less Equal is = absurd (true≢false (sym is))
less Greater is = absurd (true≢false (sym is))

differ : (one other : List ℕ) → IsBelow one other → bytes_eq other one ≡ false
differ one other below = nat_list_eq_equiv.symm other one ∙ sym (is_eq-slice_cmp one other) ∙ ap is_eq below

-- what is above this name is none of those before it
abbrev AreUnder : List ℕ → List (List ℕ) → Type 0
AreUnder last before = (name : List ℕ) → IsBelow last name → list_any (bytes_eq name) before ≡ false

neither : (a b : Bool) → a ≡ false → b ≡ false → (a || (b || false)) ≡ false
neither a b first second = ap (λ x. x || (b || false)) first ∙ ap (λ x. x || false) second

under_more : (last name : List ℕ) (before : List (List ℕ)) → AreUnder last before → IsBelow last name → AreUnder name (before ++ name ∷ [])
under_more last name before under above next higher =
    list_any-append (bytes_eq next) before (name ∷ [])
    ∙ neither (list_any (bytes_eq next) before) (bytes_eq next name) (under next (nat_list_cmp_total.trans last name next above higher)) (differ name next higher)

climbing : (last : List ℕ) (names before : List (List ℕ)) → climb_from last names ≡ true → AreUnder last before → repeat_after before names ≡ None
climbing last [] before climbs under = refl
climbing last (name ∷ names) before climbs under =
    let parts = and_parts (is_lt (slice_cmp nat_cmp last name)) (climb_from name names) climbs in
    let above = less (slice_cmp nat_cmp last name) parts.0 in
    repeat-next before names name (under name above) ∙ climbing name names (before ++ name ∷ []) parts.1 (under_more last name before under above)

pub no_repeat : (names : List (List ℕ)) → climb names ≡ true → repeat_after [] names ≡ None
no_repeat [] climbs = refl
no_repeat (name ∷ names) climbs =
    repeat-next [] names name refl ∙ climbing name names (name ∷ []) climbs (λ next higher. ap (λ x. x || false) (differ name next higher))
