-- A File of two members has its class and its place, and no other member.
use Rattle.std.proofs.Common.{◌≡◌, ℕ, Bool, true, false, ◌⊎◌, inl, inr, List, [], ◌∷◌, length, Option, Some, None, option_map, Ok, string_bytes, codes, bytes_eq, refl, sym, ◌∙◌, arith}
use Rattle.std.specs.Prelude.{unwrap_or, option_and_then}
use Rattle.std.proofs.lemmas.Bool.Decides.{not_from_Decides}
use Rattle.std.proofs.lemmas.Slice.Eq.{bytes_eq-Decides}
use Rattle.plain_data.specs.ByName.{value_at}
use Rattle.serde_json.specs.Data.{Data}
use Rattle.serde_json.specs.Find.{as_str, get_member}
use Rattle.serde_json.specs.View.{view, members_view}
use Rattle.serde_json.specs.declared.value.Value.{Value as Json}
use Rattle.serde_json.proofs.Views.{Entry, member_later, view-lookup}
use Rattle.cwl_value.specs.Reading.{class_in, field, file_form, file_read, members_read, place_read, value_read}
use Rattle.cwl_value.specs.declared.place.Place.{Place}
use Rattle.cwl_value.proofs.JsonReads.{value_at-view}

differ : (xs ys : List ℕ) → bytes_eq xs ys ≡ false → xs ≡ ys → ⊥
differ xs ys = not_from_Decides (bytes_eq xs ys) (bytes_eq-Decides xs ys)

some_or_none : (d : Data) (o : Option Data) → o ≡ Some d → o ≡ None → ⊥
some_or_none d o some none = cc

-- ---- two members

abbrev pub IsFound : List ℕ → List Entry → Type 0
IsFound name es = (d : Data) × (get_member name (members_view es) ≡ Some d)

key_at : (name : List ℕ) (a b : Entry) (p q : Bool) → bytes_eq name (string_bytes a.0) ≡ p → bytes_eq name (string_bytes b.0) ≡ q → IsFound name (a ∷ b ∷ []) → (name ≡ string_bytes a.0) ⊎ (name ≡ string_bytes b.0)
key_at name a b true q first second found = inl ((bytes_eq-Decides name (string_bytes a.0)).0 first)
key_at name a b false true first second found = inr ((bytes_eq-Decides name (string_bytes b.0)).0 second)
key_at name a b false false first second found =
    let none = member_later name a (b ∷ []) (differ name (string_bytes a.0) first) ∙ member_later name b [] (differ name (string_bytes b.0) second) in
    absurd (some_or_none found.0 _ found.1 none)

apart : (p q r : List ℕ) (a b : Entry) → bytes_eq p q ≡ false → bytes_eq r p ≡ false → bytes_eq r q ≡ false → (p ≡ string_bytes a.0) ⊎ (p ≡ string_bytes b.0) → (q ≡ string_bytes a.0) ⊎ (q ≡ string_bytes b.0)
    → (r ≡ string_bytes a.0 → ⊥) × (r ≡ string_bytes b.0 → ⊥)
apart p q r a b pq rp rq (inl x) (inl y) = absurd (differ p q pq (x ∙ sym y))
apart p q r a b pq rp rq (inr x) (inr y) = absurd (differ p q pq (x ∙ sym y))
apart p q r a b pq rp rq (inl x) (inr y) = (λ e. differ r p rp (e ∙ sym x), λ e. differ r q rq (e ∙ sym y))
apart p q r a b pq rp rq (inr x) (inl y) = (λ e. differ r q rq (e ∙ sym y), λ e. differ r p rp (e ∙ sym x))

-- where two names are found, there is no third
no_third : (p q r : List ℕ) (es : List Entry) → length es ≡ 2 → IsFound p es → IsFound q es → bytes_eq p q ≡ false → bytes_eq r p ≡ false → bytes_eq r q ≡ false → get_member r (members_view es) ≡ None
no_third p q r [] two first second pq rp rq = absurd (omega arith)
no_third p q r (a ∷ []) two first second pq rp rq = absurd (omega arith)
no_third p q r (a ∷ b ∷ []) two first second pq rp rq =
    let others = apart p q r a b pq rp rq (key_at p a b _ _ refl refl first) (key_at q a b _ _ refl refl second) in
    member_later r a (b ∷ []) others.0 ∙ member_later r b [] others.1
no_third p q r (a ∷ b ∷ c ∷ es) two first second pq rp rq = absurd (omega arith)

-- ---- the class and the place are found

class_found : (o : Option Data) → unwrap_or (option_and_then as_str o) [] ≡ codes "File" → (d : Data) × (o ≡ Some d)
class_found None is = absurd (differ [] (codes "File") refl is)
class_found (Some d) is = (d, refl)

place_found : (location path : Option Data) (place : Place) → place_read location path ≡ Ok place → ((d : Data) × (location ≡ Some d)) ⊎ ((d : Data) × (path ≡ Some d))
place_found (Some d) path place is = inl (d, refl)
place_found None (Some d) place is = inr (d, refl)
place_found None None place is = absurd cc

-- ---- the File

unread : (o : Option Json) → option_map view o ≡ None → option_map (λ json. value_read (view json)) o ≡ None
unread None is = refl
unread (Some json) is = absurd cc

no_value : (name : List ℕ) (es : List Entry) → get_member name (members_view es) ≡ None → value_at name (members_read (members_view es)) ≡ None
no_value name es none = value_at-view name es ∙ unread _ (view-lookup name es ∙ none)

module _ (es : List Entry) (two : length es ≡ 2) (class : IsFound (codes "class") es) (place : Place)
    (placed : place_read (field (codes "location") (members_view es)) (field (codes "path") (members_view es)) ≡ Ok place) where
  no_more : (q : List ℕ) → IsFound q es → bytes_eq (codes "class") q ≡ false → bytes_eq (codes "basename") q ≡ false → bytes_eq (codes "checksum") q ≡ false → bytes_eq (codes "size") q ≡ false → bytes_eq (codes "secondaryFiles") q ≡ false
      → file_read (members_view es) (members_read (members_view es)) ≡ file_form (place, None) (None, None) None
  no_more q found class_q basename_q checksum_q size_q secondary_q =
      let basename = no_third (codes "class") q (codes "basename") es two class found class_q refl basename_q in
      let checksum = no_third (codes "class") q (codes "checksum") es two class found class_q refl checksum_q in
      let size = no_third (codes "class") q (codes "size") es two class found class_q refl size_q in
      let secondary = no_value (codes "secondaryFiles") es (no_third (codes "class") q (codes "secondaryFiles") es two class found class_q refl secondary_q) in
      rw (placed, basename, checksum, size, secondary) refl

  by_place : ((d : Data) × (field (codes "location") (members_view es) ≡ Some d)) ⊎ ((d : Data) × (field (codes "path") (members_view es) ≡ Some d))
      → file_read (members_view es) (members_read (members_view es)) ≡ file_form (place, None) (None, None) None
  by_place (inl found) = no_more (codes "location") found refl refl refl refl refl
  by_place (inr found) = no_more (codes "path") found refl refl refl refl refl

pub bare_reads : (es : List Entry) (place : Place) → length es ≡ 2 → class_in (members_view es) ≡ codes "File" → place_read (field (codes "location") (members_view es)) (field (codes "path") (members_view es)) ≡ Ok place
    → file_read (members_view es) (members_read (members_view es)) ≡ file_form (place, None) (None, None) None
bare_reads es place two class placed = by_place es two (class_found _ class) place placed (place_found _ _ place placed)
