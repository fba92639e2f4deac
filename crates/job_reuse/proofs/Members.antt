-- What is looked up among the members of JSON that is written of values.
use Rattle.std.proofs.Common.{◌≡◌, ℕ, Bool, true, false, true≢false, cond, List, [], ◌∷◌, Option, Some, None, option_map, bytes_eq, refl, sym, ap, subst, ◌∙◌, Ordering, Less, Equal, Greater}
use Rattle.std.specs.Ordering.{is_eq, match_ordering, nat_cmp}
use Rattle.std.specs.Cmp.Lexicographic.{slice_cmp, bytes_decides}
use Rattle.std.specs.List.{fold}
use Rattle.std.proofs.lemmas.Map.Text.{is_eq-slice_cmp}
use Rattle.plain_data.specs.ByName.{IsByName, value_at, map_values}
use Rattle.plain_data.proofs.ByName.{by_name_mapped, by_name_rest}
use Rattle.plain_data.proofs.Lookup.{value_at-map_values}
use Rattle.serde_json.specs.Data.{Data, Members, no_members, member, put}
use Rattle.serde_json.specs.Find.{get_member}
use Rattle.serde_json.proofs.Views.{get_member-put, get_member-put_other}
use Rattle.cwl_value.specs.Json.{json_of, fields_json, object_of, members_of, with_member}
use Rattle.cwl_value.specs.declared.value.Value.{Value}
use Rattle.cwl_value.proofs.Told.{object_of-in_turn}

-- what a look-up finds once a member, which may be absent, was put in
abbrev pub picked : Bool → Option Data → Option Data → Option Data
picked true (Some d) before = Some d
picked true None before = before
picked false o before = before

picked_none : (b : Bool) (before : Option Data) → before ≡ picked b None before
picked_none true before = refl
picked_none false before = refl

put_found : (q k : List ℕ) (d : Data) (ms : Members) (b : Bool) → bytes_eq q k ≡ b → get_member q (put k d ms) ≡ picked b (Some d) (get_member q ms)
put_found q k d ms true is = subst (λ n. get_member n (put k d ms) ≡ Some d) (sym ((bytes_decides q k).0 is)) (get_member-put k d ms)
put_found q k d ms false is = get_member-put_other q k d ms (λ same. true≢false (sym ((bytes_decides q k).1 same) ∙ is))

with_found : (q k : List ℕ) (o : Option Data) (ms : Members) → get_member q (with_member k o ms) ≡ picked (bytes_eq q k) o (get_member q ms)
with_found q k None ms = picked_none (bytes_eq q k) (get_member q ms)
with_found q k (Some d) ms = put_found q k d ms (bytes_eq q k) refl

-- what it finds after several
abbrev pub last_of : List ℕ → List (List ℕ × Option Data) → Option Data → Option Data
last_of q [] before = before
last_of q (e ∷ es) before = last_of q es (picked (bytes_eq q e.0) e.1 before)

all_found : (q : List ℕ) (es : List (List ℕ × Option Data)) (ms : Members) → get_member q (fold (λ members m. with_member m.0 m.1 members) ms es) ≡ last_of q es (get_member q ms)
all_found q [] ms = refl
all_found q (e ∷ es) ms = all_found q es (with_member e.0 e.1 ms) ∙ ap (last_of q es) (with_found q e.0 e.1 ms)

-- of a File or a Directory
pub member_found : (q : List ℕ) (es : List (List ℕ × Option Data)) → get_member q (members_of es) ≡ last_of q es None
member_found q es = all_found q es no_members

-- ---- of fields

find_or : (o : Ordering) (d : Data) (r s : Option Data) → s ≡ r → match_ordering o s (Some d) s ≡ cond (is_eq o) (Some d) r
find_or Less d r s same = same
find_or Equal d r s same = refl
find_or Greater d r s same = same

in_order : (q : List ℕ) (ms : List (List ℕ × Data)) → IsByName ms → get_member q (object_of ms) ≡ value_at q ms
in_order q [] order = refl
in_order q (m ∷ ms) order =
    ap (get_member q) (object_of-in_turn (m ∷ ms) order ∙ ap (member m.0 m.1) (sym (object_of-in_turn ms (by_name_rest m ms order))))
    ∙ find_or (slice_cmp nat_cmp q m.0) m.1 (value_at q ms) (get_member q (object_of ms)) (in_order q ms (by_name_rest m ms order))
    ∙ ap (λ b. cond b (Some m.1) (value_at q ms)) (is_eq-slice_cmp q m.0)

pub field_found : (q : List ℕ) (es : List (List ℕ × Value)) → IsByName es → get_member q (fields_json es) ≡ option_map json_of (value_at q es)
field_found q es order = in_order q (map_values json_of es) (by_name_mapped json_of es order) ∙ value_at-map_values json_of q es
