-- The files of a row by name, as a listing, and what is looked up among them.
use Rattle.std.proofs.Common.{◌≡◌, ℕ, Bool, true, false, not, ◌||◌, ◌&&◌, ◌==◌, cond, [], ◌∷◌, Option, Some, None, is_some, option_map, codes, refl, sym, ap, subst, ◌∙◌, Ordering, Less, Equal, Greater}
use Rattle.std.specs.Prelude.{bytes_eq}
use Rattle.std.specs.List.{list_any}
use Rattle.std.specs.Option.{option_map_or}
use Rattle.std.specs.Map.{keys_of}
use Rattle.std.specs.Ordering.{match_ordering}
use Rattle.std.proofs.lemmas.Slice.Eq.{bytes_eq-Decides}
use Rattle.plain_data.specs.ByName.{IsByName, name_cmp, map_values, value_at, with_value}
use Rattle.plain_data.proofs.ByName.{IsBelow, by_name_first, by_name_rest}
use Rattle.plain_data.proofs.Lookup.{names_apart, value_at-map_values}
use Rattle.cwl_value.specs.declared.place.Place.{Place}
use Rattle.cwl_value.specs.declared.place.Place.TheVariants.{Nowhere, Url, Path, Made}
use Rattle.cwl_value.specs.declared.value.Value.{Value}
use Rattle.collected_outputs.specs.Checked.{is_found, is_named}
use Rattle.collected_outputs.specs.Laws.{is_entry, is_scanned}
use Rattle.collected_outputs.specs.Listing.{Listing, entry_of}
use Rattle.collected_outputs.specs.Matched.{Name}
use Rattle.collected_outputs.specs.Throughout.{all_pass}
use Rattle.collected_outputs.specs.Values.{checksum_of}
use Rattle.collected_outputs.specs.inner.Listings.{with_entry}
use Rattle.staging.specs.declared.found.Found.{Found}
use Rattle.job_reuse.specs.Sound.{is_file_there, is_dir_there, all_stand}
use Rattle.job_reuse.specs.inner.Index.{Index, listing_by, with_found}
use Rattle.job_reuse.specs.inner.Stands.{has_sum, file_at, folder_named, folder_at, file_test, dir_test, all_stand_by}
use Rattle.job_reuse.proofs.Entries.{Entry}

-- ---- as a listing

abbrev pub entry : Found → Entry
entry f = (entry_of f).1

put_along : (o : Ordering) (name : Name) (f : Found) (e : Name × Found) (es more : Index) (those : Listing) → map_values entry more ≡ those
    → map_values entry (match_ordering o ((name, f) ∷ e ∷ es) ((e.0, f) ∷ es) (e ∷ more)) ≡ match_ordering o ((name, entry f) ∷ (e.0, entry e.1) ∷ map_values entry es) ((e.0, entry f) ∷ map_values entry es) ((e.0, entry e.1) ∷ those)
put_along Less name f e es more those same = refl
put_along Equal name f e es more those same = refl
put_along Greater name f e es more those same = ap (λ l. (e.0, entry e.1) ∷ l) same

with_along : (name : Name) (f : Found) (es : Index) → map_values entry (with_value name f es) ≡ with_value name (entry f) (map_values entry es)
with_along name f [] = refl
with_along name f (e ∷ es) = put_along (name_cmp name e.0) name f e es (with_value name f es) (with_value name (entry f) (map_values entry es)) (with_along name f es)

still_some : (o : Option Found) → is_some (option_map entry o) ≡ is_some o
still_some None = refl
still_some (Some f) = refl

pub found_along : (f : Found) (index : Index) → listing_by (with_found f index) ≡ with_entry f (listing_by index)
found_along f index =
    by (is_some (value_at f.name index))
    ∙ ap (λ b. cond b (listing_by index) (with_value f.name (entry f) (listing_by index))) (sym (ap is_some (value_at-map_values entry f.name index) ∙ still_some (value_at f.name index))) where
      by : (b : Bool) → listing_by (cond b index (with_value f.name f index)) ≡ cond b (listing_by index) (with_value f.name (entry f) (listing_by index))
      by true = refl
      by false = with_along f.name f index

-- ---- looked up

other_below : (size : Option ℕ) (checksum : Option Name) (low : Name) (es : Index) → IsBelow low (keys_of es) → list_any (is_entry low size checksum) (listing_by es) ≡ false
other_below size checksum low [] below = refl
other_below size checksum low (e ∷ es) below =
    ap (λ b. (b && (not e.1.is_dir && (option_map_or (λ n. n == e.1.size) size false && option_map_or (bytes_eq (checksum_of e.1.sum)) checksum false))) || list_any (is_entry low size checksum) (listing_by es)) (names_apart low e.0 Less below.0 refl)
    ∙ other_below size checksum low es below.1

entry_found : (name : Name) (size : Option ℕ) (checksum : Option Name) (index : Index) → IsByName index → option_map_or (has_sum size checksum) (value_at name index) false ≡ list_any (is_entry name size checksum) (listing_by index)
entry_found name size checksum [] order = refl
entry_found name size checksum (e ∷ es) order = by (entry_found name size checksum es (by_name_rest e es order)) (bytes_eq name e.0) refl where
  here : Bool
  here = has_sum size checksum e.1

  or_none : (b : Bool) → b ≡ (b || false)
  or_none true = refl
  or_none false = refl

  by : option_map_or (has_sum size checksum) (value_at name es) false ≡ list_any (is_entry name size checksum) (listing_by es) → (b : Bool) → bytes_eq name e.0 ≡ b
      → option_map_or (has_sum size checksum) (cond b (Some e.1) (value_at name es)) false ≡ ((b && here) || list_any (is_entry name size checksum) (listing_by es))
  by rest true is =
      let below : IsBelow name (keys_of es) = subst (λ (n : Name). IsBelow n (keys_of es)) (sym ((bytes_eq-Decides name e.0).0 is)) (by_name_first e es order) in
      or_none here ∙ ap (λ b. here || b) (sym (other_below size checksum name es below))
  by rest false is = rest

folder_found : (name : Name) (index : Index) → folder_named index name ≡ is_named (listing_by index) name true
folder_found name index = by (bytes_eq name (codes ".")) where
  along : (o : Option Found) → option_map_or (λ (f : Found). f.is_dir) o false ≡ option_map_or (λ (e : Entry). e.is_dir) (option_map entry o) false
  along None = refl
  along (Some f) = refl

  by : (b : Bool) → cond b true (option_map_or (λ (f : Found). f.is_dir) (value_at name index) false) ≡ cond b true (option_map_or (λ (e : Entry). e.is_dir) (value_at name (listing_by index)) false)
  by true = refl
  by false = along (value_at name index) ∙ ap (λ o. option_map_or (λ (e : Entry). e.is_dir) o false) (sym (value_at-map_values entry name index))

module _ (index : Index) (order : IsByName index) where
  file_same : (size : Option ℕ) (checksum : Option Name) (p : Place) → file_at index size checksum p ≡ is_scanned (listing_by index) size checksum p
  file_same size checksum Nowhere = refl
  file_same size checksum (Url name) = entry_found name size checksum index order
  file_same size checksum (Path path) = refl
  file_same size checksum (Made job name) = refl

  folder_same : (p : Place) → folder_at index p ≡ is_found (listing_by index) p true
  folder_same Nowhere = refl
  folder_same (Url name) = folder_found name index
  folder_same (Path path) = refl
  folder_same (Made job name) = refl

  files_same : file_test index ≡ is_file_there (listing_by index)
  files_same = λ i f. is_some f.basename && file_same f.size f.checksum f.place i

  dirs_same : dir_test index ≡ is_dir_there (listing_by index)
  dirs_same = λ i d. is_some d.basename && folder_same d.place i

  -- what stands by the look-ups stands by the listing
  pub stands_same : (v : Value) → all_stand_by index v ≡ all_stand (listing_by index) v
  stands_same v = λ i. all_pass (files_same i) (dirs_same i) v
