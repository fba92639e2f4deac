-- A listing by the folders that its entries stand in.
use Rattle.std.proofs.Common.{◌≡◌, ℕ, zero, suc, ◌+◌, ◌-◌, ◌<◌, Bool, true, false, cond, List, [], ◌∷◌, ◌++◌, length, get_or, map, take, append-nil, refl, sym, ap, ◌∙◌, Bor, arith}
use Rattle.std.specs.Prelude.{filter, bytes_eq}
use Rattle.std.specs.List.{before_last}
use Rattle.std.proofs.lemmas.List.{map-append}
use Rattle.std.proofs.lemmas.Simd.{map-map}
use Rattle.std.proofs.lemmas.List.Elements.{filter_more}
use Rattle.file_values.specs.Names.{is_slash}
use Rattle.staging.specs.declared.found.Found.{Found}
use Rattle.input_files.specs.Given.{Name}
use Rattle.input_files.specs.Listing.{stands_in, found_value, values_in}

-- the entries of a folder, where one more entry is put under the folder in which it stands
pub one_more : (listing : List Found) (i : ℕ) (folder text : Name) (found : Bor Found) (old new : List (Bor Found)) → i < length listing → found.now ≡ get_or listing i found.now → text ≡ before_last is_slash found.now.name
    → map (λ f. f.now) old ≡ filter (stands_in folder) (take i listing) → new ≡ cond (bytes_eq text folder) (old ++ found ∷ []) old → map (λ f. f.now) new ≡ filter (stands_in folder) (take (i + 1) listing)
one_more listing i folder text found old new within item is so_far grown =
    ap (map (λ (f : Bor Found). f.now)) grown
    ∙ by (bytes_eq text folder)
    ∙ ap (λ (b : Bool). before ++ cond b (next ∷ []) []) (ap (λ (t : Name). bytes_eq t folder) is ∙ ap (stands_in folder) item)
    ∙ sym (filter_more (stands_in folder) listing i found.now within) where
      before : List Found
      before = filter (stands_in folder) (take i listing)

      next : Found
      next = get_or listing i found.now

      by : (b : Bool) → map (λ (f : Bor Found). f.now) (cond b (old ++ found ∷ []) old) ≡ before ++ cond b (next ∷ []) []
      by true = map-append (λ (f : Bor Found). f.now) old (found ∷ []) ∙ ap (λ (l : List Found). l ++ found.now ∷ []) so_far ∙ ap (λ (x : Found). before ++ x ∷ []) item
      by false = so_far ∙ sym (append-nil before)

-- the values of a folder's entries
pub all_listed : (root : Name) (listing : List Found) (depth : ℕ) (folder : Name) (held : List (Bor Found)) → (depth ≡ 0 → ⊥) → map (λ f. f.now) held ≡ filter (stands_in folder) listing
    → map (λ f. found_value root (values_in root listing (depth - 1)) f.now) held ≡ values_in root listing depth folder
all_listed root listing zero folder held some all = absurd (some refl)
all_listed root listing (suc d) folder held some all =
    let less : suc d - 1 ≡ d = omega arith in
    rw less (sym (map-map (found_value root (values_in root listing d)) (λ (f : Bor Found). f.now) held) ∙ ap (map (found_value root (values_in root listing d))) all)
