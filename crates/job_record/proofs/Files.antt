-- Files that are read one after another.
use Rattle.std.proofs.Common.{◌≡◌, ℕ, ◌+◌, ◌<◌, suc, false, List, [], ◌∷◌, ◌++◌, Option, Some, None, option_map, option_and_then, map, take, drop, drop-cons, length, get_or, refl, sym, ap, ◌∙◌}
use Rattle.std.proofs.lemmas.List as lists
use Rattle.serde_json.specs.Data.{Data}
use Rattle.serde_json.specs.View.{view, items_view, items_of}
use Rattle.serde_json.specs.declared.value.Value.{Value as Json}
use Rattle.staging.specs.declared.found.Found.{Found}
use Rattle.serde_json.specs.Written.{has_float, items_have_float}
use Rattle.job_record.specs.Texts.{found_in, list_in, found_json, files_json}

joined : Option (List Found) → Option (List Found) → Option (List Found)
joined (Some fs) (Some gs) = Some (fs ++ gs)
joined (Some fs) None = None
joined None o = None

alone : (o : Option (List Found)) → o ≡ joined (Some []) o
unfolding joined
alone (Some gs) = refl
alone None = refl

joins : (r : Option Found) (a b : Option (List Found)) → option_and_then (λ f. option_map (λ fs. f ∷ fs) (joined a b)) r ≡ joined (option_and_then (λ f. option_map (λ fs. f ∷ fs) a) r) b
unfolding joined
joins None a b = refl
joins (Some f) None b = refl
joins (Some f) (Some fs) None = refl
joins (Some f) (Some fs) (Some gs) = refl

list_in-append : (ds es : List Data) → list_in (items_of (ds ++ es)) ≡ joined (list_in (items_of ds)) (list_in (items_of es))
list_in-append [] es = alone (list_in (items_of es))
list_in-append (d ∷ ds) es =
    ap (λ o. option_and_then (λ f. option_map (λ fs. f ∷ fs) o) (found_in d)) (list_in-append ds es) ∙ joins (found_in d) (list_in (items_of ds)) (list_in (items_of es))

more : (ds : List Data) (d : Data) (fs : List Found) (f : Found) → list_in (items_of ds) ≡ Some fs → found_in d ≡ Some f → list_in (items_of (ds ++ d ∷ [])) ≡ Some (fs ++ f ∷ [])
unfolding joined
more ds d fs f before now = list_in-append ds (d ∷ []) ∙ rw (before, now) refl

stop : (ds : List Data) (d : Data) (es : List Data) (fs : List Found) → list_in (items_of ds) ≡ Some fs → found_in d ≡ None → list_in (items_of (ds ++ d ∷ es)) ≡ None
unfolding joined
stop ds d es fs before now = list_in-append ds (d ∷ es) ∙ rw (before, now) refl

pub files_more : (js : List Json) (i : ℕ) (json : Json) (fs : List Found) (f : Found) → i < length js → json ≡ get_or js i json → list_in (items_view (take i js)) ≡ Some fs → found_in (view json) ≡ Some f
    → list_in (items_view (take (i + 1) js)) ≡ Some (fs ++ f ∷ [])
files_more js i json fs f within is before now =
    ap (λ ds. list_in (items_of ds)) (lists.map_more view js i json within)
    ∙ more (map view (take i js)) (view (get_or js i json)) fs f before (ap (λ j. found_in (view j)) (sym is) ∙ now)

pub files_stop : (js : List Json) (i : ℕ) (json : Json) (fs : List Found) → i < length js → json ≡ get_or js i json → list_in (items_view (take i js)) ≡ Some fs → found_in (view json) ≡ None
    → list_in (items_view js) ≡ None
files_stop js i json fs within is before now =
    let parts : js ≡ take i js ++ get_or js i json ∷ drop (suc i) js = sym (lists.take-append-drop i js) ∙ ap (λ rest. take i js ++ rest) (drop-cons js i json within) in
    ap (λ xs. list_in (items_view xs)) parts ∙ ap (λ ds. list_in (items_of ds)) (lists.map-append view (take i js) (get_or js i json ∷ drop (suc i) js))
    ∙ stop (map view (take i js)) (view (get_or js i json)) (map view (drop (suc i) js)) fs before (ap (λ j. found_in (view j)) (sym is) ∙ now)

floats : (fs : List Found) → items_have_float (items_of (map found_json fs)) ≡ false
floats [] = refl
floats (f ∷ fs) = floats fs

-- the JSON of files has no float, so its text is determined
pub exact : (fs : List Found) → has_float (files_json fs) ≡ false
exact fs = floats fs
