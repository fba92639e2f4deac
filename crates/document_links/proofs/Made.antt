-- What was made of documents so far: each beside what it reads as.
use Rattle.std.proofs.Common.{◌≡◌, ℕ, List, [], ◌∷◌, ◌++◌, Bool, true, false, Option, Some, None, append-nil, append_assoc, refl, sym, ap, subst, ◌∙◌, bytes_eq, cond, MatchOption}
use Rattle.std.specs.Prelude.{option_map, ⊤}
use Rattle.std.specs.Map.{keys_of}
use Rattle.std.proofs.lemmas.Option.{none-some, same_Some}
use Rattle.std.specs.List.Sorted.{IsStrictlySortedBy}
use Rattle.plain_data.specs.ByName.{IsByName, name_cmp, value_at}
use Rattle.document_links.specs.Library.{Documents, Found, IsReadAs, Readings, finds_among, seen}
use Rattle.document_links.specs.Targets.{leads_in, target}
use Rattle.document_links.specs.declared.library.Library.TheVariants.{Read}
use Rattle.document_links.specs.declared.library.Reading.{Reading}
use Rattle.document_links.specs.inner.Sound.{AllSound, IsSoundReading}

abbrev pub IsMade : List ℕ × List ℕ → List ℕ × Reading → Type 0
IsMade e m = (m.0 ≡ e.0) × IsReadAs e.1 (seen m.1) × IsSoundReading m.1

abbrev pub AreMade : Documents → Readings → Type 0
AreMade [] [] = ⊤
AreMade [] (m ∷ ms) = ⊥
AreMade (e ∷ es) [] = ⊥
AreMade (e ∷ es) (m ∷ ms) = IsMade e m × AreMade es ms

-- one more
pub made_more : (es : Documents) (ms : Readings) (e : List ℕ × List ℕ) (m : List ℕ × Reading) → AreMade es ms → IsMade e m → AreMade (es ++ e ∷ []) (ms ++ m ∷ [])
made_more [] [] e m all one = (one, tt)
made_more [] (x ∷ ms) e m all one = absurd all
made_more (x ∷ es) [] e m all one = absurd all
made_more (x ∷ es) (y ∷ ms) e m all one = (all.0, made_more es ms e m all.1 one)

pub whole_more : (all yielded rest left : Documents) (e : List ℕ × List ℕ) → all ≡ yielded ++ rest → rest ≡ e ∷ left → all ≡ (yielded ++ e ∷ []) ++ left
whole_more all yielded rest left e whole is = whole ∙ ap (λ more. yielded ++ more) is ∙ sym (append_assoc yielded (e ∷ []) left)

-- all of them, once none is left
pub all_held : (all yielded rest held : Documents) → all ≡ yielded ++ rest → rest ≡ [] → held ≡ yielded → held ≡ all
all_held all yielded rest held whole over kept = kept ∙ sym (whole ∙ ap (λ more. yielded ++ more) over ∙ append-nil yielded)

pub all_made : (all yielded rest : Documents) (ms : Readings) → all ≡ yielded ++ rest → rest ≡ [] → AreMade yielded ms → AreMade all ms
all_made all yielded rest ms whole over made = subst (λ es. AreMade es ms) (all_held all yielded rest yielded whole over refl) made

same_names : (es : Documents) (ms : Readings) → AreMade es ms → keys_of es ≡ keys_of ms
same_names [] [] all = refl
same_names [] (m ∷ ms) all = absurd all
same_names (e ∷ es) [] all = absurd all
same_names (e ∷ es) (m ∷ ms) all = ap (λ name. name ∷ keys_of es) (sym all.0.0) ∙ ap (λ names. m.0 ∷ names) (same_names es ms all.1)

pub by_name : (es : Documents) (ms : Readings) → AreMade es ms → IsByName es → IsByName ms
by_name es ms all sorted = subst (λ names. IsStrictlySortedBy name_cmp names) (same_names es ms all) sorted

abbrev Finds_one : Option (List ℕ) → Option Found → Type 0
Finds_one o f = MatchOption o (f ≡ None) (λ bytes. (found : Found) × (f ≡ Some found) × IsReadAs bytes found)

one_found : (e : List ℕ × List ℕ) (m : List ℕ × Reading) (o : Option (List ℕ)) (r : Option Reading) (test : Bool) → IsMade e m → Finds_one o (option_map seen r)
    → Finds_one (cond test (Some e.1) o) (option_map seen (cond test (Some m.1) r))
one_found e m o r true made later = (seen m.1, refl, made.1)
one_found e m o r false made later = later

pub found_in : (es : Documents) (ms : Readings) → AreMade es ms → (url : List ℕ) → Finds_one (value_at url es) (finds_among ms url)
found_in [] [] all url = refl
found_in [] (m ∷ ms) all url = absurd all
found_in (e ∷ es) [] all url = absurd all
found_in (e ∷ es) (m ∷ ms) all url =
    subst (λ name. Finds_one (cond (bytes_eq url e.0) (Some e.1) (value_at url es)) (option_map seen (cond (bytes_eq url name) (Some m.1) (value_at url ms)))) (sym all.0.0)
    (one_found e m (value_at url es) (value_at url ms) (bytes_eq url e.0) all.0 (found_in es ms all.1 url))

one_sound : (m : List ℕ × Reading) (r : Option Reading) (test : Bool) (reading : Reading) → IsSoundReading m.1 → (r ≡ Some reading → IsSoundReading reading)
    → cond test (Some m.1) r ≡ Some reading → IsSoundReading reading
one_sound m r true reading own later is = subst IsSoundReading (same_Some m.1 reading is) own
one_sound m r false reading own later is = later is

pub all_sound : (es : Documents) (ms : Readings) → AreMade es ms → AllSound ms
all_sound [] [] all url reading is = absurd (none-some reading is)
all_sound [] (m ∷ ms) all url reading is = absurd all
all_sound (e ∷ es) [] all url reading is = absurd all
all_sound (e ∷ es) (m ∷ ms) all url reading is = one_sound m (value_at url ms) (bytes_eq url m.0) reading all.0.2 (all_sound es ms all.1 url reading) is

-- A name leads to what is found.
pub read_leads : (readings : Readings) → leads_in (Read readings) ≡ target (finds_among readings)
unfolding leads_in target
read_leads readings = refl
