-- What serde_json's values read as, part by part.
use Rattle.std.proofs.Common.{◌≡◌, ◌≢◌, ℕ, ◌+◌, ◌<◌, List, [], ◌∷◌, ◌++◌, Option, Some, Ok, Err, IfOk, IfErr, String, Global, string_bytes, Bool, true, false, cond, is_eq, option_map, map, take, drop, drop-cons, suc, length, get_or, nat_cmp, string_cmp, Less, subst, refl, sym, ap, ◌∙◌}
use Rattle.std.specs.Cmp.Lexicographic.{slice_cmp}
use Rattle.std.specs.BTreeMap.{is_at}
use Rattle.std.specs.List.{AllByRecursion}
use Rattle.std.specs.List.Sorted.{IsStrictlySortedBy}
use Rattle.std.specs.Map.{lookup, keys_of}
use Rattle.std.proofs.lemmas.List as lists
use Rattle.std.proofs.lemmas.Map.Text.{is_eq-slice_cmp}
use Rattle.plain_data.specs.ByName.{value_at, name_cmp, IsByName}
use Rattle.serde_json.specs.View.{view, items_view, members_view}
use Rattle.serde_json.specs.declared.value.Value.{Value as Json}
use Rattle.cwl_value.specs.Reading.{Reads, and_map, all_read, value_read, items_read, members_read, fields_read}
use Rattle.cwl_value.specs.declared.refusal.ValueRefusal.{ValueRefusal}
use Rattle.cwl_value.specs.declared.refusal.ValueRefusal.TheVariants.{OutOfMemory}
use Rattle.cwl_value.specs.declared.value.Value.{Value}
use Rattle.cwl_value.proofs.AllRead.{all_read-push, all_read-stop}

abbrev pub Entry : Type 0
Entry = String Global × Json

abbrev pub entry_reads : Entry → List ℕ × Reads Value
entry_reads e = (string_bytes e.0, value_read (view e.1))

abbrev pub members_reads : List Entry → List (List ℕ × Reads Value)
members_reads = map entry_reads

pub members_read-view : (es : List Entry) → members_read (members_view es) ≡ members_reads es
members_read-view [] = refl
members_read-view (e ∷ es) = ap (λ rs. (string_bytes e.0, value_read (view e.1)) ∷ rs) (members_read-view es)

read_or : (b : Bool) (json : Json) (o : Option Json) (r : Option (Reads Value)) → r ≡ option_map (λ j. value_read (view j)) o → cond b (Some (value_read (view json))) r ≡ option_map (λ j. value_read (view j)) (cond b (Some json) o)
read_or true json o r same = refl
read_or false json o r same = same

-- a member that is found reads as itself
value_at-reads : (name : List ℕ) (es : List Entry) → value_at name (members_reads es) ≡ option_map (λ j. value_read (view j)) (lookup (is_at (λ k. slice_cmp nat_cmp name (string_bytes k))) es)
value_at-reads name [] = refl
value_at-reads name (e ∷ es) =
    ap (λ b. cond b (Some (value_read (view e.1))) (value_at name (members_reads es))) (sym (is_eq-slice_cmp name (string_bytes e.0)))
    ∙ read_or (is_eq (slice_cmp nat_cmp name (string_bytes e.0))) e.1 _ _ (value_at-reads name es)

pub value_at-view : (name : List ℕ) (es : List Entry) → value_at name (members_read (members_view es)) ≡ option_map (λ j. value_read (view j)) (lookup (is_at (λ k. slice_cmp nat_cmp name (string_bytes k))) es)
value_at-view name es = ap (value_at name) (members_read-view es) ∙ value_at-reads name es

-- loops over items, by an index

abbrev pub items_reads : List Json → List (Reads Value)
items_reads = map (λ json. value_read (view json))

pub items_read-view : (js : List Json) → items_read (items_view js) ≡ items_reads js
items_read-view [] = refl
items_read-view (j ∷ js) = ap (λ rs. value_read (view j) ∷ rs) (items_read-view js)

pub items_more : (js : List Json) (i : ℕ) (json : Json) (vs : List Value) (v : Value) → i < length js → json ≡ get_or js i json → all_read (items_read (items_view (take i js))) ≡ Ok vs → value_read (view json) ≡ Ok v
    → all_read (items_read (items_view (take (i + 1) js))) ≡ Ok (vs ++ v ∷ [])
items_more js i json vs v within is before now =
    ap all_read (items_read-view (take (i + 1) js) ∙ lists.map_more (λ j. value_read (view j)) js i json within)
    ∙ all_read-push (items_reads (take i js)) (value_read (view (get_or js i json))) vs v (ap all_read (sym (items_read-view (take i js))) ∙ before) (ap (λ j. value_read (view j)) (sym is) ∙ now)

pub items_stop : (js : List Json) (i : ℕ) (json : Json) (vs : List Value) (e : ValueRefusal) → i < length js → json ≡ get_or js i json → all_read (items_read (items_view (take i js))) ≡ Ok vs → value_read (view json) ≡ Err e
    → all_read (items_read (items_view js)) ≡ Err e
items_stop js i json vs e within is before now =
    let parts : js ≡ take i js ++ get_or js i json ∷ drop (suc i) js = sym (lists.take-append-drop i js) ∙ ap (λ rest. take i js ++ rest) (drop-cons js i json within) in
    ap all_read (items_read-view js) ∙ ap (λ xs. all_read (items_reads xs)) parts ∙ ap all_read (lists.map-append (λ j. value_read (view j)) (take i js) (get_or js i json ∷ drop (suc i) js))
    ∙ all_read-stop (items_reads (take i js)) (value_read (view (get_or js i json))) (items_reads (drop (suc i) js)) vs e (ap all_read (sym (items_read-view (take i js))) ∙ before) (ap (λ j. value_read (view j)) (sym is) ∙ now)

-- loops over members, by what is done and what is left

abbrev named : List ℕ × Reads Value → Reads (List ℕ × Value)
named r = and_map (λ v. (r.0, v)) r.1

fields_parts : (done : List Entry) (e : Entry) (left : List Entry) → fields_read (members_reads (done ++ e ∷ left)) ≡ all_read (map named (members_reads done) ++ named (entry_reads e) ∷ map named (members_reads left))
fields_parts done e left = ap (λ rs. all_read (map named rs)) (lists.map-append entry_reads done (e ∷ left)) ∙ ap all_read (lists.map-append named (members_reads done) (members_reads (e ∷ left)))

fields_more : (done : List Entry) (e : Entry) (found : List (List ℕ × Value)) (v : Value) → fields_read (members_reads done) ≡ Ok found → value_read (view e.1) ≡ Ok v
    → fields_read (members_reads (done ++ e ∷ [])) ≡ Ok (found ++ (string_bytes e.0, v) ∷ [])
fields_more done e found v before now =
    fields_parts done e [] ∙ all_read-push (map named (members_reads done)) (named (entry_reads e)) found (string_bytes e.0, v) before (ap (and_map (λ v. (string_bytes e.0, v))) now)

fields_stop : (done : List Entry) (e : Entry) (left : List Entry) (found : List (List ℕ × Value)) (why : ValueRefusal) → fields_read (members_reads done) ≡ Ok found → value_read (view e.1) ≡ Err why
    → fields_read (members_reads (done ++ e ∷ left)) ≡ Err why
fields_stop done e left found why before now =
    fields_parts done e left ∙ all_read-stop (map named (members_reads done)) (named (entry_reads e)) (map named (members_reads left)) found why before (ap (and_map (λ v. (string_bytes e.0, v))) now)

-- what is found has the members' names

names_after : (k : List ℕ) (v : Value) (rs : List (List ℕ × Reads Value)) (q : Reads (List (List ℕ × Value))) (found : List (List ℕ × Value))
    → ((ys : List (List ℕ × Value)) → q ≡ Ok ys → keys_of ys ≡ keys_of rs) → and_map (λ xs. (k, v) ∷ xs) q ≡ Ok found → keys_of found ≡ k ∷ keys_of rs
names_after k v rs (Ok ys) found same is = let e : found ≡ (k, v) ∷ ys = cc in ap keys_of e ∙ ap (λ names. k ∷ names) (same ys refl)
names_after k v rs (Err why) found same is = cc

keys_of-read : (rs : List (List ℕ × Reads Value)) (found : List (List ℕ × Value)) → fields_read rs ≡ Ok found → keys_of found ≡ keys_of rs
keys_of-read [] found is = let e : found ≡ [] = cc in ap keys_of e
keys_of-read ((k, Ok v) ∷ rs) found is = names_after k v rs (fields_read rs) found (λ ys. keys_of-read rs ys) is
keys_of-read ((k, Err why) ∷ rs) found is = cc

below-reads : (k : String Global) (es : List Entry) → AllByRecursion (λ y. string_cmp k y ≡ Less) (keys_of es) → AllByRecursion (λ y. name_cmp (string_bytes k) y ≡ Less) (keys_of (members_reads es))
below-reads k [] h = tt
below-reads k (e ∷ es) h = (h.0, below-reads k es h.1)

by_name-reads : (es : List Entry) → IsStrictlySortedBy string_cmp (keys_of es) → IsStrictlySortedBy name_cmp (keys_of (members_reads es))
unfolding IsStrictlySortedBy
by_name-reads [] h = tt
by_name-reads (e ∷ es) h = (below-reads e.0 es h.0, by_name-reads es h.1)

front-below : (k : String Global) (done left : List Entry) → AllByRecursion (λ y. string_cmp k y ≡ Less) (keys_of (done ++ left)) → AllByRecursion (λ y. string_cmp k y ≡ Less) (keys_of done)
front-below k [] left h = tt
front-below k (e ∷ done) left h = (h.0, front-below k done left h.1)

front-sorted : (done left : List Entry) → IsStrictlySortedBy string_cmp (keys_of (done ++ left)) → IsStrictlySortedBy string_cmp (keys_of done)
unfolding IsStrictlySortedBy
front-sorted [] left h = tt
front-sorted (e ∷ done) left h = (front-below e.0 done left h.0, front-sorted done left h.1)

-- the same over the members as serde_json's data

abbrev pub fields_of : List Entry → Reads (List (List ℕ × Value))
fields_of es = fields_read (members_read (members_view es))

of_reads : (es : List Entry) → fields_of es ≡ fields_read (members_reads es)
of_reads es = ap fields_read (members_read-view es)

pub members_more : (done : List Entry) (e : Entry) (found : List (List ℕ × Value)) (v : Value) → fields_of done ≡ Ok found → value_read (view e.1) ≡ Ok v → fields_of (done ++ e ∷ []) ≡ Ok (found ++ (string_bytes e.0, v) ∷ [])
members_more done e found v before now = of_reads (done ++ e ∷ []) ∙ fields_more done e found v (sym (of_reads done) ∙ before) now

pub members_stop : (done : List Entry) (e : Entry) (left : List Entry) (found : List (List ℕ × Value)) (why : ValueRefusal) → fields_of done ≡ Ok found → value_read (view e.1) ≡ Err why → fields_of (done ++ e ∷ left) ≡ Err why
members_stop done e left found why before now = of_reads (done ++ e ∷ left) ∙ fields_stop done e left found why (sym (of_reads done) ∙ before) now

-- what is found is in order
pub members_by_name : (done left : List Entry) (found : List (List ℕ × Value)) → IsStrictlySortedBy string_cmp (keys_of (done ++ left)) → fields_of done ≡ Ok found → IsByName found
members_by_name done left found order is =
    subst (IsStrictlySortedBy name_cmp) (sym (keys_of-read (members_reads done) found (sym (of_reads done) ∙ is))) (by_name-reads done (front-sorted done left order))

-- a clause on a result that is known whole

pub ok_of : {T : Type 0} (x r : Reads T) → x ≡ r → IfOk r (λ v. x ≡ Ok v)
ok_of x (Ok v) is = is
ok_of x (Err e) is = tt

pub err_of : {T : Type 0} (x r : Reads T) → x ≡ r → IfErr r (λ e. e ≢ OutOfMemory → x ≡ Err e)
err_of x (Ok v) is = tt
err_of x (Err e) is = λ _. is
