-- How deep a list of JSON nests, item by item.
use Rattle.std.proofs.Common.{◌≡◌, false, leb, ℕ, zero, suc, ◌+◌, ◌<◌, ◌≤◌, List, [], ◌∷◌, ◌++◌, length, get_or, take, sym, subst, arith}
use Rattle.std.proofs.lemmas.List as lists
use Rattle.std.proofs.lemmas.Bool.{leb-false, lt-leb}
use Rattle.serde_json.specs.Data.{depth, items_depth, members_depth}
use Rattle.serde_json.specs.View.{view, items_view, members_view}
use Rattle.serde_json.specs.declared.value.Value.{Value as Json}
use Rattle.cwl_value.proofs.JsonReads.{Entry}

pub items_push : (js : List Json) (json : Json) (n : ℕ) → items_depth (items_view js) ≤ n → depth (view json) ≤ n → items_depth (items_view (js ++ json ∷ [])) ≤ n
items_push [] json n before now = omega arith
items_push (j ∷ js) json n before now = omega (arith, items_push js json n (omega arith) now)

pub items_more : (js : List Json) (i : ℕ) (json : Json) (n : ℕ) → i < length js → json ≡ get_or js i json → items_depth (items_view (take i js)) ≤ n → depth (view json) ≤ n → items_depth (items_view (take (i + 1) js)) ≤ n
items_more js i json n within is before now =
    subst (λ xs. items_depth (items_view xs) ≤ n) (sym (lists.take_more js i json within)) (items_push (take i js) (get_or js i json) n before (subst (λ j. depth (view j) ≤ n) is now))

pub item_below : (js : List Json) (i : ℕ) (json : Json) → i < length js → depth (view (get_or js i json)) ≤ items_depth (items_view js)
item_below [] i json within = absurd (omega arith)
item_below (j ∷ js) zero json within = omega arith
item_below (j ∷ js) (suc i) json within = omega (arith, item_below js i json (omega arith))

pub members_push : (done : List Entry) (e : Entry) (n : ℕ) → members_depth (members_view done) ≤ n → depth (view e.1) ≤ n → members_depth (members_view (done ++ e ∷ [])) ≤ n
members_push [] e n before now = omega arith
members_push (d ∷ done) e n before now = omega (arith, members_push done e n (omega arith) now)

pub member_below : (done : List Entry) (e : Entry) (left : List Entry) → depth (view e.1) ≤ members_depth (members_view (done ++ e ∷ left))
member_below [] e left = omega arith
member_below (d ∷ done) e left = omega (arith, member_below done e left)

-- what a loop that stops at an item, or passes it, knows

pub item_over : (js : List Json) (i : ℕ) (json : Json) (n : ℕ) → i < length js → json ≡ get_or js i json → leb (depth (view json)) n ≡ false → false ≡ leb (items_depth (items_view js)) n
item_over js i json n within is over =
    let above : n < depth (view json) = leb-false (depth (view json)) n over in
    let below : depth (view json) ≤ items_depth (items_view js) = subst (λ j. depth (view j) ≤ items_depth (items_view js)) (sym is) (item_below js i json within) in
    sym (lt-leb (items_depth (items_view js)) n (omega arith))

pub member_over : (es done : List Entry) (e : Entry) (left : List Entry) (n : ℕ) → es ≡ done ++ e ∷ left → leb (depth (view e.1)) n ≡ false → false ≡ leb (members_depth (members_view es)) n
member_over es done e left n parts over =
    let above : n < depth (view e.1) = leb-false (depth (view e.1)) n over in
    let below : depth (view e.1) ≤ members_depth (members_view es) = subst (λ xs. depth (view e.1) ≤ members_depth (members_view xs)) (sym parts) (member_below done e left) in
    sym (lt-leb (members_depth (members_view es)) n (omega arith))
