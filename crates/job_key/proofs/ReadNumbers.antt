-- Each number of JSON that was read is a whole one of 64 bits or a float, and what is kept of it has no other numbers.
use Rattle.std.proofs.Common.{◌≡◌, ℕ, suc, zero, ◌^◌, ◌<◌, ◌≤◌, Bool, true, false, true≢false, ◌||◌, ◌&&◌, List, Option, Some, None, Ordering, Less, Equal, Greater, refl, sym, subst, arith}
use Rattle.std.specs.Prelude.{drop, slice_index, ◌==◌, option_map, option_and_then, if◌then◌else◌, ⊤}
use Rattle.std.specs.Option.{IfSome}
use Rattle.std.specs.Ordering.{match_ordering, nat_cmp}
use Rattle.std.specs.Cmp.Lexicographic.{slice_cmp}
use Rattle.std.proofs.lemmas.Bool.{leb-true, ltb-true}
use Rattle.fast_float.specs.Text.{Parts, digits_of, minus, scan, with_sign}
use Rattle.json.specs.Json as json
use Rattle.json.specs.Lex.{tokens}
use Rattle.serde_json.specs.Data.{Num, unsigned, negative, float, Data, null, boolean, number, string, array, object, Items, no_items, item, Members, no_members, member, put}
use Rattle.serde_json.specs.Find.{get, get_item, get_member, at}
use Rattle.serde_json.specs.Read.{float_of, is_integer, max_depth, number_from, number_of, of_items, of_json, of_members, read}
use Rattle.serde_json.specs.Written.{has_float, items_have_float, members_have_float}
use Rattle.cwl_value.specs.Canonical.{IsWhole, HasWholeNumbers, ItemsHaveWholeNumbers, MembersHaveWholeNumbers}
use Rattle.document_table.specs.Kept.{each_form, kept, kept_form, kept_items, kept_members, put_kept}
use Rattle.document_table.specs.Layouts.{layout_of, member_form}
use Rattle.document_table.specs.declared.form.Form.{Form}
use Rattle.document_table.specs.declared.layout.Layout.{Layout}
use Rattle.job_key.specs.Read.{IsIn}

-- a whole number of 64 bits, or a float
abbrev IsNumber : Num → Type 0
IsNumber (unsigned n) = IsWhole (unsigned n)
IsNumber (negative z) = IsWhole (negative z)
IsNumber (float x) = ⊤

abbrev mutual
  pub HasNumbers : Data → Type 0
  HasNumbers null = ⊤
  HasNumbers (boolean b) = ⊤
  HasNumbers (number n) = IsNumber n
  HasNumbers (string s) = ⊤
  HasNumbers (array ds) = ItemsHaveNumbers ds
  HasNumbers (object ms) = MembersHaveNumbers ms

  pub ItemsHaveNumbers : Items → Type 0
  ItemsHaveNumbers no_items = ⊤
  ItemsHaveNumbers (item d ds) = HasNumbers d × ItemsHaveNumbers ds

  pub MembersHaveNumbers : Members → Type 0
  MembersHaveNumbers no_members = ⊤
  MembersHaveNumbers (member k d ms) = HasNumbers d × MembersHaveNumbers ms

-- ---- what is said of an optional value

module _ {A B : Type 0} (P : A → Type 0) (Q : B → Type 0) where
  mapped : (f : A → B) (o : Option A) → ((x : A) → P x → Q (f x)) → IfSome o P → IfSome (option_map f o) Q
  mapped f None step h = tt
  mapped f (Some x) step h = step x h

  bound : (f : A → Option B) (o : Option A) → ((x : A) → P x → IfSome (f x) Q) → IfSome o P → IfSome (option_and_then f o) Q
  bound f None step h = tt
  bound f (Some x) step h = step x h

there : {A : Type 0} (P : A → Type 0) (x : A) (o : Option A) → o ≡ Some x → IfSome o P → P x
there P x o is h = subst (λ o. IfSome o P) is h

any : {A : Type 0} (o : Option A) → IfSome o (λ x. ⊤)
any None = tt
any (Some x) = tt

-- ---- a number that is read

by_test : (test : Bool) (a b : Option Num) → (test ≡ true → IfSome a IsNumber) → IfSome b IsNumber → IfSome (if test then a else b) IsNumber
by_test true a b h other = h refl
by_test false a b h other = other

float_fits : (sign : Bool) (p : Parts) → IfSome (float_of sign p) IsNumber
float_fits sign p = by_test _ (Some (float _)) None (λ _. tt) tt

last_true : (a b : Bool) → (a && b) ≡ true → b ≡ true
last_true true b is = is
last_true false b is = absurd (true≢false (sym is))

first_true : (a b : Bool) → (a && b) ≡ true → a ≡ true
first_true true b is = refl
first_true false b is = is

negative_fits : (n : ℕ) → 0 < n → n ≤ 2 ^ 63 → IsNumber (negative (with_sign true n))
negative_fits zero some most = absurd (omega (arith, some))
negative_fits (suc n) some most = omega (arith, most)

from_fits : (sign : Bool) (p : Parts) → IfSome (number_from sign p) IsNumber
from_fits false p =
    by_test _ (Some (unsigned (digits_of p))) (float_of false p) (λ is. ltb-true _ _ (last_true (is_integer p) _ is)) (float_fits false p)
from_fits true p =
    by_test _ (Some (negative (with_sign true (digits_of p)))) (float_of true p)
    (λ is. negative_fits (digits_of p) (ltb-true _ _ (last_true (is_integer p) _ (first_true _ _ is))) (leb-true _ _ (last_true _ _ is))) (float_fits true p)

signed : (test : Bool) (p q : Parts) → IfSome (if test then number_from true p else number_from false q) IsNumber
signed true p q = from_fits true p
signed false p q = from_fits false q

number_fits : (s : List ℕ) → IfSome (number_of s) IsNumber
unfolding number_of
number_fits s = signed (slice_index s 0 == minus) (scan (drop 1 s)) (scan s)

-- ---- JSON that is read

chosen : (o : Ordering) (a b c : Members) → MembersHaveNumbers a → MembersHaveNumbers b → MembersHaveNumbers c → MembersHaveNumbers (match_ordering o a b c)
chosen Less a b c p q r = p
chosen Equal a b c p q r = q
chosen Greater a b c p q r = r

put_fits : (k : List ℕ) (d : Data) (ms : Members) → HasNumbers d → MembersHaveNumbers ms → MembersHaveNumbers (put k d ms)
put_fits k d no_members p q = (p, tt)
put_fits k d (member l e ms) p q =
    chosen (slice_cmp nat_cmp k l) (member k d (member l e ms)) (member l d ms) (member l e (put k d ms)) (p, q) (p, q.1) (q.0, put_fits k d ms p q.1)

mutual
  json_fits : (j : json.Json) → IfSome (of_json j) HasNumbers
  json_fits json.null = tt
  json_fits (json.boolean b) = tt
  json_fits (json.number s) = mapped IsNumber HasNumbers number (number_of s) (λ n h. h) (number_fits s)
  json_fits (json.string s) = tt
  json_fits (json.array js) = mapped ItemsHaveNumbers HasNumbers array (of_items js) (λ ds h. h) (items_fit js)
  json_fits (json.object ms) = mapped MembersHaveNumbers HasNumbers object (of_members ms no_members) (λ ms h. h) (members_fit ms no_members tt)

  items_fit : (js : json.Items) → IfSome (of_items js) ItemsHaveNumbers
  items_fit json.no_items = tt
  items_fit (json.item j js) =
      bound HasNumbers ItemsHaveNumbers (λ d. option_map (item d) (of_items js)) (of_json j)
      (λ d h. mapped ItemsHaveNumbers ItemsHaveNumbers (item d) (of_items js) (λ ds hs. (h, hs)) (items_fit js)) (json_fits j)

  members_fit : (ms : json.Members) (found : Members) → MembersHaveNumbers found → IfSome (of_members ms found) MembersHaveNumbers
  members_fit json.no_members found hs = hs
  members_fit (json.member k j ms) found hs =
      bound HasNumbers MembersHaveNumbers (λ d. of_members ms (put k d found)) (of_json j) (λ d h. members_fit ms (put k d found) (put_fits k d found h hs)) (json_fits j)

pub read_fits : (bytes : List ℕ) (d : Data) → read bytes ≡ Some d → HasNumbers d
read_fits bytes d is =
    let value = option_and_then (λ p. json.if_last p.0 p.1) (json.value max_depth (tokens bytes)) in
    there HasNumbers d (read bytes) is (bound (λ j. ⊤) HasNumbers of_json value (λ j h. json_fits j) (any value))

-- ---- what is in it, and what is kept

item_fits : (ds : Items) (i : ℕ) → ItemsHaveNumbers ds → IfSome (get_item i ds) HasNumbers
item_fits no_items i hs = tt
item_fits (item d ds) zero hs = hs.0
item_fits (item d ds) (suc i) hs = item_fits ds i hs.1

found_or : (o : Ordering) (a b c : Option Data) → IfSome a HasNumbers → IfSome b HasNumbers → IfSome c HasNumbers → IfSome (match_ordering o a b c) HasNumbers
found_or Less a b c p q r = p
found_or Equal a b c p q r = q
found_or Greater a b c p q r = r

member_fits : (name : List ℕ) (ms : Members) → MembersHaveNumbers ms → IfSome (get_member name ms) HasNumbers
member_fits name no_members hs = tt
member_fits name (member l d ms) hs =
    found_or (slice_cmp nat_cmp name l) (get_member name ms) (Some d) (get_member name ms) (member_fits name ms hs.1) hs.0 (member_fits name ms hs.1)

at_fits : (i : ℕ) (d : Data) → HasNumbers d → IfSome (at i d) HasNumbers
at_fits i null h = tt
at_fits i (boolean b) h = tt
at_fits i (number n) h = tt
at_fits i (string s) h = tt
at_fits i (array ds) h = item_fits ds i h
at_fits i (object ms) h = tt

get_fits : (name : List ℕ) (d : Data) → HasNumbers d → IfSome (get name d) HasNumbers
get_fits name null h = tt
get_fits name (boolean b) h = tt
get_fits name (number n) h = tt
get_fits name (string s) h = tt
get_fits name (array ds) h = tt
get_fits name (object ms) h = member_fits name ms h

pub inside_fits : (e d : Data) → IsIn e d → HasNumbers d → HasNumbers e
inside_fits e _ IsIn.whole h = h
inside_fits e _ (IsIn.in_list d x i is within) h = inside_fits e x within (there HasNumbers x (at i d) is (at_fits i d h))
inside_fits e _ (IsIn.in_object d x name is within) h = inside_fits e x within (there HasNumbers x (get name d) is (get_fits name d h))

put_kept_fits : (name : List ℕ) (o : Option Form) (kept_as : Form → Data) (rest : Members) → ((f : Form) → HasNumbers (kept_as f)) → MembersHaveNumbers rest → MembersHaveNumbers (put_kept name o kept_as rest)
put_kept_fits name None kept_as rest h hs = hs
put_kept_fits name (Some f) kept_as rest h hs = (h f, hs)

mutual
  pub kept_fits : (f : Form) (d : Data) → HasNumbers d → HasNumbers (kept f d)
  kept_fits f null h = tt
  kept_fits f (boolean b) h = tt
  kept_fits f (number n) h = h
  kept_fits f (string s) h = tt
  kept_fits f (array ds) h = kept_items_fit (each_form f) ds h
  kept_fits f (object ms) h = kept_members_fit (layout_of f (object ms)) ms h

  kept_items_fit : (f : Form) (ds : Items) → ItemsHaveNumbers ds → ItemsHaveNumbers (kept_items f ds)
  kept_items_fit f no_items hs = tt
  kept_items_fit f (item d ds) hs = (kept_fits f d hs.0, kept_items_fit f ds hs.1)

  kept_members_fit : (l : Layout) (ms : Members) → MembersHaveNumbers ms → MembersHaveNumbers (kept_members l ms)
  kept_members_fit l no_members hs = tt
  kept_members_fit l (member name d ms) hs =
      put_kept_fits name (kept_form (member_form l name)) (λ f. kept f d) (kept_members l ms) (λ f. kept_fits f d hs.0) (kept_members_fit l ms hs.1)

-- ---- without floats all are whole

first_false : (a b : Bool) → (a || b) ≡ false → a ≡ false
first_false false b is = refl
first_false true b is = is

last_false : (a b : Bool) → (a || b) ≡ false → b ≡ false
last_false false b is = is
last_false true b is = absurd (true≢false is)

number_whole : (n : Num) → IsNumber n → has_float (number n) ≡ false → IsWhole n
number_whole (unsigned n) h none = h
number_whole (negative z) h none = h
number_whole (float x) h none = absurd (true≢false none)

mutual
  pub whole_without_floats : (d : Data) → HasNumbers d → has_float d ≡ false → HasWholeNumbers d
  whole_without_floats null h none = tt
  whole_without_floats (boolean b) h none = tt
  whole_without_floats (number n) h none = number_whole n h none
  whole_without_floats (string s) h none = tt
  whole_without_floats (array ds) h none = items_whole ds h none
  whole_without_floats (object ms) h none = members_whole ms h none

  items_whole : (ds : Items) → ItemsHaveNumbers ds → items_have_float ds ≡ false → ItemsHaveWholeNumbers ds
  items_whole no_items hs none = tt
  items_whole (item d ds) hs none = (whole_without_floats d hs.0 (first_false _ _ none), items_whole ds hs.1 (last_false (has_float d) _ none))

  members_whole : (ms : Members) → MembersHaveNumbers ms → members_have_float ms ≡ false → MembersHaveWholeNumbers ms
  members_whole no_members hs none = tt
  members_whole (member k d ms) hs none = (whole_without_floats d hs.0 (first_false _ _ none), members_whole ms hs.1 (last_false (has_float d) _ none))
