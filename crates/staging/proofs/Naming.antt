-- Which folders hold which names: what is noted, and which folder is free.
use Rattle.std.proofs.Common.{◌≡◌, ℕ, ◌+◌, ◌<◌, ◌≤◌, Bool, true, false, cond, ◌&&◌, ◌||◌, ◌==◌, List, [], ◌∷◌, ◌++◌, length, take, get_or, Some, Result, Ok, Err, IfOk, ◌⊎◌, inl, inr, refl, sym, ap, subst, ◌∙◌, arith, eqb-true}
use Rattle.std.specs.Prelude.{bytes_eq, unwrap_or}
use Rattle.std.specs.Bool.{one_answer}
use Rattle.std.specs.declared.alloc.AllocError.{AllocError}
use Rattle.std.specs.declared.cmp.Ordering.{Ordering}
use Rattle.std.specs.declared.cmp.Ordering.TheVariants.{Less, Equal, Greater}
use Rattle.std.specs.List.{list_any}
use Rattle.std.specs.Ordering.{nat_cmp, ordering_then, is_eq}
use Rattle.std.specs.BTreeSet as sorted
use Rattle.std.specs.BTreeMap as tree
use Rattle.std.specs.Cmp.{unsigned_ties}
use Rattle.std.specs.Map.{lookup}
use Rattle.std.specs.BTreeMap.{BTreeMap, is_at}
use Rattle.std.specs.BTreeSet.{BTreeSet}
use Rattle.std.proofs.Math.Seq.{take-length}
use Rattle.std.proofs.lemmas.Bool.Decides.{leb_tells}
use Rattle.std.proofs.lemmas.List.Folds.{list_any-append, list_any_more, list_any_at}
use Rattle.std.proofs.lemmas.Slice.Eq.{bytes_eq-Decides}
use Rattle.std.proofs.lemmas.Map.Text.{is_eq-slice_cmp}
use Rattle.plain_data.specs.ByName.{name_cmp}
use Rattle.staging.specs.Placing.{has_reserved, is_in_the_way, is_taken}
use Rattle.staging.specs.inner.Folders.{IsAbove, IsLowest}
use Rattle.staging.specs.inner.Named.{holds, floor, any_holds, stands, IsFloored, IsFound, IsNamed, spot_cmp}
use Rattle.staging.specs.declared.group.Member.{Member}
use Rattle.staging.specs.declared.group.Placed.{Placed}
use Rattle.staging.specs.declared.spots.FolderNames.{FolderNames}
use Rattle.staging.proofs.Folders.{free_above, at_most}

-- a list of one test or another

any-or : {X : Type 0} (p q : X → Bool) (xs : List X) → list_any (λ x. p x || q x) xs ≡ (list_any p xs || list_any q xs)
any-or p q [] = refl
any-or p q (x ∷ xs) = ap (λ b. (p x || q x) || b) (any-or p q xs) ∙ turned (p x) (q x) (list_any p xs) (list_any q xs) where
  turned : (a b c d : Bool) → ((a || b) || (c || d)) ≡ ((a || c) || (b || d))
  turned true b c d = refl
  turned false true true d = refl
  turned false true false d = refl
  turned false false c d = refl

any-and : {X : Type 0} (a : Bool) (q : X → Bool) (xs : List X) → list_any (λ x. a && q x) xs ≡ (a && list_any q xs)
any-and true q xs = refl
any-and false q [] = refl
any-and false q (x ∷ xs) = any-and false q xs

any-none : {X : Type 0} (xs : List X) → list_any (λ x. false) xs ≡ false
any-none [] = refl
any-none (x ∷ xs) = any-none xs

any-same : {X : Type 0} (p q : X → Bool) (xs : List X) → ((x : X) → p x ≡ q x) → list_any p xs ≡ list_any q xs
any-same p q [] is = refl
any-same p q (x ∷ xs) is = ap (λ b. b || list_any p xs) (is x) ∙ ap (λ b. q x || b) (any-same p q xs is)

-- nothing is noted
pub none_named : (names : FolderNames) → sorted.IsEmpty names.held → tree.IsEmpty names.floors → IsNamed names []
none_named names held floors = record {
  each = λ name k. ap (λ (spots : List (ℕ × List ℕ)). list_any (is_at (spot_cmp (k, name))) spots) held;
  floored = λ name j less. let none : floor names name ≡ 0 = ap (λ (entries : List (List ℕ × ℕ)). unwrap_or (lookup (is_at (name_cmp name)) entries) 0) floors in absurd (let e : ⊥ = omega (arith, none, less) in e);
}

-- the two ways to look through the placed groups
pub in_the_way : (placed : List Placed) (group : List Member) (k : ℕ) → list_any (λ (m : Member). stands placed m.name k) group ≡ list_any (is_in_the_way group k) placed
in_the_way [] group k = any-none group
in_the_way (p ∷ ps) group k =
    let here : Member → Bool = λ m. p.folder == k && list_any (λ (n : Member). bytes_eq m.name n.name) p.members in
    any-or here (λ (m : Member). stands ps m.name k) group
    ∙ ap (λ b. b || list_any (λ (m : Member). stands ps m.name k) group) (any-and (p.folder == k) (λ (m : Member). list_any (λ (n : Member). bytes_eq m.name n.name) p.members) group)
    ∙ ap (λ b. is_in_the_way group k p || b) (in_the_way ps group k)

pub any_held : (names : FolderNames) (placed : List Placed) (group : List Member) (k : ℕ) → IsNamed names placed → any_holds names group k ≡ list_any (is_in_the_way group k) placed
any_held names placed group k is = any-same (λ (m : Member). holds names m.name k) (λ (m : Member). stands placed m.name k) group (λ m. is.each m.name k) ∙ in_the_way placed group k

-- one more

spot-told : (a b : Ordering) → is_eq (ordering_then a b) ≡ (is_eq a && is_eq b)
spot-told Less b = refl
spot-told Equal b = refl
spot-told Greater b = refl

cond-or : (b x : Bool) → cond b true x ≡ (x || b)
cond-or true true = refl
cond-or true false = refl
cond-or false true = refl
cond-or false false = refl

bytes-turned : (xs ys : List ℕ) → bytes_eq xs ys ≡ bytes_eq ys xs
bytes-turned xs ys = one_answer (bytes_eq xs ys) (bytes_eq ys xs) (bytes_eq-Decides xs ys) (λ h. sym ((bytes_eq-Decides ys xs).0 h), λ e. (bytes_eq-Decides ys xs).1 (sym e))

-- a name put into a folder
pub put_one : (old new : FolderNames) (name : List ℕ) (folder : ℕ) → sorted.Updates spot_cmp old.held new.held (folder, name) true → (q : List ℕ) (k : ℕ) → holds new q k ≡ (holds old q k || (folder == k && bytes_eq q name))
put_one old new name folder h q k =
    h.0 (k, q)
    ∙ cond-or (is_eq (spot_cmp (folder, name) (k, q))) (holds old q k)
    ∙ ap (λ b. holds old q k || b) (spot-told (nat_cmp folder k) (name_cmp name q) ∙ ap (λ b. b && is_eq (name_cmp name q)) (sym (unsigned_ties folder k)) ∙ ap (λ b. folder == k && b) (is_eq-slice_cmp name q ∙ bytes-turned name q))

-- and the names of a group

pub one_name_more : (group : List Member) (i : ℕ) (m : Member) → i < length group → m ≡ get_or group i m → (q : List ℕ) → list_any (λ (n : Member). bytes_eq q n.name) (take (i + 1) group) ≡ (list_any (λ (n : Member). bytes_eq q n.name) (take i group) || bytes_eq q m.name)
one_name_more group i m within is q = list_any_more (λ (n : Member). bytes_eq q n.name) group i m within ∙ ap (λ (n : Member). list_any (λ (l : Member). bytes_eq q l.name) (take i group) || bytes_eq q n.name) (sym is)

or-grown : (h a b c : Bool) → ((h || (a && b)) || (a && c)) ≡ (h || (a && (b || c)))
or-grown true a b c = refl
or-grown false true b c = refl
or-grown false false b c = refl

pub names_more : (h : Bool) (folder k : ℕ) (q : List ℕ) (group : List Member) (i : ℕ) (m : Member) → i < length group → m ≡ get_or group i m
    → ((h || (folder == k && list_any (λ (n : Member). bytes_eq q n.name) (take i group))) || (folder == k && bytes_eq q m.name)) ≡ (h || (folder == k && list_any (λ (n : Member). bytes_eq q n.name) (take (i + 1) group)))
names_more h folder k q group i m within is =
    or-grown h (folder == k) (list_any (λ (n : Member). bytes_eq q n.name) (take i group)) (bytes_eq q m.name) ∙ ap (λ b. h || (folder == k && b)) (sym (one_name_more group i m within is q))

or-false : (b : Bool) → (b || false) ≡ b
or-false true = refl
or-false false = refl

pub named_more : (old new : FolderNames) (group : List Member) (folder : ℕ) (placed : List Placed) → ((q : List ℕ) (k : ℕ) → holds new q k ≡ (holds old q k || (folder == k && list_any (λ (n : Member). bytes_eq q n.name) group)))
    → (IsFloored old → IsFloored new) → IsNamed old placed → IsNamed new (placed ++ record { members = group; folder = folder } ∷ [])
named_more old new group folder placed each floored is = record {
  each = λ name k.
      each name k
      ∙ ap (λ b. b || (folder == k && list_any (λ (n : Member). bytes_eq name n.name) group)) (is.each name k)
      ∙ ap (λ b. stands placed name k || b) (sym (or-false (folder == k && list_any (λ (n : Member). bytes_eq name n.name) group)))
      ∙ sym (list_any-append (λ (p : Placed). p.folder == k && list_any (λ (n : Member). bytes_eq name n.name) p.members) placed (record { members = group; folder = folder } ∷ []));
  floored = floored is.floored;
}

-- a floor that is taken up to the end of a run

pub raised : (old new : FolderNames) (name : List ℕ) (folder end : ℕ) → new.held ≡ old.held → tree.Updates name_cmp old.floors new.floors name (Some end) → floor old name ≡ folder → ((j : ℕ) → folder ≤ j → j < end → holds old name j ≡ true)
    → IsFloored old → IsFloored new
raised old new name folder end held updates was run is q j less = ap (λ s. sorted.contains spot_cmp s (j, q)) held ∙ by_test (is_eq (name_cmp name q)) refl where
  now-at : floor new q ≡ unwrap_or (cond (is_eq (name_cmp name q)) (Some end) (tree.get name_cmp old.floors q)) 0
  now-at = ap (λ o. unwrap_or o 0) (updates.0 q)

  by_test : (b : Bool) → is_eq (name_cmp name q) ≡ b → holds old q j ≡ true
  by_test true same =
      let e : name ≡ q = (bytes_eq-Decides name q).0 (sym (is_eq-slice_cmp name q) ∙ same) in
      let end-is : floor new q ≡ end = now-at ∙ ap (λ b. unwrap_or (cond b (Some end) (tree.get name_cmp old.floors q)) 0) same in
      let low : j < end = omega (arith, end-is) in
      subst (λ (n : List ℕ). holds old n j ≡ true) e
      (elim (leb_tells folder j) [
        | inl from ↦ run j from.1 low
        | inr before ↦ let under : j < floor old name = omega (arith, before.1, was) in is name j under
      ])
  by_test false apart =
      let same : floor new q ≡ floor old q = now-at ∙ ap (λ b. unwrap_or (cond b (Some end) (tree.get name_cmp old.floors q)) 0) apart in
      let under : j < floor old q = omega (arith, same) in
      is q j under

-- the lowest folder

pub taken_by_names : (holds_others : Bool) (names : FolderNames) (placed : List Placed) (group : List Member) (k : ℕ) → IsNamed names placed → any_holds names group k ≡ true → is_taken holds_others placed group k ≡ true
taken_by_names holds_others names placed group k is some = ap (λ b. b || (holds_others && (k == 0 && has_reserved group))) (sym (any_held names placed group k is) ∙ some)

pub lowest_found : (holds_others : Bool) (placed : List Placed) (group : List Member) (names : FolderNames) (from top k : ℕ) → IsAbove placed (length placed + 1) → top ≡ length placed + 1 → IsNamed names placed
    → ((j : ℕ) → j < from → is_taken holds_others placed group j ≡ true) → (from ≡ 0 → (holds_others && has_reserved group) ≡ false) → IsFound names group from top k → IsLowest holds_others placed group k
lowest_found holds_others placed group names from top k above count is early unreserved found = (free, taken) where
  passed : (b : Bool) → (k == 0) ≡ b → (k < top) → (holds_others && (k == 0 && has_reserved group)) ≡ false
  passed true zero within =
      let none : k ≡ 0 = eqb-true k 0 zero in
      let from_on : from ≤ k = found.from_on within in
      let start : from ≡ 0 = omega (arith, none, from_on) in
      ap (λ b. holds_others && (b && has_reserved group)) zero ∙ unreserved start
  passed false other within = ap (λ b. holds_others && (b && has_reserved group)) other ∙ and-none holds_others
    where
      and-none : (b : Bool) → (b && false) ≡ false
      and-none true = refl
      and-none false = refl

  free : is_taken holds_others placed group k ≡ false
  free =
      elim (at_most k top found.within) [
        | inl within ↦ ap (λ b. b || (holds_others && (k == 0 && has_reserved group))) (sym (any_held names placed group k is) ∙ found.free within) ∙ passed (k == 0) refl within
        | inr is_top ↦ subst (λ (n : ℕ). is_taken holds_others placed group n ≡ false) (sym (is_top ∙ count)) (free_above holds_others placed group (length placed + 1) above (omega arith))
      ]

  taken : (j : ℕ) → j < k → is_taken holds_others placed group j ≡ true
  taken j less =
      elim (leb_tells from j) [
        | inl later ↦ taken_by_names holds_others names placed group j is (found.below j later.1 less)
        | inr before ↦ early j (omega (arith, before.1))
      ]

pub if_lowest_found : (holds_others : Bool) (placed : List Placed) (group : List Member) (names : FolderNames) (from top : ℕ) (r : Result ℕ AllocError) → IsAbove placed (length placed + 1) → IsNamed names placed
    → ((l : List Placed) → IsNamed names l → (j : ℕ) → j < from → is_taken holds_others l group j ≡ true) → (from ≡ 0 → (holds_others && has_reserved group) ≡ false) → top ≡ length placed + 1 → IfOk r (IsFound names group from top)
    → IfOk r (IsLowest holds_others placed group)
if_lowest_found holds_others placed group names from top (Ok k) above is early allowed count found = lowest_found holds_others placed group names from top k above count is (early placed is) allowed found
if_lowest_found holds_others placed group names from top (Err e) above is early allowed count found = tt

-- folder 0, where that is kept from the group
pub kept_out : (holds_others : Bool) (placed : List Placed) (group : List Member) (j : ℕ) → (holds_others && has_reserved group) ≡ true → j < 1 → is_taken holds_others placed group j ≡ true
kept_out holds_others placed group j kept less =
    let zero : j ≡ 0 = omega (arith, less) in
    subst (λ (n : ℕ). is_taken holds_others placed group n ≡ true) (sym zero) (or-right (list_any (is_in_the_way group 0) placed) (holds_others && has_reserved group) kept)
  where
    or-right : (a b : Bool) → b ≡ true → (a || b) ≡ true
    or-right true b e = refl
    or-right false b e = e

-- what `put` and `raise` leave

pub put_floored : (old new : FolderNames) (name : List ℕ) (folder : ℕ) → ((q : List ℕ) (k : ℕ) → holds new q k ≡ (holds old q k || (folder == k && bytes_eq q name))) → new.floors ≡ old.floors → IsFloored old → IsFloored new
put_floored old new name folder each floors is q j less =
    let same : floor new q ≡ floor old q = ap (λ (m : BTreeMap (List ℕ) ℕ). unwrap_or (tree.get name_cmp m q) 0) floors in
    let was : holds old q j ≡ true = is q j (omega (arith, same, less)) in
    each q j ∙ ap (λ b. b || (folder == j && bytes_eq q name)) was

pub held_same : (old new : FolderNames) → new.held ≡ old.held → (q : List ℕ) (k : ℕ) → holds new q k ≡ holds old q k
held_same old new held q k = ap (λ (s : BTreeSet (ℕ × List ℕ)). sorted.contains spot_cmp s (k, q)) held

-- the names of a group, looked through one after another

any_more : (names : FolderNames) (group : List Member) (k i : ℕ) (m : Member) → i < length group → m ≡ get_or group i m → any_holds names (take (i + 1) group) k ≡ (any_holds names (take i group) k || holds names m.name k)
any_more names group k i m within is = list_any_more (λ (n : Member). holds names n.name k) group i m within ∙ ap (λ (n : Member). any_holds names (take i group) k || holds names n.name k) (sym is)

pub none_more : (names : FolderNames) (group : List Member) (k i : ℕ) (m : Member) → i < length group → m ≡ get_or group i m → any_holds names (take i group) k ≡ false → holds names m.name k ≡ false → any_holds names (take (i + 1) group) k ≡ false
none_more names group k i m within is before here = any_more names group k i m within is ∙ ap (λ b. b || holds names m.name k) before ∙ here

pub one_has : (names : FolderNames) (group : List Member) (k i : ℕ) (m : Member) → i < length group → m ≡ get_or group i m → holds names m.name k ≡ true → any_holds names group k ≡ true
one_has names group k i m within is here = list_any_at (λ (n : Member). holds names n.name k) group i m within (ap (λ (n : Member). holds names n.name k) (sym is) ∙ here)

pub at_end : (names : FolderNames) (group : List Member) (k i : ℕ) (b : Bool) → i ≡ length group → any_holds names (take i group) k ≡ b → any_holds names group k ≡ b
at_end names group k i b is h = ap (λ (ms : List Member). any_holds names ms k) (sym (ap (λ n. take n group) is ∙ take-length group)) ∙ h

pub floor_more : (names : FolderNames) (group : List Member) (i : ℕ) (m : Member) (most next : ℕ) → i < length group → m ≡ get_or group i m → ((j : ℕ) → j < next → (j < most) ⊎ (j < floor names m.name))
    → (IsFloored names → (j : ℕ) → j < most → any_holds names (take i group) j ≡ true) → IsFloored names → (j : ℕ) → j < next → any_holds names (take (i + 1) group) j ≡ true
floor_more names group i m most next within is either before floored j less =
    any_more names group j i m within is
    ∙ elim (either j less) [
      | inl low ↦ ap (λ b. b || holds names m.name j) (before floored j low)
      | inr low ↦ ap (λ b. any_holds names (take i group) j || b) (floored m.name j low) ∙ or-true (any_holds names (take i group) j)
    ]
  where
    or-true : (b : Bool) → (b || true) ≡ true
    or-true true = refl
    or-true false = refl

-- one more name put into a folder, in a loop over a group's

abbrev IsPut : FolderNames → FolderNames → ℕ → List Member → Type 0
IsPut old new folder group = (q : List ℕ) (k : ℕ) → holds new q k ≡ (holds old q k || (folder == k && list_any (λ (n : Member). bytes_eq q n.name) group))

pub put_more : (first old put new : FolderNames) (group : List Member) (folder i : ℕ) (m : Member) → i < length group → m ≡ get_or group i m → IsPut first old folder (take i group)
    → ((q : List ℕ) (k : ℕ) → holds put q k ≡ (holds old q k || (folder == k && bytes_eq q m.name))) → new.held ≡ put.held → IsPut first new folder (take (i + 1) group)
put_more first old put new group folder i m within is before one same q k =
    held_same put new same q k ∙ one q k ∙ ap (λ b. b || (folder == k && bytes_eq q m.name)) (before q k) ∙ names_more (holds first q k) folder k q group i m within is

or-none : (h b : Bool) → (h || (b && false)) ≡ h
or-none true b = refl
or-none false true = refl
or-none false false = refl

pub none_put : (first : FolderNames) (folder : ℕ) → IsPut first first folder []
none_put first folder q k = sym (or-none (holds first q k) (folder == k))

pub put_at_end : (first new : FolderNames) (group : List Member) (folder i : ℕ) → i ≡ length group → IsPut first new folder (take i group) → IsPut first new folder group
put_at_end first new group folder i is h = subst (λ (ms : List Member). IsPut first new folder ms) (ap (λ n. take n group) is ∙ take-length group) h
