-- The rows with a sum are forgotten one after another, and no others.
use Rattle.std.proofs.Common.{◌≡◌, ◌≢◌, ◌⊎◌, inl, inr, ℕ, ◌+◌, ◌<◌, Bool, true, false, not, ◌||◌, true≢false, cond, if◌then◌else◌, List, [], ◌∷◌, ◌++◌, take, length, get_or, filter, Option, Some, None, Result, Ok, Err, IsTrue, bytes_eq, zero, suc, pos, refl, sym, ap, subst, ◌∙◌}
use Rattle.std.specs.Prelude.{IsSome, OnOk}
use Rattle.std.specs.List.{list_any}
use Rattle.std.proofs.lemmas.List as lists
use Rattle.std.proofs.lemmas.Bool.{cases_Bool}
use Rattle.std.proofs.lemmas.Slice.Eq.{bytes_eq-Decides}
use Rattle.sqlite.specs.Store.{Ghosts}
use Rattle.sqlite.specs.declared.types.Value.TheVariants.{Int}
use Rattle.sqlite.specs.Order.{Row as Columns, column}
use Rattle.sqlite.specs.Schema.{Schema}
use Rattle.sqlite.specs.Table.{Table}
use Rattle.sqlite.specs.Effect.{Database}
use Rattle.sqlite.specs.State.{State, IsUnchanged}
use Rattle.sqlite.specs.Held.{Held, state}
use Rattle.sqlite_trees.specs.Tree.{IsTable}
use Rattle.sqlite_rules.specs.Lists.{Has}
use Rattle.job_rows.specs.declared.archive.Archive.{Archive}
use Rattle.job_rows.specs.Map.{has_archive, is_of, without_archive}
use Rattle.job_record.specs.declared.changes.Space.{Space}
use Rattle.job_record.specs.declared.fault.RecordFault.{RecordFault}
use Rattle.job_record.specs.declared.fault.RecordFault.TheVariants.{NotARecord, WrongVersion, NoRow, Store, UsesSpent, OutOfMemory}
use Rattle.job_record.specs.Counted.{FitsSpace, IsCount}
use Rattle.job_record.specs.RecordMap.{ListsKeys}
use Rattle.job_record.specs.Places.{job_tree, archive_tree, IsOther, HasRecord}
use Rattle.job_record.specs.Keyed.{held_in, IsKeyed}
use Rattle.job_record.specs.Archives.{AreArchives}
use Rattle.job_record.specs.Map.{KeyMap, HoldsMap, IsInStep, held, IsRecord, IsRecordOf, Stands, KeysIn, ChangesIn, changed_by, forgets}
use Rattle.record_program.specs.Lines.{has_sum}
use Rattle.record_program.specs.Forgetting.{without_sum, forgotten, LacksAtMost, Forgets}
use Rattle.record_program.specs.inner.Steps.{PicksOf, Picks, StaysOf, HoldsKeys, ForgetsOne, ForgetsAll}

-- ---- lists

in_filter : {X : Type 0} (test : X → Bool) (xs : List X) (x : X) → Has (filter test xs) x → Has xs x × IsTrue (test x)
in_filter test [] x h = absurd h
in_filter test (y ∷ ys) x h = elim (cases_Bool (test y)) [
  | inl passed ↦ elim (subst (λ b. Has (cond b (y ∷ filter test ys) (filter test ys)) x) passed h) [
    | inl is ↦ (inl is, subst (λ z. IsTrue (test z)) (sym is) passed)
    | inr later ↦ let r = in_filter test ys x later in (inr r.0, r.1)
  ]
  | inr failed ↦ let r = in_filter test ys x (subst (λ b. Has (cond b (y ∷ filter test ys) (filter test ys)) x) failed h) in (inr r.0, r.1)
]

to_filter : {X : Type 0} (test : X → Bool) (xs : List X) (x : X) → Has xs x → IsTrue (test x) → Has (filter test xs) x
to_filter test [] x h passes = absurd h
to_filter test (y ∷ ys) x (inl is) passes = subst (λ b. Has (cond b (y ∷ filter test ys) (filter test ys)) x) (sym (subst (λ z. IsTrue (test z)) is passes)) (inl is)
to_filter test (y ∷ ys) x (inr later) passes = elim (cases_Bool (test y)) [
  | inl passed ↦ subst (λ b. Has (cond b (y ∷ filter test ys) (filter test ys)) x) (sym passed) (inr (to_filter test ys x later passes))
  | inr failed ↦ subst (λ b. Has (cond b (y ∷ filter test ys) (filter test ys)) x) (sym failed) (to_filter test ys x later passes)
]

first_of_some : {X : Type 0} (xs : List X) → xs ≢ [] → (x : X) × Has xs x
first_of_some [] some = absurd (some refl)
first_of_some (x ∷ xs) some = (x, inl refl)

both_filters : {X : Type 0} (p q : X → Bool) (xs : List X) → ((x : X) → Has xs x → p x ≡ q x) → filter p xs ≡ filter q xs
both_filters p q [] same = refl
both_filters p q (x ∷ xs) same =
    let rest = both_filters p q xs (λ y h. same y (inr h)) in
    ap (λ b. cond b (x ∷ filter p xs) (filter p xs)) (same x (inl refl)) ∙ ap (λ ys. cond (q x) (x ∷ ys) ys) rest

-- a test that all pass leaves all
all_pass : {X : Type 0} (test : X → Bool) (xs : List X) → ((x : X) → Has xs x → test x ≡ true) → filter test xs ≡ xs
all_pass test [] pass = refl
all_pass test (x ∷ xs) pass = ap (λ b. cond b (x ∷ filter test xs) (filter test xs)) (pass x (inl refl)) ∙ ap (λ ys. x ∷ ys) (all_pass test xs (λ y h. pass y (inr h)))

same_bytes : (a b : List ℕ) → bytes_eq a b ≡ true → a ≡ b
same_bytes a b h = (bytes_eq-Decides a b).0 h

itself : (a b : List ℕ) → a ≡ b → bytes_eq a b ≡ true
itself a b is = (bytes_eq-Decides a b).1 is

option_of : {X : Type 0} (o : Option X) → ((x : X) × (o ≡ Some x)) ⊎ (o ≡ None)
option_of (Some x) = inl (x, refl)
option_of None = inr refl

-- ---- the record of a map

pub record_of : (s : State) (map : KeyMap) → IsRecordOf s map → IsRecord s
record_of s map it = record {
  schema = subst HasRecord (sym it.holds.schema) it.holds.has;
  sound = it.holds.sound;
  keyed = subst (λ t. IsKeyed (s.now.trees (job_tree t))) (sym it.holds.schema) it.holds.keyed;
  kept = subst (λ t. IsKeyed (s.now.trees (archive_tree t))) (sym it.holds.schema) it.holds.kept;
  ordered = subst (λ t. IsTable (s.now.trees (archive_tree t))) (sym it.holds.schema) it.holds.ordered;
  settled = it.settled;
  autocommit = it.autocommit;
}

same_of : (old new : State) (map : KeyMap) → IsRecordOf old map → new.now ≡ old.now → IsRecord new → IsRecordOf new map
same_of old new map it now is = record {
  holds = subst (λ d. HoldsMap d map) (sym now) it.holds;
  in_step = it.in_step;
  settled = is.settled;
  autocommit = is.autocommit;
}

pub unchanged_of : (old new : State) (map : KeyMap) → IsRecordOf old map → IsUnchanged old new → IsRecord new → IsRecordOf new map
unchanged_of old new map it u = same_of old new map it u.0.now_is

pub stays_of : (old new : State) (map : KeyMap) → IsRecordOf old map → Stands old new → StaysOf map new
stays_of old new map it stands open_now = let s = stands open_now in same_of old new map it s.0 s.1

-- a record has each map that says the same
like : (s : State) (map other : KeyMap) → ((key : List ℕ) → map.rows key ≡ other.rows key) → map.archives ≡ other.archives → map.beside ≡ other.beside → IsRecordOf s map → IsRecordOf s other
like s map other rows archives beside it = record {
  holds = record {
    schema = it.holds.schema ∙ same;
    has = subst HasRecord same it.holds.has;
    beside = subst (λ (d : Database). (t : Table) → Has d.schema.tables t → IsOther d.schema t → s.now.trees t.tree ≡ d.trees t.tree) beside it.holds.beside;
    sound = it.holds.sound;
    keyed = subst (λ t. IsKeyed (s.now.trees (job_tree t))) same it.holds.keyed;
    kept = subst (λ t. IsKeyed (s.now.trees (archive_tree t))) same it.holds.kept;
    ordered = subst (λ t. IsTable (s.now.trees (archive_tree t))) same it.holds.ordered;
    rows = λ key. ap (λ t. held_in (s.now.trees (job_tree t)) key) (sym same) ∙ it.holds.rows key ∙ rows key;
    archives = subst (λ t. AreArchives (s.now.trees (archive_tree t)) other.archives) same (subst (AreArchives (s.now.trees (archive_tree map.beside.schema))) archives it.holds.archives);
  };
  in_step = record {
    flags = λ key c h. subst (λ (xs : List Archive). column c 4 ≡ Int (pos (if has_archive key xs then 1 else 0))) archives (it.in_step.flags key c (rows key ∙ h));
    owned = λ key h. subst IsSome (rows key) (it.in_step.owned key (subst (λ xs. IsTrue (has_archive key xs)) (sym archives) h));
  };
  settled = it.settled;
  autocommit = it.autocommit;
}
  where
    same : map.beside.schema ≡ other.beside.schema
    same = ap (λ (d : Database). d.schema) beside

-- ---- the keys

module _ {S : Type 0} (g : Ghosts S) (old new : Held S) (sum : List ℕ) (map : KeyMap) (it : IsRecordOf (state g old) map) where
  same_held : (key : List ℕ) → held (state g old) key ≡ map.rows key
  same_held key = ap (λ (t : Schema). held_in ((state g old).now.trees (job_tree t)) key) it.holds.schema ∙ it.holds.rows key

  of_held : (key : List ℕ) (c : Columns) → held (state g old) key ≡ Some c → map.rows key ≡ Some c
  of_held key c h = sym (same_held key) ∙ h

  is_held : (key : List ℕ) (c : Columns) → map.rows key ≡ Some c → held (state g old) key ≡ Some c
  is_held key c h = same_held key ∙ h

  picked : (all : List (List ℕ)) (result : Result (List (List ℕ)) RecordFault) → KeysIn (state g old) (state g new) (Ok all) → PicksOf sum all result → HoldsKeys sum map (state g new) result
  picked all (Ok keys) k p =
      let kept = λ (key : List ℕ) (h : Has keys key). in_filter (has_sum sum) all key (subst (λ ks. Has ks key) p.0 h) in
      let one = first_of_some keys p.1 in
      let there = k.0 one.0 (kept one.0 one.1).0 in (
        (one.0, there.0, of_held one.0 there.0 there.1, (kept one.0 one.1).1),
        unchanged_of (state g old) (state g new) map it k.2 k.3,
        λ key h. (kept key h).1,
        λ key c h summed. subst (λ ks. Has ks key) (sym p.0) (to_filter (has_sum sum) all key (k.1 key c (is_held key c h)) summed),
      )
  picked all (Err NoRow) k p = (
    λ row. subst (λ ks. Has ks row.0) p (to_filter (has_sum sum) all row.0 (k.1 row.0 row.1 (is_held row.0 row.1 row.2)) row.3),
    unchanged_of (state g old) (state g new) map it k.2 k.3,
  )
  picked all (Err NotARecord) k p = absurd (let e : NotARecord ≡ OutOfMemory = p in cc)
  picked all (Err WrongVersion) k p = absurd (let e : WrongVersion ≡ OutOfMemory = p in cc)
  picked all (Err (Store e)) k p = absurd (let e : Store e ≡ OutOfMemory = p in cc)
  picked all (Err UsesSpent) k p = absurd (let e : UsesSpent ≡ OutOfMemory = p in cc)
  picked all (Err OutOfMemory) k p = λ open_now. unchanged_of (state g old) (state g new) map it k.2 k.3

  unlisted : (fault : RecordFault) → KeysIn (state g old) (state g new) (Err fault) → ListsKeys g old new (Err fault) → HoldsKeys sum map (state g new) (Err fault)
  unlisted NotARecord k l = ((k.0, k.1, of_held k.0 k.1 k.2, k.3), unchanged_of (state g old) (state g new) map it k.4 k.5)
  unlisted WrongVersion k l = absurd l
  unlisted NoRow k l = absurd l
  unlisted UsesSpent k l = absurd l
  unlisted (Store e) k l = stays_of (state g old) (state g new) map it k
  unlisted OutOfMemory k l = stays_of (state g old) (state g new) map it k

  pub keys_hold : (answer result : Result (List (List ℕ)) RecordFault) → KeysIn (state g old) (state g new) answer → ListsKeys g old new answer → Picks sum answer result → HoldsKeys sum map (state g new) result
  keys_hold (Ok all) result k l p = picked all result k p
  keys_hold (Err fault) result k l p = subst (HoldsKeys sum map (state g new)) (sym p) (unlisted fault k l)

-- ---- each is forgotten

module _ (key : List ℕ) (map : KeyMap) (space after : Space) (old new : State) (fits : FitsSpace space map) (it : IsRecordOf old map) where
  pub forgets_one : (answer : Result (Unit {0}) RecordFault) → answer ≢ Err NoRow → ChangesIn (forgets key) key map old new answer
      → OnOk answer (IsCount after.counted (changed_by (forgets key) map).archives) → after.budget ≡ space.budget → ForgetsOne key map after new answer
  forgets_one (Ok done) other now count budget = (now.1, record { budget_is = fits.budget_is ∙ sym budget; count = count })
  forgets_one (Err NotARecord) other now count budget = now
  forgets_one (Err WrongVersion) other now count budget = now
  forgets_one (Err NoRow) other now count budget = absurd (other refl)
  forgets_one (Err (Store e)) other now count budget = stays_of old new map it now
  forgets_one (Err UsesSpent) other now count budget = now
  forgets_one (Err OutOfMemory) other now count budget = stays_of old new map it now

  pub had_none : (map.rows key ≡ None) × Stands old new → StaysOf map new
  had_none now = stays_of old new map it now.1

forgotten_more : (keys : List (List ℕ)) (key : List ℕ) (map : KeyMap) → forgotten (keys ++ key ∷ []) map ≡ changed_by (forgets key) (forgotten keys map)
forgotten_more [] key map = refl
forgotten_more (k ∷ ks) key map = forgotten_more ks key (changed_by (forgets k) map)

-- with one more of the keys
pub forgotten_next : (keys : List (List ℕ)) (i : ℕ) (key : List ℕ) (map : KeyMap) → i < length keys → key ≡ get_or keys i key → forgotten (take (i + 1) keys) map ≡ changed_by (forgets key) (forgotten (take i keys) map)
forgotten_next keys i key map within is =
    ap (λ ks. forgotten ks map) (lists.take_more keys i key within ∙ ap (λ last. take i keys ++ last ∷ []) (sym is)) ∙ forgotten_more (take i keys) key map

pub forgets_more : (keys : List (List ℕ)) (i : ℕ) (key item : List ℕ) (map : KeyMap) (space : Space) (new : State) → i < length keys → key ≡ get_or keys i key → item ≡ key
    → ForgetsOne item (forgotten (take i keys) map) space new (Ok tt) → IsRecordOf new (forgotten (take (i + 1) keys) map) × FitsSpace space (forgotten (take (i + 1) keys) map)
forgets_more keys i key item map space new within is same now =
    subst (λ m. IsRecordOf new m × FitsSpace space m) (sym (forgotten_next keys i key map within is)) (subst (λ k. ForgetsOne k (forgotten (take i keys) map) space new (Ok tt)) same now)

has_take : {X : Type 0} (n : ℕ) (xs : List X) (x : X) → Has (take n xs) x → Has xs x
has_take zero xs x h = absurd h
has_take (suc n) [] x h = absurd h
has_take (suc n) (y ∷ ys) x (inl is) = inl is
has_take (suc n) (y ∷ ys) x (inr later) = inr (has_take n ys x later)

lacking : (sum : List ℕ) (keys : List (List ℕ)) (i : ℕ) (map : KeyMap) (new : State) → ((key : List ℕ) → Has keys key → IsTrue (has_sum sum key)) → StaysOf (forgotten (take i keys) map) new → LacksAtMost sum map new
lacking sum keys i map new summed stays open_now = (take i keys, λ key h. summed key (has_take i keys key h), stays open_now)

pub stops : (sum : List ℕ) (keys : List (List ℕ)) (i : ℕ) (item : List ℕ) (map : KeyMap) (space : Space) (new : State) (fault : RecordFault) → ((key : List ℕ) → Has keys key → IsTrue (has_sum sum key))
    → ForgetsOne item (forgotten (take i keys) map) space new (Err fault) → ForgetsAll sum keys map new (Err fault)
stops sum keys i item map space new NotARecord summed now = now
stops sum keys i item map space new WrongVersion summed now = now
stops sum keys i item map space new NoRow summed now = now
stops sum keys i item map space new (Store e) summed now = lacking sum keys i map new summed now
stops sum keys i item map space new UsesSpent summed now = now
stops sum keys i item map space new OutOfMemory summed now = lacking sum keys i map new summed now

-- ---- all of them

forgotten_rows : (keys : List (List ℕ)) (map : KeyMap) (key : List ℕ) → (Has keys key × ((forgotten keys map).rows key ≡ None)) ⊎ ((¬ Has keys key) × ((forgotten keys map).rows key ≡ map.rows key))
forgotten_rows [] map key = inr (λ h. h, refl)
forgotten_rows (k ∷ ks) map key = elim (forgotten_rows ks (changed_by (forgets k) map) key) [
  | inl gone ↦ inl (inr gone.0, gone.1)
  | inr kept ↦ elim (cases_Bool (bytes_eq key k)) [
    | inl same ↦ inl (inl (same_bytes key k same), kept.1 ∙ ap (λ b. if b then None else map.rows key) same)
    | inr other ↦ inr (
      λ h. elim h [ inl is ↦ true≢false (sym (itself key k is) ∙ other) | inr later ↦ kept.0 later ],
      kept.1 ∙ ap (λ b. if b then None else map.rows key) other,
    )
  ]
]

any_has : {X : Type 0} (test : X → Bool) (xs : List X) → list_any test xs ≡ true → (x : X) × Has xs x × (test x ≡ true)
any_has test [] h = absurd (true≢false (sym h))
any_has test (x ∷ xs) h = elim (cases_Bool (test x)) [
  | inl passed ↦ (x, inl refl, passed)
  | inr failed ↦ let r = any_has test xs (sym (ap (λ b. b || list_any test xs) failed) ∙ h) in (r.0, inr r.1, r.2)
]

or_last : (a b : Bool) → b ≡ true → (a || b) ≡ true
or_last true b is = refl
or_last false b is = is

has_any : {X : Type 0} (test : X → Bool) (xs : List X) (x : X) → Has xs x → test x ≡ true → list_any test xs ≡ true
has_any test [] x h passes = absurd h
has_any test (y ∷ ys) x (inl is) passes = ap (λ b. b || list_any test ys) (subst (λ z. test z ≡ true) is passes)
has_any test (y ∷ ys) x (inr later) passes = or_last (test y) (list_any test ys) (has_any test ys x later passes)

abbrev is_any : List (List ℕ) → Archive → Bool
is_any keys archive = list_any (λ key. is_of key archive) keys

one_filter : (k : List ℕ) (ks : List (List ℕ)) (xs : List Archive) → filter (λ x. not (is_any ks x)) (without_archive k xs) ≡ filter (λ x. not (is_any (k ∷ ks) x)) xs
one_filter k ks [] = refl
one_filter k ks (x ∷ xs) = step (is_of k x) (one_filter k ks xs)
  where
    step : (b : Bool) → filter (λ y. not (is_any ks y)) (without_archive k xs) ≡ filter (λ y. not (is_any (k ∷ ks) y)) xs
        → filter (λ y. not (is_any ks y)) (cond (not b) (x ∷ without_archive k xs) (without_archive k xs)) ≡ cond (not (b || is_any ks x)) (x ∷ filter (λ y. not (is_any (k ∷ ks) y)) xs) (filter (λ y. not (is_any (k ∷ ks) y)) xs)
    step true rest = rest
    step false rest = ap (λ ys. cond (not (is_any ks x)) (x ∷ ys) ys) rest

forgotten_archives : (keys : List (List ℕ)) (map : KeyMap) → (forgotten keys map).archives ≡ filter (λ x. not (is_any keys x)) map.archives
forgotten_archives [] map = sym (all_pass (λ x. not (is_any [] x)) map.archives (λ x h. refl))
forgotten_archives (k ∷ ks) map = forgotten_archives ks (changed_by (forgets k) map) ∙ one_filter k ks map.archives

module _ (sum : List ℕ) (map : KeyMap) (keys : List (List ℕ)) (summed : (key : List ℕ) → Has keys key → IsTrue (has_sum sum key))
    (all : (key : List ℕ) (c : Columns) → map.rows key ≡ Some c → IsTrue (has_sum sum key) → Has keys key) where
  rows_left : (key : List ℕ) → (forgotten keys map).rows key ≡ (without_sum sum map).rows key
  rows_left key = elim (forgotten_rows keys map key) [
    | inl gone ↦ gone.1 ∙ sym (ap (λ b. if b then None else map.rows key) (summed key gone.0))
    | inr kept ↦ elim (cases_Bool (has_sum sum key)) [
      | inl with_it ↦ elim (option_of (map.rows key)) [
        | inl some ↦ absurd (kept.0 (all key some.0 some.1 with_it))
        | inr none ↦ kept.1 ∙ none ∙ sym (ap (λ b. if b then None else map.rows key) with_it)
      ]
      | inr other ↦ kept.1 ∙ sym (ap (λ b. if b then None else map.rows key) other)
    ]
  ]

  some_of : (o : Option Columns) → IsSome o → (c : Columns) × (o ≡ Some c)
  some_of (Some c) h = (c, refl)
  some_of None h = absurd (true≢false (sym h))

  archive_left : IsInStep map → (x : Archive) → Has map.archives x → not (is_any keys x) ≡ not (has_sum sum x.key)
  archive_left step x h = elim (cases_Bool (has_sum sum x.key)) [
    | inl with_it ↦
        let row = some_of (map.rows x.key) (step.owned x.key (has_any (is_of x.key) map.archives x h (itself x.key x.key refl))) in
        ap not (has_any (λ key. is_of key x) keys x.key (all x.key row.0 row.1 with_it) (itself x.key x.key refl) ∙ sym with_it)
    | inr other ↦ elim (cases_Bool (is_any keys x)) [
      | inl some ↦
          let k = any_has (λ key. is_of key x) keys some in
          absurd (true≢false (sym (subst (λ z. IsTrue (has_sum sum z)) (same_bytes k.0 x.key k.2) (summed k.0 k.1)) ∙ other))
      | inr none ↦ ap not (none ∙ sym other)
    ]
  ]

  archives_left : IsInStep map → (forgotten keys map).archives ≡ (without_sum sum map).archives
  archives_left step = forgotten_archives keys map ∙ both_filters (λ x. not (is_any keys x)) (λ x. not (has_sum sum x.key)) map.archives (archive_left step)

-- what is beside the record stays
beside_left : (keys : List (List ℕ)) (map : KeyMap) → (forgotten keys map).beside ≡ map.beside
beside_left [] map = refl
beside_left (key ∷ keys) map = beside_left keys (changed_by (forgets key) map)

module _ (sum : List ℕ) (map : KeyMap) (mid new : State) where
  pub forgets_rows : (keys : List (List ℕ)) (result : Result (Unit {0}) RecordFault) → HoldsKeys sum map mid (Ok keys) → ForgetsAll sum keys map new result → Forgets sum map new result
  forgets_rows keys (Ok done) h all =
      (h.0, like new (forgotten keys map) (without_sum sum map) (rows_left sum map keys h.2 h.3) (archives_left sum map keys h.2 h.3 h.1.in_step) (beside_left keys map) all)
  forgets_rows keys (Err NotARecord) h all = absurd all
  forgets_rows keys (Err WrongVersion) h all = absurd all
  forgets_rows keys (Err NoRow) h all = absurd all
  forgets_rows keys (Err UsesSpent) h all = absurd all
  forgets_rows keys (Err (Store e)) h all = all
  forgets_rows keys (Err OutOfMemory) h all = all

at_most : (sum : List ℕ) (map : KeyMap) (new : State) → StaysOf map new → LacksAtMost sum map new
at_most sum map new stays open_now = ([], λ key h. absurd h, stays open_now)

pub forgets_none : (sum : List ℕ) (map : KeyMap) (new : State) (fault : RecordFault) → HoldsKeys sum map new (Err fault) → Forgets sum map new (Err fault)
forgets_none sum map new NotARecord h = h
forgets_none sum map new WrongVersion h = h
forgets_none sum map new NoRow h = h
forgets_none sum map new UsesSpent h = h
forgets_none sum map new (Store e) h = at_most sum map new h
forgets_none sum map new OutOfMemory h = at_most sum map new h
