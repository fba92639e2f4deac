-- The steps of the commands that change a record, one after the other.
use Rattle.std.proofs.Common.{◌≡◌, inl, inr, ℕ, suc, ◌+◌, ◌-◌, ◌≤◌, ◌<◌, Bool, true, false, if◌then◌else◌, List, [], ◌∷◌, ◌++◌, Option, Some, None, is_some, option_map, Ok, Err, Result, IsTrue, refl, sym, ap, subst, ◌∙◌, append-nil, append_assoc, length, arith, true≢false}
use Rattle.std.specs.Prelude.{IsSome, find, slice_get, take, drop}
use Rattle.sqlite.specs.Order.{Row as Columns}
use Rattle.sqlite.specs.State.{State, Survives}
use Rattle.job_rows.specs.declared.archive.Archive.{Archive}
use Rattle.job_rows.specs.Map.{is_of, has_archive, without_archive, touched, keys_in, next_used, greatest_used, greatest_number, total_bytes, lost_count, AreSpent}
use Rattle.job_record.specs.declared.fault.RecordFault.{RecordFault}
use Rattle.job_record.specs.declared.fault.RecordFault.TheVariants.{NoRow, UsesSpent}
use Rattle.job_record.specs.declared.changes.Putting.{Putting}
use Rattle.job_record.specs.Map.{KeyMap, Change, changed_by}
use Rattle.job_record.specs.inner.Inside.{Answer, Always, Never, Walks, WalksOn, Meets, with_row, with_archives, without_flag, bytes_at, oldest_of, IsNext, CanAdd, CanRenumber, CannotPut, IsStorable, SetsAlone, own_of, LosesFrom, LosesOldest, after_loss, lost_in, Touches, CannotTouch, Takes, Lacks}
use Rattle.job_record.proofs.ArchiveList.{found_cases, found_there, none_there, without_own, greatest_without}
use Rattle.job_record.proofs.Losing.{count_is, first_more, loses_first, loses_more, keys_after}
use Rattle.job_rows.specs.InStep.{AreRising}
use Rattle.sqlite_rules.specs.Lists.{Has}
use Rattle.job_record.specs.Archives.{IsWithinStore}
use Rattle.job_record.proofs.Chain.{Both, walk_join, walk_join_fails, walk_done, walk_refuses, walk_fails, walk_later}

-- what a look at the bytes of a key tells, and one for the next number
abbrev pub TellsBytes : List ℕ → Answer (Option ℕ)
TellsBytes key map bytes next = (next ≡ map) × (bytes ≡ bytes_at key map)

abbrev pub TellsNext : Answer ℕ
TellsNext map used next = (next ≡ map) × IsNext map used

abbrev pub SpentWhy : KeyMap → RecordFault → Type 0
SpentWhy map fault = (fault ≡ UsesSpent) × AreSpent map.archives

-- ---- the next number

abbrev pub TellsGreatest : Answer ℕ
TellsGreatest map used next = (next ≡ map) × (used ≡ greatest_used map.archives)

module _ (old new : State) where
  abbrev Greatest : Result ℕ RecordFault → Type 0
  Greatest r = Walks (Unit {0}) old new Always TellsGreatest Never r

  pub next_fails : (fault : RecordFault) → Greatest (Err fault) → Walks (Unit {0}) old new Always TellsNext SpentWhy (Err fault)
  next_fails fault one = walk_fails (Unit {0}) old new Always TellsGreatest Never Always TellsNext SpentWhy (λ _ _ _. tt) fault one (λ map given none. absurd none)

  pub next_spent : (greatest : ℕ) → Greatest (Ok greatest) → greatest_number ≤ greatest → Walks (Unit {0}) old new Always TellsNext SpentWhy (Err UsesSpent)
  next_spent greatest one over = walk_refuses (Unit {0}) old new Always TellsGreatest Never Always TellsNext SpentWhy (λ _ _ _. tt) greatest UsesSpent one (λ map next it given told. inr (refl, subst (λ n. greatest_number ≤ n) told.1 over))

  pub next_is : (greatest : ℕ) → Greatest (Ok greatest) → greatest < greatest_number → Walks (Unit {0}) old new Always TellsNext SpentWhy (Ok (greatest + 1))
  next_is greatest one under = walk_done (Unit {0}) old new Always TellsGreatest Never Always TellsNext SpentWhy (λ _ _ _. tt) greatest (greatest + 1) one
      (λ map next it given told. (told.0, (ap (λ n. n + 1) told.1, subst (λ n. n < greatest_number) told.1 under)))

-- ---- touch

no_bytes : (key : List ℕ) (map : KeyMap) → None ≡ bytes_at key map → has_archive key map.archives ≡ false
no_bytes key map is = elim (found_cases (find (is_of key) map.archives)) [
  | inl none ↦ none_there key map.archives none
  | inr some ↦ absurd (let e = is ∙ ap (option_map (λ (archive : Archive). archive.bytes)) some.1 in cc)
]

some_bytes : (key : List ℕ) (map : KeyMap) (n : ℕ) → Some n ≡ bytes_at key map → has_archive key map.archives ≡ true
some_bytes key map n is = elim (found_cases (find (is_of key) map.archives)) [
  | inl none ↦ absurd (let e = is ∙ ap (option_map (λ (archive : Archive). archive.bytes)) none in cc)
  | inr some ↦ found_there key map.archives some.0 some.1
]

abbrev pub TellsUse : List ℕ → Answer (Unit {0})
TellsUse key map done next = next ≡ with_archives (touched key map.archives) map

abbrev pub TellsRemoved : List ℕ → Answer (Unit {0})
TellsRemoved key map done next = next ≡ with_archives (without_archive key map.archives) map

module _ (key : List ℕ) (old mid later new : State) where
  abbrev Bytes : Result (Option ℕ) RecordFault → Type 0
  Bytes r = Walks (Unit {0}) old mid Always (TellsBytes key) Never r

  abbrev Next : Result ℕ RecordFault → Type 0
  Next r = Walks (Unit {0}) mid later Always TellsNext SpentWhy r

  abbrev Uses : ℕ → Result (Unit {0}) RecordFault → Type 0
  Uses used r = Walks (Unit {0}) later new (CanRenumber key used) (TellsUse key) Never r

  abbrev Touched : State → Result (Unit {0}) RecordFault → Type 0
  Touched at r = Walks (Unit {0}) old at Always (Touches key) (CannotTouch key) r

  pub touch_fails : (fault : RecordFault) → Bytes (Err fault) → Touched mid (Err fault)
  touch_fails fault one = walk_fails (Unit {0}) old mid Always (TellsBytes key) Never Always (Touches key) (CannotTouch key) (λ _ _ _. tt) fault one (λ map given none. absurd none)

  pub touch_none : Bytes (Ok None) → Touched mid (Err NoRow)
  touch_none one = walk_refuses (Unit {0}) old mid Always (TellsBytes key) Never Always (Touches key) (CannotTouch key) (λ _ _ _. tt) None NoRow one (λ map next it given told. inr (inl (refl, no_bytes key map told.1)))

  pub touch_spent : (n : ℕ) (fault : RecordFault) → Bytes (Ok (Some n)) → Next (Err fault) → Touched later (Err fault)
  touch_spent n fault one two =
      walk_join_fails (Unit {0}) old mid later Always (TellsBytes key) Never Always TellsNext SpentWhy Always (Some n) one (λ _ _ _. tt) (λ _ _ _ _ _ _. tt) (Touches key) (CannotTouch key) fault
      (walk_later _ mid later Always TellsNext SpentWhy (Err fault) two)
      (λ map next it given told why. inr (why.0, some_bytes key map n told.1, subst (λ (m : KeyMap). AreSpent m.archives) told.0 why.1))

  both : (n used : ℕ) → Bytes (Ok (Some n)) → Next (Ok used) → Walks (Unit {0}) old later Always (Both (TellsBytes key) (Some n) TellsNext) Never (Ok used)
  both n used one two =
      walk_join (Unit {0}) old mid later Always (TellsBytes key) Never Always TellsNext SpentWhy Always (Some n) one (λ _ _ _. tt) (λ _ _ _ _ _ _. tt) Never used (walk_later _ mid later Always TellsNext SpentWhy (Ok used) two)

  can_use : (n used : ℕ) (map next : KeyMap) → Both (TellsBytes key) (Some n) TellsNext map used next → (next ≡ map) × IsTrue (has_archive key map.archives) × IsNext map used
  can_use n used map next told = (
    told.2.0 ∙ told.1.0,
    some_bytes key map n told.1.1,
    subst (λ (m : KeyMap). IsNext m used) told.1.0 told.2.1,
  )

  uses : (n used : ℕ) (map next : KeyMap) → Both (TellsBytes key) (Some n) TellsNext map used next → CanRenumber key used next
  uses n used map next told = let t = can_use n used map next told in subst (CanRenumber key used) (sym t.0) (t.1, t.2)

  pub touch_uses : (n used : ℕ) (r : Result (Unit {0}) RecordFault) → Bytes (Ok (Some n)) → Next (Ok used) → Uses used r → Touched new r
  touch_uses n used (Ok done) one two three =
      walk_done (Unit {0}) old new Always (Both (Both (TellsBytes key) (Some n) TellsNext) used (TellsUse key)) Never Always (Touches key) (CannotTouch key) (λ _ _ _. tt) done done
      (walk_join (Unit {0}) old later new Always (Both (TellsBytes key) (Some n) TellsNext) Never (CanRenumber key used) (TellsUse key) Never Always used (both n used one two) (λ _ _ _. tt)
      (λ map next it held given told. uses n used map next told) Never done (walk_later (IsTrue later.is_open) later new (CanRenumber key used) (TellsUse key) Never (Ok done) three))
      (λ map last it given told. let t = can_use n used map told.0 told.1 in (t.1, t.2.1, told.2 ∙ ap (λ (m : KeyMap). with_archives (touched key m.archives) m) t.0))
  touch_uses n used (Err fault) one two three =
      walk_join_fails (Unit {0}) old later new Always (Both (TellsBytes key) (Some n) TellsNext) Never (CanRenumber key used) (TellsUse key) Never Always used (both n used one two) (λ _ _ _. tt)
      (λ map next it held given told. uses n used map next told) (Touches key) (CannotTouch key) fault (walk_later (IsTrue later.is_open) later new (CanRenumber key used) (TellsUse key) Never (Err fault) three) (λ map next it given told none. absurd none)

  none_is : (o : Option ℕ) → is_some o ≡ false → o ≡ None
  none_is None is = refl
  none_is (Some n) is = absurd (true≢false is)

  some_is : (o : Option ℕ) → is_some o ≡ true → (n : ℕ) × (o ≡ Some n)
  some_is None is = absurd (true≢false (sym is))
  some_is (Some n) is = (n, refl)

  pub touch_lacks : (o : Option ℕ) → is_some o ≡ false → Bytes (Ok o) → Touched mid (Err NoRow)
  touch_lacks o none one = touch_none (subst (λ b. Bytes (Ok b)) (none_is o none) one)

  pub touch_refused : (o : Option ℕ) (fault : RecordFault) → is_some o ≡ true → Bytes (Ok o) → Next (Err fault) → Touched later (Err fault)
  touch_refused o fault some one two = let s = some_is o some in touch_spent s.0 fault (subst (λ b. Bytes (Ok b)) s.1 one) two

  pub touch_moves : (o : Option ℕ) (used : ℕ) (r : Result (Unit {0}) RecordFault) → is_some o ≡ true → Bytes (Ok o) → Next (Ok used) → Uses used r → Touched new r
  touch_moves o used r some one two three = let s = some_is o some in touch_uses s.0 used r (subst (λ b. Bytes (Ok b)) s.1 one) two three

-- ---- drop_archive and forget

module _ (key : List ℕ) (first : KeyMap → KeyMap) (c : Change) (whole : (map : KeyMap) → with_archives (without_archive key map.archives) (first map) ≡ changed_by c map) (keeps : (map : KeyMap) → (first map).archives ≡ map.archives) (old mid later new : State) where
  abbrev Looked : Result (Option ℕ) RecordFault → Type 0
  Looked r = Walks (Unit {0}) old mid Always (TellsBytes key) Never r

  abbrev Met : Result Bool RecordFault → Type 0
  Met r = Walks (Unit {0}) mid later Always (Meets key first) Never r

  abbrev Removed : Result (Unit {0}) RecordFault → Type 0
  Removed r = Walks (Unit {0}) later new Always (TellsRemoved key) Never r

  abbrev Took : State → Result (Option ℕ) RecordFault → Type 0
  Took at r = Walks (Unit {0}) old at Always (Takes c key) (Lacks key) r

  pub take_fails : (fault : RecordFault) → Looked (Err fault) → Took mid (Err fault)
  take_fails fault one = walk_fails (Unit {0}) old mid Always (TellsBytes key) Never Always (Takes c key) (Lacks key) (λ _ _ _. tt) fault one (λ map given none. absurd none)

  pub take_refused : (had : Option ℕ) (fault : RecordFault) → Looked (Ok had) → Met (Err fault) → Took later (Err fault)
  take_refused had fault one two =
      walk_join_fails (Unit {0}) old mid later Always (TellsBytes key) Never Always (Meets key first) Never Always had one (λ _ _ _. tt) (λ _ _ _ _ _ _. tt) (Takes c key) (Lacks key) fault
      (walk_later _ mid later Always (Meets key first) Never (Err fault) two) (λ map next it given told none. absurd none)

  met : (had : Option ℕ) (b : Bool) → Looked (Ok had) → Met (Ok b) → Walks (Unit {0}) old later Always (Both (TellsBytes key) had (Meets key first)) Never (Ok b)
  met had b one two =
      walk_join (Unit {0}) old mid later Always (TellsBytes key) Never Always (Meets key first) Never Always had one (λ _ _ _. tt) (λ _ _ _ _ _ _. tt) Never b (walk_later _ mid later Always (Meets key first) Never (Ok b) two)

  no_row : (o : Option Columns) → false ≡ is_some o → o ≡ None
  no_row None is = refl
  no_row (Some row) is = absurd (let e = is in cc)

  some_row : (o : Option Columns) → true ≡ is_some o → IsSome o
  some_row None is = absurd (let e = is in cc)
  some_row (Some row) is = refl

  pub take_none : (had : Option ℕ) → Looked (Ok had) → Met (Ok false) → Took later (Err NoRow)
  take_none had one two =
      walk_refuses (Unit {0}) old later Always (Both (TellsBytes key) had (Meets key first)) Never Always (Takes c key) (Lacks key) (λ _ _ _. tt) false NoRow (met had false one two)
      (λ map last it given told. inr (refl, no_row (map.rows key) (told.2.1 ∙ ap (λ (m : KeyMap). is_some (m.rows key)) told.1.0)))

  pub take_stops : (had : Option ℕ) (fault : RecordFault) → Looked (Ok had) → Met (Ok true) → Removed (Err fault) → Took new (Err fault)
  take_stops had fault one two three =
      walk_join_fails (Unit {0}) old later new Always (Both (TellsBytes key) had (Meets key first)) Never Always (TellsRemoved key) Never Always true (met had true one two) (λ _ _ _. tt) (λ _ _ _ _ _ _. tt)
      (Takes c key) (Lacks key) fault (walk_later (IsTrue later.is_open) later new Always (TellsRemoved key) Never (Err fault) three) (λ map next it given told none. absurd none)

  -- whatever the step before answered
  pub take_halts : (had : Option ℕ) (b : Bool) (fault : RecordFault) → Looked (Ok had) → Met (Ok b) → Removed (Err fault) → Took new (Err fault)
  take_halts had b fault one two three =
      walk_join_fails (Unit {0}) old later new Always (Both (TellsBytes key) had (Meets key first)) Never Always (TellsRemoved key) Never Always b (met had b one two) (λ _ _ _. tt) (λ _ _ _ _ _ _. tt)
      (Takes c key) (Lacks key) fault (walk_later (IsTrue later.is_open) later new Always (TellsRemoved key) Never (Err fault) three) (λ map next it given told none. absurd none)

  pub take_done : (had : Option ℕ) (done : Unit {0}) → Looked (Ok had) → Met (Ok true) → Removed (Ok done) → Took new (Ok had)
  take_done had done one two three =
      walk_done (Unit {0}) old new Always (Both (Both (TellsBytes key) had (Meets key first)) true (TellsRemoved key)) Never Always (Takes c key) (Lacks key) (λ _ _ _. tt) done had
      (walk_join (Unit {0}) old later new Always (Both (TellsBytes key) had (Meets key first)) Never Always (TellsRemoved key) Never Always true (met had true one two) (λ _ _ _. tt) (λ _ _ _ _ _ _. tt)
      Never done (walk_later (IsTrue later.is_open) later new Always (TellsRemoved key) Never (Ok done) three))
      (λ map last it given told.
      let bytes = told.1.1 in
      let rows = told.1.2 in
      let at : told.0 ≡ first map = rows.0 ∙ ap first bytes.0 in (
        some_row (map.rows key) (rows.1 ∙ ap (λ (m : KeyMap). is_some (m.rows key)) bytes.0),
        bytes.1,
        told.2 ∙ ap (λ (m : KeyMap). with_archives (without_archive key m.archives) m) at ∙ ap (λ l. with_archives (without_archive key l) (first map)) (keeps map) ∙ whole map,
      ))

-- ---- a row that is set

-- the number of its own use, if it needs one
abbrev pub TellsFor : Putting → Answer ℕ
TellsFor row map used next = (next ≡ map) × (IsTrue row.stored.archived → IsNext map used)

abbrev pub Storable : Putting → KeyMap → Type 0
Storable row map = IsStorable row

-- what does nothing commits nothing
pub survives_same : (s : State) → Survives s s (λ _. ⊥)
survives_same s = record { clean = omega arith; shield = λ h. h; counts = omega arith; limit = refl; closes = λ clean h. inl h; crash = λ clean db may. inl may }

module _ (row : Putting) (old new : State) where
  pub for_next : (r : Result ℕ RecordFault) → IsTrue row.stored.archived → Walks (Unit {0}) old new Always TellsNext SpentWhy r → WalksOn old new Always (TellsFor row) (CannotPut row) r
  for_next (Ok used) keeps one = walk_done (IsTrue old.is_open) old new Always TellsNext SpentWhy Always (TellsFor row) (CannotPut row) (λ _ _ _. tt) used used (walk_later _ old new Always TellsNext SpentWhy (Ok used) one) (λ map next it given told. (told.0, λ _. told.1))
  for_next (Err fault) keeps one = walk_fails (IsTrue old.is_open) old new Always TellsNext SpentWhy Always (TellsFor row) (CannotPut row) (λ _ _ _. tt) fault (walk_later _ old new Always TellsNext SpentWhy (Err fault) one) (λ map given why. (why.0, keeps, why.1))

module _ (row : Putting) (old s1 s2 s3 s4 new : State) where
  abbrev key : List ℕ
  key = row.stored.key

  abbrev Sets : State → Result (Option ℕ) RecordFault → Type 0
  Sets at r = Walks (Unit {0}) old at (Storable row) (SetsAlone row) (CannotPut row) r

  abbrev Had : Result (Option ℕ) RecordFault → Type 0
  Had r = Walks (Unit {0}) old s1 Always (TellsBytes key) Never r

  abbrev For : Result ℕ RecordFault → Type 0
  For r = WalksOn s1 s2 Always (TellsFor row) (CannotPut row) r

  abbrev TellsRow : Answer (Unit {0})
  TellsRow map done next = next ≡ with_row row.stored map

  abbrev TellsGone : Answer (Unit {0})
  TellsGone map done next = next ≡ with_archives (without_archive key map.archives) map

  abbrev TellsAdded : ℕ → Answer (Unit {0})
  TellsAdded used map done next = next ≡ with_archives (map.archives ++ record { key = key; bytes = row.bytes; used = used } ∷ []) map

  abbrev Put : Result (Unit {0}) RecordFault → Type 0
  Put r = Walks (Unit {0}) s2 s3 Always TellsRow Never r

  abbrev Gone : Result (Unit {0}) RecordFault → Type 0
  Gone r = Walks (Unit {0}) s3 s4 Always TellsGone Never r

  abbrev Added : ℕ → Result (Unit {0}) RecordFault → Type 0
  Added used r = Walks (Unit {0}) s4 new (CanAdd key row.bytes used) (TellsAdded used) Never r

  pub set_fails : (fault : RecordFault) → Had (Err fault) → Sets s1 (Err fault)
  set_fails fault one = walk_fails (Unit {0}) old s1 Always (TellsBytes key) Never (Storable row) (SetsAlone row) (CannotPut row) (λ _ _ _. tt) fault one (λ map given none. absurd none)

  pub set_spent : (had : Option ℕ) (fault : RecordFault) → Had (Ok had) → For (Err fault) → Sets s2 (Err fault)
  set_spent had fault one two =
      walk_join_fails (Unit {0}) old s1 s2 Always (TellsBytes key) Never Always (TellsFor row) (CannotPut row) (Storable row) had one (λ _ _ _. tt) (λ _ _ _ _ _ _. tt) (SetsAlone row) (CannotPut row) fault two
      (λ map next it given told why. (why.0, why.1, subst (λ (m : KeyMap). AreSpent m.archives) told.0 why.2))

  abbrev Two : Option ℕ → Answer ℕ
  Two had = Both (TellsBytes key) had (TellsFor row)

  abbrev Three : Option ℕ → ℕ → Answer (Unit {0})
  Three had used = Both (Two had) used TellsRow

  abbrev Four : Option ℕ → ℕ → Unit {0} → Answer (Unit {0})
  Four had used done = Both (Three had used) done TellsGone

  two : (had : Option ℕ) (used : ℕ) → Had (Ok had) → For (Ok used) → Walks (Unit {0}) old s2 (Storable row) (Two had) Never (Ok used)
  two had used one next = walk_join (Unit {0}) old s1 s2 Always (TellsBytes key) Never Always (TellsFor row) (CannotPut row) (Storable row) had one (λ _ _ _. tt) (λ _ _ _ _ _ _. tt) Never used next

  pub set_row_fails : (had : Option ℕ) (used : ℕ) (fault : RecordFault) → Had (Ok had) → For (Ok used) → Put (Err fault) → Sets s3 (Err fault)
  set_row_fails had used fault one next put =
      walk_join_fails (Unit {0}) old s2 s3 (Storable row) (Two had) Never Always TellsRow Never (Storable row) used (two had used one next) (λ map it given. given) (λ _ _ _ _ _ _. tt) (SetsAlone row) (CannotPut row) fault
      (walk_later _ s2 s3 Always TellsRow Never (Err fault) put) (λ map next it given told none. absurd none)

  three : (had : Option ℕ) (used : ℕ) (done : Unit {0}) → Had (Ok had) → For (Ok used) → Put (Ok done) → Walks (Unit {0}) old s3 (Storable row) (Three had used) Never (Ok done)
  three had used done one next put =
      walk_join (Unit {0}) old s2 s3 (Storable row) (Two had) Never Always TellsRow Never (Storable row) used (two had used one next) (λ map it given. given) (λ _ _ _ _ _ _. tt) Never done (walk_later _ s2 s3 Always TellsRow Never (Ok done) put)

  pub set_gone_fails : (had : Option ℕ) (used : ℕ) (done : Unit {0}) (fault : RecordFault) → Had (Ok had) → For (Ok used) → Put (Ok done) → Gone (Err fault) → Sets s4 (Err fault)
  set_gone_fails had used done fault one next put gone =
      walk_join_fails (Unit {0}) old s3 s4 (Storable row) (Three had used) Never Always TellsGone Never (Storable row) done (three had used done one next put) (λ map it given. given) (λ _ _ _ _ _ _. tt) (SetsAlone row) (CannotPut row) fault
      (walk_later _ s3 s4 Always TellsGone Never (Err fault) gone) (λ map next it given told none. absurd none)

  four : (had : Option ℕ) (used : ℕ) (done again : Unit {0}) → Had (Ok had) → For (Ok used) → Put (Ok done) → Gone (Ok again) → Walks (Unit {0}) old s4 (Storable row) (Four had used done) Never (Ok again)
  four had used done again one next put gone =
      walk_join (Unit {0}) old s3 s4 (Storable row) (Three had used) Never Always TellsGone Never (Storable row) done (three had used done one next put) (λ map it given. given) (λ _ _ _ _ _ _. tt) Never again (walk_later _ s3 s4 Always TellsGone Never (Ok again) gone)

  abbrev bare : KeyMap → KeyMap
  bare map = with_archives (without_archive key map.archives) (with_row row.stored map)

  -- what the four steps leave
  left : (had : Option ℕ) (used : ℕ) (done again : Unit {0}) (map next : KeyMap) → Four had used done map again next → (next ≡ bare map) × (had ≡ bytes_at key map) × (IsTrue row.stored.archived → IsNext map used)
  left had used done again map next told =
      let rows = told.1 in
      let looks = rows.1 in
      let bytes = looks.1 in
      let at : looks.0 ≡ map = bytes.0 in
      let second : rows.0 ≡ map = looks.2.0 ∙ at in
      let third : told.0 ≡ with_row row.stored map = rows.2 ∙ ap (with_row row.stored) second in
      (told.2 ∙ ap (λ (m : KeyMap). with_archives (without_archive key m.archives) m) third, bytes.1, λ keeps. subst (λ (m : KeyMap). IsNext m used) at (looks.2.1 keeps))

  pub set_bare : (had : Option ℕ) (used : ℕ) (done again : Unit {0}) → row.stored.archived ≡ false → Had (Ok had) → For (Ok used) → Put (Ok done) → Gone (Ok again) → Sets s4 (Ok had)
  set_bare had used done again none one next put gone =
      walk_done (Unit {0}) old s4 (Storable row) (Four had used done) Never (Storable row) (SetsAlone row) (CannotPut row) (λ map it given. given) again had (four had used done again one next put gone)
      (λ map last it given told.
      let l = left had used done again map last told in
      let own : own_of row map.archives ≡ [] = ap (λ b. if b then record { key = key; bytes = row.bytes; used = next_used map.archives } ∷ [] else []) none in
      let all : without_archive key map.archives ≡ without_archive key map.archives ++ own_of row map.archives = sym (ap (λ o. without_archive key map.archives ++ o) own ∙ append-nil (without_archive key map.archives)) in
      (l.0 ∙ ap (λ a. with_archives a (with_row row.stored map)) all, l.1, λ keeps. absurd (true≢false (sym keeps ∙ none))))

  can_add : (used : ℕ) (map next : KeyMap) → next ≡ bare map → IsNext map used → IsStorable row → CanAdd key row.bytes used next
  can_add used map next is number storable =
      let fewer : greatest_used (without_archive key map.archives) ≤ greatest_used map.archives = greatest_without key map.archives in
      subst (CanAdd key row.bytes used) (sym is) (without_own key map.archives, omega (arith, fewer, number.0), omega (arith, number.0, number.1), storable.bytes, storable.key)

  pub set_add_fails : (had : Option ℕ) (used : ℕ) (done again : Unit {0}) (fault : RecordFault) → IsTrue row.stored.archived → Had (Ok had) → For (Ok used) → Put (Ok done) → Gone (Ok again) → Added used (Err fault) → Sets new (Err fault)
  set_add_fails had used done again fault keeps one next put gone add =
      walk_join_fails (Unit {0}) old s4 new (Storable row) (Four had used done) Never (CanAdd key row.bytes used) (TellsAdded used) Never (Storable row) again (four had used done again one next put gone) (λ map it given. given)
      (λ map next it held given told. let l = left had used done again map next told in can_add used map next l.0 (l.2 keeps) given) (SetsAlone row) (CannotPut row) fault
      (walk_later _ s4 new (CanAdd key row.bytes used) (TellsAdded used) Never (Err fault) add) (λ map next it given told none. absurd none)

  pub set_added : (had : Option ℕ) (used : ℕ) (done again last : Unit {0}) → IsTrue row.stored.archived → Had (Ok had) → For (Ok used) → Put (Ok done) → Gone (Ok again) → Added used (Ok last) → Sets new (Ok had)
  set_added had used done again last keeps one next put gone add =
      walk_done (Unit {0}) old new (Storable row) (Both (Four had used done) again (TellsAdded used)) Never (Storable row) (SetsAlone row) (CannotPut row) (λ map it given. given) last had
      (walk_join (Unit {0}) old s4 new (Storable row) (Four had used done) Never (CanAdd key row.bytes used) (TellsAdded used) Never (Storable row) again (four had used done again one next put gone) (λ map it given. given)
      (λ map next it held given told. let l = left had used done again map next told in can_add used map next l.0 (l.2 keeps) given) Never last (walk_later _ s4 new (CanAdd key row.bytes used) (TellsAdded used) Never (Ok last) add))
      (λ map end it given told.
      let l = left had used done again map told.0 told.1 in
      let number = l.2 keeps in
      let own : record { key = key; bytes = row.bytes; used = used } ∷ [] ≡ own_of row map.archives = ap (λ n. record { key = key; bytes = row.bytes; used = n } ∷ []) number.0 ∙ sym (ap (λ b. if b then record { key = key; bytes = row.bytes; used = next_used map.archives } ∷ [] else []) keeps) in (
        told.2 ∙ ap (λ (m : KeyMap). with_archives (m.archives ++ record { key = key; bytes = row.bytes; used = used } ∷ []) m) l.0 ∙ ap (λ o. with_archives (without_archive key map.archives ++ o) (with_row row.stored map)) own,
        l.1,
        λ _. number.1,
      ))

-- ---- the archives that have to go

-- what is told after so many went
pub record HasLost (budget total : ℕ) (before lost : List (List ℕ)) (left turns : ℕ) (map next : KeyMap) : Type 0 where
  pub next_is : next ≡ after_loss turns map
  pub lost_is : lost ≡ before ++ keys_in (take turns map.archives)
  pub left_is : left ≡ total_bytes (drop turns map.archives)
  pub within : turns ≤ length map.archives
  pub past : (m : ℕ) → turns ≡ suc m → budget < total_bytes (drop m map.archives)

abbrev pub CanLoseFrom : ℕ → ℕ → KeyMap → Type 0
CanLoseFrom budget total map = (map.budget ≡ Some budget) × (total ≡ total_bytes map.archives)

abbrev pub TellsLost : ℕ → ℕ → List (List ℕ) → List (List ℕ) → ℕ → ℕ → Answer (Unit {0})
TellsLost budget total before lost left turns map done next = HasLost budget total before lost left turns map next

-- the loop, after so many turns
abbrev pub HasWalked : ℕ → ℕ → List (List ℕ) → State → State → List (List ℕ) → ℕ → ℕ → Type 0
HasWalked budget total before old now lost left turns =
    Walks (IsTrue old.is_open) old now (CanLoseFrom budget total) (TellsLost budget total before lost left turns) Never (Ok (tt {0}))

first_there : (xs : List Archive) → 0 < total_bytes xs → (a : Archive) × (slice_get xs 0 ≡ Some a)
first_there [] some = absurd (omega (arith, some))
first_there (a ∷ xs) some = (a, refl)

first_bytes : (xs : List Archive) (n : ℕ) (a : Archive) → slice_get (drop n xs) 0 ≡ Some a → total_bytes (drop n xs) ≡ a.bytes + total_bytes (drop (suc n) xs)
first_bytes xs n a is = ap total_bytes (first_more xs n a is).1

-- the archive whose use is the oldest goes
abbrev pub TellsFirst : Answer (Option (List ℕ × ℕ))
TellsFirst map first next = (next ≡ map) × (first ≡ oldest_of map)

abbrev pub HasFirst : KeyMap → Type 0
HasFirst map = IsSome (oldest_of map)

first_of : (xs : List Archive) (own : List ℕ) (bytes : ℕ) → ◌≡◌ {A = Option (List ℕ × ℕ)} (Some (own, bytes)) (option_map (λ (archive : Archive). (archive.key, archive.bytes)) (slice_get xs 0)) → (a : Archive) × (rest : List Archive) × (xs ≡ a ∷ rest) × (a.key ≡ own)
first_of [] own bytes is = absurd (let e = is in cc)
first_of (a ∷ rest) own bytes is =
    let pair : ◌≡◌ {A = List ℕ × ℕ} (own, bytes) (a.key, a.bytes) = cc in
    (a, rest, refl, sym (ap (λ (p : List ℕ × ℕ). p.0) pair))

module _ (key : List ℕ) (bytes : ℕ) (met : Bool) (old mid later new : State) where
  abbrev Firsts : Type 0
  Firsts = Walks (Unit {0}) old mid Always TellsFirst Never (Ok (Some (key, bytes)))

  abbrev Flagged : Type 0
  Flagged = Walks (Unit {0}) mid later Always (Meets key (without_flag key)) Never (Ok met)

  abbrev Cleared : Result (Unit {0}) RecordFault → Type 0
  Cleared r = Walks (Unit {0}) later new Always (TellsRemoved key) Never r

  abbrev TellsFlagged : Answer Bool
  TellsFlagged = Both TellsFirst (Some (key, bytes)) (Meets key (without_flag key))

  flagged : Firsts → Flagged → Walks (Unit {0}) old later HasFirst TellsFlagged Never (Ok met)
  flagged one two = walk_join (Unit {0}) old mid later Always TellsFirst Never Always (Meets key (without_flag key)) Never HasFirst (Some (key, bytes)) one (λ _ _ _. tt) (λ _ _ _ _ _ _. tt) Never met (walk_later _ mid later Always (Meets key (without_flag key)) Never (Ok met) two)

  pub oldest_stops : (fault : RecordFault) → Firsts → Flagged → Cleared (Err fault) → Walks (Unit {0}) old new HasFirst LosesOldest Never (Err fault)
  oldest_stops fault one two three =
      walk_join_fails (Unit {0}) old later new HasFirst TellsFlagged Never Always (TellsRemoved key) Never HasFirst met (flagged one two) (λ map it given. given) (λ _ _ _ _ _ _. tt) LosesOldest Never fault
      (walk_later (IsTrue later.is_open) later new Always (TellsRemoved key) Never (Err fault) three) (λ map next it given told none. absurd none)

  pub oldest_done : (done : Unit {0}) → Firsts → Flagged → Cleared (Ok done) → Walks (Unit {0}) old new HasFirst LosesOldest Never (Ok (key, bytes))
  oldest_done done one two three =
      walk_done (Unit {0}) old new HasFirst (Both TellsFlagged met (TellsRemoved key)) Never HasFirst LosesOldest Never (λ map it given. given) done (key, bytes)
      (walk_join (Unit {0}) old later new HasFirst TellsFlagged Never Always (TellsRemoved key) Never HasFirst met (flagged one two) (λ map it given. given) (λ _ _ _ _ _ _. tt)
      Never done (walk_later (IsTrue later.is_open) later new Always (TellsRemoved key) Never (Ok done) three))
      (λ map last it given told.
      let looks = told.1.1 in
      let at : told.0 ≡ without_flag key map = told.1.2.0 ∙ ap (without_flag key) looks.0 in
      let f = first_of map.archives key bytes looks.1 in (
        told.2 ∙ ap (λ (m : KeyMap). with_archives (without_archive key m.archives) m) at ∙ ap (λ k. with_archives (without_archive k map.archives) (without_flag k map)) (sym f.3) ∙ loses_first map f.0 f.1 f.2 it.archives.apart,
        sym looks.1,
      ))

module _ (budget total : ℕ) (before : List (List ℕ)) (old now next : State) (lost : List (List ℕ)) (left turns : ℕ) (walked : HasWalked budget total before old now lost left turns) (over : budget < left) where
  abbrev Oldest : Result (List ℕ × ℕ) RecordFault → Type 0
  Oldest r = Walks (Unit {0}) now next (λ map. IsSome (oldest_of map)) LosesOldest Never r

  -- there is one more
  is_there : (map at : KeyMap) → HasLost budget total before lost left turns map at → (a : Archive) × (slice_get (drop turns map.archives) 0 ≡ Some a)
  is_there map at told = first_there (drop turns map.archives) (let more : left ≡ total_bytes (drop turns map.archives) = told.left_is in omega arith)

  one_more : (map at : KeyMap) → HasLost budget total before lost left turns map at → IsSome (oldest_of at)
  one_more map at told =
      let a = is_there map at told in
      let same : oldest_of at ≡ Some (a.0.key, a.0.bytes) = ap oldest_of told.next_is ∙ ap (option_map (λ (archive : Archive). (archive.key, archive.bytes))) a.1 in
      subst IsSome (sym same) refl

  pub lose_fails : (fault : RecordFault) → Oldest (Err fault) → Walks (IsTrue old.is_open) old next (CanLoseFrom budget total) (LosesFrom before lost) Never (Err fault)
  lose_fails fault one =
      walk_join_fails (IsTrue old.is_open) old now next (CanLoseFrom budget total) (TellsLost budget total before lost left turns) Never (λ map. IsSome (oldest_of map)) LosesOldest Never (CanLoseFrom budget total) tt walked (λ map it given. given) (λ map at it held given told. one_more map at told)
      (LosesFrom before lost) Never fault (walk_later _ now next (λ map. IsSome (oldest_of map)) LosesOldest Never (Err fault) one) (λ map at it given told none. absurd none)

  pub lose_goes : (key : List ℕ) (bytes : ℕ) → Oldest (Ok (key, bytes)) → HasWalked budget total before old next (lost ++ key ∷ []) (left - bytes) (turns + 1)
  lose_goes key bytes one =
      walk_done (IsTrue old.is_open) old next (CanLoseFrom budget total) (Both (TellsLost budget total before lost left turns) tt LosesOldest) Never (CanLoseFrom budget total) (TellsLost budget total before (lost ++ key ∷ []) (left - bytes) (turns + 1)) Never (λ map it given. given) (key, bytes) tt
      (walk_join (IsTrue old.is_open) old now next (CanLoseFrom budget total) (TellsLost budget total before lost left turns) Never (λ map. IsSome (oldest_of map)) LosesOldest Never (CanLoseFrom budget total) tt walked (λ map it given. given) (λ map at it held given told. one_more map at told)
      Never (key, bytes) (walk_later _ now next (λ map. IsSome (oldest_of map)) LosesOldest Never (Ok (key, bytes)) one))
      (λ map last it given told.
      let h = told.1 in
      let a = is_there map told.0 h in
      let found : Some (key, bytes) ≡ Some (a.0.key, a.0.bytes) = sym told.2.1 ∙ ap oldest_of h.next_is ∙ ap (option_map (λ (archive : Archive). (archive.key, archive.bytes))) a.1 in
      let pair : (key, bytes) ≡ (a.0.key, a.0.bytes) = cc in
      let keys : key ≡ a.0.key = ap (λ (p : List ℕ × ℕ). p.0) pair in
      let sizes : bytes ≡ a.0.bytes = ap (λ (p : List ℕ × ℕ). p.1) pair in
      let more = first_bytes map.archives turns a.0 a.1 in
      let was : left ≡ total_bytes (drop turns map.archives) = h.left_is in
      let next_turn : turns + 1 ≡ suc turns = omega arith in
      subst (HasLost_at map last key bytes) (sym next_turn) (record {
        next_is = told.2.0 ∙ ap (after_loss 1) h.next_is ∙ loses_more map turns a.0 a.1 it.archives.apart;
        lost_is = ap (λ l. l ++ key ∷ []) h.lost_is ∙ append_assoc before (keys_in (take turns map.archives)) (key ∷ []) ∙ ap (λ k. before ++ (keys_in (take turns map.archives) ++ k ∷ [])) keys ∙ ap (λ l. before ++ l) (sym (keys_after map.archives turns a.0 a.1));
        left_is = omega (arith, more, was, sizes);
        within = (first_more map.archives turns a.0 a.1).2;
        past = λ m is. let same : turns ≡ m = omega (arith, is) in subst (λ k. budget < total_bytes (drop k map.archives)) same (subst (λ n. budget < n) was over);
      }))
    where
      HasLost_at : KeyMap → KeyMap → List ℕ → ℕ → ℕ → Type 0
      HasLost_at map last key bytes n = HasLost budget total before (lost ++ key ∷ []) (left - bytes) n map last

-- the rest is within the budget
pub lose_ends : (budget total : ℕ) (before : List (List ℕ)) (old now : State) (lost : List (List ℕ)) (left turns : ℕ) → HasWalked budget total before old now lost left turns → left ≤ budget
    → Walks (IsTrue old.is_open) old now (CanLoseFrom budget total) (LosesFrom before lost) Never (Ok left)
lose_ends budget total before old now lost left turns walked under =
    walk_done (IsTrue old.is_open) old now (CanLoseFrom budget total) (TellsLost budget total before lost left turns) Never (CanLoseFrom budget total) (LosesFrom before lost) Never (λ map it given. given) tt left walked
    (λ map next it given h.
    let was : left ≡ total_bytes (drop turns map.archives) = h.left_is in
    let count : lost_in map ≡ turns = ap (λ b. lost_count b map.archives) given.0 ∙ count_is budget map.archives turns h.within (omega (arith, was, under)) h.past in
    (h.next_is ∙ ap (λ n. after_loss n map) (sym count), h.lost_is ∙ ap (λ n. before ++ keys_in (take n map.archives)) (sym count), was ∙ sym (ap (λ (m : KeyMap). total_bytes m.archives) h.next_is)))

-- no record has so many archives
length_within : (last : ℕ) (xs : List Archive) → AreRising last xs → last ≤ greatest_number → ((a : Archive) → Has xs a → IsWithinStore a) → length xs + last ≤ greatest_number
length_within last [] rising low within = omega arith
length_within last (x ∷ xs) rising low within =
    let own = within x (inl refl) in
    let rest : length xs + x.used ≤ greatest_number = length_within x.used xs rising.1 own.used (λ a h. within a (inr h)) in
    let next : last < x.used = rising.0 in omega arith

pub lose_never : (budget total : ℕ) (before : List (List ℕ)) (old now : State) (lost : List (List ℕ)) (left turns : ℕ) → HasWalked budget total before old now lost left turns → greatest_number < turns
    → Walks (IsTrue old.is_open) old now (CanLoseFrom budget total) (LosesFrom before lost) Never (Ok left)
lose_never budget total before old now lost left turns walked over =
    walk_done (IsTrue old.is_open) old now (CanLoseFrom budget total) (TellsLost budget total before lost left turns) Never (CanLoseFrom budget total) (LosesFrom before lost) Never (λ map it given. given) tt left walked
    (λ map next it given h. absurd (let most = length_within 0 map.archives it.archives.rising (omega arith) it.archives.within in let some : turns ≤ length map.archives = h.within in omega (arith, most, some, over)))
