-- What the commands that change a record make of its map.
use Rattle.std.proofs.Common.{◌≡◌, inl, inr, ℕ, ◌+◌, List, [], ◌∷◌, ◌++◌, Option, Some, None, option_map, unwrap_or, Ok, Err, Result, refl, sym, ap, subst, ◌∙◌, append-nil, arith}
use Rattle.std.specs.Prelude.{OnOk, OnErr, find, option_to_list}
use Rattle.sqlite.specs.State.{State, HasCleanDisk, KeepsCommit}
use Rattle.job_rows.specs.declared.archive.Archive.{Archive}
use Rattle.job_rows.specs.declared.row.Row.{Row}
use Rattle.job_rows.specs.Map.{is_of, without_archive, touched, next_used, total_bytes, keeps_archive}
use Rattle.job_rows.specs.InStep.{AreApart}
use Rattle.job_record.specs.declared.fault.RecordFault.{RecordFault}
use Rattle.job_record.specs.declared.fault.RecordFault.TheVariants.{NotARecord, WrongVersion, NoRow, Store, UsesSpent, OutOfMemory}
use Rattle.job_record.specs.declared.changes.Putting.{Putting}
use Rattle.job_record.specs.declared.changes.Space.{Space}
use Rattle.job_record.specs.Counted.{FitsSpace, IsCount}
use Rattle.job_record.specs.RecordMap.{AnswersOpen}
use Rattle.job_record.specs.Map.{KeyMap, HoldsMap, IsRecordOf, Stands, PutsIn, TouchesIn, ChangesIn, Change, sets, touches, changed_by}
use Rattle.job_record.specs.inner.Inside.{Answer, Always, Changes, CrashesBy, Spares, Touches, CannotTouch, Takes, Lacks, Puts, CanPut, CannotPut, IsStorable, putting_of, bytes_at, done_of, space_without, total_without}
use Rattle.job_record.proofs.ArchiveList.{found_cases, found_in, none_there, without_absent}
use Rattle.job_record.proofs.Losing.{puts_all, keys_all}
use Rattle.job_record.proofs.Summed.{total_split, total_append, left_bytes}
use Rattle.sqlite.proofs.StateLemmas.{survives_weaker}
use Rattle.job_record.specs.Crash.{ChangesSafely, CrashesWhole}
use Rattle.job_record.proofs.Walked.{survives_same}
use Rattle.job_record.proofs.Safe.{Settles, record_of, made, stands, whole, changes_safely}

-- ---- what each answer says whatever the store is

module _ {T : Type 0} (Given : KeyMap → Type 0) (Told : Answer T) (Why : KeyMap → RecordFault → Type 0) (old new : State) where
  pub open_by : (result : Result T RecordFault) → Changes old new Given Told Why result → AnswersOpen old result
  open_by (Ok value) ch = ch.0
  open_by (Err NotARecord) ch = elim ch.2 [ inl none ↦ absurd none | inr was ↦ was ]
  open_by (Err WrongVersion) ch = elim ch.2 [ inl none ↦ absurd none | inr was ↦ was ]
  open_by (Err NoRow) ch = elim ch.2 [ inl none ↦ absurd none | inr was ↦ was ]
  open_by (Err (Store e)) ch = tt
  open_by (Err UsesSpent) ch = elim ch.2 [ inl none ↦ absurd none | inr was ↦ was ]
  open_by (Err OutOfMemory) ch = tt

  pub kept_by : (result : Result T RecordFault) → Changes old new Given Told Why result → OnErr result (KeepsCommit old new)
  kept_by (Ok value) ch = tt
  kept_by (Err fault) ch = record { was_open = λ now. (ch.0 now).0; committed = λ now. (ch.0 now).2 }

pub done_open : {T : Type 0} (old : State) (result : Result T RecordFault) → AnswersOpen old result → AnswersOpen old (done_of result)
done_open old (Ok value) h = h
done_open old (Err NotARecord) h = h
done_open old (Err WrongVersion) h = h
done_open old (Err NoRow) h = h
done_open old (Err (Store e)) h = h
done_open old (Err UsesSpent) h = h
done_open old (Err OutOfMemory) h = h

pub done_kept : {T : Type 0} (old new : State) (result : Result T RecordFault) → OnErr result (KeepsCommit old new) → OnErr (done_of result) (KeepsCommit old new)
done_kept old new (Ok value) h = h
done_kept old new (Err fault) h = h

pub done_safe : {T : Type 0} (space : Space) (old new : State) (c : Change) (result : Result T RecordFault) → ChangesSafely space old new c result → ChangesSafely space old new c (done_of result)
done_safe space old new c (Ok value) h = h
done_safe space old new c (Err NotARecord) h = h
done_safe space old new c (Err WrongVersion) h = h
done_safe space old new c (Err NoRow) h = h
done_safe space old new c (Err (Store e)) h = h
done_safe space old new c (Err UsesSpent) h = h
done_safe space old new c (Err OutOfMemory) h = h

-- ---- touch

total_touched : (key : List ℕ) (xs : List Archive) → AreApart xs → total_bytes (touched key xs) ≡ total_bytes xs
total_touched key xs apart = elim (found_cases (find (is_of key) xs)) [
  | inl none ↦ ap (λ o. total_bytes (without_archive key xs ++ option_to_list (option_map (λ (archive : Archive). record archive { used = next_used xs }) o))) none ∙ ap total_bytes (append-nil (without_archive key xs) ∙ without_absent key xs (none_there key xs none))
  | inr some ↦
      let a = some.0 in
      let at = found_in key xs a some.1 in
      let split : total_bytes xs ≡ a.bytes + total_bytes (without_archive key xs) = total_split xs a apart at.1 ∙ ap (λ k. a.bytes + total_bytes (without_archive k xs)) at.0 in
      let joined = total_append (without_archive key xs) (record a { used = next_used xs } ∷ []) in
      ap (λ o. total_bytes (without_archive key xs ++ option_to_list (option_map (λ (archive : Archive). record archive { used = next_used xs }) o))) some.1 ∙ omega (arith, split, joined)
]

module _ (key : List ℕ) (old new : State) (space : Space) where
  pub touch_tells : (map : KeyMap) (value : Unit {0}) (next : KeyMap) → HoldsMap old.now map → FitsSpace space map → Touches key map value next → next ≡ changed_by (touches key) map
  touch_tells map value next it fits told = told.2

  pub touches_in : (map : KeyMap) → FitsSpace space map → IsRecordOf old map → (result : Result (Unit {0}) RecordFault) → Changes old new Always (Touches key) (CannotTouch key) result → TouchesIn map old new key result
  touches_in map fits it (Ok done) ch =
      let n = ch.4 map it.holds tt in
      (n.2.0, n.2.1, made Always (Touches key) (CannotTouch key) (touches key) old new space (λ _ _. tt) touch_tells done ch map fits it)
  touches_in map fits it (Err NotARecord) ch = elim (ch.3 map it.holds tt) [ inl none ↦ absurd none | inr why ↦ absurd (elim why [ inl a ↦ (let e = a.0 in cc) | inr b ↦ (let e = b.0 in cc) ]) ]
  touches_in map fits it (Err WrongVersion) ch = elim (ch.3 map it.holds tt) [ inl none ↦ absurd none | inr why ↦ absurd (elim why [ inl a ↦ (let e = a.0 in cc) | inr b ↦ (let e = b.0 in cc) ]) ]
  touches_in map fits it (Err NoRow) ch =
      let s = stands Always (Touches key) (CannotTouch key) (touches key) old new space (λ _ _. tt) touch_tells NoRow ch map it in
      elim (ch.3 map it.holds tt) [ inl none ↦ absurd none | inr why ↦ elim why [ inl a ↦ (a.1, s) | inr b ↦ absurd (let e = b.0 in cc) ] ]
  touches_in map fits it (Err (Store e)) ch = stands Always (Touches key) (CannotTouch key) (touches key) old new space (λ _ _. tt) touch_tells (Store e) ch map it
  touches_in map fits it (Err UsesSpent) ch =
      let s = stands Always (Touches key) (CannotTouch key) (touches key) old new space (λ _ _. tt) touch_tells UsesSpent ch map it in
      elim (ch.3 map it.holds tt) [ inl none ↦ absurd none | inr why ↦ elim why [ inl a ↦ absurd (let e = a.0 in cc) | inr b ↦ (b.1, b.2, s) ] ]
  touches_in map fits it (Err OutOfMemory) ch = stands Always (Touches key) (CannotTouch key) (touches key) old new space (λ _ _. tt) touch_tells OutOfMemory ch map it

  counted_same : (counted : Option ℕ) (xs ys : List Archive) → total_bytes ys ≡ total_bytes xs → IsCount counted xs → IsCount counted ys
  counted_same None xs ys same h = tt
  counted_same (Some n) xs ys same h = h ∙ sym same

  pub touch_counts : (map : KeyMap) → FitsSpace space map → IsRecordOf old map → (result : Result (Unit {0}) RecordFault) → OnOk result (IsCount space.counted (changed_by (touches key) map).archives)
  touch_counts map fits it (Ok done) = counted_same space.counted map.archives (touched key map.archives) (total_touched key map.archives it.holds.archives.apart) fits.count
  touch_counts map fits it (Err fault) = tt

-- ---- drop_archive and forget

counted_without : (counted had : Option ℕ) (key : List ℕ) (map : KeyMap) → AreApart map.archives → had ≡ bytes_at key map → IsCount counted map.archives → IsCount (total_without counted had) (without_archive key map.archives)
counted_without None had key map apart is h = tt
counted_without (Some n) had key map apart is h =
    let left = left_bytes key map apart in
    let same : unwrap_or had 0 ≡ unwrap_or (bytes_at key map) 0 = ap (λ o. unwrap_or o 0) is in
    let total : n ≡ total_bytes map.archives = h in omega (arith, left, same, total)

module _ (change : Change) (key : List ℕ) (old new : State) (space : Space) where
  pub take_tells : (map : KeyMap) (value : Option ℕ) (next : KeyMap) → HoldsMap old.now map → FitsSpace space map → Takes change key map value next → next ≡ changed_by change map
  take_tells map value next it fits told = told.2

  pub takes_in : (map : KeyMap) → FitsSpace space map → IsRecordOf old map → (result : Result (Option ℕ) RecordFault) → Changes old new Always (Takes change key) (Lacks key) result → ChangesIn change key map old new (done_of result)
  takes_in map fits it (Ok had) ch =
      let n = ch.4 map it.holds tt in
      (n.2.0, made Always (Takes change key) (Lacks key) change old new space (λ _ _. tt) take_tells had ch map fits it)
  takes_in map fits it (Err NotARecord) ch = elim (ch.3 map it.holds tt) [ inl none ↦ absurd none | inr why ↦ absurd (let e = why.0 in cc) ]
  takes_in map fits it (Err WrongVersion) ch = elim (ch.3 map it.holds tt) [ inl none ↦ absurd none | inr why ↦ absurd (let e = why.0 in cc) ]
  takes_in map fits it (Err NoRow) ch =
      let s = stands Always (Takes change key) (Lacks key) change old new space (λ _ _. tt) take_tells NoRow ch map it in
      elim (ch.3 map it.holds tt) [ inl none ↦ absurd none | inr why ↦ (why.1, s) ]
  takes_in map fits it (Err (Store e)) ch = stands Always (Takes change key) (Lacks key) change old new space (λ _ _. tt) take_tells (Store e) ch map it
  takes_in map fits it (Err UsesSpent) ch = elim (ch.3 map it.holds tt) [ inl none ↦ absurd none | inr why ↦ absurd (let e = why.0 in cc) ]
  takes_in map fits it (Err OutOfMemory) ch = stands Always (Takes change key) (Lacks key) change old new space (λ _ _. tt) take_tells OutOfMemory ch map it

  pub take_counts : (map : KeyMap) → FitsSpace space map → IsRecordOf old map → (result : Result (Option ℕ) RecordFault) → (changed_by change map).archives ≡ without_archive key map.archives → Changes old new Always (Takes change key) (Lacks key) result
      → OnOk (done_of result) (IsCount (space_without space result).counted (changed_by change map).archives)
  take_counts map fits it (Ok had) is ch =
      let n = ch.4 map it.holds tt in
      subst (IsCount (total_without space.counted had)) (sym is) (counted_without space.counted had key map it.holds.archives.apart n.2.1 fits.count)
  take_counts map fits it (Err fault) is ch = tt

-- ---- put

abbrev pub keys_of : Result (List (List ℕ) × Option ℕ) RecordFault → Result (List (List ℕ)) RecordFault
keys_of (Ok lost) = Ok lost.0
keys_of (Err fault) = Err fault

module _ (row : Row) (old new : State) (space : Space) (storable : IsStorable (putting_of space.budget row)) where
  abbrev Given : KeyMap → Type 0
  Given = CanPut space.budget space.counted (putting_of space.budget row)

  abbrev Told : Answer (List (List ℕ) × Option ℕ)
  Told = Puts (putting_of space.budget row)

  abbrev Why : KeyMap → RecordFault → Type 0
  Why = CannotPut (putting_of space.budget row)

  pub put_given : (map : KeyMap) → FitsSpace space map → Given map
  put_given map fits = (fits.budget_is, fits.count, storable)

  pub put_tells : (map : KeyMap) (value : List (List ℕ) × Option ℕ) (next : KeyMap) → HoldsMap old.now map → FitsSpace space map → Told map value next → next ≡ changed_by (sets row) map
  put_tells map value next it fits told = told.1 ∙ puts_all space.budget row map fits.budget_is it.archives.apart

  keeps_same : (map : KeyMap) → FitsSpace space map → keeps_archive row map.budget ≡ keeps_archive row space.budget
  keeps_same map fits = ap (keeps_archive row) fits.budget_is

  pub puts_in : (map : KeyMap) → FitsSpace space map → IsRecordOf old map → (result : Result (List (List ℕ) × Option ℕ) RecordFault) → Changes old new Given Told Why result → PutsIn map old new row (keys_of result)
  puts_in map fits it (Ok lost) ch =
      let n = ch.4 map it.holds (put_given map fits) in (
        n.2.2 ∙ keys_all space.budget row map fits.budget_is it.holds.archives.apart,
        λ keeps. n.2.0 (sym (keeps_same map fits) ∙ keeps),
        made Given Told Why (sets row) old new space put_given put_tells lost ch map fits it,
      )
  puts_in map fits it (Err NotARecord) ch = elim (ch.3 map it.holds (put_given map fits)) [ inl none ↦ absurd none | inr why ↦ absurd (let e = why.0 in cc) ]
  puts_in map fits it (Err WrongVersion) ch = elim (ch.3 map it.holds (put_given map fits)) [ inl none ↦ absurd none | inr why ↦ absurd (let e = why.0 in cc) ]
  puts_in map fits it (Err NoRow) ch = elim (ch.3 map it.holds (put_given map fits)) [ inl none ↦ absurd none | inr why ↦ absurd (let e = why.0 in cc) ]
  puts_in map fits it (Err (Store e)) ch = stands Given Told Why (sets row) old new space put_given put_tells (Store e) ch map it
  puts_in map fits it (Err UsesSpent) ch =
      let s = stands Given Told Why (sets row) old new space put_given put_tells UsesSpent ch map it in
      elim (ch.3 map it.holds (put_given map fits)) [ inl none ↦ absurd none | inr why ↦ (keeps_same map fits ∙ why.1, why.2, s) ]
  puts_in map fits it (Err OutOfMemory) ch = stands Given Told Why (sets row) old new space put_given put_tells OutOfMemory ch map it

  pub put_counts : (map : KeyMap) → FitsSpace space map → IsRecordOf old map → (lost : List (List ℕ) × Option ℕ) → Changes old new Given Told Why (Ok lost) → IsCount lost.1 (changed_by (sets row) map).archives
  put_counts map fits it lost ch =
      let n = ch.4 map it.holds (put_given map fits) in
      subst (λ (m : KeyMap). IsCount lost.1 m.archives) (put_tells map lost n.0 it.holds fits n.2) n.2.3

-- the same of what was made ready from the row
module _ (row : Row) (old new : State) (space : Space) (putting : Putting) (is : putting ≡ putting_of space.budget row) (storable : IsStorable putting) where
  ready : IsStorable (putting_of space.budget row)
  ready = subst IsStorable is storable

  asked : (result : Result (List (List ℕ) × Option ℕ) RecordFault) → Changes old new (CanPut space.budget space.counted putting) (Puts putting) (CannotPut putting) result
      → Changes old new (CanPut space.budget space.counted (putting_of space.budget row)) (Puts (putting_of space.budget row)) (CannotPut (putting_of space.budget row)) result
  asked result = subst (λ p. Changes old new (CanPut space.budget space.counted p) (Puts p) (CannotPut p) result) is

  asked_crash : CrashesBy old new (CanPut space.budget space.counted putting) (Puts putting) → CrashesBy old new (CanPut space.budget space.counted (putting_of space.budget row)) (Puts (putting_of space.budget row))
  asked_crash = subst (λ p. CrashesBy old new (CanPut space.budget space.counted p) (Puts p)) is

  pub set_in : (result : Result (List (List ℕ) × Option ℕ) RecordFault) → Changes old new (CanPut space.budget space.counted putting) (Puts putting) (CannotPut putting) result → (map : KeyMap) → FitsSpace space map → IsRecordOf old map → PutsIn map old new row (keys_of result)
  set_in result changes map fits it = puts_in row old new space ready map fits it result (asked result changes)

  pub set_counts : (lost : List (List ℕ) × Option ℕ) → Changes old new (CanPut space.budget space.counted putting) (Puts putting) (CannotPut putting) (Ok lost) → (map : KeyMap) → FitsSpace space map → IsRecordOf old map → IsCount lost.1 (changed_by (sets row) map).archives
  set_counts lost changes map fits it = put_counts row old new space ready map fits it lost (asked (Ok lost) changes)

  pub set_whole : CrashesBy old new (CanPut space.budget space.counted putting) (Puts putting) → CrashesWhole old new space (sets row)
  set_whole crash =
      whole (Given row old new space ready) (Told row old new space ready) (Why row old new space ready) (sets row) old new space (put_given row old new space ready) (put_tells row old new space ready) (asked_crash crash)

  pub set_safe : Settles new → HasCleanDisk new → (result : Result (List (List ℕ) × Option ℕ) RecordFault) → Changes old new (CanPut space.budget space.counted putting) (Puts putting) (CannotPut putting) result → CrashesBy old new (CanPut space.budget space.counted putting) (Puts putting)
      → Spares old new result → ChangesSafely space old new (sets row) (keys_of result)
  set_safe settles clean result changes crash spares =
      keys_safe result
      (changes_safely (Given row old new space ready) (Told row old new space ready) (Why row old new space ready) (sets row) old new space (put_given row old new space ready) (put_tells row old new space ready) settles clean result (asked result changes) (asked_crash crash) spares)
    where
      keys_safe : (r : Result (List (List ℕ) × Option ℕ) RecordFault) → ChangesSafely space old new (sets row) r → ChangesSafely space old new (sets row) (keys_of r)
      keys_safe (Ok lost) h = h
      keys_safe (Err NotARecord) h = h
      keys_safe (Err WrongVersion) h = h
      keys_safe (Err NoRow) h = h
      keys_safe (Err (Store e)) h = h
      keys_safe (Err UsesSpent) h = h
      keys_safe (Err OutOfMemory) h = h

-- ---- nothing was done, for out of memory

pub idle_stands : (s : State) (map : KeyMap) → IsRecordOf s map → Stands s s
idle_stands s map it open_now = (refl, record_of s map it)

pub idle_keeps : (s : State) → KeepsCommit s s
idle_keeps s = record { was_open = λ now. now; committed = λ _. refl }

pub idle_whole : (s : State) (space : Space) (c : Change) → CrashesWhole s s space c
idle_whole s space c = survives_weaker s s (λ _. ⊥) _ (λ _ trees none. absurd none) (survives_same s)

pub idle_safe : (T : Type 0) (s : State) (space : Space) (c : Change) → ChangesSafely {T = T} space s s c (Err OutOfMemory)
idle_safe T s space c map refused fits safe = safe
