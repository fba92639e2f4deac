-- The steps of a row that is put, and of the archives that have to go for it.
use Rattle.std.proofs.Common.{◌≡◌, inl, ℕ, ◌≤◌, Bool, true, false, if◌then◌else◌, List, [], ◌∷◌, ◌++◌, Option, Some, None, unwrap_or, Ok, Err, Result, IsTrue, refl, sym, ap, subst, ◌∙◌, arith}
use Rattle.std.specs.Prelude.{IfSome}
use Rattle.sqlite.specs.State.{State}
use Rattle.job_rows.specs.declared.archive.Archive.{Archive}
use Rattle.job_rows.specs.Map.{without_archive, next_used, total_bytes, greatest_number}
use Rattle.job_record.specs.declared.fault.RecordFault.{RecordFault}
use Rattle.job_record.specs.declared.fault.RecordFault.TheVariants.{OutOfMemory}
use Rattle.job_record.specs.declared.changes.Putting.{Putting}
use Rattle.job_record.specs.Map.{KeyMap, HoldsMap}
use Rattle.job_record.specs.inner.Inside.{Answer, Always, Never, Walks, WalksOn, bytes_at, IsCounted, IsStorable, SetsAlone, set_alone, own_of, own_key, CanLose, Loses, LosesFrom, after_loss, lost_in, lost_keys, total_after, Puts, CanPut, CannotPut}
use Rattle.job_record.proofs.ArchiveList.{list_of, total_bound}
use Rattle.job_record.proofs.Chain.{Both, walk_join, walk_join_fails, walk_done, walk_refuses, walk_fails, walk_later}
use Rattle.job_record.proofs.Standing.{archives_at}
use Rattle.job_record.proofs.Summed.{total_append, left_bytes}
use Rattle.job_record.proofs.Walked.{CanLoseFrom}

-- ---- the archives that have to go

abbrev pub TellsTotal : Answer ℕ
TellsTotal map bytes next = (next ≡ map) × (bytes ≡ total_bytes map.archives)

module _ (budget : ℕ) (row : Putting) (had : Option ℕ) (old mid new : State) (lost : List (List ℕ)) where
  abbrev answer_of : Result ℕ RecordFault → Result (List (List ℕ) × Option ℕ) RecordFault
  answer_of (Ok left) = Ok (lost, Some left)
  answer_of (Err fault) = Err fault

  loses : (left : ℕ) (map next : KeyMap) → LosesFrom [] lost map left next → Loses map (lost, Some left) next
  loses left map next told = (told.0, told.1, told.2)

  pub lose_counted : (before : ℕ) (r : Result ℕ RecordFault) → WalksOn old new (CanLoseFrom budget (total_after before row had)) (LosesFrom [] lost) Never r → WalksOn old new (CanLose (Some budget) (Some before) row had) Loses Never (answer_of r)
  lose_counted before (Ok left) one =
      walk_done (IsTrue old.is_open) old new (CanLoseFrom budget (total_after before row had)) (LosesFrom [] lost) Never (CanLose (Some budget) (Some before) row had) Loses Never (λ map it given. given) left (lost, Some left) one (λ map next it given told. loses left map next told)
  lose_counted before (Err fault) one =
      walk_fails (IsTrue old.is_open) old new (CanLoseFrom budget (total_after before row had)) (LosesFrom [] lost) Never (CanLose (Some budget) (Some before) row had) Loses Never (λ map it given. given) fault one (λ map given none. absurd none)

  abbrev Totals : Result ℕ RecordFault → Type 0
  Totals r = Walks (Unit {0}) old mid Always TellsTotal Never r

  pub lose_total_fails : (fault : RecordFault) → Totals (Err fault) → WalksOn old mid (CanLose (Some budget) None row had) Loses Never (Err fault)
  lose_total_fails fault one =
      walk_fails (IsTrue old.is_open) old mid Always TellsTotal Never (CanLose (Some budget) None row had) Loses Never (λ _ _ _. tt) fault (walk_later (IsTrue old.is_open) old mid Always TellsTotal Never (Err fault) one) (λ map given none. absurd none)

  can_lose : (total : ℕ) (map at : KeyMap) → CanLose (Some budget) None row had map → (at ≡ map) × (total ≡ total_bytes map.archives) → CanLoseFrom budget total at
  can_lose total map at given told = subst (CanLoseFrom budget total) (sym told.0) (given.0, told.1)

  pub lose_totalled : (total : ℕ) (r : Result ℕ RecordFault) → Totals (Ok total) → WalksOn mid new (CanLoseFrom budget total) (LosesFrom [] lost) Never r → WalksOn old new (CanLose (Some budget) None row had) Loses Never (answer_of r)
  lose_totalled total (Ok left) one two =
      walk_done (IsTrue old.is_open) old new (CanLose (Some budget) None row had) (Both TellsTotal total (LosesFrom [] lost)) Never (CanLose (Some budget) None row had) Loses Never (λ map it given. given) left (lost, Some left)
      (walk_join (IsTrue old.is_open) old mid new Always TellsTotal Never (CanLoseFrom budget total) (LosesFrom [] lost) Never (CanLose (Some budget) None row had) total
      (walk_later (IsTrue old.is_open) old mid Always TellsTotal Never (Ok total) one) (λ _ _ _. tt) (λ map at it held given told. can_lose total map at given told) Never left two)
      (λ map next it given told. subst (λ (m : KeyMap). Loses m (lost, Some left) next) told.1.0 (loses left told.0 next told.2))
  lose_totalled total (Err fault) one two =
      walk_join_fails (IsTrue old.is_open) old mid new Always TellsTotal Never (CanLoseFrom budget total) (LosesFrom [] lost) Never (CanLose (Some budget) None row had) total
      (walk_later (IsTrue old.is_open) old mid Always TellsTotal Never (Ok total) one) (λ _ _ _. tt) (λ map at it held given told. can_lose total map at given told) Loses Never fault two (λ map at it given told none. absurd none)

-- ---- the whole

module _ (budget counted : Option ℕ) (row : Putting) (old mid new : State) where
  abbrev Set : Result (Option ℕ) RecordFault → Type 0
  Set r = Walks (Unit {0}) old mid (λ map. IsStorable row) (SetsAlone row) (CannotPut row) r

  abbrev Lost : Option ℕ → Result (List (List ℕ) × Option ℕ) RecordFault → Type 0
  Lost had r = WalksOn mid new (CanLose budget counted row had) Loses Never r

  abbrev Whole : State → Result (List (List ℕ) × Option ℕ) RecordFault → Type 0
  Whole at r = Walks (Unit {0}) old at (CanPut budget counted row) (Puts row) (CannotPut row) r

  pub put_fails : (fault : RecordFault) → Set (Err fault) → Whole mid (Err fault)
  put_fails fault one = walk_fails (Unit {0}) old mid (λ map. IsStorable row) (SetsAlone row) (CannotPut row) (CanPut budget counted row) (Puts row) (CannotPut row) (λ map it given. given.2) fault one (λ map given why. why)

  -- the bytes of all archives once the row is set
  own_total : (archives : List Archive) → total_bytes (own_of row archives) ≡ (if row.stored.archived then row.bytes else 0)
  own_total archives = either row.stored.archived
    where
      either : (b : Bool) → total_bytes (if b then record { key = row.stored.key; bytes = row.bytes; used = next_used archives } ∷ [] else []) ≡ (if b then row.bytes else 0)
      either true = omega arith
      either false = refl

  own_low : IsStorable row → (if row.stored.archived then row.bytes else 0) ≤ greatest_number
  own_low storable = either row.stored.archived
    where
      either : (b : Bool) → (if b then row.bytes else 0) ≤ greatest_number
      either true = storable.bytes
      either false = omega arith

  total_is : (map : KeyMap) → HoldsMap old.now map → IsStorable row → (had : Option ℕ) → had ≡ bytes_at row.stored.key map → (before : ℕ) → before ≡ total_bytes map.archives → total_after before row had ≡ total_bytes (set_alone row map).archives
  total_is map it storable had had_is before before_is =
      let left = left_bytes row.stored.key map it.archives.apart in
      let own = own_total map.archives in
      let joined = total_append (without_archive row.stored.key map.archives) (own_of row map.archives) in
      let low = own_low storable in
      let most = total_bound _ map.archives (list_of (old.now.trees (archives_at map)) map.archives it.archives) in
      let gone : unwrap_or had 0 ≡ unwrap_or (bytes_at row.stored.key map) 0 = ap (λ o. unwrap_or o 0) had_is in
      omega (arith, left, own, joined, low, most, gone, before_is)

  counts : (map : KeyMap) → HoldsMap old.now map → CanPut budget counted row map → (had : Option ℕ) → had ≡ bytes_at row.stored.key map → IfSome counted (λ before. total_after before row had ≡ total_bytes (set_alone row map).archives)
  counts map it given had had_is = either counted given.1
    where
      either : (o : Option ℕ) → IsCounted o map → IfSome o (λ before. total_after before row had ≡ total_bytes (set_alone row map).archives)
      either None h = tt
      either (Some before) h = total_is map it given.2 had had_is before h

  can : (had : Option ℕ) (map at : KeyMap) → HoldsMap old.now map → CanPut budget counted row map → SetsAlone row map had at → CanLose budget counted row had at
  can had map at it given told = subst (CanLose budget counted row had) (sym told.0) (given.0, counts map it given had told.1)

  pub put_lose_fails : (had : Option ℕ) (fault : RecordFault) → Set (Ok had) → Lost had (Err fault) → Whole new (Err fault)
  put_lose_fails had fault one two =
      walk_join_fails (Unit {0}) old mid new (λ map. IsStorable row) (SetsAlone row) (CannotPut row) (CanLose budget counted row had) Loses Never (CanPut budget counted row) had one (λ map it given. given.2) (λ map at it held given told. can had map at it given told)
      (Puts row) (CannotPut row) fault two (λ map at it given told none. absurd none)

  both : (had : Option ℕ) (lost : List (List ℕ) × Option ℕ) → Set (Ok had) → Lost had (Ok lost) → Walks (Unit {0}) old new (CanPut budget counted row) (Both (SetsAlone row) had Loses) Never (Ok lost)
  both had lost one two =
      walk_join (Unit {0}) old mid new (λ map. IsStorable row) (SetsAlone row) (CannotPut row) (CanLose budget counted row had) Loses Never (CanPut budget counted row) had one (λ map it given. given.2) (λ map at it held given told. can had map at it given told) Never lost two

  pub put_out_of_memory : (had : Option ℕ) (lost : List (List ℕ) × Option ℕ) → Set (Ok had) → Lost had (Ok lost) → Whole new (Err OutOfMemory)
  put_out_of_memory had lost one two =
      walk_refuses (Unit {0}) old new (CanPut budget counted row) (Both (SetsAlone row) had Loses) Never (CanPut budget counted row) (Puts row) (CannotPut row) (λ map it given. given) lost OutOfMemory (both had lost one two) (λ map next it given told. inl tt)

  pub put_done : (had : Option ℕ) (lost : List (List ℕ) × Option ℕ) (keys : List (List ℕ)) → keys ≡ lost.0 ++ own_key row had → Set (Ok had) → Lost had (Ok lost) → Whole new (Ok (keys, lost.1))
  put_done had lost keys is one two =
      walk_done (Unit {0}) old new (CanPut budget counted row) (Both (SetsAlone row) had Loses) Never (CanPut budget counted row) (Puts row) (CannotPut row) (λ map it given. given) lost (keys, lost.1) (both had lost one two)
      (λ map next it given told.
      let set = told.1 in
      let gone = told.2 in (
        set.2,
        gone.0 ∙ ap (λ (m : KeyMap). after_loss (lost_in m) m) set.0,
        is ∙ ap (λ l. l ++ own_key row had) (gone.1 ∙ ap lost_keys set.0) ∙ ap (λ o. lost_keys (set_alone row map) ++ own_key row o) set.1,
        gone.2,
      ))
