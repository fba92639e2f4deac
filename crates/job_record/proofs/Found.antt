-- The parts of an opening, put together.
use Rattle.std.proofs.Common.{inl, inr, pos, true, false, [], Ok, Err, Result}
use Rattle.sqlite.specs.Store.{Ghosts}
use Rattle.sqlite.specs.State.{HasCleanDisk, Survives, IsUnchanged, CommitsShowing}
use Rattle.sqlite.specs.Held.{Held, state}
use Rattle.sqlite.proofs.StateLemmas.{survives_then, survives_weaker}
use Rattle.job_record.specs.declared.fault.RecordFault.{RecordFault}
use Rattle.job_record.specs.declared.making.Tables.TheVariants as tables
use Rattle.job_record.specs.Statements.{version_text}
use Rattle.job_record.specs.Opening.{ReadsVersion, IsUnready, Opens}
use Rattle.job_record.specs.inner.Opened.{ReadsAs, HasThese, MakesOrFails, MigratesOrFails, OpensFirst, CommitsMigrated, CommitsFirst}

module _ {S : Type 0} (g : Ghosts S) where
  -- ---- a record of version 1

  module _ (old at new : Held S) where
    pub first_opens : ReadsVersion (state g old) (state g at) (Ok (pos 1)) → (r : Result (Unit {0}) RecordFault) → MigratesOrFails g at new r → OpensFirst g old new r
    first_opens reads (Ok done) m = (at, reads, m)
    first_opens reads (Err f) m = inr (at, reads, m.0, m.1)

    pub first_survives : (HasCleanDisk (state g new) → ReadsVersion (state g old) (state g at) (Ok (pos 1))) → Survives (state g old) (state g at) (CommitsShowing version_text [] (state g old))
        → Survives (state g at) (state g new) (CommitsMigrated g at) → Survives (state g old) (state g new) (CommitsFirst g old)
    first_survives reads one two =
        survives_then (state g old) (state g at) (state g new) (CommitsShowing version_text [] (state g old)) (CommitsMigrated g at) (CommitsFirst g old) (λ clean db shows. inl shows) (λ clean db made. inr (at, reads clean, made)) one two

  pub unread_survives : (old new : Held S) → Survives (state g old) (state g new) (CommitsShowing version_text [] (state g old)) → Survives (state g old) (state g new) (CommitsFirst g old)
  unread_survives old new one = survives_weaker (state g old) (state g new) (CommitsShowing version_text [] (state g old)) (CommitsFirst g old) (λ clean db shows. inl shows) one

  -- ---- by the tables that there are

  module _ (old found new : Held S) (u : IsUnchanged (state g old) (state g found)) where
    pub makes_opens : HasThese (state g old).now.schema tables.None → (r : Result (Unit {0}) RecordFault) → MakesOrFails g found new r → Opens g old new r
    makes_opens has (Ok done) m = inr (inl (found, (has, u), m))
    makes_opens has (Err f) m = inr (inl (found, (has, u), m.0, m.1.0, m.1.1, m.1.2))

    pub migrates_opens : HasThese (state g old).now.schema tables.First → (r : Result (Unit {0}) RecordFault) → OpensFirst g found new r → Opens g old new r
    migrates_opens has (Ok done) (at, reads, m) = inr (inr (at, (has, found, u, reads), m))
    migrates_opens has (Err f) (inl (inl reads)) = inl (inr (inr (inl (false, has, found, u, reads))))
    migrates_opens has (Err f) (inl (inr (n, reads, why))) = inl (inr (inr (inr (false, n, (has, found, u, reads), why))))
    migrates_opens has (Err f) (inr (at, reads, back, why)) = inr (inr (at, (has, found, u, reads), back, why))

    pub current_opens : HasThese (state g old).now.schema tables.All → (r : Result (Unit {0}) RecordFault) → ReadsAs true (state g found) (state g new) 2 r → Opens g old new r
    current_opens has (Ok done) reads = inl (has, found, u, reads)
    current_opens has (Err f) (inl reads) = inl (inr (inr (inl (true, has, found, u, reads))))
    current_opens has (Err f) (inr (n, reads, why)) = inl (inr (inr (inr (true, n, (has, found, u, reads), why))))

  pub unfound_opens : (old new : Held S) (f : RecordFault) → IsUnready g old new f → Opens g old new (Err f)
  unfound_opens old new f h = inl h
