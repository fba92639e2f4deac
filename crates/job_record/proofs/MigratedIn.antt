-- A migration inside its transaction: what it ran, and at which step it was refused.
use Rattle.std.proofs.Common.{◌⊎◌, inl, inr, ℕ, ◌≤◌, List, [], length, Ok, Err, refl, sym, ◌∙◌, true≢false}
use Rattle.sqlite.specs.Store.{Ghosts}
use Rattle.sqlite.specs.Order.{Row as Columns}
use Rattle.sqlite.specs.declared.error.Error.{Error}
use Rattle.sqlite.specs.State.{ExecutesInside, Shown, FailsToQuery, IsTooLate}
use Rattle.sqlite.specs.Held.{Held, state}
use Rattle.sqlite_rules.specs.Lists.{Has}
use Rattle.job_rows.specs.Map.{greatest_number}
use Rattle.job_record.specs.declared.fault.RecordFault.{RecordFault}
use Rattle.job_record.specs.declared.fault.RecordFault.TheVariants.{NotARecord, WrongVersion, NoRow, Store, UsesSpent, OutOfMemory}
use Rattle.job_record.specs.Archives.{make_archive, archived_text, renote_version}
use Rattle.job_record.specs.Opening.{CannotMigrate, migrate_texts}
use Rattle.job_record.specs.inner.Inside.{GoesOn, GoesTo}
use Rattle.job_record.specs.inner.Opened.{CannotAdd, AddsOrFails, MigratesIn}
use Rattle.job_record.proofs.Chain.{goes_then, goes_keeps, keeps_then}
use Rattle.job_record.proofs.Looking.{shown_goes, all_keeps}
use Rattle.job_record.proofs.Stepping.{goes_on}
use Rattle.job_record.proofs.Traced.{executed, not_executed, not_shown, all_read, blamed_then, goes_then as goes_to}
use Rattle.job_record.proofs.Undone.{kept_inside}

-- the migration's statements
makes_one : Has migrate_texts make_archive
makes_one = inl refl

reads_one : Has migrate_texts archived_text
reads_one = inr (inl refl)

notes_one : Has migrate_texts renote_version
notes_one = inr (inr (inr (inl refl)))

module _ {S : Type 0} (g : Ghosts S) (first : Held S) where
  pub make_fails : (to : Held S) (e : Error) → ExecutesInside 0 make_archive [] (state g first) (state g to) (Err e) → MigratesIn g first to (Err (Store e))
  make_fails to e ran = (kept_inside make_archive [] (state g first) (state g to) e ran, not_executed g migrate_texts make_archive makes_one [] first to e ran)

  module _ (made : Held S) (n : ℕ) (makes : ExecutesInside 0 make_archive [] (state g first) (state g made) (Ok n)) where
    to_made : GoesOn (state g first) (state g made)
    to_made = goes_on make_archive [] (state g first) (state g made) n makes

    ran_made : GoesTo g migrate_texts first made
    ran_made = executed g migrate_texts make_archive makes_one [] first made n makes

    pub read_fails : (to : Held S) (e : Error) → FailsToQuery archived_text [] (state g made) (state g to) e ⊎ IsTooLate archived_text [] (state g made) (state g to) e → MigratesIn g first to (Err (Store e))
    read_fails to e failed = (
      keeps_then (state g first) (state g made) (state g to) (goes_keeps (state g first) (state g made) to_made) (all_keeps archived_text [] (state g made) (state g to) to_made.going e failed),
      blamed_then g migrate_texts first made (Store e) ran_made (λ on. elim failed [
        | inl fails ↦ not_shown g migrate_texts archived_text reads_one [] made to e fails
        | inr late ↦ absurd (true≢false (sym on ∙ late.3))
      ]),
    )

    module _ (read : Held S) (all : List Columns) (shows : Shown archived_text [] (state g made) (state g read) all) where
      pub to_read : GoesOn (state g first) (state g read)
      to_read = goes_then (state g first) (state g made) (state g read) to_made (shown_goes archived_text [] (state g made) (state g read) to_made.going all shows)

      ran_read : GoesTo g migrate_texts first read
      ran_read = goes_to g migrate_texts first made read ran_made (λ on. all_read g migrate_texts archived_text reads_one [] made read all on shows (Ok (tt {0})) tt)

      why : (fault : RecordFault) → CannotAdd g read all fault → CannotMigrate g first fault
      why NotARecord unread = record { made = made; read = read; all = all; count = n; makes = makes.0; shows = shows; unread = unread }
      why WrongVersion none = none
      why NoRow none = none
      why (Store e) blames = blamed_then g migrate_texts first read (Store e) ran_read (λ on. blames)
      why UsesSpent none = none
      why OutOfMemory it = it

      pub add_fails : (to : Held S) (fault : RecordFault) → AddsOrFails g read to all (Err fault) → MigratesIn g first to (Err fault)
      add_fails to fault failed = (keeps_then (state g first) (state g read) (state g to) (goes_keeps (state g first) (state g read) to_read) failed.0, why fault failed.1)

      module _ (added : Held S) (adds : AddsOrFails g read added all (Ok (tt {0}))) where
        pub to_added : GoesOn (state g first) (state g added)
        to_added = goes_then (state g first) (state g read) (state g added) to_read adds.1

        ran_added : GoesTo g migrate_texts first added
        ran_added = goes_to g migrate_texts first read added ran_read (λ on. adds.2)

        pub note_fails : (to : Held S) (e : Error) → ExecutesInside 0 renote_version [] (state g added) (state g to) (Err e) → MigratesIn g first to (Err (Store e))
        note_fails to e ran = (
          keeps_then (state g first) (state g added) (state g to) (goes_keeps (state g first) (state g added) to_added) (kept_inside renote_version [] (state g added) (state g to) e ran),
          blamed_then g migrate_texts first added (Store e) ran_added (λ on. not_executed g migrate_texts renote_version notes_one [] added to e ran),
        )

        pub migrates : (last : Held S) (m : ℕ) → length all ≤ greatest_number → ExecutesInside 0 renote_version [] (state g added) (state g last) (Ok m) → MigratesIn g first last (Ok (tt {0}))
        migrates last m few notes = (
          record { made = made; read = read; added = added; all = all; counts = (n, m); makes = makes.0; shows = shows; few = few; adds = adds.0; notes = notes.0 },
          goes_then (state g first) (state g added) (state g last) to_added (goes_on renote_version [] (state g added) (state g last) m notes),
          goes_to g migrate_texts first added last ran_added (λ on. executed g migrate_texts renote_version notes_one [] added last m notes),
        )
