-- A record that is looked at as it is, also one of version 1.
use Rattle.std.proofs.Common.{◌≡◌, ◌⊎◌, inl, inr, ℕ, ℤ, pos, Bool, true, false, List, [], ◌∷◌, drop, Some, Result, Ok, Err, IsTrue, refl, sym, ap, subst, ◌∙◌}
use Rattle.std.specs.Prelude.{OnOk}
use Rattle.std.specs.List.Sorted.{IsSorted}
use Rattle.sqlite.specs.Collation.TheVariants.{Binary}
use Rattle.sqlite.specs.Store.{Ghosts}
use Rattle.sqlite.specs.Program.{overlay}
use Rattle.sqlite.specs.Query.{IsSureAnswer}
use Rattle.sqlite.specs.Order.{Row as Columns, column}
use Rattle.sqlite.specs.Term.{col, eval_all}
use Rattle.sqlite.specs.Effect.{Database, IsDatabase}
use Rattle.sqlite.specs.Listing.{understood}
use Rattle.sqlite.specs.State.{State, IsUnchanged, IsRolledBack, Shown}
use Rattle.sqlite.specs.Held.{Held, state}
use Rattle.sqlite.proofs.Callers.{IsPlain, reads_as, unchanged_then}
use Rattle.sqlite_value.specs.Keys.{ascending}
use Rattle.sqlite_rules.specs.Lists.{Has}
use Rattle.sqlite_rules.proofs.ListLemmas.{any_has}
use Rattle.job_rows.specs.declared.row.Row.{Row}
use Rattle.job_record.specs.declared.fault.RecordFault.{RecordFault}
use Rattle.job_record.specs.declared.fault.RecordFault.TheVariants.{NotARecord, WrongVersion, NoRow, Store, UsesSpent, OutOfMemory}
use Rattle.job_record.specs.Statements.{version_text, list_text}
use Rattle.job_record.specs.Places.{job_tree, HasFirst}
use Rattle.job_record.specs.Keyed.{IsKeyed}
use Rattle.job_record.specs.Columns.{IsUnread, AreRowsOf}
use Rattle.job_record.specs.RecordMap.{Lists}
use Rattle.job_record.specs.Opening.{AreThere, ReadsVersion}
use Rattle.job_record.specs.Map.{IsRecord, held, by_key}
use Rattle.job_record.specs.OpenMap.{IsBlank, IsFirst}
use Rattle.job_record.specs.Seen.{SeesIn}
use Rattle.job_record.specs.inner.Opened.{ReadsAs}
use Rattle.job_record.specs.Commands.{columns, list_on}
use Rattle.job_record.proofs.ArchiveMade.{job_was}
use Rattle.job_record.proofs.Compiled.{list_first, list_first_is, version_plain, version_first}
use Rattle.job_record.proofs.KeyOrder.{rows_sorted}
use Rattle.job_record.proofs.OpenedMap.{blank_none, plain_at, version_same}
use Rattle.job_record.proofs.Queries.{shown_same, failed_same}
use Rattle.job_record.proofs.RowMap.{held_row, row_held}
use Rattle.job_record.proofs.Shapes.{Laid, laid_in}
use Rattle.job_record.proofs.Shown.{AreShown, shown_rows}

known_plain : (s : State) → IsFirst s ⊎ IsRecord s → IsPlain (understood s.now.schema version_text)
known_plain s (inl first) = version_first s.now.schema first.schema
known_plain s (inr it) = version_plain s.now.schema it.schema.tables

-- reading the version of a record changes nothing
version_seen : (old mid new : State) (n : ℤ) → IsUnchanged old mid → ReadsVersion mid new (Ok n) → IsFirst old ⊎ IsRecord old → IsUnchanged old new
version_seen old mid new n u reads known = unchanged_then old mid new u (version_same mid new (plain_at old mid u (known_plain old known)) n reads)

pub seen_by : (archive : Bool) (n : ℕ) (old mid new : State) → IsUnchanged old mid → (r : Result (Unit {0}) RecordFault) → ReadsAs archive mid new n r → OnOk r (IsFirst old ⊎ IsRecord old → IsUnchanged old new)
seen_by archive n old mid new u (Ok done) reads = version_seen old mid new (pos n) u reads
seen_by archive n old mid new u (Err fault) reads = tt

-- a store with the tables of a record is not blank
pub not_blank : (archive : Bool) (old : State) → AreThere old.now.schema true true archive → (r : Result (Unit {0}) RecordFault) → OnOk r (IsBlank old → ⊥)
not_blank archive old has (Ok done) = λ blank. blank_none old true archive blank has
not_blank archive old has (Err fault) = tt

-- ---- the rows of version 1

module _ (old new : State) (it : IsFirst old) where
  abbrev table : List Columns
  table = old.now.trees (job_tree old.now.schema)

  is_plain : IsPlain (understood old.now.schema list_text)
  is_plain = list_first old.now.schema it.schema

  laid_at : (r : Columns) → Has table r → Laid r
  laid_at = laid_in old.now.schema (job_was old.now.schema it.schema) old.now refl it.sound

  read : (all : List Columns) → Shown list_text [] old new all → IsSureAnswer (list_on (job_tree old.now.schema)) (overlay old.now.trees []) [] all
  read all h = let asks = list_first_is old.now.schema it.schema in (reads_as list_text [] old new old.now.schema refl _ asks.0 is_plain asks.1 all h).answer

  found : (all : List Columns) → Shown list_text [] old new all → AreShown [] columns table [] all
  found all h = shown_rows (job_tree old.now.schema) [] columns ((col 1 1, ascending Binary) ∷ []) old.now.trees [] all (read all h)

  row_is : (r : Columns) → Laid r → eval_all columns ([] ∷ r ∷ []) ≡ drop 1 r
  row_is r laid = ap (λ (z : Columns). eval_all columns ([] ∷ z ∷ [])) laid.is ∙ ap (λ (z : Columns). drop 1 z) (sym laid.is)

  sound : (all : List Columns) → AreShown [] columns table [] all → (c : Columns) → Has all c → (key : List ℕ) × (held old key ≡ Some c)
  sound all shown c h =
      let s = shown.sound c h in
      let laid = laid_at s.0 s.1 in
      (laid.key, held_row table laid.key it.keyed.keys s.0 s.1 (ap (λ (z : Columns). column z 1) laid.is) ∙ ap Some (sym (row_is s.0 laid) ∙ sym s.3))

  complete : (all : List Columns) → AreShown [] columns table [] all → (key : List ℕ) (c : Columns) → held old key ≡ Some c → Has all c
  complete all shown key c h =
      let r = row_held table key c h in
      let laid = laid_at r.0 r.1 in
      subst (Has all) (row_is r.0 laid ∙ sym r.3) (shown.complete r.0 r.1 refl)

  sorted : (all : List Columns) (rows : List Row) → Shown list_text [] old new all → AreRowsOf all rows → IsSorted by_key rows
  sorted all rows h are = rows_sorted (job_tree old.now.schema) old.now.trees laid_at all (read all h) rows are

  first_as : new.now ≡ old.now → new.committed ≡ old.committed → new.in_transaction ≡ false → IsFirst new
  first_as now committed mode = record {
    schema = subst (λ (d : Database). HasFirst d.schema) (sym now) it.schema;
    sound = subst IsDatabase (sym now) it.sound;
    keyed = subst (λ (d : Database). IsKeyed (d.trees (job_tree d.schema))) (sym now) it.keyed;
    settled = committed ∙ it.settled ∙ sym now;
    autocommit = mode;
  }

  first_still : IsUnchanged old new → IsFirst new
  first_still u = first_as u.0.now_is u.0.committed_is (u.0.mode ∙ it.autocommit)

  pub first_undone : IsUnchanged old new ⊎ IsRolledBack old new → IsTrue new.is_open → (new.now ≡ old.now) × IsFirst new
  first_undone (inl u) open_now = (u.0.now_is, first_still u)
  first_undone (inr r) open_now = let u = r.undone open_now in (u.0 ∙ it.settled, first_as (u.0 ∙ it.settled) u.1 r.autocommit)

module _ {S : Type 0} (g : Ghosts S) (old new : Held S) where
  shown_first : (all : List Columns) → IsFirst (state g old) → Shown list_text [] (state g old) (state g new) all → IsUnchanged (state g old) (state g new)
  shown_first all it h = shown_same list_text [] (state g old) (state g new) (is_plain (state g old) (state g new) it) all h

  pub list_sees : (result : Result (List Row) RecordFault) → Lists g old new result → IsFirst (state g old) → SeesIn (state g old) (state g new) result
  list_sees (Ok rows) h it =
      let there = found (state g old) (state g new) it h.0 h.1 in
      let u = shown_first h.0 it h.1 in (
        h.0,
        h.2,
        sound (state g old) (state g new) it h.0 there,
        complete (state g old) (state g new) it h.0 there,
        sorted (state g old) (state g new) it h.0 rows h.1 h.2,
        u,
        first_still (state g old) (state g new) it u,
      )
  list_sees (Err NotARecord) h it =
      let c = any_has IsUnread h.0 h.2 in
      let key = sound (state g old) (state g new) it h.0 (found (state g old) (state g new) it h.0 h.1) c.0 c.1 in
      let u = shown_first h.0 it h.1 in
      (key.0, c.0, key.1, c.2, u, first_still (state g old) (state g new) it u)
  list_sees (Err WrongVersion) h it = absurd h
  list_sees (Err NoRow) h it = absurd h
  list_sees (Err UsesSpent) h it = absurd h
  list_sees (Err (Store e)) (inl h) it = first_undone (state g old) (state g new) it (failed_same list_text [] (state g old) (state g new) (is_plain (state g old) (state g new) it) e h)
  list_sees (Err (Store e)) (inr h) it = first_undone (state g old) (state g new) it (inl (shown_first h.1 it h.2))
  list_sees (Err OutOfMemory) h it = first_undone (state g old) (state g new) it (inl (shown_first h.0 it h.1))
