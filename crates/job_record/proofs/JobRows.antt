-- What the statements on the row of a job make of the table.
use Rattle.std.proofs.Common.{◌≡◌, inl, inr, ℕ, ℤ, pos, if◌then◌else◌, List, [], ◌∷◌, length, drop, Option, Some, None, option_map, unwrap_or, Ok, refl, sym, ap, subst, ◌∙◌}
use Rattle.std.specs.Str.{bytes_eq}
use Rattle.std.proofs.lemmas.Bool.{cases_Bool}
use Rattle.sqlite.specs.declared.types.Value.{Value}
use Rattle.sqlite.specs.declared.types.Value.TheVariants.{Int, Text}
use Rattle.sqlite.specs.Order.{Row, column}
use Rattle.sqlite.specs.Tree.{Trees, rowid}
use Rattle.sqlite_trees.specs.Tree.{IsTable}
use Rattle.sqlite.specs.Schema.{Schema}
use Rattle.sqlite.specs.Term.{eval_all}
use Rattle.sqlite.specs.Cast.{cast_row}
use Rattle.sqlite.specs.Edit.{Edit, Applies}
use Rattle.sqlite_schema.specs.declared.schema.Keys.TheVariants.{Enforced}
use Rattle.sqlite.specs.Effect.{Database}
use Rattle.sqlite.specs.Command.TheVariants.{Update, Delete}
use Rattle.sqlite.specs.State.{State, mode_of, Executes}
use Rattle.sqlite.proofs.Callers.{runs_as}
use Rattle.job_record.specs.Places.{job_place, job_tree, job_in, archive_tree}
use Rattle.job_record.specs.Statements.{drop_archive_text, forget_text}
use Rattle.job_record.specs.Keyed.{held_in, IsKeyed}
use Rattle.job_record.specs.Map.{unarchived}
use Rattle.job_record.specs.Commands.{has_key, drop_project, drop_on, forget_project, forget_on}
use Rattle.job_record.proofs.Compiled.{drop_is, drop_plain, forget_is, forget_plain}
use Rattle.job_record.proofs.Beside.{job_idle}
use Rattle.job_record.proofs.KeyTest.{same_text}
use Rattle.job_record.proofs.Shapes.{Laid}
use Rattle.job_record.proofs.Shown.{AreShown}
use Rattle.job_record.proofs.Edits.{cast_int}
use Rattle.job_record.proofs.Standing.{AreTables, KeepsOthers, laid_row, job_texts, job_alone, others_kept, MeetsKey}
use Rattle.job_record.proofs.Writing.{IsIdle, on_rows, updated, deleted, update_edit, delete_edit}
use Rattle.job_record.proofs.OneKey.{only, lacks, found_is, replaces, replaced_count, sets_key, clears}

-- the rows of the jobs become these, and each other table stands
pub record Wrote (schema : Schema) (old new : Database) (rows : List ℕ → Option Row) : Type 0 where
  pub tables : AreTables schema new
  pub rows_are : (k : List ℕ) → held_in (new.trees (job_tree schema)) k ≡ rows k
  pub archives_are : new.trees (archive_tree schema) ≡ old.trees (archive_tree schema)
  pub others_are : KeepsOthers schema (job_tree schema) old.trees new.trees

module _ (schema : Schema) (old new : State) (key : List ℕ) (it : AreTables schema old.now) where
  idle : IsIdle schema (job_in schema)
  idle = job_idle schema it.has

  abbrev params : Row
  params = Text key ∷ []

  abbrev db : Trees
  db = old.now.trees

  abbrev was : List ℕ → Option Row
  was = held_in (db (job_tree schema))

  -- ---- DELETE

  pub forgets : (count : ℕ) → Executes forget_text params old new (Ok count) → Wrote schema old.now new.now (λ k. if bytes_eq k key then None else was k) × MeetsKey count (was key)
  forgets count h =
      let w = runs_as forget_text params old new schema it.schema _ (forget_is schema it.has.tables) (forget_plain schema it.has.tables) count h in
      let does = on_rows old.step_limit (mode_of old) params old.now schema it.schema (job_place schema) (job_in schema) it.has.tables.job.placed (Delete (job_place schema) (record { lets = []; body = forget_on (job_tree schema) })) w.tally new.now w.changed in
      let d = deleted schema (job_in schema) idle old.step_limit (mode_of old) params db has_key forget_project (job_place schema) w.tally new.now does in
      let c = clears schema (job_in schema) db it.keyed (job_texts schema old.now it) key new.now.trees d.rows d.shown d.applies in
      let four = job_alone schema it.has db new.now.trees (delete_edit schema (job_in schema) idle old.step_limit (mode_of old) params db has_key forget_project d.rows) refl d.applies in
      let number = w.counted ∙ ap (λ o. unwrap_or o 0) d.count_is in (
        record {
          tables = record { schema = d.schema_is; has = it.has; sound = w.sound; keyed = c.0; kept = subst IsKeyed (sym four) it.kept; ordered = subst IsTable (sym four) it.ordered };
          rows_are = c.1;
          archives_are = four;
          others_are = others_kept schema it.has db new.now.trees (delete_edit schema (job_in schema) idle old.step_limit (mode_of old) params db has_key forget_project d.rows) d.applies;
        },
        subst (λ n. MeetsKey n (was key)) (sym number) c.2,
      )

  -- ---- UPDATE

  -- the row that is written in place of the one that is there
  written : (r : Row) → Laid r → ℤ → Row
  written r laid id = Int id ∷ Text laid.key ∷ Text laid.outputs ∷ Text laid.files ∷ Int laid.cost ∷ Int (pos 0) ∷ []

  written_is : (id : ℤ) (v : Value) (k o f : List ℕ) (c a : ℤ) → v ≡ Int id → cast_row (job_in schema) (drop 1 (eval_all drop_project (params ∷ (v ∷ Text k ∷ Text o ∷ Text f ∷ Int c ∷ Int a ∷ []) ∷ []))) ≡ Int id ∷ Text k ∷ Text o ∷ Text f ∷ Int c ∷ Int (pos 0) ∷ []
  written_is id v k o f c a is = rw (is, cast_int id, cast_int c, cast_int (pos 0)) refl

  dropped_row : (x : Row) (r : Row) (laid : Laid r) (id : ℤ) → rowid r ≡ Int id → x ≡ eval_all drop_project (params ∷ r ∷ []) → cast_row (job_in schema) (drop 1 x) ≡ written r laid id
  unfolding written
  dropped_row x r laid id is x_is =
      ap (λ (z : Row). cast_row (job_in schema) (drop 1 z)) x_is ∙ ap (λ (z : Row). cast_row (job_in schema) (drop 1 (eval_all drop_project (params ∷ z ∷ [])))) laid.is
      ∙ written_is id laid.id laid.key laid.outputs laid.files laid.cost laid.archived (sym (ap (λ (z : Row). rowid z) laid.is) ∙ is)

  unarchived_is : (r : Row) (laid : Laid r) (id : ℤ) → drop 1 (written r laid id) ≡ unarchived (drop 1 r)
  unfolding written
  unarchived_is r laid id = ap (λ (z : Row). unarchived (drop 1 z)) (sym laid.is)

  key_kept : (r : Row) (laid : Laid r) (id : ℤ) → column r 1 ≡ Text key → column (written r laid id) 1 ≡ Text key
  unfolding written
  key_kept r laid id key_is = sym (ap (λ (z : Row). column z 1) laid.is) ∙ key_is

  id_kept : (r : Row) (laid : Laid r) (id : ℤ) → rowid (written r laid id) ≡ Int id
  unfolding written
  id_kept r laid id = refl

  abbrev edit : List Row → Edit
  edit = update_edit schema (job_in schema) idle old.step_limit (mode_of old) params db has_key drop_project

  flagged : (c : Row) (k : List ℕ) → was key ≡ Some c → (if bytes_eq k key then Some (unarchived c) else was k) ≡ (if bytes_eq k key then option_map unarchived (was k) else was k)
  flagged c k is = elim (cases_Bool (bytes_eq k key)) [ inl same ↦ rw (same, same_text k key same, is) refl | inr other ↦ rw other refl ]

  unflagged : (k : List ℕ) → was key ≡ None → was k ≡ (if bytes_eq k key then option_map unarchived (was k) else was k)
  unflagged k none = elim (cases_Bool (bytes_eq k key)) [ inl same ↦ rw (same, same_text k key same, none) refl | inr other ↦ rw other refl ]

  abbrev Drops : List Row → Type 0
  Drops rows = IsKeyed (new.now.trees (job_tree schema)) × ((k : List ℕ) → held_in (new.now.trees (job_tree schema)) k ≡ if bytes_eq k key then option_map unarchived (was k) else was k) × MeetsKey (length (edit rows).news) (was key)

  dropped : (rows : List Row) → AreShown has_key drop_project (db (job_tree schema)) params rows → Applies schema Enforced db (edit rows) new.now.trees → Drops rows
  dropped [] shown applies =
      let none = lacks (db (job_tree schema)) it.keyed (job_texts schema old.now it) key [] drop_project shown in
      (subst IsKeyed (sym applies.rows) it.keyed, (λ k. ap (λ rows. held_in rows k) applies.rows ∙ unflagged k none), inl (refl, none))
  dropped (x ∷ more) shown applies =
      let texts = job_texts schema old.now it in
      let o = only (db (job_tree schema)) it.keyed texts key [] drop_project x more shown in
      let laid = laid_row schema old.now it o.row o.there in
      let made = written o.row laid o.id in
      let is = dropped_row x o.row laid o.id o.id_is o.first in
      let at = key_kept o.row laid o.id o.key_is in
      let id = id_kept o.row laid o.id in
      let rest = drop 1 drop_project in
      let r = replaces schema (job_in schema) db it.keyed texts key new.now.trees params rest x more o applies made is at id in
      let sets = sets_key schema (job_in schema) db it.keyed texts key new.now.trees params rest x more o applies made is at id in
      let found = found_is (db (job_tree schema)) it.keyed texts key params drop_project x more o in (
        r.1,
        λ k. sets k ∙ ap (λ (c : Row). if bytes_eq k key then Some c else was k) (unarchived_is o.row laid o.id) ∙ flagged (drop 1 o.row) k found,
        inr (_, replaced_count schema (job_in schema) db it.keyed texts key new.now.trees params rest x more o applies made is at id, drop 1 o.row, found),
      )

  pub drops : (count : ℕ) → Executes drop_archive_text params old new (Ok count) → Wrote schema old.now new.now (λ k. if bytes_eq k key then option_map unarchived (was k) else was k) × MeetsKey count (was key)
  drops count h =
      let w = runs_as drop_archive_text params old new schema it.schema _ (drop_is schema it.has.tables) (drop_plain schema it.has.tables) count h in
      let does = on_rows old.step_limit (mode_of old) params old.now schema it.schema (job_place schema) (job_in schema) it.has.tables.job.placed (Update (job_place schema) (record { lets = []; body = drop_on (job_tree schema) })) w.tally new.now w.changed in
      let u = updated schema (job_in schema) idle old.step_limit (mode_of old) params db has_key drop_project (job_place schema) w.tally new.now does in
      let d = dropped u.rows u.shown u.applies in
      let four = job_alone schema it.has db new.now.trees (edit u.rows) refl u.applies in
      let number = w.counted ∙ ap (λ o. unwrap_or o 0) u.count_is in (
        record {
          tables = record { schema = u.schema_is; has = it.has; sound = w.sound; keyed = d.0; kept = subst IsKeyed (sym four) it.kept; ordered = subst IsTable (sym four) it.ordered };
          rows_are = d.1;
          archives_are = four;
          others_are = others_kept schema it.has db new.now.trees (edit u.rows) u.applies;
        },
        subst (λ n. MeetsKey n (was key)) (sym number) d.2,
      )
