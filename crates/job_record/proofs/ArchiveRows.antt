-- What the statements on the archive of a key make of the table.
use Rattle.std.proofs.Common.{◌≡◌, inl, inr, ℕ, ℤ, true, if◌then◌else◌, List, [], ◌∷◌, drop, Option, Some, None, Ok, refl, sym, ap, subst, ◌∙◌}
use Rattle.std.specs.Str.{bytes_eq}
use Rattle.sqlite.specs.declared.types.Value.TheVariants.{Null, Int, Text}
use Rattle.sqlite.specs.Order.{Row}
use Rattle.sqlite.specs.Tree.{Trees, rowid}
use Rattle.sqlite.specs.Schema.{Schema}
use Rattle.sqlite.specs.Term.{eval_all}
use Rattle.sqlite.specs.Cast.{cast_row}
use Rattle.sqlite.specs.Edit.{Edit, edit_of, taken_by, Applies, are_fresh, next_rowid, put_all}
use Rattle.sqlite.specs.Rowids.TheVariants.{Chosen}
use Rattle.sqlite.specs.Command.TheVariants.{Insert, Update, Delete}
use Rattle.sqlite.specs.Source.TheVariants.{Values}
use Rattle.sqlite_schema.specs.declared.schema.Keys.TheVariants.{Enforced}
use Rattle.sqlite_trees.specs.Tree.{IsTable}
use Rattle.sqlite_rules.proofs.TableLemmas.{put_all_has, put_all_keeps, put_all_adds}
use Rattle.sqlite.specs.Effect.{Database, IsDatabase}
use Rattle.sqlite.specs.Rows.{Written}
use Rattle.sqlite.specs.Does.{Tally}
use Rattle.sqlite.specs.State.{State, mode_of, Executes}
use Rattle.sqlite.proofs.Callers.{runs_as, one_step}
use Rattle.job_record.specs.Places.{job_tree, archive_place, archive_tree, archive_in}
use Rattle.job_record.specs.Archives.{add_text, use_text, remove_text}
use Rattle.job_record.specs.Keyed.{held_in, IsKeyed}
use Rattle.job_record.specs.Commands.{query_on, has_key, forget_project, use_project, add_row}
use Rattle.job_record.proofs.Compiled.{add_is, add_plain, use_is, use_plain, remove_is, remove_plain}
use Rattle.job_record.proofs.Shown.{AreShown}
use Rattle.job_record.proofs.Edits.{cast_int}
use Rattle.job_record.proofs.RowMap.{SetsRow, set_is, none_held}
use Rattle.job_record.proofs.KeyedRows.{keyed_set, fresh_apart}
use Rattle.job_record.proofs.Putting.{cast_null}
use Rattle.job_record.proofs.Beside.{archive_idle}
use Rattle.job_record.proofs.Standing.{AreTables, KeepsOthers, archive_texts, archive_alone, others_kept, edit_keeps}
use Rattle.job_record.proofs.Writing.{IsIdle, on_rows, went, same_value, updated, deleted, update_edit, delete_edit}
use Rattle.job_record.proofs.OneKey.{only, lacks, found_is, replaces, sets_key, clears}

-- no foreign key acts on an archive
idle : {db : Database} (schema : Schema) → AreTables schema db → IsIdle schema (archive_in schema)
idle schema it = archive_idle schema it.has

-- the rows of the archives become these, and each other table stands
pub record Archived (schema : Schema) (old new : Database) (rows : List ℕ → Option Row) : Type 0 where
  pub tables : AreTables schema new
  pub rows_are : (k : List ℕ) → held_in (new.trees (archive_tree schema)) k ≡ rows k
  pub jobs_are : new.trees (job_tree schema) ≡ old.trees (job_tree schema)
  pub others_are : KeepsOthers schema (archive_tree schema) old.trees new.trees

module _ (schema : Schema) (old new : State) (key : List ℕ) (it : AreTables schema old.now) where
  abbrev params : Row
  params = Text key ∷ []

  abbrev db : Trees
  db = old.now.trees

  abbrev was : List ℕ → Option Row
  was = held_in (db (archive_tree schema))

  pub removes : (count : ℕ) → Executes remove_text params old new (Ok count) → Archived schema old.now new.now (λ k. if bytes_eq k key then None else was k)
  removes count h =
      let w = runs_as remove_text params old new schema it.schema _ (remove_is schema it.has.tables) (remove_plain schema it.has.tables) count h in
      let does = on_rows old.step_limit (mode_of old) params old.now schema it.schema (archive_place schema) (archive_in schema) it.has.tables.archive.placed (Delete (archive_place schema) (record { lets = []; body = query_on (archive_tree schema) has_key forget_project [] })) w.tally new.now w.changed in
      let d = deleted schema (archive_in schema) (idle schema it) old.step_limit (mode_of old) params db has_key forget_project (archive_place schema) w.tally new.now does in
      let c = clears schema (archive_in schema) db it.kept (archive_texts schema old.now it) key new.now.trees d.rows d.shown d.applies in
      let two = archive_alone schema it.has db new.now.trees (delete_edit schema (archive_in schema) (idle schema it) old.step_limit (mode_of old) params db has_key forget_project d.rows) refl d.applies in
      record {
        tables = record { schema = d.schema_is; has = it.has; sound = w.sound; keyed = subst IsKeyed (sym two) it.keyed; kept = c.0; ordered = edit_keeps schema db new.now.trees (delete_edit schema (archive_in schema) (idle schema it) old.step_limit (mode_of old) params db has_key forget_project d.rows) d.applies it.ordered };
        rows_are = c.1;
        jobs_are = two;
        others_are = others_kept schema it.has old.now.trees new.now.trees (delete_edit schema (archive_in schema) (idle schema it) old.step_limit (mode_of old) params db has_key forget_project d.rows) d.applies;
      }

-- ---- the number of a use

module _ (schema : Schema) (old new : State) (key : List ℕ) (bytes number used : ℤ) (it : AreTables schema old.now) (there : held_in (old.now.trees (archive_tree schema)) key ≡ Some (Text key ∷ Int bytes ∷ Int number ∷ [])) where
  abbrev use_params : Row
  use_params = Text key ∷ Int used ∷ []

  abbrev trees : Trees
  trees = old.now.trees

  abbrev edit : List Row → Edit
  edit = update_edit schema (archive_in schema) (idle schema it) old.step_limit (mode_of old) use_params trees has_key use_project

  abbrev made : ℤ → Row
  made id = Int id ∷ Text key ∷ Int bytes ∷ Int used ∷ []

  row_from : (r : Row) (id : ℤ) → rowid r ≡ Int id → drop 1 r ≡ Text key ∷ Int bytes ∷ Int number ∷ [] → r ≡ Int id ∷ Text key ∷ Int bytes ∷ Int number ∷ []
  row_from [] id is rest = absurd cc
  row_from (v ∷ r) id is rest = rw (is, rest) refl

  made_is : (x r : Row) (id : ℤ) → r ≡ Int id ∷ Text key ∷ Int bytes ∷ Int number ∷ [] → x ≡ eval_all use_project (use_params ∷ r ∷ []) → cast_row (archive_in schema) (drop 1 x) ≡ made id
  made_is x r id is x_is =
      ap (λ (z : Row). cast_row (archive_in schema) (drop 1 z)) x_is ∙ ap (λ (z : Row). cast_row (archive_in schema) (drop 1 (eval_all use_project (use_params ∷ z ∷ [])))) is
      ∙ rw (cast_int id, cast_int bytes, cast_int used) refl

  abbrev Renumbers : Trees → Type 0
  Renumbers next = IsKeyed (next (archive_tree schema)) × ((k : List ℕ) → held_in (next (archive_tree schema)) k ≡ if bytes_eq k key then Some (Text key ∷ Int bytes ∷ Int used ∷ []) else held_in (trees (archive_tree schema)) k)

  renumbered : (rows : List Row) → AreShown has_key use_project (trees (archive_tree schema)) use_params rows → Applies schema Enforced trees (edit rows) new.now.trees → Renumbers new.now.trees
  renumbered [] shown applies = absurd (let e : None ≡ Some (Text key ∷ Int bytes ∷ Int number ∷ []) = sym (lacks (trees (archive_tree schema)) it.kept (archive_texts schema old.now it) key (Int used ∷ []) use_project shown) ∙ there in cc)
  renumbered (x ∷ more) shown applies =
      let texts = archive_texts schema old.now it in
      let o = only (trees (archive_tree schema)) it.kept texts key (Int used ∷ []) use_project x more shown in
      let whole : Some (drop 1 o.row) ≡ Some (Text key ∷ Int bytes ∷ Int number ∷ []) = sym (found_is (trees (archive_tree schema)) it.kept texts key use_params use_project x more o) ∙ there in
      let rest : drop 1 o.row ≡ Text key ∷ Int bytes ∷ Int number ∷ [] = cc in
      let is = made_is x o.row o.id (row_from o.row o.id o.id_is rest) o.first in
      let r = replaces schema (archive_in schema) trees it.kept texts key new.now.trees use_params (drop 1 use_project) x more o applies (made o.id) is refl refl in
      (r.1, sets_key schema (archive_in schema) trees it.kept texts key new.now.trees use_params (drop 1 use_project) x more o applies (made o.id) is refl refl)

  pub renumbers : (count : ℕ) → Executes use_text use_params old new (Ok count) → Archived schema old.now new.now (λ k. if bytes_eq k key then Some (Text key ∷ Int bytes ∷ Int used ∷ []) else held_in (trees (archive_tree schema)) k)
  renumbers count h =
      let w = runs_as use_text use_params old new schema it.schema _ (use_is schema it.has.tables) (use_plain schema it.has.tables) count h in
      let does = on_rows old.step_limit (mode_of old) use_params old.now schema it.schema (archive_place schema) (archive_in schema) it.has.tables.archive.placed (Update (archive_place schema) (record { lets = []; body = query_on (archive_tree schema) has_key use_project [] })) w.tally new.now w.changed in
      let u = updated schema (archive_in schema) (idle schema it) old.step_limit (mode_of old) use_params trees has_key use_project (archive_place schema) w.tally new.now does in
      let r = renumbered u.rows u.shown u.applies in
      let two = archive_alone schema it.has trees new.now.trees (edit u.rows) refl u.applies in
      record {
        tables = record { schema = u.schema_is; has = it.has; sound = w.sound; keyed = subst IsKeyed (sym two) it.keyed; kept = r.0; ordered = edit_keeps schema trees new.now.trees (edit u.rows) u.applies it.ordered };
        rows_are = r.1;
        jobs_are = two;
        others_are = others_kept schema it.has old.now.trees new.now.trees (edit u.rows) u.applies;
      }

-- ---- an archive that is added

module _ (schema : Schema) (old new : State) (key : List ℕ) (bytes used : ℤ) (it : AreTables schema old.now) where
  abbrev add_params : Row
  add_params = Text key ∷ Int bytes ∷ Int used ∷ []

  abbrev table : List Row
  table = old.now.trees (archive_tree schema)

  abbrev pub added : Row
  added = Int (next_rowid (old.now.trees (archive_tree schema))) ∷ Text key ∷ Int bytes ∷ Int used ∷ []

  abbrev add_edit : List Row → Edit
  add_edit rows = edit_of old.now.trees (archive_in schema) [] Chosen 0 rows

  news_are : (add_edit ((Null ∷ add_params) ∷ [])).news ≡ added ∷ []
  news_are = rw (cast_null, cast_int bytes, cast_int used) refl

  -- the table has the new row beside those that were there
  pub record Added : Type 0 where
    pub schema_is : new.now.schema ≡ schema
    pub others_are : KeepsOthers schema (archive_tree schema) old.now.trees new.now.trees
    pub sound : IsDatabase new.now
    pub fresh : are_fresh (old.now.trees (archive_tree schema)) (added ∷ []) ≡ true
    pub rows_are : new.now.trees (archive_tree schema) ≡ put_all (old.now.trees (archive_tree schema)) (added ∷ [])
    pub jobs_are : new.now.trees (job_tree schema) ≡ old.now.trees (job_tree schema)
    pub ordered : IsTable (new.now.trees (archive_tree schema))

  pub added_by : (count : ℕ) → Executes add_text (Text key ∷ Int bytes ∷ Int used ∷ []) old new (Ok count) → Added
  added_by count h =
      let w = runs_as add_text add_params old new schema it.schema (Insert (archive_place schema) (Values add_row 4)) (add_is schema it.has.tables) (add_plain schema it.has.tables) count h in
      let done = went (on_rows old.step_limit (mode_of old) add_params old.now schema it.schema (archive_place schema) (archive_in schema) it.has.tables.archive.placed (Insert (archive_place schema) (Values add_row 4)) w.tally new.now w.changed) in
      let end = same_value (went (went done.2).2).2 in
      let sourced = went done.1 in
      let counter = went sourced.2 in
      let edited = went counter.2 in
      let counted = went edited.2 in
      let applies : Applies schema Enforced old.now.trees (add_edit sourced.0) edited.0 = one_step schema _ old.now.trees edited.0 (add_edit sourced.0) (idle schema it (taken_by old.now.trees (add_edit sourced.0)) (add_edit sourced.0).news) edited.1 in
      let applies = subst (λ rows. Applies schema Enforced old.now.trees (add_edit rows) edited.0) sourced.1.1 applies in
      let written : done.0.trees ≡ edited.0 = ap (λ (it : Written). it.trees) (same_value counted.2) ∙ same_value counted.1 in
      let now : new.now.trees ≡ edited.0 = ap (λ (p : Tally × Database). p.1.trees) end ∙ written in
      let applies = subst (Applies schema Enforced old.now.trees (add_edit ((Null ∷ add_params) ∷ []))) (sym now) applies in
      record {
        schema_is = ap (λ (p : Tally × Database). p.1.schema) end;
        others_are = others_kept schema it.has old.now.trees new.now.trees (add_edit ((Null ∷ add_params) ∷ [])) applies;
        sound = w.sound;
        fresh = subst (λ (l : List Row). are_fresh table l ≡ true) news_are applies.fresh;
        rows_are = applies.rows ∙ ap (put_all table) news_are;
        jobs_are = archive_alone schema it.has old.now.trees new.now.trees (add_edit ((Null ∷ add_params) ∷ [])) refl applies;
        ordered = edit_keeps schema old.now.trees new.now.trees (add_edit ((Null ∷ add_params) ∷ [])) applies it.ordered;
      }

  module _ (free : held_in (old.now.trees (archive_tree schema)) key ≡ None) where
    pub adds : (count : ℕ) → Executes add_text (Text key ∷ Int bytes ∷ Int used ∷ []) old new (Ok count)
        → Archived schema old.now new.now (λ k. if bytes_eq k key then Some (Text key ∷ Int bytes ∷ Int used ∷ []) else held_in (old.now.trees (archive_tree schema)) k)
    adds count h =
        let a = added_by count h in
        let next = put_all table (added ∷ []) in
        let s : SetsRow table next key added = record {
          keyed = refl;
          new_is = put_all_adds (added ∷ []) table added a.fresh (inl refl);
          sound = λ z h. elim (put_all_has (added ∷ []) table z h) [ inl is ↦ elim is [ inl same ↦ inl same | inr nothing ↦ absurd nothing ] | inr old_one ↦ inr (old_one, none_held table key free z old_one) ];
          kept = λ z h other. put_all_keeps (added ∷ []) table z a.fresh h;
        } in
        let k = keyed_set table next key it.kept added s (next_rowid table) refl (λ z h other tie. fresh_apart table added [] z a.fresh h tie) in
        record {
          tables = record { schema = a.schema_is; has = it.has; sound = a.sound; keyed = subst IsKeyed (sym a.jobs_are) it.keyed; kept = subst IsKeyed (sym a.rows_are) k; ordered = a.ordered };
          rows_are = λ j. ap (λ l. held_in l j) a.rows_are ∙ set_is table next key added s it.kept.keys j;
          jobs_are = a.jobs_are;
          others_are = a.others_are;
        }
