-- The parts of a write to a table that was made.
use Rattle.std.proofs.Common.{◌≡◌, ◌⊎◌, inl, inr, ℕ, List, [], length, Option, Some, None, Ok, Err, Result, sym, ap, subst, ◌∙◌}
use Rattle.std.specs.Prelude.{slice_get}
use Rattle.sqlite.specs.Order.{Row}
use Rattle.sqlite.specs.Term.{Term}
use Rattle.sqlite.specs.Tree.{Trees}
use Rattle.sqlite.specs.Table.{Table}
use Rattle.sqlite.specs.Schema.{Schema}
use Rattle.sqlite.specs.Command.{Command}
use Rattle.sqlite.specs.Command.TheVariants.{Update, Delete}
use Rattle.sqlite.specs.Edit.{Edit, edit_of, taken_by, Applies}
use Rattle.sqlite.specs.Rowids.TheVariants.{Given}
use Rattle.sqlite_schema.specs.declared.schema.Keys.TheVariants.{Enforced}
use Rattle.sqlite_rules.specs.Calls.{ids_of}
use Rattle.sqlite_rules.specs.Action.{works}
use Rattle.sqlite.specs.declared.run.Mode.{Mode}
use Rattle.sqlite.specs.Effect.{Database}
use Rattle.sqlite.specs.Does.{Tally, AtPlace, OnTable, OnRows}
use Rattle.sqlite.specs.Rows.{Task, Written}
use Rattle.sqlite.proofs.Callers.{one_step}
use Rattle.job_record.specs.Commands.{query_on}
use Rattle.job_record.proofs.Shown.{AreShown, shown_rows}

pub same_value : {B E : Type 0} {a b : B} → ◌≡◌ {A = Result B E} (Ok a) (Ok b) → a ≡ b
same_value e = cc

-- a part that gave a value did not stop on the way
pub went : {B E R : Type 0} {b : B} {Stops : E → Type 0} → ((stop : E) × Stops stop × (Ok b ≡ Err stop)) ⊎ R → R
went (inl stopped) = absurd (let e = stopped.2 in cc)
went (inr on) = on

-- what is done to the table at a place is done to the one that stands there
pub on_rows : (limit : Option ℕ) (mode : Mode) (params : Row) (db : Database) (schema : Schema) → db.schema ≡ schema → (at : ℕ) (table : Table) → slice_get schema.tables at ≡ Some table → (command : Command) (tally : Tally) (after : Database)
    → OnTable limit mode params db at (λ task. OnRows task mode None command db.trees) (Ok (tally, after))
    → OnRows (record { limit = limit; keys = mode.keys; schema = schema; table = table; params = params }) mode None command db.trees (Ok (tally, after))
on_rows limit mode params db schema is at table placed command tally after h =
    subst (λ o. AtPlace (λ (t : Table). OnRows (record { limit = limit; keys = mode.keys; schema = schema; table = t; params = params }) mode None command db.trees) o (Ok (tally, after))) placed
    (subst (λ (s : Schema). OnTable limit mode params (record db { schema = s }) at (λ task. OnRows task mode None command db.trees) (Ok (tally, after))) is h)

-- no foreign key acts on what a table loses and gains
abbrev pub IsIdle : Schema → Table → Type 0
IsIdle schema table = (gone news : List Row) → works schema Enforced 0 table.tree gone news ≡ []

module _ (schema : Schema) (table : Table) (idle : IsIdle schema table) (limit : Option ℕ) (mode : Mode) (params : Row) (db : Trees) (tests project : List Term) where
  abbrev pub task : Task
  task = record { limit = limit; keys = Enforced; schema = schema; table = table; params = params }

  abbrev pub update_edit : List Row → Edit
  update_edit rows = edit_of db table (ids_of rows) Given 1 rows

  pub record Updated (tally : Tally) (after : Database) : Type 0 where
    pub rows : List Row
    pub shown : AreShown tests project (db table.tree) params rows
    pub applies : Applies schema Enforced db (update_edit rows) after.trees
    pub schema_is : after.schema ≡ schema
    pub count_is : tally.rows ≡ Some (length (update_edit rows).news)

  pub updated : (at : ℕ) (tally : Tally) (after : Database) → OnRows task mode None (Update at (record { lets = []; body = query_on table.tree tests project [] })) db (Ok (tally, after)) → Updated tally after
  updated at tally after h =
      let done = went h in
      let end = same_value (went (went done.2).2).2 in
      let queried = went done.1 in
      let edited = went queried.2 in
      let trees : done.0.trees ≡ edited.0 = ap (λ (it : Written). it.trees) (same_value edited.2) in
      let now : after.trees ≡ edited.0 = ap (λ (p : Tally × Database). p.1.trees) end ∙ trees in
      let rows : done.0.rows ≡ (update_edit queried.0).news = ap (λ (it : Written). it.rows) (same_value edited.2) in
      record {
        rows = queried.0;
        shown = shown_rows table.tree tests project [] db params queried.0 queried.1.answer;
        applies = subst (Applies schema Enforced db (update_edit queried.0)) (sym now) (one_step schema _ db edited.0 (update_edit queried.0) (idle (taken_by db (update_edit queried.0)) (update_edit queried.0).news) edited.1);
        schema_is = ap (λ (p : Tally × Database). p.1.schema) end;
        count_is = ap (λ (p : Tally × Database). p.0.rows) end ∙ ap (λ (rs : List Row). Some (length rs)) rows;
      }

  abbrev pub delete_edit : List Row → Edit
  delete_edit rows = edit_of db table (ids_of rows) Given 0 []

  pub record Deleted (tally : Tally) (after : Database) : Type 0 where
    pub rows : List Row
    pub shown : AreShown tests project (db table.tree) params rows
    pub applies : Applies schema Enforced db (delete_edit rows) after.trees
    pub schema_is : after.schema ≡ schema
    pub count_is : tally.rows ≡ Some (length (taken_by db (delete_edit rows)))

  pub deleted : (at : ℕ) (tally : Tally) (after : Database) → OnRows task mode None (Delete at (record { lets = []; body = query_on table.tree tests project [] })) db (Ok (tally, after)) → Deleted tally after
  deleted at tally after h =
      let done = went h in
      let end = same_value (went (went done.2).2).2 in
      let queried = went done.1 in
      let edited = went queried.2 in
      let trees : done.0.trees ≡ edited.0 = ap (λ (it : Written). it.trees) (same_value edited.2) in
      let now : after.trees ≡ edited.0 = ap (λ (p : Tally × Database). p.1.trees) end ∙ trees in
      let rows : done.0.rows ≡ taken_by db (delete_edit queried.0) = ap (λ (it : Written). it.rows) (same_value edited.2) in
      record {
        rows = queried.0;
        shown = shown_rows table.tree tests project [] db params queried.0 queried.1.answer;
        applies = subst (Applies schema Enforced db (delete_edit queried.0)) (sym now) (one_step schema _ db edited.0 (delete_edit queried.0) (idle (taken_by db (delete_edit queried.0)) []) edited.1);
        schema_is = ap (λ (p : Tally × Database). p.1.schema) end;
        count_is = ap (λ (p : Tally × Database). p.0.rows) end ∙ ap (λ (rs : List Row). Some (length rs)) rows;
      }
