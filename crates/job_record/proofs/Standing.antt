-- A database with the tables of a record, and what a statement on one of them leaves of the others.
use Rattle.std.proofs.Common.{◌≡◌, ◌≢◌, ◌⊎◌, ℕ, suc, true, false, not, ℤ, List, [], ◌∷◌, drop, Option, Some, None, refl, sym, ap, subst, ◌∙◌, Less, true≢false}
use Rattle.std.proofs.lemmas.Bool.{and_parts, not-true}
use Rattle.sqlite.specs.declared.types.Value.TheVariants.{Text}
use Rattle.sqlite.specs.Order.{Row, column, value_cmp}
use Rattle.sqlite.specs.Tree.{Trees}
use Rattle.sqlite.specs.Table.{Table}
use Rattle.sqlite.specs.Schema.{Schema}
use Rattle.sqlite.specs.Edit.{Edit, Applies, without_all, put_all}
use Rattle.sqlite.specs.Effect.{Database, IsDatabase}
use Rattle.sqlite.specs.State.{State}
use Rattle.sqlite_schema.specs.Rules.{are_typed, are_present}
use Rattle.sqlite_schema.specs.declared.schema.Constraint.TheVariants.{Datatype, NotNull}
use Rattle.sqlite_schema.specs.declared.schema.Keys.TheVariants.{Enforced}
use Rattle.sqlite_trees.specs.Tree.{IsTable, rowid, has_rowid, without_rowid, put_row}
use Rattle.sqlite_trees.proofs.TreeLemmas.{IsTable-put_row}
use Rattle.sqlite_trees.proofs.ListLemmas.{ascending-filter}
use Rattle.sqlite_rules.specs.Lists.{Has}
use Rattle.sqlite_rules.proofs.ListLemmas.{all_has}
use Rattle.job_record.specs.Tables.{archive_at}
use Rattle.job_record.specs.Places.{job_tree, job_in, archive_tree, archive_in, HasRecord}
use Rattle.job_record.specs.Keyed.{held_in, IsKeyed}
use Rattle.job_record.specs.Map.{KeyMap, held, HoldsMap, IsRecord}
use Rattle.job_record.proofs.OneKey.{HasTexts}
use Rattle.job_record.proofs.Placed.{job_there, archive_there, archive_not_job, row_passes}
use Rattle.job_record.proofs.Shapes.{Laid, laid_in, text_in}

pub record AreTables (whole : Schema) (db : Database) : Type 0 where
  pub schema : db.schema ≡ whole
  pub has : HasRecord whole
  pub sound : IsDatabase db
  pub keyed : IsKeyed (db.trees (job_tree whole))
  pub kept : IsKeyed (db.trees (archive_tree whole))
  pub ordered : IsTable (db.trees (archive_tree whole))

-- the trees of a map's rows and archives
abbrev pub rows_at : KeyMap → ℕ
rows_at map = job_tree map.beside.schema

abbrev pub archives_at : KeyMap → ℕ
archives_at map = archive_tree map.beside.schema

pub tables_of : (db : Database) (map : KeyMap) → HoldsMap db map → AreTables map.beside.schema db
tables_of db map it = record { schema = it.schema; has = it.has; sound = it.sound; keyed = it.keyed; kept = it.kept; ordered = it.ordered }

-- what the record has for a key
pub held_is : (s : State) (map : KeyMap) → HoldsMap s.now map → (key : List ℕ) → held s key ≡ map.rows key
held_is s map it key = ap (λ (t : Schema). held_in (s.now.trees (job_tree t)) key) it.schema ∙ it.rows key

pub tables_in : (s : State) → IsRecord s → AreTables s.now.schema s.now
tables_in s it = record { schema = refl; has = it.schema; sound = it.sound; keyed = it.keyed; kept = it.kept; ordered = it.ordered }

-- ---- the key of each row is a text

pub laid_row : (whole : Schema) (db : Database) → AreTables whole db → (r : Row) → Has (db.trees (job_tree whole)) r → Laid r
laid_row whole db it = laid_in whole (job_there whole it.has.tables) db it.schema it.sound

pub job_texts : (whole : Schema) (db : Database) → AreTables whole db → HasTexts (db.trees (job_tree whole))
job_texts whole db it r there = let laid = laid_row whole db it r there in (laid.key, ap (λ (z : Row). column z 1) laid.is)

none : false ≡ true → ⊥
none h = true≢false (sym h)

archive_key : (r : Row) → are_typed (archive_at 0).key 0 (archive_at 0).columns (drop 1 r) ≡ true → are_present (archive_at 0).key 0 (archive_at 0).columns r ≡ true → (k : List ℕ) × (column r 1 ≡ Text k)
archive_key [] t p = absurd (none p)
archive_key (id ∷ []) t p = absurd (none p)
archive_key (id ∷ a ∷ more) t p = text_in a (and_parts _ _ t).0 (not-true _ (and_parts _ _ p).0)

pub archive_texts : (whole : Schema) (db : Database) → AreTables whole db → HasTexts (db.trees (archive_tree whole))
archive_texts whole db it r h =
    let there = archive_there whole it.has.tables in
    archive_key r (and_parts _ _ (row_passes whole db it.schema it.sound Datatype (archive_in whole) there r h)).0 (row_passes whole db it.schema it.sound NotNull (archive_in whole) there r h)

-- ---- the other tables stand

-- each table but the one of this tree has the rows that it had
abbrev pub KeepsOthers : Schema → ℕ → Trees → Trees → Type 0
KeepsOthers schema tree old new = (t : Table) → Has schema.tables t → t.tree ≢ tree → new t.tree ≡ old t.tree

module _ (schema : Schema) (h : HasRecord schema) (db next : Trees) (edit : Edit) where
  pub others_kept : Applies schema Enforced db edit next → KeepsOthers schema edit.table.tree db next
  others_kept a t there = all_has _ schema.tables t a.tables there

  pub job_alone : edit.table ≡ job_in schema → Applies schema Enforced db edit next → next (archive_tree schema) ≡ db (archive_tree schema)
  job_alone is a = others_kept a (archive_in schema) (archive_there schema h.tables) (λ same. archive_not_job schema h (same ∙ ap (λ (t : Table). t.tree) is))

  pub archive_alone : edit.table ≡ archive_in schema → Applies schema Enforced db edit next → next (job_tree schema) ≡ db (job_tree schema)
  archive_alone is a = others_kept a (job_in schema) (job_there schema h.tables) (λ same. archive_not_job schema h (sym (same ∙ ap (λ (t : Table). t.tree) is)))

-- ---- how many rows a statement on one key met

abbrev pub MeetsKey : ℕ → Option Row → Type 0
MeetsKey count was = ((count ≡ 0) × (was ≡ None)) ⊎ ((n : ℕ) × (count ≡ suc n) × (c : Row) × (was ≡ Some c))

-- ---- the rowids of a table rise after an edit too

put_keeps : (news rows : List Row) → IsTable rows → IsTable (put_all rows news)
put_keeps [] rows up = up
put_keeps (r ∷ news) rows up = put_keeps news (put_row r rows) (IsTable-put_row r rows up)

without_keeps : (ids : List ℤ) (rows : List Row) → IsTable rows → IsTable (without_all rows ids)
without_keeps [] rows up = up
without_keeps (id ∷ ids) rows up = without_keeps ids (without_rowid id rows) (ascending-filter (λ (a b : Row). value_cmp (rowid a) (rowid b) ≡ Less) (λ r. not (has_rowid id r)) rows up)

pub edit_keeps : (schema : Schema) (db next : Trees) (edit : Edit) → Applies schema Enforced db edit next → IsTable (db edit.table.tree) → IsTable (next edit.table.tree)
edit_keeps schema db next edit a up = subst IsTable (sym a.rows) (put_keeps edit.news (without_all (db edit.table.tree) edit.gone) (without_keeps edit.gone (db edit.table.tree) up))
