-- Where the tables of a record stand, and that each has a tree of its own.
use Rattle.std.proofs.Common.{◌≡◌, ◌≢◌, ℕ, true, option_map, refl, sym, ap, subst, ◌∙◌}
use Rattle.std.specs.Prelude.{slice_get, unwrap_or}
use Rattle.sqlite.specs.Order.{Row}
use Rattle.sqlite.specs.Table.{Table}
use Rattle.sqlite.specs.Schema.{Schema}
use Rattle.sqlite.specs.Effect.{Database, IsDatabase}
use Rattle.sqlite_schema.specs.Rules.{passes, Keeps}
use Rattle.sqlite_schema.specs.declared.schema.Constraint.{Constraint}
use Rattle.sqlite_rules.specs.Lists.{Has}
use Rattle.sqlite_rules.proofs.ListLemmas.{all_has, has_got}
use Rattle.job_record.specs.Tables.{meta_at, job_at, archive_at}
use Rattle.job_record.specs.Places.{StandsAt, place_of, tree_of, meta_place, meta_tree, meta_in, job_place, job_tree, job_in, archive_place, archive_tree, archive_in, HasKeyIndex, HasTables, IsOther, HasRecord}

-- ---- a table that stands is found by its name

module _ (schema : Schema) (table : Table) (place : ℕ) (h : StandsAt schema table place) where
  place_is : place_of table.name schema ≡ place
  unfolding place_of
  place_is = ap (λ o. unwrap_or o 0) h.named

  pub tree_is : tree_of table.name schema ≡ table.tree
  unfolding tree_of
  tree_is =
      ap (λ at. unwrap_or (option_map (λ (t : Table). t.tree) (slice_get schema.tables at)) 0) place_is ∙ ap (λ o. unwrap_or (option_map (λ (t : Table). t.tree) o) 0) h.placed

  pub stands_there : Has schema.tables table
  stands_there = has_got schema.tables place table h.placed

module _ (schema : Schema) (at : ℕ → Table) (tree place : ℕ) (own : (t : ℕ) → (at t).tree ≡ t) (h : StandsAt schema (at tree) place) where
  pub stands_by : StandsAt schema (at (tree_of (at tree).name schema)) (place_of (at tree).name schema)
  stands_by =
      subst (λ t. StandsAt schema (at t) (place_of (at tree).name schema)) (sym (tree_is schema (at tree) place h ∙ own tree))
      (subst (StandsAt schema (at tree)) (sym (place_is schema (at tree) place h)) h)

pub tables_at : (schema : Schema) (mt mp jt jp at ap : ℕ) → StandsAt schema (meta_at mt) mp → StandsAt schema (job_at jt) jp → StandsAt schema (archive_at at) ap
    → HasKeyIndex schema (job_at jt) → HasTables schema
tables_at schema mt mp jt jp at ap meta job archive keyed = record {
  meta = stands_by schema meta_at mt mp (λ t. refl) meta;
  job = stands_by schema job_at jt jp (λ t. refl) job;
  archive = stands_by schema archive_at at ap (λ t. refl) archive;
  keyed = subst (λ t. HasKeyIndex schema (job_at t)) (sym (tree_is schema (job_at jt) jp job)) keyed;
}

-- ---- the three tables of a record

module _ (schema : Schema) (h : HasTables schema) where
  pub meta_there : Has schema.tables (meta_in schema)
  meta_there = stands_there schema (meta_in schema) (meta_place schema) h.meta

  pub job_there : Has schema.tables (job_in schema)
  job_there = stands_there schema (job_in schema) (job_place schema) h.job

  pub archive_there : Has schema.tables (archive_in schema)
  archive_there = stands_there schema (archive_in schema) (archive_place schema) h.archive

module _ (schema : Schema) (h : HasRecord schema) where
  pub archive_not_job : archive_tree schema ≢ job_tree schema
  archive_not_job same = let names = ap (λ (t : Table). t.name) (h.apart.jobs (archive_in schema) (archive_there schema h.tables) same) in cc

  pub meta_not_job : meta_tree schema ≢ job_tree schema
  meta_not_job same = let names = ap (λ (t : Table). t.name) (h.apart.jobs (meta_in schema) (meta_there schema h.tables) same) in cc

  pub meta_not_archive : meta_tree schema ≢ archive_tree schema
  meta_not_archive same = let names = ap (λ (t : Table). t.name) (h.apart.archives (meta_in schema) (meta_there schema h.tables) same) in cc

  module _ (t : Table) (there : Has schema.tables t) (other : IsOther schema t) where
    pub not_job : t.tree ≢ job_tree schema
    not_job same = other.1 (h.apart.jobs t there same)

    pub not_archive : t.tree ≢ archive_tree schema
    not_archive same = other.2 (h.apart.archives t there same)

-- ---- each row obeys the rules

pub row_passes : (schema : Schema) (db : Database) → db.schema ≡ schema → IsDatabase db → (rule : Constraint) (t : Table) → Has schema.tables t → (r : Row) → Has (db.trees t.tree) r → passes rule schema db.trees t r ≡ true
row_passes schema db is sound rule t there r h = all_has _ (db.trees t.tree) r (all_has _ schema.tables t (subst (λ s. Keeps rule s db.trees) is (sound.obeys.rules rule)) there) h
