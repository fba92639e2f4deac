-- The table of the archives, made in a store that has the tables of version 1, and what else is there.
use Rattle.std.proofs.Common.{◌≡◌, ◌≢◌, inl, inr, [], ◌∷◌, length, codes, false, refl, sym, ap, subst, ◌∙◌, arith}
use Rattle.sqlite.specs.Table.{Table}
use Rattle.sqlite.specs.Schema.{Schema}
use Rattle.sqlite.specs.Change.{next_tree}
use Rattle.sqlite.specs.Does.{lacks_sequence}
use Rattle.sqlite_schema.specs.Names.{same_name}
use Rattle.sqlite_rules.specs.Lists.{Has}
use Rattle.sqlite_catalog.specs.Listing.{automatic}
use Rattle.sqlite_catalog.proofs.StepLemmas.{table_below}
use Rattle.job_record.specs.Tables.{meta_at, job_at, archive_at}
use Rattle.job_record.specs.Places.{StandsAt, meta_place, meta_tree, meta_in, job_place, job_tree, job_in, archive_tree, HasTables, IsOther, RefersElsewhere, SparesVersion, HasOwnTree, HasOneKeyIndex, HasRecord, with_archive, HasFirst}
use Rattle.job_record.proofs.Beside.{own_idle}
use Rattle.job_record.proofs.Placed.{stands_there, tree_is, tables_at}
use Rattle.job_record.proofs.TableMade.{stands_last, stands_stays, was_or_new, own_new, own_stays, harmless_stays, index_was_or_new, key_stays}
use Rattle.job_record.proofs.TablesMade.{counted_after}
use Rattle.job_record.proofs.Unknown.{IsUnknown}
use Rattle.job_record.proofs.Writing.{IsIdle}

module _ (schema : Schema) (h : HasFirst schema) where
  abbrev whole : Schema
  whole = with_archive schema

  abbrev made : Table
  made = archive_at (next_tree schema)

  pub archive_free : IsUnknown schema (codes "archive")
  archive_free = (h.takes.free, h.takes.unclaimed.0, h.takes.unclaimed.1)

  pub counted : lacks_sequence whole ≡ false
  counted = counted_after schema (archive_at 0) refl h.takes.counted

  -- ---- the three tables

  pub meta_was : Has schema.tables (meta_in schema)
  meta_was = stands_there schema (meta_in schema) (meta_place schema) h.meta

  pub job_was : Has schema.tables (job_in schema)
  job_was = stands_there schema (job_in schema) (job_place schema) h.job

  meta_stays : StandsAt whole (meta_in schema) (meta_place schema)
  meta_stays = stands_stays schema (meta_in schema) (archive_at 0) (meta_place schema) h.meta

  job_stays : StandsAt whole (job_in schema) (job_place schema)
  job_stays = stands_stays schema (job_in schema) (archive_at 0) (job_place schema) h.job

  archive_stands : StandsAt whole made (length schema.tables)
  unfolding same_name
  archive_stands = stands_last schema (archive_at 0) h.takes.free refl h.takes.room

  tables : HasTables whole
  tables =
      tables_at whole (meta_tree schema) (meta_place schema) (job_tree schema) (job_place schema) (next_tree schema) (length schema.tables) meta_stays job_stays archive_stands
      (key_stays schema (archive_at 0) (job_in schema) h.keyed)

  pub same_meta : meta_tree whole ≡ meta_tree schema
  same_meta = tree_is whole (meta_in schema) (meta_place schema) meta_stays

  pub same_job : job_tree whole ≡ job_tree schema
  same_job = tree_is whole (job_in schema) (job_place schema) job_stays

  pub new_archive : archive_tree whole ≡ next_tree schema
  new_archive = tree_is whole made (length schema.tables) archive_stands

  -- ---- what else is there

  metas_stay : HasOwnTree whole (meta_in whole)
  metas_stay = subst (λ n. HasOwnTree whole (meta_at n)) (sym same_meta) (own_stays schema (archive_at 0) (meta_in schema) meta_was h.metas)

  jobs_stay : HasOwnTree whole (job_in whole)
  jobs_stay = subst (λ n. HasOwnTree whole (job_at n)) (sym same_job) (own_stays schema (archive_at 0) (job_in schema) job_was h.jobs)

  indexes_stay : HasOneKeyIndex whole
  indexes_stay i there unique at columns = elim (index_was_or_new schema (archive_at 0) i there) [
    | inl was ↦ subst (λ n. i ≡ automatic (job_at n) 0 (1 ∷ []) i.tree) (sym same_job) (h.indexes i was unique (at ∙ same_job) columns)
    | inr e ↦ let low = table_below schema (job_in schema) job_was in let is : i.table ≡ job_tree schema = at ∙ same_job in absurd (omega (arith, e, is, low))
  ]

  pub becomes_record : HasRecord whole
  becomes_record = record {
    tables = tables;
    apart = record {
      jobs = jobs_stay;
      archives = subst (λ n. HasOwnTree whole (archive_at n)) (sym new_archive) (own_new schema (archive_at 0));
      references = harmless_stays schema (archive_at 0) RefersElsewhere refl h.references;
      indexes = indexes_stay;
    };
  }

  -- no foreign key acts on the row of the version
  pub meta_idle : IsIdle whole (meta_in whole)
  meta_idle = own_idle whole (meta_in whole) metas_stay SparesVersion (harmless_stays schema (archive_at 0) SparesVersion refl h.versions) (λ reference spares. spares)

  module _ (t : Table) (there : Has whole.tables t) (other : IsOther whole t) where
    -- one that is none of the three was there
    pub other_was : Has schema.tables t
    other_was = elim (was_or_new schema (archive_at 0) t there) [ inl was ↦ was | inr is ↦ absurd (other.2 (is ∙ ap archive_at (sym new_archive))) ]

    pub not_meta : t.tree ≢ meta_tree whole
    not_meta same = other.0 (metas_stay t there same)
