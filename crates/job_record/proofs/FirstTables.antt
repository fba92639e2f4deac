-- The tables of version 1 stand in the store in which they were made.
use Rattle.std.proofs.Common.{◌≡◌, [], ◌∷◌, length, refl, sym, subst, lit<}
use Rattle.sqlite.specs.Schema.{Schema}
use Rattle.sqlite.specs.Change.{created, next_tree}
use Rattle.sqlite_catalog.specs.Listing.{automatic}
use Rattle.job_record.specs.Tables.{meta_at, job_at}
use Rattle.job_record.specs.Places.{HasKeyIndex, meta_tree, job_tree, RefersElsewhere, SparesVersion, AreHarmless, HasOwnTree, IsVacant, with_first, HasFirst, StandsFirst}
use Rattle.job_record.proofs.Placed.{stands_by, tree_is}
use Rattle.job_record.proofs.TablesMade.{meta_made, job_made, key_there, third_up, meta_first, job_first, metas_first, jobs_first, indexes_first, first_harmless, archive_free, job_counted}
use Rattle.job_record.proofs.Unknown.{no_schema}

module _ (schema : Schema) (v : IsVacant schema) (spared : AreHarmless schema SparesVersion) where
  abbrev two : Schema
  two = with_first schema

  abbrev one : Schema
  one = created schema (meta_at 0)

  meta_at_is : meta_tree two ≡ next_tree schema
  meta_at_is = tree_is two (meta_made schema v.takes) (length schema.tables) (meta_first schema v.takes)

  job_at_is : job_tree two ≡ next_tree one
  job_at_is = tree_is two (job_made schema v.takes) (length one.tables) (job_first schema v.takes)

  stands : HasFirst two
  stands =
      let free = archive_free schema v in
      record {
        meta = stands_by two meta_at (next_tree schema) (length schema.tables) (λ t. refl) (meta_first schema v.takes);
        job = stands_by two job_at (next_tree one) (length one.tables) (λ t. refl) (job_first schema v.takes);
        keyed = subst (λ n. HasKeyIndex two (job_at n)) (sym job_at_is) (key_there schema v.takes);
        takes = record { free = free.0; unclaimed = (free.1, free.2); room = third_up schema v.takes; counted = job_counted schema v };
        metas = subst (λ n. HasOwnTree two (meta_at n)) (sym meta_at_is) (metas_first schema v.takes);
        jobs = subst (λ n. HasOwnTree two (job_at n)) (sym job_at_is) (jobs_first schema v.takes);
        references = first_harmless schema RefersElsewhere v.references;
        versions = first_harmless schema SparesVersion spared;
        indexes = λ i there unique at columns. subst (λ n. i.table ≡ n → i ≡ automatic (job_at n) 0 (1 ∷ []) i.tree) (sym job_at_is) (indexes_first schema v.takes i there) at;
      }

-- a store with no table
none_vacant : IsVacant no_schema
none_vacant = record {
  takes = record { meta = refl; job = refl; archive = refl; indexes = λ i none. absurd none; room = lit< tt };
  meta = (refl, refl);
  job = (refl, refl);
  archive = (refl, refl);
  references = λ t reference none. absurd none;
  counted = refl;
}

pub stands_first : (schema : Schema) → StandsFirst schema
stands_first schema = record { made = stands schema; alone = stands no_schema none_vacant (λ t reference none. absurd none) }
