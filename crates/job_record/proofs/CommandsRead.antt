-- What the queries of the record compile to, wherever its tables stand.
use Rattle.std.proofs.Common.{ℕ, List, [], ◌∷◌, codes, Option, Some, replicate, refl}
use Rattle.sqlite.specs.Collation.TheVariants.{Binary}
use Rattle.sqlite_value.specs.declared.keys.Collation.{Collation}
use Rattle.sqlite.specs.Term.{col}
use Rattle.sqlite.specs.Schema.{Schema}
use Rattle.sqlite_tied.specs.Compute.{everything}
use Rattle.job_record.specs.Statements.{version_text, find_text, list_text}
use Rattle.job_record.specs.Archives.{look_text, greatest_text, oldest_text, bytes_text, all_bytes_text, archives_text, archived_text}
use Rattle.job_record.specs.Tables.{meta_at, job_at, archive_at}
use Rattle.job_record.specs.Places.{StandsAt}
use Rattle.job_record.specs.Commands.{IsUnderstoodAs, selects, has_key, by_key, columns, names, find_on, list_on, is_archived, archived_on, archive_names, archive_project, by_use, latest_first, look_on, archives_on, greatest_on, oldest_on, bytes_on, all_bytes_on, is_version, version_on}
use Rattle.job_record.proofs.Understood.{select_is, draft_on}

-- each column of the result is compared byte by byte
abbrev by_bytes : ℕ → List (Option Collation)
by_bytes n = replicate n (Some Binary)

pub find_is : (schema : Schema) (place tree : ℕ) → StandsAt schema (job_at tree) place → IsUnderstoodAs schema find_text (selects (find_on tree) names)
unfolding everything
find_is schema place tree h =
    select_is schema (job_at tree) place h refl find_text (draft_on tree has_key columns []) names (by_bytes 5) refl refl (
      refl,
      (
        record {
          with_none = refl;
          first = record { from = record { origin = refl; alias = refl; using = refl; on = refl; inner = refl }; shown = ((0, refl), ((1, refl), ((2, refl), ((3, refl), ((4, refl), tt))))); filter = ((0, refl), tt); group = refl; having = refl };
          alone = refl;
          order = tt;
          limit = refl;
          offset = refl;
        },
        refl,
      ),
    )

pub list_is : (schema : Schema) (place tree : ℕ) → StandsAt schema (job_at tree) place → IsUnderstoodAs schema list_text (selects (list_on tree) names)
unfolding everything
list_is schema place tree h =
    select_is schema (job_at tree) place h refl list_text (draft_on tree [] columns by_key) names (by_bytes 5) refl refl (
      refl,
      (
        record {
          with_none = refl;
          first = record { from = record { origin = refl; alias = refl; using = refl; on = refl; inner = refl }; shown = ((0, refl), ((1, refl), ((2, refl), ((3, refl), ((4, refl), tt))))); filter = tt; group = refl; having = refl };
          alone = refl;
          order = ((0, refl), tt);
          limit = refl;
          offset = refl;
        },
        refl,
      ),
    )

pub archived_is : (schema : Schema) (place tree : ℕ) → StandsAt schema (job_at tree) place → IsUnderstoodAs schema archived_text (selects (archived_on tree) (codes "key" ∷ codes "files" ∷ []))
unfolding everything
archived_is schema place tree h =
    select_is schema (job_at tree) place h refl archived_text (draft_on tree is_archived (col 1 1 ∷ col 1 3 ∷ []) by_key) (codes "key" ∷ codes "files" ∷ []) (by_bytes 2) refl refl (
      refl,
      (
        record {
          with_none = refl;
          first = record { from = record { origin = refl; alias = refl; using = refl; on = refl; inner = refl }; shown = ((0, refl), ((2, refl), tt)); filter = ((4, refl), tt); group = refl; having = refl };
          alone = refl;
          order = ((0, refl), tt);
          limit = refl;
          offset = refl;
        },
        refl,
      ),
    )

pub look_is : (schema : Schema) (place tree : ℕ) → StandsAt schema (archive_at tree) place → IsUnderstoodAs schema look_text (selects (look_on tree) archive_names)
unfolding everything
look_is schema place tree h =
    select_is schema (archive_at tree) place h refl look_text (draft_on tree [] archive_project []) archive_names (by_bytes 3) refl refl (
      refl,
      (
        record {
          with_none = refl;
          first = record { from = record { origin = refl; alias = refl; using = refl; on = refl; inner = refl }; shown = ((0, refl), ((1, refl), ((2, refl), tt))); filter = tt; group = refl; having = refl };
          alone = refl;
          order = tt;
          limit = refl;
          offset = refl;
        },
        refl,
      ),
    )

pub archives_is : (schema : Schema) (place tree : ℕ) → StandsAt schema (archive_at tree) place → IsUnderstoodAs schema archives_text (selects (archives_on tree) archive_names)
unfolding everything
archives_is schema place tree h =
    select_is schema (archive_at tree) place h refl archives_text (draft_on tree [] archive_project by_use) archive_names (by_bytes 3) refl refl (
      refl,
      (
        record {
          with_none = refl;
          first = record { from = record { origin = refl; alias = refl; using = refl; on = refl; inner = refl }; shown = ((0, refl), ((1, refl), ((2, refl), tt))); filter = tt; group = refl; having = refl };
          alone = refl;
          order = ((2, refl), tt);
          limit = refl;
          offset = refl;
        },
        refl,
      ),
    )

pub greatest_is : (schema : Schema) (place tree : ℕ) → StandsAt schema (archive_at tree) place → IsUnderstoodAs schema greatest_text (selects (greatest_on tree) (codes "used" ∷ []))
unfolding everything
greatest_is schema place tree h =
    select_is schema (archive_at tree) place h refl greatest_text (draft_on tree [] (col 1 3 ∷ []) latest_first) (codes "used" ∷ []) (by_bytes 1) refl refl (
      refl,
      (
        record {
          with_none = refl;
          first = record { from = record { origin = refl; alias = refl; using = refl; on = refl; inner = refl }; shown = ((2, refl), tt); filter = tt; group = refl; having = refl };
          alone = refl;
          order = ((2, refl), tt);
          limit = refl;
          offset = refl;
        },
        refl,
      ),
    )

pub oldest_is : (schema : Schema) (place tree : ℕ) → StandsAt schema (archive_at tree) place → IsUnderstoodAs schema oldest_text (selects (oldest_on tree) (codes "key" ∷ codes "bytes" ∷ []))
unfolding everything
oldest_is schema place tree h =
    select_is schema (archive_at tree) place h refl oldest_text (draft_on tree [] (col 1 1 ∷ col 1 2 ∷ []) by_use) (codes "key" ∷ codes "bytes" ∷ []) (by_bytes 2) refl refl (
      refl,
      (
        record {
          with_none = refl;
          first = record { from = record { origin = refl; alias = refl; using = refl; on = refl; inner = refl }; shown = ((0, refl), ((1, refl), tt)); filter = tt; group = refl; having = refl };
          alone = refl;
          order = ((2, refl), tt);
          limit = refl;
          offset = refl;
        },
        refl,
      ),
    )

pub bytes_is : (schema : Schema) (place tree : ℕ) → StandsAt schema (archive_at tree) place → IsUnderstoodAs schema bytes_text (selects (bytes_on tree) (codes "bytes" ∷ []))
unfolding everything
bytes_is schema place tree h =
    select_is schema (archive_at tree) place h refl bytes_text (draft_on tree has_key (col 1 2 ∷ []) []) (codes "bytes" ∷ []) (by_bytes 1) refl refl (
      refl,
      (
        record {
          with_none = refl;
          first = record { from = record { origin = refl; alias = refl; using = refl; on = refl; inner = refl }; shown = ((1, refl), tt); filter = ((0, refl), tt); group = refl; having = refl };
          alone = refl;
          order = tt;
          limit = refl;
          offset = refl;
        },
        refl,
      ),
    )

pub all_bytes_is : (schema : Schema) (place tree : ℕ) → StandsAt schema (archive_at tree) place → IsUnderstoodAs schema all_bytes_text (selects (all_bytes_on tree) (codes "bytes" ∷ []))
unfolding everything
all_bytes_is schema place tree h =
    select_is schema (archive_at tree) place h refl all_bytes_text (draft_on tree [] (col 1 2 ∷ []) []) (codes "bytes" ∷ []) (by_bytes 1) refl refl (
      refl,
      (
        record {
          with_none = refl;
          first = record { from = record { origin = refl; alias = refl; using = refl; on = refl; inner = refl }; shown = ((1, refl), tt); filter = tt; group = refl; having = refl };
          alone = refl;
          order = tt;
          limit = refl;
          offset = refl;
        },
        refl,
      ),
    )

pub version_is : (schema : Schema) (place tree : ℕ) → StandsAt schema (meta_at tree) place → IsUnderstoodAs schema version_text (selects (version_on tree) (codes "value" ∷ []))
unfolding everything
version_is schema place tree h =
    select_is schema (meta_at tree) place h refl version_text (draft_on tree is_version (col 1 2 ∷ []) []) (codes "value" ∷ []) (by_bytes 1) refl refl (
      refl,
      (
        record {
          with_none = refl;
          first = record { from = record { origin = refl; alias = refl; using = refl; on = refl; inner = refl }; shown = ((1, refl), tt); filter = ((0, refl), tt); group = refl; having = refl };
          alone = refl;
          order = tt;
          limit = refl;
          offset = refl;
        },
        refl,
      ),
    )
