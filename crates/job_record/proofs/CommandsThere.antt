-- The statements of the record compile to their commands, wherever its tables stand.
use Rattle.sqlite.specs.Schema.{Schema}
use Rattle.job_record.specs.Places.{meta_place, meta_tree, job_place, job_tree, archive_place, archive_tree, HasTables}
use Rattle.job_record.specs.Commands.{Compiles}
use Rattle.job_record.proofs.CommandsRead.{find_is, list_is, archived_is, look_is, archives_is, greatest_is, oldest_is, bytes_is, all_bytes_is, version_is}
use Rattle.job_record.proofs.CommandsWrite.{put_is, drop_is, forget_is, add_is, use_is, remove_is, note_is, renote_is}

pub compiles : (schema : Schema) → HasTables schema → Compiles schema
compiles schema s = record {
  find = find_is schema (job_place schema) (job_tree schema) s.job;
  list = list_is schema (job_place schema) (job_tree schema) s.job;
  put = put_is schema (job_place schema) (job_tree schema) s.job s.keyed;
  drop_archive = drop_is schema (job_place schema) (job_tree schema) s.job;
  forget = forget_is schema (job_place schema) (job_tree schema) s.job;
  archived = archived_is schema (job_place schema) (job_tree schema) s.job;
  look = look_is schema (archive_place schema) (archive_tree schema) s.archive;
  archives = archives_is schema (archive_place schema) (archive_tree schema) s.archive;
  greatest = greatest_is schema (archive_place schema) (archive_tree schema) s.archive;
  oldest = oldest_is schema (archive_place schema) (archive_tree schema) s.archive;
  bytes = bytes_is schema (archive_place schema) (archive_tree schema) s.archive;
  all_bytes = all_bytes_is schema (archive_place schema) (archive_tree schema) s.archive;
  add = add_is schema (archive_place schema) (archive_tree schema) s.archive;
  «use» = use_is schema (archive_place schema) (archive_tree schema) s.archive;
  remove = remove_is schema (archive_place schema) (archive_tree schema) s.archive;
  version = version_is schema (meta_place schema) (meta_tree schema) s.meta;
  note_version = note_is schema (meta_place schema) (meta_tree schema) s.meta;
  renote_version = renote_is schema (meta_place schema) (meta_tree schema) s.meta;
}
