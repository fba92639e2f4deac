-- What the statements of the record compile to, in a store that has its tables and while these are made.
use Rattle.std.proofs.Common.{◌≡◌, ℕ, List, [], ◌∷◌, codes, false, Result, Ok, Err, refl, sym, ap, subst, ◌∙◌}
use Rattle.sqlite.specs.Schema.{Schema}
use Rattle.sqlite.specs.Table.{Table}
use Rattle.sqlite.specs.Command.{Command}
use Rattle.sqlite.specs.Command.TheVariants.{CreateTable}
use Rattle.sqlite.specs.Compile.{table_defined_by}
use Rattle.sqlite.specs.Listing.{understood, reads_listing, listing_schema}
use Rattle.sqlite.proofs.Callers.{IsPlain, command_of, statement_of}
use Rattle.sqlite_resolve.specs.declared.compiled.Compiled.{Compiled}
use Rattle.sqlite_resolve.specs.declared.error.CompileError.{CompileError}
use Rattle.sqlite_resolve.specs.declared.error.CompileError.TheVariants.{NoSuchTable}
use Rattle.sqlite_tied.specs.Compute.{everything}
use Rattle.job_record.specs.Statements.{make_meta, make_job, note_version, version_text, find_text, list_text, put_text, drop_archive_text, forget_text}
use Rattle.job_record.specs.Archives.{make_archive, look_text, greatest_text, oldest_text, bytes_text, all_bytes_text, add_text, use_text, remove_text, archives_text, archived_text, renote_version}
use Rattle.job_record.specs.Tables.{meta_at, job_at, archive_at}
use Rattle.job_record.specs.Places.{meta_place, meta_tree, job_place, job_tree, archive_place, archive_tree, HasTables, HasFirst}
use Rattle.job_record.specs.Commands.{IsUnderstoodAs, Compiles, selects, updates, deletes, names, find_on, list_on, drop_on, forget_on, put_at, archived_on, archive_names, archives_on, greatest_on, oldest_on, bytes_on, all_bytes_on, use_on, add_at, version_on, note_at, renote_on}
use Rattle.job_record.proofs.CommandsRead.{list_is as list_there, version_is as version_there}
use Rattle.job_record.proofs.CommandsThere.{compiles}
use Rattle.job_record.proofs.Unknown.{no_schema, IsUnknown, unknown_same}

-- ---- what is understood as a command compiles to it

module _ {schema : Schema} {text : List ℕ} {command : Command} (h : IsUnderstoodAs schema text command) where
  is : command_of (understood schema text) ≡ command
  is = ap command_of h.is ∙ h.command_is

  plain : IsPlain (understood schema text)
  plain = subst IsPlain (sym h.is) (h.returning, h.formats)

  reads : (command_of (understood schema text) ≡ command) × (reads_listing schema text ≡ false)
  reads = (is, h.own)

module _ (schema : Schema) (h : HasTables schema) where
  law : Compiles schema
  law = compiles schema h

  pub find_is : (command_of (understood schema find_text) ≡ selects (find_on (job_tree schema)) names) × (reads_listing schema find_text ≡ false)
  find_is = reads law.find

  pub find_plain : IsPlain (understood schema find_text)
  find_plain = plain law.find

  pub list_is : (command_of (understood schema list_text) ≡ selects (list_on (job_tree schema)) names) × (reads_listing schema list_text ≡ false)
  list_is = reads law.list

  pub list_plain : IsPlain (understood schema list_text)
  list_plain = plain law.list

  pub greatest_is : (command_of (understood schema greatest_text) ≡ selects (greatest_on (archive_tree schema)) (codes "used" ∷ [])) × (reads_listing schema greatest_text ≡ false)
  greatest_is = reads law.greatest

  pub greatest_plain : IsPlain (understood schema greatest_text)
  greatest_plain = plain law.greatest

  pub oldest_is : (command_of (understood schema oldest_text) ≡ selects (oldest_on (archive_tree schema)) (codes "key" ∷ codes "bytes" ∷ [])) × (reads_listing schema oldest_text ≡ false)
  oldest_is = reads law.oldest

  pub oldest_plain : IsPlain (understood schema oldest_text)
  oldest_plain = plain law.oldest

  pub bytes_is : (command_of (understood schema bytes_text) ≡ selects (bytes_on (archive_tree schema)) (codes "bytes" ∷ [])) × (reads_listing schema bytes_text ≡ false)
  bytes_is = reads law.bytes

  pub bytes_plain : IsPlain (understood schema bytes_text)
  bytes_plain = plain law.bytes

  pub all_bytes_is : (command_of (understood schema all_bytes_text) ≡ selects (all_bytes_on (archive_tree schema)) (codes "bytes" ∷ [])) × (reads_listing schema all_bytes_text ≡ false)
  all_bytes_is = reads law.all_bytes

  pub all_bytes_plain : IsPlain (understood schema all_bytes_text)
  all_bytes_plain = plain law.all_bytes

  pub archives_is : (command_of (understood schema archives_text) ≡ selects (archives_on (archive_tree schema)) archive_names) × (reads_listing schema archives_text ≡ false)
  archives_is = reads law.archives

  pub archives_plain : IsPlain (understood schema archives_text)
  archives_plain = plain law.archives

  pub put_is : command_of (understood schema put_text) ≡ put_at (job_place schema) (job_tree schema)
  put_is = is law.put

  pub put_plain : IsPlain (understood schema put_text)
  put_plain = plain law.put

  pub drop_is : command_of (understood schema drop_archive_text) ≡ updates (job_place schema) (drop_on (job_tree schema))
  drop_is = is law.drop_archive

  pub drop_plain : IsPlain (understood schema drop_archive_text)
  drop_plain = plain law.drop_archive

  pub forget_is : command_of (understood schema forget_text) ≡ deletes (job_place schema) (forget_on (job_tree schema))
  forget_is = is law.forget

  pub forget_plain : IsPlain (understood schema forget_text)
  forget_plain = plain law.forget

  pub add_is : command_of (understood schema add_text) ≡ add_at (archive_place schema)
  add_is = is law.add

  pub add_plain : IsPlain (understood schema add_text)
  add_plain = plain law.add

  pub use_is : command_of (understood schema use_text) ≡ updates (archive_place schema) (use_on (archive_tree schema))
  use_is = is law.«use»

  pub use_plain : IsPlain (understood schema use_text)
  use_plain = plain law.«use»

  pub remove_is : command_of (understood schema remove_text) ≡ deletes (archive_place schema) (forget_on (archive_tree schema))
  remove_is = is law.remove

  pub remove_plain : IsPlain (understood schema remove_text)
  remove_plain = plain law.remove

  pub note_is : command_of (understood schema note_version) ≡ note_at (meta_place schema)
  note_is = is law.note_version

  pub note_plain : IsPlain (understood schema note_version)
  note_plain = plain law.note_version

  pub version_plain : IsPlain (understood schema version_text)
  version_plain = plain law.version

  pub look_plain : IsPlain (understood schema look_text)
  look_plain = plain law.look

  pub archived_is : (command_of (understood schema archived_text) ≡ selects (archived_on (job_tree schema)) (codes "key" ∷ codes "files" ∷ [])) × (reads_listing schema archived_text ≡ false)
  archived_is = reads law.archived

  pub archived_plain : IsPlain (understood schema archived_text)
  archived_plain = plain law.archived

  pub renote_is : command_of (understood schema renote_version) ≡ updates (meta_place schema) (renote_on (meta_tree schema))
  renote_is = is law.renote_version

  pub renote_plain : IsPlain (understood schema renote_version)
  renote_plain = plain law.renote_version

-- ---- a table is made in a store where its name is free

-- the text makes this table
pub record IsMaking (text : List ℕ) (table : Table) (r : Result Compiled CompileError) : Type 0 where
  pub is : command_of r ≡ CreateTable
  pub plain : IsPlain r
  pub defines : table_defined_by (statement_of text r) ≡ Ok table

meta_alone : IsMaking make_meta (meta_at 0) (understood no_schema make_meta)
unfolding understood everything
meta_alone = record { is = refl; plain = (refl, refl); defines = refl }

job_alone : IsMaking make_job (job_at 0) (understood no_schema make_job)
unfolding understood everything
job_alone = record { is = refl; plain = (refl, refl); defines = refl }

archive_alone : IsMaking make_archive (archive_at 0) (understood no_schema make_archive)
unfolding understood everything
archive_alone = record { is = refl; plain = (refl, refl); defines = refl }

pub makes_meta : (schema : Schema) → IsUnknown schema (codes "meta") → IsMaking make_meta (meta_at 0) (understood schema make_meta)
unfolding everything
makes_meta schema free = subst (IsMaking make_meta (meta_at 0)) (sym (unknown_same schema (meta_at 0) make_meta free)) meta_alone

pub makes_job : (schema : Schema) → IsUnknown schema (codes "job") → IsMaking make_job (job_at 0) (understood schema make_job)
unfolding everything
makes_job schema free = subst (IsMaking make_job (job_at 0)) (sym (unknown_same schema (job_at 0) make_job free)) job_alone

pub makes_archive : (schema : Schema) → IsUnknown schema (codes "archive") → IsMaking make_archive (archive_at 0) (understood schema make_archive)
unfolding everything
makes_archive schema free = subst (IsMaking make_archive (archive_at 0)) (sym (unknown_same schema (archive_at 0) make_archive free)) archive_alone

-- ---- a record of version 1

module _ (schema : Schema) (h : HasFirst schema) where
  version_law : IsUnderstoodAs schema version_text (selects (version_on (meta_tree schema)) (codes "value" ∷ []))
  version_law = version_there schema (meta_place schema) (meta_tree schema) h.meta

  list_law : IsUnderstoodAs schema list_text (selects (list_on (job_tree schema)) names)
  list_law = list_there schema (job_place schema) (job_tree schema) h.job

  pub version_first_is : (command_of (understood schema version_text) ≡ selects (version_on (meta_tree schema)) (codes "value" ∷ [])) × (reads_listing schema version_text ≡ false)
  version_first_is = reads version_law

  pub version_first : IsPlain (understood schema version_text)
  version_first = plain version_law

  pub list_first_is : (command_of (understood schema list_text) ≡ selects (list_on (job_tree schema)) names) × (reads_listing schema list_text ≡ false)
  list_first_is = reads list_law

  pub list_first : IsPlain (understood schema list_text)
  list_first = plain list_law

-- ---- a table that is not there

version_alone : understood no_schema version_text ≡ Err NoSuchTable
unfolding understood listing_schema everything
version_alone = refl

look_alone : understood no_schema look_text ≡ Err NoSuchTable
unfolding understood listing_schema everything
look_alone = refl

archives_alone : understood no_schema archives_text ≡ Err NoSuchTable
unfolding understood listing_schema everything
archives_alone = refl

pub version_absent : (schema : Schema) → IsUnknown schema (codes "meta") → understood schema version_text ≡ Err NoSuchTable
unfolding everything
version_absent schema free =
    unknown_same schema (meta_at 0) version_text (
      free.0,
      free.2,
      record {
        with_none = refl;
        first = record { from = record { origin = refl; alias = refl; using = refl; on = refl; inner = refl }; shown = ((1, refl), tt); filter = ((0, refl), tt); group = refl; having = refl };
        alone = refl;
        order = tt;
        limit = refl;
        offset = refl;
      },
    )
    ∙ version_alone

pub look_absent : (schema : Schema) → IsUnknown schema (codes "archive") → understood schema look_text ≡ Err NoSuchTable
unfolding everything
look_absent schema free =
    unknown_same schema (archive_at 0) look_text (
      free.0,
      free.2,
      record {
        with_none = refl;
        first = record { from = record { origin = refl; alias = refl; using = refl; on = refl; inner = refl }; shown = ((0, refl), ((1, refl), ((2, refl), tt))); filter = tt; group = refl; having = refl };
        alone = refl;
        order = tt;
        limit = refl;
        offset = refl;
      },
    )
    ∙ look_alone

pub archives_absent : (schema : Schema) → IsUnknown schema (codes "archive") → understood schema archives_text ≡ Err NoSuchTable
unfolding everything
archives_absent schema free =
    unknown_same schema (archive_at 0) archives_text (
      free.0,
      free.2,
      record {
        with_none = refl;
        first = record { from = record { origin = refl; alias = refl; using = refl; on = refl; inner = refl }; shown = ((0, refl), ((1, refl), ((2, refl), tt))); filter = tt; group = refl; having = refl };
        alone = refl;
        order = ((2, refl), tt);
        limit = refl;
        offset = refl;
      },
    )
    ∙ archives_alone
