-- The command that each statement of the record compiles to: a table is written to at its place, and read by its tree.
use Rattle.std.specs.Prelude.{◌≡◌, ℕ, pos, negsuc, List, [], ◌∷◌, codes, true, false, Some, None, Ok}
use Rattle.sqlite.specs.Collation.TheVariants.{Binary}
use Rattle.sqlite_value.specs.declared.keys.Key.{Key}
use Rattle.sqlite_value.specs.Keys.{ascending}
use Rattle.sqlite.specs.declared.types.Value.TheVariants.{Null, Int, Text}
use Rattle.sqlite.specs.Term.{Term, lit, col, op2}
use Rattle.sqlite_sql.specs.declared.ops.BinaryOp.TheVariants.{Compare}
use Rattle.sqlite_sql.specs.declared.ops.CompareOp.TheVariants.{Eq}
use Rattle.sqlite.specs.Query.{Query, inner, end}
use Rattle.sqlite.specs.Schema.{Schema}
use Rattle.sqlite.specs.Source.TheVariants.{Values}
use Rattle.sqlite.specs.Command.{Command}
use Rattle.sqlite.specs.Command.TheVariants.{Insert, InsertOr, Update, Delete, Select}
use Rattle.sqlite_schema.specs.declared.command.Conflict.TheVariants.{Abort}
use Rattle.sqlite_resolve.specs.declared.compiled.Compiled.{Compiled}
use Rattle.sqlite.specs.Listing.{understood, reads_listing}
use Rattle.job_record.specs.Statements.{note_version, version_text, find_text, list_text, put_text, drop_archive_text, forget_text}
use Rattle.job_record.specs.Archives.{look_text, greatest_text, oldest_text, bytes_text, all_bytes_text, add_text, use_text, remove_text, archives_text, archived_text, renote_version}
use Rattle.job_record.specs.Places.{meta_place, meta_tree, job_place, job_tree, archive_place, archive_tree, HasTables}

-- the table of this tree in slot 1, after the parameters
abbrev pub query_on : ℕ → List Term → List Term → List (Term × Key) → Query
query_on tree filter project order = record {
  from = inner tree end;
  filter = filter;
  group = None;
  project = project;
  distinct = false;
  collations = [];
  order = order;
  limit = lit (Int (negsuc 0));
  offset = lit (Int (pos 0));
}

abbrev pub selects : Query → List (List ℕ) → Command
selects q names = Select (record { lets = []; body = q }) names

abbrev pub updates : ℕ → Query → Command
updates place q = Update place (record { lets = []; body = q })

abbrev pub deletes : ℕ → Query → Command
deletes place q = Delete place (record { lets = []; body = q })

abbrev pub has_key : List Term
has_key = op2 (Compare Eq Binary) (col 1 1) (col 0 0) ∷ []

abbrev pub by_key : List (Term × Key)
by_key = (col 1 1, ascending Binary) ∷ []

-- the old rowid of a row that goes
abbrev pub forget_project : List Term
forget_project = col 1 0 ∷ []

abbrev pub forget_on : ℕ → Query
forget_on tree = query_on tree has_key forget_project []

-- ---- on the rows

abbrev pub columns : List Term
columns = col 1 1 ∷ col 1 2 ∷ col 1 3 ∷ col 1 4 ∷ col 1 5 ∷ []

abbrev pub names : List (List ℕ)
names = codes "key" ∷ codes "outputs" ∷ codes "files" ∷ codes "cost" ∷ codes "archived" ∷ []

abbrev pub find_on : ℕ → Query
find_on tree = query_on tree has_key columns []

abbrev pub list_on : ℕ → Query
list_on tree = query_on tree [] columns by_key

-- the old rowid, and then the new row
abbrev pub drop_project : List Term
drop_project = col 1 0 ∷ col 1 0 ∷ col 1 1 ∷ col 1 2 ∷ col 1 3 ∷ col 1 4 ∷ lit (Int (pos 0)) ∷ []

abbrev pub drop_on : ℕ → Query
drop_on tree = query_on tree has_key drop_project []

abbrev pub replace_tests : List Term
replace_tests = op2 (Compare Eq Binary) (col 1 0) (col 0 5) ∷ []

abbrev pub replace_project : List Term
replace_project = col 1 0 ∷ col 1 0 ∷ col 1 1 ∷ col 0 1 ∷ col 0 2 ∷ col 0 3 ∷ col 0 4 ∷ []

abbrev pub put_row : List Term
put_row = lit Null ∷ col 0 0 ∷ col 0 1 ∷ col 0 2 ∷ col 0 3 ∷ col 0 4 ∷ []

abbrev pub replace_on : ℕ → Query
replace_on tree = query_on tree replace_tests replace_project []

abbrev pub put_at : ℕ → ℕ → Command
put_at place tree = InsertOr place Abort (Values put_row 6) (record { target = Some (1 ∷ []); update = Some (record { lets = []; body = replace_on tree }) } ∷ [])

abbrev pub is_archived : List Term
is_archived = op2 (Compare Eq Binary) (col 1 5) (lit (Int (pos 1))) ∷ []

abbrev pub archived_on : ℕ → Query
archived_on tree = query_on tree is_archived (col 1 1 ∷ col 1 3 ∷ []) by_key

-- ---- on the archives

abbrev pub archive_names : List (List ℕ)
archive_names = codes "key" ∷ codes "bytes" ∷ codes "used" ∷ []

abbrev pub archive_project : List Term
archive_project = col 1 1 ∷ col 1 2 ∷ col 1 3 ∷ []

abbrev pub by_use : List (Term × Key)
by_use = (col 1 3, ascending Binary) ∷ []

abbrev pub latest_first : List (Term × Key)
latest_first = (col 1 3, record { collation = Binary; descending = true }) ∷ []

abbrev pub look_on : ℕ → Query
look_on tree = query_on tree [] archive_project []

abbrev pub archives_on : ℕ → Query
archives_on tree = query_on tree [] archive_project by_use

abbrev pub greatest_on : ℕ → Query
greatest_on tree = query_on tree [] (col 1 3 ∷ []) latest_first

abbrev pub oldest_on : ℕ → Query
oldest_on tree = query_on tree [] (col 1 1 ∷ col 1 2 ∷ []) by_use

abbrev pub bytes_on : ℕ → Query
bytes_on tree = query_on tree has_key (col 1 2 ∷ []) []

abbrev pub all_bytes_on : ℕ → Query
all_bytes_on tree = query_on tree [] (col 1 2 ∷ []) []

abbrev pub use_project : List Term
use_project = col 1 0 ∷ col 1 0 ∷ col 1 1 ∷ col 1 2 ∷ col 0 1 ∷ []

abbrev pub use_on : ℕ → Query
use_on tree = query_on tree has_key use_project []

abbrev pub add_row : List Term
add_row = lit Null ∷ col 0 0 ∷ col 0 1 ∷ col 0 2 ∷ []

abbrev pub add_at : ℕ → Command
add_at place = Insert place (Values add_row 4)

-- ---- on the version

abbrev pub is_version : List Term
is_version = op2 (Compare Eq Binary) (col 1 1) (lit (Text (codes "version"))) ∷ []

abbrev pub version_on : ℕ → Query
version_on tree = query_on tree is_version (col 1 2 ∷ []) []

abbrev pub version_row : List Term
version_row = lit Null ∷ lit (Text (codes "version")) ∷ lit (Int (pos 2)) ∷ []

abbrev pub note_at : ℕ → Command
note_at place = Insert place (Values version_row 3)

abbrev pub renote_project : List Term
renote_project = col 1 0 ∷ col 1 0 ∷ col 1 1 ∷ lit (Int (pos 2)) ∷ []

abbrev pub renote_on : ℕ → Query
renote_on tree = query_on tree is_version renote_project []

-- ---- the law

-- The text is this command. It has no RETURNING and reads no time, and it is no query on sqlite_schema.
pub record IsUnderstoodAs (schema : Schema) (text : List ℕ) (command : Command) : Type 0 where
  pub compiled : Compiled
  pub is : understood schema text ≡ Ok compiled
  pub command_is : compiled.command ≡ command
  pub returning : compiled.returning ≡ None
  pub formats : compiled.formats ≡ []
  pub own : reads_listing schema text ≡ false

pub record Compiles (schema : Schema) : Type 0 where
  pub find : IsUnderstoodAs schema find_text (selects (find_on (job_tree schema)) names)
  pub list : IsUnderstoodAs schema list_text (selects (list_on (job_tree schema)) names)
  pub put : IsUnderstoodAs schema put_text (put_at (job_place schema) (job_tree schema))
  pub drop_archive : IsUnderstoodAs schema drop_archive_text (updates (job_place schema) (drop_on (job_tree schema)))
  pub forget : IsUnderstoodAs schema forget_text (deletes (job_place schema) (forget_on (job_tree schema)))
  pub archived : IsUnderstoodAs schema archived_text (selects (archived_on (job_tree schema)) (codes "key" ∷ codes "files" ∷ []))
  pub look : IsUnderstoodAs schema look_text (selects (look_on (archive_tree schema)) archive_names)
  pub archives : IsUnderstoodAs schema archives_text (selects (archives_on (archive_tree schema)) archive_names)
  pub greatest : IsUnderstoodAs schema greatest_text (selects (greatest_on (archive_tree schema)) (codes "used" ∷ []))
  pub oldest : IsUnderstoodAs schema oldest_text (selects (oldest_on (archive_tree schema)) (codes "key" ∷ codes "bytes" ∷ []))
  pub bytes : IsUnderstoodAs schema bytes_text (selects (bytes_on (archive_tree schema)) (codes "bytes" ∷ []))
  pub all_bytes : IsUnderstoodAs schema all_bytes_text (selects (all_bytes_on (archive_tree schema)) (codes "bytes" ∷ []))
  pub add : IsUnderstoodAs schema add_text (add_at (archive_place schema))
  pub «use» : IsUnderstoodAs schema use_text (updates (archive_place schema) (use_on (archive_tree schema)))
  pub remove : IsUnderstoodAs schema remove_text (deletes (archive_place schema) (forget_on (archive_tree schema)))
  pub version : IsUnderstoodAs schema version_text (selects (version_on (meta_tree schema)) (codes "value" ∷ []))
  pub note_version : IsUnderstoodAs schema note_version (note_at (meta_place schema))
  pub renote_version : IsUnderstoodAs schema renote_version (updates (meta_place schema) (renote_on (meta_tree schema)))

-- if the tables stand in a store, each statement of the record compiles to its command on them
abbrev pub CompilesThere : Schema → Type 0
CompilesThere schema = HasTables schema → Compiles schema
