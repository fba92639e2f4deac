-- The tables of the record, and the statement that each command is.
use Rattle.std.specs.Prelude.{ℕ, List, [], ◌∷◌, codes}
use Rattle.sqlite.specs.declared.types.Value.TheVariants.{Text}
use Rattle.sqlite.specs.Order.{Row as Columns}
use Rattle.job_rows.specs.declared.row.Row.{Row}
use Rattle.job_record.specs.Texts.{texts_of}
use Rattle.job_record.specs.Columns.{columns_of}

-- ---- the tables

abbrev pub make_meta : List ℕ
make_meta = codes "CREATE TABLE meta (name TEXT PRIMARY KEY, value INTEGER NOT NULL) STRICT"

abbrev pub make_job : List ℕ
make_job = codes "CREATE TABLE job (key TEXT PRIMARY KEY, outputs TEXT NOT NULL, files TEXT NOT NULL, cost INTEGER NOT NULL CHECK (cost BETWEEN 1 AND 1000000000000), archived INTEGER NOT NULL CHECK (archived IN (0, 1))) STRICT"

abbrev pub note_version : List ℕ
note_version = codes "INSERT INTO meta (name, value) VALUES ('version', 2)"

abbrev pub version_text : List ℕ
version_text = codes "SELECT value FROM meta WHERE name = 'version'"

-- ---- the commands

abbrev pub find_text : List ℕ
find_text = codes "SELECT key, outputs, files, cost, archived FROM job WHERE key = ?1"

abbrev pub list_text : List ℕ
list_text = codes "SELECT key, outputs, files, cost, archived FROM job ORDER BY key"

abbrev pub put_text : List ℕ
put_text = codes "INSERT INTO job (key, outputs, files, cost, archived) VALUES (?1, ?2, ?3, ?4, ?5) ON CONFLICT (key) DO UPDATE SET outputs = ?2, files = ?3, cost = ?4, archived = ?5"

abbrev pub drop_archive_text : List ℕ
drop_archive_text = codes "UPDATE job SET archived = 0 WHERE key = ?1"

abbrev pub forget_text : List ℕ
forget_text = codes "DELETE FROM job WHERE key = ?1"

-- what a command on one key is given
abbrev pub key_params : List ℕ → Columns
key_params key = Text key ∷ []

-- what `put` is given
abbrev pub put_params : Row → Columns
put_params row = columns_of (texts_of row)
