-- The three tables, as `sqlite` knows them once it has run the statements that make them.
use Rattle.std.specs.Prelude.{ℕ, pos, List, [], ◌∷◌, codes, true, false, None}
use Rattle.sqlite.specs.Collation.TheVariants.{Binary}
use Rattle.sqlite.specs.declared.types.Value.TheVariants.{Null, Int}
use Rattle.sqlite.specs.Table.{Table}
use Rattle.sqlite.specs.Schema.{Schema}
use Rattle.sqlite.specs.Kind.{Kind}
use Rattle.sqlite.specs.Kind.TheVariants.{Integer, Text}
use Rattle.sqlite.specs.Term.{Term, lit, col, op2}
use Rattle.sqlite_value.specs.Keys.{plain}
use Rattle.sqlite_schema.specs.declared.schema.Column.{Column}
use Rattle.sqlite_sql.specs.declared.ops.BinaryOp.TheVariants.{Compare, And, Or}
use Rattle.sqlite_sql.specs.declared.ops.CompareOp.TheVariants.{Eq, Ge, Le}
use Rattle.sqlite_catalog.specs.Listing.{automatic}

-- a column that is never NULL
abbrev pub field : List ℕ → Kind → Column
field name kind = record { name = name; kind = kind; is_strict = true; not_null = true; default = Null; collation = Binary }

-- a table whose first column is its key
abbrev pub keyed_table : List ℕ → ℕ → List Column → List Term → Table
keyed_table name tree columns checks = record {
  name = name;
  tree = tree;
  columns = columns;
  key = None;
  primary = 1 ∷ [];
  uniques = (1 ∷ []) ∷ [];
  orders = plain ∷ [];
  checks = checks;
  references = [];
  computed = [];
  stamps = record { places = []; terms = []; formats = [] };
  is_counted = false;
}

abbrev pub is_number : Term → ℕ → Term
is_number t n = op2 (Compare Eq Binary) t (lit (Int (pos n)))

-- the cost is from 1 to 10^12, and the flag is 0 or 1
abbrev pub job_checks : List Term
job_checks =
    op2 And (op2 (Compare Ge Binary) (col 1 4) (lit (Int (pos 1)))) (op2 (Compare Le Binary) (col 1 4) (lit (Int (pos 1000000000000))))
    ∷ op2 Or (is_number (col 1 5) 0) (is_number (col 1 5) 1) ∷ []

-- an archive has some bytes and the number of a use
abbrev pub archive_checks : List Term
archive_checks = op2 (Compare Ge Binary) (col 1 2) (lit (Int (pos 0))) ∷ op2 (Compare Ge Binary) (col 1 3) (lit (Int (pos 1))) ∷ []

-- each at the number of its tree
abbrev pub meta_at : ℕ → Table
meta_at tree = keyed_table (codes "meta") tree (field (codes "name") Text ∷ field (codes "value") Integer ∷ []) []

abbrev pub job_at : ℕ → Table
job_at tree =
    keyed_table (codes "job") tree (field (codes "key") Text ∷ field (codes "outputs") Text ∷ field (codes "files") Text ∷ field (codes "cost") Integer ∷ field (codes "archived") Integer ∷ []) job_checks

-- no two archives have the number of one use
abbrev pub archive_at : ℕ → Table
archive_at tree = record (keyed_table (codes "archive") tree (field (codes "key") Text ∷ field (codes "bytes") Integer ∷ field (codes "used") Integer ∷ []) archive_checks) {
  uniques = (1 ∷ []) ∷ (3 ∷ []) ∷ [];
  orders = plain ∷ plain ∷ [];
}

-- the tables of version 1 in a store that was empty: `meta` is tree 0 and its index 1, `job` is tree 2 and its index 3
abbrev pub first_schema : Schema
first_schema = record { tables = meta_at 0 ∷ job_at 2 ∷ []; indexes = automatic (meta_at 0) 0 (1 ∷ []) 1 ∷ automatic (job_at 2) 0 (1 ∷ []) 3 ∷ []; views = [] }
