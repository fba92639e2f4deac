-- The tables of a record in a store that has other tables too, before them, between them or after them.
use Rattle.std.specs.Prelude.{◌≡◌, ◌≢◌, ◌⊎◌, ℕ, ◌^◌, ◌==◌, ◌<◌, nat_le, true, false, List, [], ◌∷◌, codes, slice_get, find, option_map, unwrap_or, Some, None}
use Rattle.sqlite.specs.Table.{Table}
use Rattle.sqlite.specs.Schema.{Schema}
use Rattle.sqlite.specs.Change.{created, next_tree}
use Rattle.sqlite.specs.Does.{lacks_sequence}
use Rattle.sqlite_schema.specs.declared.schema.Action.TheVariants.{NoAction}
use Rattle.sqlite_schema.specs.declared.schema.Index.{Index}
use Rattle.sqlite_schema.specs.declared.schema.Reference.{Reference}
use Rattle.sqlite_schema.specs.Names.{same_name, table_named, index_named, view_named}
use Rattle.sqlite_rules.specs.Lists.{Has}
use Rattle.sqlite_resolve.specs.Given.{is_key_at}
use Rattle.sqlite_catalog.specs.Listing.{automatic}
use Rattle.job_record.specs.Tables.{meta_at, job_at, archive_at, first_schema}

-- SQLite finds the table at this place, by its name and by its tree.
pub record StandsAt (schema : Schema) (table : Table) (place : ℕ) : Type 0 where
  pub named : table_named schema table.name ≡ Some place
  pub placed : slice_get schema.tables place ≡ Some table
  pub treed : find (λ (t : Table). t.tree == table.tree) schema.tables ≡ Some table
  -- a greater number is that of a table which a statement computes
  pub below : nat_le (2 ^ 31) table.tree ≡ false

-- the place and the tree of the table that SQLite finds by this name, or 0
unfoldable pub place_of : List ℕ → Schema → ℕ
place_of name schema = unwrap_or (table_named schema name) 0

unfoldable pub tree_of : List ℕ → Schema → ℕ
tree_of name schema = unwrap_or (option_map (λ (t : Table). t.tree) (slice_get schema.tables (place_of name schema))) 0

abbrev pub meta_place : Schema → ℕ
meta_place = place_of (codes "meta")

abbrev pub meta_tree : Schema → ℕ
meta_tree = tree_of (codes "meta")

abbrev pub job_place : Schema → ℕ
job_place = place_of (codes "job")

abbrev pub job_tree : Schema → ℕ
job_tree = tree_of (codes "job")

abbrev pub archive_place : Schema → ℕ
archive_place = place_of (codes "archive")

abbrev pub archive_tree : Schema → ℕ
archive_tree = tree_of (codes "archive")

-- the three tables of a record, each at its place and its tree
abbrev pub meta_in : Schema → Table
meta_in schema = meta_at (meta_tree schema)

abbrev pub job_in : Schema → Table
job_in schema = job_at (job_tree schema)

abbrev pub archive_in : Schema → Table
archive_in schema = archive_at (archive_tree schema)

-- the first column of the table, its key, is that of an index
abbrev pub HasKeyIndex : Schema → Table → Type 0
HasKeyIndex schema table = option_map (λ i. i.columns) (find (is_key_at table (1 ∷ [])) schema.indexes) ≡ Some (1 ∷ [])

pub record HasTables (schema : Schema) : Type 0 where
  pub meta : StandsAt schema (meta_in schema) (meta_place schema)
  pub job : StandsAt schema (job_in schema) (job_place schema)
  pub archive : StandsAt schema (archive_in schema) (archive_place schema)
  pub keyed : HasKeyIndex schema (job_in schema)

-- ---- what else is there

-- another table than these three
abbrev pub IsOther : Schema → Table → Type 0
IsOther schema t = (t ≢ meta_in schema) × (t ≢ job_in schema) × (t ≢ archive_in schema)

-- a foreign key never changes what refers to a row
abbrev pub IsPassive : Reference → Type 0
IsPassive reference = (reference.on_delete ≡ NoAction) × (reference.on_update ≡ NoAction)

-- it refers to no table that has rows of a record
abbrev pub RefersElsewhere : Reference → Type 0
RefersElsewhere reference = (same_name (codes "job") reference.parent ≡ false) × (same_name (codes "archive") reference.parent ≡ false)

-- it does not refer to the table of the version
abbrev pub SparesVersion : Reference → Type 0
SparesVersion reference = same_name (codes "meta") reference.parent ≡ false

-- each foreign key is passive, or is such a one
abbrev pub AreHarmless : Schema → (Reference → Type 0) → Type 0
AreHarmless schema Elsewhere = (t : Table) (reference : Reference) → Has schema.tables t → Has t.references reference → IsPassive reference ⊎ Elsewhere reference

-- no other table is in the tree of this one, so that a write to it is no write to another
abbrev pub HasOwnTree : Schema → Table → Type 0
HasOwnTree schema table = (t : Table) → Has schema.tables t → t.tree ≡ table.tree → t ≡ table

-- the rows with the key of a new row are found by the index that was made with the table, and by no other
abbrev pub HasOneKeyIndex : Schema → Type 0
HasOneKeyIndex schema = (i : Index) → Has schema.indexes i → i.is_unique ≡ true → i.table ≡ job_tree schema → i.columns ≡ 1 ∷ [] → i ≡ automatic (job_in schema) 0 (1 ∷ []) i.tree

-- Nothing else in the store has to do with the record.
pub record IsApart (schema : Schema) : Type 0 where
  pub jobs : HasOwnTree schema (job_in schema)
  pub archives : HasOwnTree schema (archive_in schema)
  -- if a row of the record changes or goes, no other table is changed for it
  pub references : AreHarmless schema RefersElsewhere
  pub indexes : HasOneKeyIndex schema

-- The store has the tables of a record, and what else it has is apart from them.
pub record HasRecord (schema : Schema) : Type 0 where
  pub tables : HasTables schema
  pub apart : IsApart schema

-- ---- the tables of a new record

-- the tables of version 1, one after the other, after all that is there
abbrev pub with_first : Schema → Schema
with_first schema = created (created schema (meta_at 0)) (job_at 0)

-- and the third after these
abbrev pub with_archive : Schema → Schema
with_archive schema = created schema (archive_at 0)

abbrev pub with_record : Schema → Schema
with_record schema = with_archive (with_first schema)

-- no table has one of the three names, each index is of a table that is there, and there is room for more
pub record TakesRecord (schema : Schema) : Type 0 where
  pub meta : table_named schema (codes "meta") ≡ None
  pub job : table_named schema (codes "job") ≡ None
  pub archive : table_named schema (codes "archive") ≡ None
  pub indexes : (i : Index) → Has schema.indexes i → i.table < next_tree schema
  pub room : next_tree (with_record schema) < 2 ^ 31

-- in such a store, the tables that are made for a record stand
abbrev pub StandsMade : Schema → Type 0
StandsMade schema = TakesRecord schema → HasTables (with_record schema)

-- nor has an index or a view
abbrev pub IsUnclaimed : Schema → List ℕ → Type 0
IsUnclaimed schema name = (index_named schema name ≡ None) × (view_named schema name ≡ None)

-- A record can be made in the store: the three names are free, and nothing there has to do with what is made.
pub record IsVacant (schema : Schema) : Type 0 where
  pub takes : TakesRecord schema
  pub meta : IsUnclaimed schema (codes "meta")
  pub job : IsUnclaimed schema (codes "job")
  pub archive : IsUnclaimed schema (codes "archive")
  pub references : AreHarmless schema RefersElsewhere
  -- a table that counts its rowids has the table of SQLite in which it counts
  pub counted : lacks_sequence schema ≡ false

-- ---- a record of version 1

-- the third table can be made: no table, index or view has its name, and there is room
pub record TakesArchive (schema : Schema) : Type 0 where
  pub free : table_named schema (codes "archive") ≡ None
  pub unclaimed : IsUnclaimed schema (codes "archive")
  pub room : next_tree schema < 2 ^ 31
  pub counted : lacks_sequence schema ≡ false

-- The store has the tables of version 1, it takes the third, and what else it has is apart from the three.
pub record HasFirst (schema : Schema) : Type 0 where
  pub meta : StandsAt schema (meta_in schema) (meta_place schema)
  pub job : StandsAt schema (job_in schema) (job_place schema)
  pub keyed : HasKeyIndex schema (job_in schema)
  pub takes : TakesArchive schema
  pub metas : HasOwnTree schema (meta_in schema)
  pub jobs : HasOwnTree schema (job_in schema)
  pub references : AreHarmless schema RefersElsewhere
  -- the row of the version is written anew
  pub versions : AreHarmless schema SparesVersion
  pub indexes : HasOneKeyIndex schema

-- Made in a store in which there is room, the tables of version 1 stand so, if no foreign key there acts on `meta`; also in one that was empty.
pub record StandsFirst (schema : Schema) : Type 0 where
  pub made : IsVacant schema → AreHarmless schema SparesVersion → HasFirst (with_first schema)
  pub alone : HasFirst first_schema
