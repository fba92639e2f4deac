-- The texts that name a type: a name, a name with `[]` for a list of it, and either with `?` for null too (CWL v1.2, Command Line Tool
-- Description, "CWLType"; Schema Salad v1.2, "Domain Specific Language for types").
use Rattle.std.specs.Prelude.{ℕ, ◌++◌, List, [], ◌∷◌, map, Bool, true, false, Option, Some, None, if◌then◌else◌, codes}
use Rattle.std.specs.Str.{bytes_eq}
use Rattle.cwl_types.specs.declared.named.NamedType.{NamedType}
use Rattle.cwl_types.specs.declared.types.PlainType.{PlainType}
use Rattle.cwl_types.specs.declared.types.PlainType.TheVariants as plain

pub record Named : Type 0 where
  pub text : List ℕ
  pub plain : PlainType
  pub array : Bool
  pub optional : Bool

abbrev pub row_seen : NamedType → Named
row_seen r = record { text = r.text.now; plain = r.plain; array = r.array; optional = r.optional }

pub record Name : Type 0 where
  pub text : List ℕ
  pub plain : PlainType

abbrev pub name : List ℕ → PlainType → Name
name text type = record { text = text; plain = type }

abbrev pub names : List Name
names =
    name (codes "null") plain.Null
    ∷ name (codes "boolean") plain.Boolean
    ∷ name (codes "int") plain.Int
    ∷ name (codes "long") plain.Long
    ∷ name (codes "string") plain.Text
    ∷ name (codes "File") plain.File
    ∷ name (codes "Directory") plain.Directory
    ∷ name (codes "Any") plain.Any
    ∷ []

-- the names with that ending
abbrev pub ending : List ℕ → Bool → Bool → List Named
ending end array optional = map (λ n. record { text = n.text ++ end; plain = n.plain; array = array; optional = optional }) names

abbrev pub named_rows : List Named
named_rows = ending (codes "") false false ++ ending (codes "[]") true false ++ ending (codes "?") false true ++ ending (codes "[]?") true true

abbrev pub named_at : List ℕ → List Named → Option Named
named_at text [] = None
named_at text (row ∷ rows) = if bytes_eq row.text text then Some row else named_at text rows

abbrev pub named_type : List ℕ → Option Named
named_type text = named_at text named_rows
