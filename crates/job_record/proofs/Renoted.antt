-- The version that the store says once it is migrated.
use Rattle.std.proofs.Common.{◌≡◌, inl, inr, ℕ, ℤ, pos, true, false, List, [], ◌∷◌, codes, map, drop, Ok, refl, sym, ap, subst, ◌∙◌, true≢false}
use Rattle.std.proofs.lemmas.Bool.{and_parts, not-true, both_ways}
use Rattle.std.proofs.lemmas.Cmp.{tied_itself}
use Rattle.std.specs.Ordering.{is_eq}
use Rattle.sqlite.specs.declared.types.Value.TheVariants.{Int, Text}
use Rattle.sqlite.specs.Collation.TheVariants.{Binary}
use Rattle.sqlite.specs.Order.{Row as Columns, column, value_cmp}
use Rattle.sqlite_value.proofs.OrderLemmas.{value_cmp_total}
use Rattle.sqlite.specs.Tree.{rowid, has_rowid}
use Rattle.sqlite.specs.Term.{eval_all, col}
use Rattle.sqlite.specs.Cast.{cast_row}
use Rattle.sqlite.specs.Edit.{id_in, without_all, edit_of}
use Rattle.sqlite.specs.Rowids.TheVariants.{Given}
use Rattle.sqlite.specs.Schema.{Schema}
use Rattle.sqlite.specs.State.{State}
use Rattle.sqlite.proofs.Callers.{first_as}
use Rattle.sqlite_sql.specs.Ops.{is_true, binary}
use Rattle.sqlite_sql.specs.declared.ops.BinaryOp.TheVariants.{Compare}
use Rattle.sqlite_sql.specs.declared.ops.CompareOp.TheVariants.{Eq}
use Rattle.sqlite_schema.specs.Rules.{are_typed, are_present}
use Rattle.sqlite_schema.specs.declared.schema.Constraint.TheVariants.{Datatype, NotNull}
use Rattle.sqlite_rules.specs.Calls.{ids_of}
use Rattle.sqlite_rules.specs.Lists.{Has}
use Rattle.sqlite_rules.proofs.ProbeLemmas.{has_mapped, mapped_has}
use Rattle.sqlite_rules.proofs.PlaceLemmas.{given as given_numbers}
use Rattle.sqlite_rules.proofs.TableLemmas.{put_all_has, put_all_adds}
use Rattle.job_record.specs.Tables.{meta_at}
use Rattle.job_record.specs.Places.{meta_tree, meta_in}
use Rattle.job_record.specs.Statements.{version_text}
use Rattle.job_record.specs.Keyed.{IsKeyed}
use Rattle.job_record.specs.Opening.{ReadsVersion}
use Rattle.job_record.specs.OpenMap.{IsFirst, AreOfVersion}
use Rattle.job_record.specs.Commands.{is_version, renote_project}
use Rattle.job_record.proofs.ArchiveMade.{meta_was}
use Rattle.job_record.proofs.Compiled.{version_first_is, version_first}
use Rattle.job_record.proofs.Edits.{cast_int, has_left}
use Rattle.job_record.proofs.KeyTest.{texts_equal, text_itself, same_text, and_true}
use Rattle.job_record.proofs.Made.{Renoted}
use Rattle.job_record.proofs.Placed.{row_passes}
use Rattle.job_record.proofs.Shapes.{text_in}
use Rattle.job_record.proofs.Shown.{passes, shown_rows}

abbrev version : List ℕ
version = codes "version"

-- ---- the row that the query for the version shows

no : {A : Type 0} → false ≡ true → A
no h = absurd (true≢false (sym h))

name_in : (r : Columns) → are_typed (meta_at 0).key 0 (meta_at 0).columns (drop 1 r) ≡ true → are_present (meta_at 0).key 0 (meta_at 0).columns r ≡ true → (t : List ℕ) × (column r 1 ≡ Text t)
name_in [] t p = no p
name_in (id ∷ []) t p = no p
name_in (id ∷ a ∷ more) t p = text_in a (and_parts _ _ t).0 (not-true _ (and_parts _ _ p).0)

name_of : (s : State) → IsFirst s → (r : Columns) → Has (s.now.trees (meta_tree s.now.schema)) r → (t : List ℕ) × (column r 1 ≡ Text t)
name_of s f r h =
    let schema = s.now.schema in
    let meta = meta_was schema f.schema in
    name_in r (and_parts _ _ (row_passes schema s.now refl f.sound Datatype (meta_in schema) meta r h)).0 (row_passes schema s.now refl f.sound NotNull (meta_in schema) meta r h)

pub name_passes : (r : Columns) → column r 1 ≡ Text version → passes is_version [] r ≡ true
name_passes r is = and_true _ ∙ ap (λ v. is_true (binary (Compare Eq Binary) v (Text version))) is ∙ texts_equal version version ∙ text_itself version

passed_name : (r : Columns) (t : List ℕ) → column r 1 ≡ Text t → passes is_version [] r ≡ true → column r 1 ≡ Text version
passed_name r t is h =
    let equal : is_true (binary (Compare Eq Binary) (Text t) (Text version)) ≡ true = sym (ap (λ v. is_true (binary (Compare Eq Binary) v (Text version))) is) ∙ sym (and_true _) ∙ h in
    is ∙ ap Text (same_text t version (sym (texts_equal t version) ∙ equal))

pub version_row : (old new : State) (n : ℤ) → IsFirst old → ReadsVersion old new (Ok n) → (r : Columns) × Has (old.now.trees (meta_tree old.now.schema)) r × (column r 1 ≡ Text version)
version_row old new n f (c, queried, is) =
    let schema = old.now.schema in
    let asks = version_first_is schema f.schema in
    let got = (first_as version_text [] old new schema refl _ asks.0 (version_first schema f.schema) asks.1 c queried).1 in
    let shown = shown_rows (meta_tree schema) is_version (col 1 2 ∷ []) [] old.now.trees [] (c ∷ got.0) got.1 in
    let s = shown.sound c (inl refl) in
    let t = name_of old f s.0 s.1 in
    (s.0, s.1, passed_name s.0 t.0 t.1 s.2)

-- ---- what the statement makes of it

at_rowid : (r : Columns) (id : ℤ) → rowid r ≡ Int id → has_rowid id r ≡ true
at_rowid r id is = ap (λ v. is_eq (value_cmp v (Int id))) is ∙ ap is_eq (tied_itself value_cmp_total (Int id))

module _ (schema : Schema) (old new : State) (n : Renoted schema old new) where
  abbrev table : List Columns
  table = old.now.trees (meta_tree schema)

  abbrev cast_of : Columns → Columns
  cast_of s = cast_row (meta_in schema) (drop 1 s)

  abbrev made : Columns → Columns
  made r = eval_all renote_project ([] ∷ r ∷ [])

  abbrev news : List Columns
  news = (edit_of old.now.trees (meta_in schema) (ids_of n.rows) Given 1 n.rows).news

  news_are : news ≡ map cast_of n.rows
  news_are = given_numbers (without_all table (ids_of n.rows)) (map cast_of n.rows)

  value_is : (r : Columns) → column (cast_of (made r)) 2 ≡ Int (pos 2)
  value_is r = cast_int (pos 2)

  name_is : (r : Columns) → column r 1 ≡ Text version → column (cast_of (made r)) 1 ≡ Text version
  name_is r is = rw is refl

  new_value : (z : Columns) → Has news z → column z 2 ≡ Int (pos 2)
  new_value z h =
      let y = has_mapped cast_of n.rows z (subst (λ l. Has l z) news_are h) in
      let s = n.shown.sound y.0 y.1 in
      ap (λ (r : Columns). column r 2) y.2 ∙ ap (λ (r : Columns). column (cast_of r) 2) s.3 ∙ value_is s.0

  -- no row of that name is left as it was
  none_left : IsKeyed table → (z : Columns) → Has (without_all table (ids_of n.rows)) z → column z 1 ≡ Text version → ⊥
  none_left keyed z h is =
      let l = has_left (ids_of n.rows) table z h in
      let id = keyed.ids z l.0 in
      let y = n.shown.complete z l.0 (name_passes z is) in
      let gone : Has (ids_of n.rows) (id_in (rowid z)) = mapped_has (λ (r : Columns). id_in (rowid r)) n.rows (made z) y in
      let same : id_in (rowid z) ≡ id.0 = ap id_in id.1 in
      both_ways _ (l.1 id.0 (subst (Has (ids_of n.rows)) same gone)) (at_rowid z id.0 id.1)

  pub says_two : IsKeyed table → (r : Columns) → Has table r → column r 1 ≡ Text version → AreOfVersion (new.now.trees (meta_tree schema)) 2
  says_two keyed r there is =
      let y = n.shown.complete r there (name_passes r is) in
      let z : Has news (cast_of (made r)) = subst (λ l. Has l (cast_of (made r))) (sym news_are) (mapped_has cast_of n.rows (made r) y) in
      record {
        row = cast_of (made r);
        there = subst (λ l. Has l (cast_of (made r))) (sym n.rows_are) (put_all_adds news (without_all table (ids_of n.rows)) (cast_of (made r)) n.fresh z);
        name = name_is r is;
        each = λ q h name. elim (put_all_has news (without_all table (ids_of n.rows)) q (subst (λ l. Has l q) n.rows_are h)) [
          | inl fresh ↦ new_value q fresh
          | inr left ↦ absurd (none_left keyed q left name)
        ];
      }
