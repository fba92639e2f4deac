-- What an edit of the rows of one key makes of a table.
use Rattle.std.proofs.Common.{◌≡◌, ◌⊎◌, inl, inr, ℕ, suc, ℤ, true, if◌then◌else◌, List, [], ◌∷◌, length, map, drop, Some, None, refl, sym, ap, subst, ◌∙◌}
use Rattle.std.specs.Str.{bytes_eq}
use Rattle.std.proofs.lemmas.Bool.{cases_Bool}
use Rattle.sqlite.specs.declared.types.Value.TheVariants.{Int, Text}
use Rattle.sqlite.specs.Order.{Row, column}
use Rattle.sqlite.specs.Tree.{Trees, rowid}
use Rattle.sqlite.specs.Table.{Table}
use Rattle.sqlite.specs.Schema.{Schema}
use Rattle.sqlite.specs.Term.{Term, col, eval_all}
use Rattle.sqlite.specs.Cast.{cast_row}
use Rattle.sqlite.specs.Edit.{id_in, taken_by, row_at, edit_of, without_all, Applies}
use Rattle.sqlite_schema.specs.declared.schema.Keys.TheVariants.{Enforced}
use Rattle.sqlite_rules.specs.Lists.{Has}
use Rattle.sqlite_rules.specs.Calls.{ids_of}
use Rattle.sqlite_rules.proofs.ProbeLemmas.{has_mapped}
use Rattle.sqlite_rules.proofs.PlaceLemmas.{given as given_numbers}
use Rattle.sqlite.specs.Rowids.TheVariants.{Given}
use Rattle.job_record.specs.Keyed.{held_in, IsKeyed}
use Rattle.job_record.specs.Commands.{has_key, forget_project}
use Rattle.job_record.proofs.KeyTest.{same_text, text_itself, texts_equal, and_true}
use Rattle.job_record.proofs.RowMap.{held_row, held_none, SetsRow, ClearsRow, set_is, clear_is}
use Rattle.job_record.proofs.Shown.{AreShown, passes}
use Rattle.job_record.proofs.KeyedRows.{keyed_clear, cleared, replaced, replaced_keyed}

-- the first column of each row is a text
abbrev pub HasTexts : List Row → Type 0
HasTexts rows = (r : Row) → Has rows r → (k : List ℕ) × (column r 1 ≡ Text k)

text_at : (a b : List ℕ) → Text a ≡ Text b → a ≡ b
text_at a b e = cc

module _ (key : List ℕ) (others : Row) where
  passes_is : (r : Row) (k : List ℕ) → column r 1 ≡ Text k → passes has_key (Text key ∷ others) r ≡ bytes_eq k key
  passes_is r k is = and_true _ ∙ rw is (texts_equal k key)

  pub passes_key : (r : Row) → column r 1 ≡ Text key → passes has_key (Text key ∷ others) r ≡ true
  passes_key r is = passes_is r key is ∙ text_itself key

  pub key_passed : (r : Row) (k : List ℕ) → column r 1 ≡ Text k → passes has_key (Text key ∷ others) r ≡ true → column r 1 ≡ Text key
  key_passed r k is h = is ∙ ap Text (same_text k key (sym (passes_is r k is) ∙ h))

-- ---- the rows that a statement finds for a key

module _ (table : List Row) (keyed : IsKeyed table) (texts : HasTexts table) (key : List ℕ) where
  module _ (others : Row) where
    abbrev params : Row
    params = Text key ∷ others

    pub lacks : (project : List Term) → AreShown has_key project table params [] → held_in table key ≡ None
    lacks project shown = held_none table key (λ r there is. shown.complete r there (passes_key key others r is))

  -- the one row of the key, and what is shown of it
  pub record Only (given : Row) (project : List Term) (x : Row) (more : List Row) : Type 0 where
    pub row : Row
    pub there : Has table row
    pub key_is : column row 1 ≡ Text key
    pub id : ℤ
    pub id_is : rowid row ≡ Int id
    pub first : x ≡ eval_all project (given ∷ row ∷ [])
    pub all : (y : Row) → Has (x ∷ more) y → y ≡ x

  pub only : (others : Row) (project : List Term) (x : Row) (more : List Row) → AreShown has_key project table (Text key ∷ others) (x ∷ more) → Only (Text key ∷ others) project x more
  only others project x more shown =
      let s = shown.sound x (inl refl) in
      let k = texts s.0 s.1 in
      let key_is = key_passed key others s.0 k.0 k.1 s.2 in
      let id = keyed.ids s.0 s.1 in
      record {
        row = s.0;
        there = s.1;
        key_is = key_is;
        id = id.0;
        id_is = id.1;
        first = s.3;
        all = λ y h.
            let t = shown.sound y h in
            let l = texts t.0 t.1 in
            t.3 ∙ ap (λ (r : Row). eval_all project ((Text key ∷ others) ∷ r ∷ [])) (keyed.keys t.0 s.0 t.1 s.1 (key_passed key others t.0 l.0 l.1 t.2 ∙ sym key_is)) ∙ sym s.3;
      }

  module _ (given : Row) (project : List Term) (x : Row) (more : List Row) (o : Only given project x more) where
    pub found_is : held_in table key ≡ Some (drop 1 o.row)
    found_is = held_row table key keyed.keys o.row o.there o.key_is

  module _ (given : Row) (rest : List Term) (x : Row) (more : List Row) (o : Only given (col 1 0 ∷ rest) x more) where
    pub gone_is : (i : ℤ) → Has (ids_of (x ∷ more)) i → i ≡ o.id
    gone_is i h =
        let y = has_mapped (λ r. id_in (rowid r)) (x ∷ more) i h in
        y.2 ∙ ap (λ (r : Row). id_in (rowid r)) (o.all y.0 y.1 ∙ o.first) ∙ ap id_in o.id_is

    pub goes : Has (ids_of (x ∷ more)) o.id
    goes = inl (sym (ap (λ (r : Row). id_in (rowid r)) o.first ∙ ap id_in o.id_is))

-- ---- what an edit makes of the table

module _ (schema : Schema) (table : Table) (db : Trees) (keyed : IsKeyed (db table.tree)) (texts : HasTexts (db table.tree)) (key : List ℕ) (next : Trees) where
  abbrev rows : List Row
  rows = db table.tree

  abbrev cast_of : Row → Row
  cast_of s = cast_row table (drop 1 s)

  -- the row is replaced by what is made of it
  module _ (given : Row) (rest : List Term) (x : Row) (more : List Row) (o : Only rows keyed texts key given (col 1 0 ∷ rest) x more)
      (applies : Applies schema Enforced db (edit_of db table (ids_of (x ∷ more)) Given 1 (x ∷ more)) next) (made : Row) (made_is : cast_of x ≡ made) (key_is : column made 1 ≡ Text key) (id_is : rowid made ≡ Int o.id) where
    pub replaces : SetsRow rows (next table.tree) key made × IsKeyed (next table.tree)
    replaces =
        let ids = ids_of (x ∷ more) in
        let left = without_all rows ids in
        let edit = edit_of db table ids Given 1 (x ∷ more) in
        let news_are : edit.news ≡ cast_of x ∷ map cast_of more = given_numbers left (map cast_of (x ∷ more)) in
        let news_made : edit.news ≡ made ∷ map cast_of more = news_are ∙ ap (λ (z : Row). z ∷ map cast_of more) made_is in
        let alike : (z : Row) → Has edit.news z → z ≡ made = λ z h.
        let y = has_mapped cast_of (x ∷ more) z (subst (λ l. Has l z) news_are h) in y.2 ∙ ap cast_of (o.all y.0 y.1) ∙ made_is in
        let gone = gone_is rows keyed texts key given rest x more o in
        let at = goes rows keyed texts key given rest x more o in
        let s = replaced rows edit.news ids applies.fresh keyed o.row o.there o.id o.id_is key o.key_is gone at made (map cast_of more) news_made alike key_is id_is in
        let k = replaced_keyed rows edit.news ids applies.fresh keyed o.row o.there o.id o.id_is key o.key_is gone at made (map cast_of more) news_made alike key_is id_is in
        (subst (λ l. SetsRow rows l key made) (sym applies.rows) s, subst IsKeyed (sym applies.rows) k)

    pub replaced_count : length (edit_of db table (ids_of (x ∷ more)) Given 1 (x ∷ more)).news ≡ suc (length (map cast_of more))
    replaced_count = ap length (given_numbers (without_all rows (ids_of (x ∷ more))) (map cast_of (x ∷ more)))

    pub sets_key : (k : List ℕ) → held_in (next table.tree) k ≡ if bytes_eq k key then Some (drop 1 made) else held_in rows k
    sets_key = set_is rows (next table.tree) key made replaces.0 keyed.keys

  -- the rows of the key, and what they were, are gone
  abbrev pub Clears : ℕ → Type 0
  Clears count =
      IsKeyed (next table.tree) × ((k : List ℕ) → held_in (next table.tree) k ≡ if bytes_eq k key then None else held_in rows k)
      × (((count ≡ 0) × (held_in rows key ≡ None)) ⊎ ((n : ℕ) × (count ≡ suc n) × (c : Row) × (held_in rows key ≡ Some c)))

  clears_none : held_in rows key ≡ None → (k : List ℕ) → held_in rows k ≡ if bytes_eq k key then None else held_in rows k
  clears_none none k = elim (cases_Bool (bytes_eq k key)) [ inl same ↦ rw same (ap (held_in rows) (same_text k key same) ∙ none) | inr other ↦ rw other refl ]

  pub clears : (found : List Row) → AreShown has_key forget_project rows (Text key ∷ []) found → Applies schema Enforced db (edit_of db table (ids_of found) Given 0 []) next
      → Clears (length (taken_by db (edit_of db table (ids_of found) Given 0 [])))
  clears [] shown applies =
      let none = lacks rows keyed texts key [] forget_project shown in
      (subst IsKeyed (sym applies.rows) keyed, (λ k. ap (λ l. held_in l k) applies.rows ∙ clears_none none k), inl (refl, none))
  clears (x ∷ more) shown applies =
      let o = only rows keyed texts key [] forget_project x more shown in
      let ids = ids_of (x ∷ more) in
      let params = Text key ∷ [] in
      let s = cleared rows [] ids refl keyed o.row o.there o.id o.id_is key o.key_is (gone_is rows keyed texts key params [] x more o) (goes rows keyed texts key params [] x more o) refl in
      let s : ClearsRow rows (next table.tree) key = subst (λ l. ClearsRow rows l key) (sym applies.rows) s in (
        keyed_clear rows (next table.tree) key keyed s,
        clear_is rows (next table.tree) key s keyed.keys,
        inr (length (map (row_at rows) (ids_of more)), refl, drop 1 o.row, found_is rows keyed texts key params forget_project x more o),
      )
