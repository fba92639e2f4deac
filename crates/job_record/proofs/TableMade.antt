-- A table that is made stands in its store, apart from the others, and still does if another is made after it.
use Rattle.std.proofs.Common.{◌≡◌, ◌⊎◌, inl, inr, ℕ, zero, suc, ◌+◌, ◌^◌, ◌<◌, Bool, true, false, cond, List, [], ◌∷◌, ◌++◌, length, find, Option, Some, None, option_map, refl, ap, subst, ◌∙◌, arith}
use Rattle.std.specs.Prelude.{slice_get, ◌==◌}
use Rattle.std.specs.List.{position_from}
use Rattle.std.specs.Option.{option_or}
use Rattle.std.proofs.lemmas.Bool.{lt-leb, eq-eqb, ne_eqb}
use Rattle.std.proofs.lemmas.List.Folds.{find-append}
use Rattle.sqlite.specs.Table.{Table}
use Rattle.sqlite.specs.Schema.{Schema}
use Rattle.sqlite.specs.Change.{created, next_tree, automatics}
use Rattle.sqlite_schema.specs.Names.{same_name, table_named}
use Rattle.sqlite_schema.specs.declared.schema.Index.{Index}
use Rattle.sqlite_schema.specs.declared.schema.Reference.{Reference}
use Rattle.sqlite_rules.specs.Lists.{Has}
use Rattle.sqlite_resolve.specs.Given.{is_key_at}
use Rattle.sqlite_catalog.proofs.StepLemmas.{table_below}
use Rattle.job_record.specs.Places.{StandsAt, HasKeyIndex, AreHarmless, HasOwnTree}

-- ---- one more at the end of a list

none_first : (b : Bool) (i : ℕ) (o : Option ℕ) → cond b (Some i) o ≡ None → (b ≡ false) × (o ≡ None)
none_first true i o h = absurd cc
none_first false i o h = (refl, h)

stays_by : (b : Bool) (i k : ℕ) (o p : Option ℕ) → (o ≡ Some k → p ≡ Some k) → cond b (Some i) o ≡ Some k → cond b (Some i) p ≡ Some k
stays_by true i k o p later h = h
stays_by false i k o p later h = later h

module _ {X : Type 0} where
  position_last : (test : X → Bool) (x : X) → test x ≡ true → (xs : List X) (i k : ℕ) → k ≡ i + length xs → position_from test i xs ≡ None → position_from test i (xs ++ x ∷ []) ≡ Some k
  position_last test x passes [] i k e none = ap (λ b. cond b (Some i) None) passes ∙ ap Some (omega arith)
  position_last test x passes (y ∷ ys) i k e none =
      let parts = none_first (test y) i (position_from test (i + 1) ys) none in
      ap (λ b. cond b (Some i) (position_from test (i + 1) (ys ++ x ∷ []))) parts.0 ∙ position_last test x passes ys (i + 1) k (omega arith) parts.1

  pub position_none : (test : X → Bool) (x : X) → test x ≡ false → (xs : List X) (i : ℕ) → position_from test i xs ≡ None → position_from test i (xs ++ x ∷ []) ≡ None
  position_none test x fails [] i none = ap (λ b. cond b (Some i) None) fails
  position_none test x fails (y ∷ ys) i none =
      let parts = none_first (test y) i (position_from test (i + 1) ys) none in
      ap (λ b. cond b (Some i) (position_from test (i + 1) (ys ++ x ∷ []))) parts.0 ∙ position_none test x fails ys (i + 1) parts.1

  pub position_stays : (test : X → Bool) (more xs : List X) (i k : ℕ) → position_from test i xs ≡ Some k → position_from test i (xs ++ more) ≡ Some k
  position_stays test more [] i k h = absurd cc
  position_stays test more (y ∷ ys) i k h = stays_by (test y) i k (position_from test (i + 1) ys) (position_from test (i + 1) (ys ++ more)) (position_stays test more ys (i + 1) k) h

  get_last : (x : X) (xs : List X) → slice_get (xs ++ x ∷ []) (length xs) ≡ Some x
  get_last x [] = refl
  get_last x (y ∷ ys) = get_last x ys

  pub get_stays : (more : List X) (x : X) (xs : List X) (k : ℕ) → slice_get xs k ≡ Some x → slice_get (xs ++ more) k ≡ Some x
  get_stays more x [] k h = absurd cc
  get_stays more x (y ∷ ys) zero h = h
  get_stays more x (y ∷ ys) (suc k) h = get_stays more x ys k h

  pub find_none : (test : X → Bool) (xs : List X) → ((x : X) → Has xs x → test x ≡ false) → find test xs ≡ None
  find_none test [] each = refl
  find_none test (y ∷ ys) each = ap (λ b. cond b (Some y) (find test ys)) (each y (inl refl)) ∙ find_none test ys (λ x h. each x (inr h))

pub before_last : {X : Type 0} (xs : List X) (last x : X) → Has (xs ++ last ∷ []) x → Has xs x ⊎ (x ≡ last)
before_last [] last x (inl is) = inr is
before_last [] last x (inr none) = absurd none
before_last (y ∷ ys) last x (inl is) = inl (inl is)
before_last (y ∷ ys) last x (inr later) = elim (before_last ys last x later) [ inl before ↦ inl (inr before) | inr is ↦ inr is ]

in_either : {X : Type 0} (xs ys : List X) (x : X) → Has (xs ++ ys) x → Has xs x ⊎ Has ys x
in_either [] ys x there = inr there
in_either (y ∷ xs) ys x (inl is) = inl (inl is)
in_either (y ∷ xs) ys x (inr later) = elim (in_either xs ys x later) [ inl before ↦ inl (inr before) | inr after ↦ inr after ]

-- ---- a table

pub stands_last : (schema : Schema) (table : Table) → table_named schema table.name ≡ None → same_name table.name table.name ≡ true → next_tree schema < 2 ^ 31
    → StandsAt (created schema table) (record table { tree = next_tree schema }) (length schema.tables)
stands_last schema table free own room =
    let new : Table = record table { tree = next_tree schema } in record {
      named = position_last (λ (t : Table). same_name t.name table.name) new own schema.tables 0 (length schema.tables) (omega arith) free;
      placed = get_last new schema.tables;
      treed =
          find-append (λ (t : Table). t.tree == next_tree schema) schema.tables (new ∷ [])
          ∙ ap (λ o. option_or o (cond (next_tree schema == next_tree schema) (Some new) None))
          (find_none (λ (t : Table). t.tree == next_tree schema) schema.tables (λ t there. let low = table_below schema t there in ne_eqb t.tree (next_tree schema) (λ same. omega (arith, same, low))))
          ∙ ap (λ b. cond b (Some new) None) (eq-eqb (next_tree schema) (next_tree schema) refl);
      below = lt-leb (2 ^ 31) (next_tree schema) room;
    }

pub stands_stays : (schema : Schema) (table other : Table) (place : ℕ) → StandsAt schema table place → StandsAt (created schema other) table place
stands_stays schema table other place h =
    let new : Table = record other { tree = next_tree schema } in record {
      named = position_stays (λ (t : Table). same_name t.name table.name) (new ∷ []) schema.tables 0 place h.named;
      placed = get_stays (new ∷ []) table schema.tables place h.placed;
      treed = find-append (λ (t : Table). t.tree == table.tree) schema.tables (new ∷ []) ∙ ap (λ o. option_or o (find (λ (t : Table). t.tree == table.tree) (new ∷ []))) h.treed;
      below = h.below;
    }

-- ---- each table is one that was there, or the new one

module _ (schema : Schema) (table : Table) where
  abbrev after : Schema
  after = created schema table

  abbrev new : Table
  new = record table { tree = next_tree schema }

  pub was_or_new : (t : Table) → Has after.tables t → Has schema.tables t ⊎ (t ≡ new)
  was_or_new = before_last schema.tables new

  pub own_new : HasOwnTree after new
  own_new t there same = elim (was_or_new t there) [ inl was ↦ let low = table_below schema t was in absurd (omega (arith, same, low)) | inr is ↦ is ]

  pub own_stays : (own : Table) → Has schema.tables own → HasOwnTree schema own → HasOwnTree after own
  own_stays own here alone t there same = elim (was_or_new t there) [
    | inl was ↦ alone t was same
    | inr is ↦ let low = table_below schema own here in let e : t.tree ≡ next_tree schema = ap (λ (z : Table). z.tree) is in absurd (omega (arith, e, same, low))
  ]

  pub harmless_stays : (Elsewhere : Reference → Type 0) → table.references ≡ [] → AreHarmless schema Elsewhere → AreHarmless after Elsewhere
  harmless_stays Elsewhere none each t reference there own = elim (was_or_new t there) [
    | inl was ↦ each t reference was own
    | inr is ↦ absurd (subst (λ l. Has l reference) (ap (λ (z : Table). z.references) is ∙ none) own)
  ]

  -- ---- and each index

  of_keys : (i : Index) (at tree : ℕ) (keys : List (List ℕ)) → Has (automatics new at tree keys) i → i.table ≡ next_tree schema
  of_keys i at tree [] none = absurd none
  of_keys i at tree (key ∷ keys) (inl is) = ap (λ (z : Index). z.table) is
  of_keys i at tree (key ∷ keys) (inr later) = of_keys i (at + 1) (tree + 1) keys later

  pub index_was_or_new : (i : Index) → Has after.indexes i → Has schema.indexes i ⊎ (i.table ≡ next_tree schema)
  index_was_or_new i there = elim (in_either schema.indexes (automatics new 0 (new.tree + 1) new.uniques) i there) [ inl was ↦ inl was | inr made ↦ inr (of_keys i 0 (new.tree + 1) new.uniques made) ]

  -- the index by which a row is found is still the first of its kind
  pub key_stays : (job : Table) → HasKeyIndex schema job → HasKeyIndex after job
  key_stays job is =
      let later : List Index = automatics new 0 (new.tree + 1) new.uniques in
      ap (option_map (λ (i : Index). i.columns)) (find-append (is_key_at job (1 ∷ [])) schema.indexes later) ∙ first_found (find (is_key_at job (1 ∷ [])) schema.indexes) (find (is_key_at job (1 ∷ [])) later) is
    where
      first_found : (o p : Option Index) → option_map (λ (i : Index). i.columns) o ≡ Some (1 ∷ []) → option_map (λ (i : Index). i.columns) (option_or o p) ≡ Some (1 ∷ [])
      first_found None p none = absurd (let e = none in cc)
      first_found (Some i) p found = found
