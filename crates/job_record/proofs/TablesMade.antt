-- The tables that are made for a new record stand in its store, whatever else is there.
use Rattle.std.proofs.Common.{◌≡◌, ◌≢◌, inl, inr, ℕ, ◌+◌, ◌^◌, ◌<◌, Bool, true, false, not, ◌&&◌, ◌||◌, true≢false, cond, List, [], ◌∷◌, ◌++◌, length, find, codes, Option, Some, None, option_map, refl, sym, ap, subst, ◌∙◌, arith}
use Rattle.std.specs.Prelude.{◌==◌, slice_get, is_some, option_and_then}
use Rattle.std.specs.List.{list_any, position_from}
use Rattle.std.specs.Option.{option_or}
use Rattle.std.proofs.lemmas.Bool.{eq-eqb, ne_eqb}
use Rattle.std.proofs.lemmas.List.Folds.{find-append, list_any-append}
use Rattle.sqlite.specs.Table.{Table}
use Rattle.sqlite.specs.Schema.{Schema}
use Rattle.sqlite.specs.Change.{created, next_tree, automatics}
use Rattle.sqlite.specs.Does.{lacks_sequence}
use Rattle.sqlite.specs.Rows.{sequence}
use Rattle.sqlite_schema.specs.Names.{same_name, table_named}
use Rattle.sqlite_schema.specs.declared.schema.Index.{Index}
use Rattle.sqlite_schema.specs.declared.schema.Reference.{Reference}
use Rattle.sqlite_rules.specs.Lists.{Has}
use Rattle.sqlite_resolve.specs.Given.{is_key_at, are_among}
use Rattle.sqlite_catalog.specs.Listing.{automatic}
use Rattle.sqlite_catalog.proofs.StepLemmas.{table_below}
use Rattle.job_record.specs.Tables.{meta_at, job_at, archive_at}
use Rattle.job_record.specs.Places.{StandsAt, HasKeyIndex, meta_tree, job_tree, archive_tree, HasTables, IsOther, RefersElsewhere, AreHarmless, HasOwnTree, HasRecord, TakesRecord, IsVacant, with_first, with_record}
use Rattle.job_record.proofs.Placed.{tree_is, tables_at}
use Rattle.job_record.proofs.Beside.{and_false}
use Rattle.job_record.proofs.TableMade.{position_none, position_stays, get_stays, find_none, before_last, stands_last, stands_stays, was_or_new, own_new, own_stays, harmless_stays, index_was_or_new, key_stays}
use Rattle.job_record.proofs.Unknown.{IsUnknown}

pub has_last : {X : Type 0} (x : X) (xs : List X) → Has (xs ++ x ∷ []) x
has_last x [] = inl refl
has_last x (y ∷ ys) = inr (has_last x ys)

rises : (schema : Schema) (table : Table) → next_tree schema < next_tree (created schema table)
rises schema table = let new : Table = record table { tree = next_tree schema } in table_below (created schema table) new (has_last new schema.tables)

pub free_after : (schema : Schema) (table : Table) (name : List ℕ) → table_named schema name ≡ None → same_name table.name name ≡ false → table_named (created schema table) name ≡ None
free_after schema table name free other = position_none (λ (t : Table). same_name t.name name) (record table { tree = next_tree schema }) other schema.tables 0 free

-- ---- the index by the key of a row

no_key : (b d e f : Bool) → (b && false && d && e && f) ≡ false
no_key true d e f = refl
no_key false d e f = refl

key_elsewhere : (tree : ℕ) (i : Index) → i.table ≢ tree → is_key_at (job_at tree) (1 ∷ []) i ≡ false
unfolding is_key_at
key_elsewhere tree i other =
    ap (λ b. i.is_unique && b && (length i.columns == 1) && are_among (1 ∷ []) i.columns && are_among i.columns (1 ∷ [])) (ne_eqb i.table tree other)
    ∙ no_key i.is_unique (length i.columns == 1) (are_among (1 ∷ []) i.columns) (are_among i.columns (1 ∷ []))

key_here : (tree : ℕ) → is_key_at (job_at tree) (1 ∷ []) (automatic (job_at tree) 0 (1 ∷ []) (tree + 1)) ≡ true
unfolding is_key_at
key_here tree = ap (λ b. true && b && true && true && true) (eq-eqb tree tree refl)

module _ (schema : Schema) (h : TakesRecord schema) where
  abbrev one : Schema
  one = created schema (meta_at 0)

  abbrev two : Schema
  two = created one (job_at 0)

  abbrev tree : ℕ
  tree = next_tree one

  abbrev is_key : Index → Bool
  is_key = is_key_at (job_at tree) (1 ∷ [])

  abbrev key_index : Index
  key_index = automatic (job_at tree) 0 (1 ∷ []) (tree + 1)

  before : find is_key one.indexes ≡ None
  before =
      let up : next_tree schema < tree = rises schema (meta_at 0) in
      find-append is_key schema.indexes (automatic (meta_at (next_tree schema)) 0 (1 ∷ []) (next_tree schema + 1) ∷ [])
      ∙ ap (λ o. option_or o (find is_key (automatic (meta_at (next_tree schema)) 0 (1 ∷ []) (next_tree schema + 1) ∷ [])))
      (find_none is_key schema.indexes (λ i there. let low = h.indexes i there in key_elsewhere tree i (λ same. omega (arith, same, low, up))))
      ∙ ap (λ b. cond b (Some (automatic (meta_at (next_tree schema)) 0 (1 ∷ []) (next_tree schema + 1))) None)
      (key_elsewhere tree (automatic (meta_at (next_tree schema)) 0 (1 ∷ []) (next_tree schema + 1)) (λ same. omega (arith, same, up)))

  found : find is_key two.indexes ≡ Some key_index
  found =
      find-append is_key one.indexes (key_index ∷ [])
      ∙ ap (λ o. option_or o (find is_key (key_index ∷ []))) before
      ∙ ap (λ b. cond b (Some key_index) None) (key_here tree)

  pub key_there : HasKeyIndex two (job_at tree)
  key_there = ap (option_map (λ (i : Index). i.columns)) found

  abbrev whole : Schema
  whole = with_record schema

  abbrev pub meta_made : Table
  meta_made = meta_at (next_tree schema)

  abbrev pub job_made : Table
  job_made = job_at tree

  abbrev archive_made : Table
  archive_made = archive_at (next_tree two)

  pub first_up : next_tree schema < next_tree one
  first_up = rises schema (meta_at 0)

  pub second_up : next_tree one < next_tree two
  second_up = rises one (job_at 0)

  pub third_up : next_tree two < 2 ^ 31
  third_up = let up = rises two (archive_at 0) in let room : next_tree whole < 2 ^ 31 = h.room in omega (arith, up, room)

  -- ---- the tables of version 1, and the third

  pub meta_first : StandsAt two meta_made (length schema.tables)
  unfolding same_name
  meta_first =
      let up1 = first_up in
      let up2 = second_up in
      let up3 = third_up in
      stands_stays one meta_made (job_at 0) (length schema.tables) (stands_last schema (meta_at 0) h.meta refl (omega (arith, up1, up2, up3)))

  pub job_first : StandsAt two job_made (length one.tables)
  unfolding same_name
  job_first =
      let up2 = second_up in
      let up3 = third_up in
      stands_last one (job_at 0) (free_after schema (meta_at 0) (codes "job") h.job refl) refl (omega (arith, up2, up3))

  meta_stands : StandsAt whole meta_made (length schema.tables)
  meta_stands = stands_stays two meta_made (archive_at 0) (length schema.tables) meta_first

  job_stands : StandsAt whole job_made (length one.tables)
  job_stands = stands_stays two job_made (archive_at 0) (length one.tables) job_first

  archive_stands : StandsAt whole archive_made (length two.tables)
  unfolding same_name
  archive_stands = stands_last two (archive_at 0) (free_after one (job_at 0) (codes "archive") (free_after schema (meta_at 0) (codes "archive") h.archive refl) refl) refl third_up

  pub stands_made : HasTables (with_record schema)
  stands_made = tables_at whole (next_tree schema) (length schema.tables) tree (length one.tables) (next_tree two) (length two.tables) meta_stands job_stands archive_stands (key_stays two (archive_at 0) job_made key_there)

  pub meta_tree_is : meta_tree whole ≡ next_tree schema
  meta_tree_is = tree_is whole meta_made (length schema.tables) meta_stands

  pub job_tree_is : job_tree whole ≡ next_tree one
  job_tree_is = tree_is whole job_made (length one.tables) job_stands

  pub archive_tree_is : archive_tree whole ≡ next_tree two
  archive_tree_is = tree_is whole archive_made (length two.tables) archive_stands

  -- one that is none of the three was there
  pub other_was : (t : Table) → Has whole.tables t → IsOther whole t → Has schema.tables t
  other_was t there other = elim (was_or_new two (archive_at 0) t there) [
    | inl in_two ↦ elim (was_or_new one (job_at 0) t in_two) [
      | inl in_one ↦ elim (was_or_new schema (meta_at 0) t in_one) [ inl was ↦ was | inr is ↦ absurd (other.0 (is ∙ ap meta_at (sym meta_tree_is))) ]
      | inr is ↦ absurd (other.1 (is ∙ ap job_at (sym job_tree_is)))
    ]
    | inr is ↦ absurd (other.2 (is ∙ ap archive_at (sym archive_tree_is)))
  ]

  -- each is in a tree of its own
  pub metas_first : HasOwnTree two meta_made
  metas_first = own_stays one (job_at 0) meta_made (has_last meta_made schema.tables) (own_new schema (meta_at 0))

  pub jobs_first : HasOwnTree two job_made
  jobs_first = own_new one (job_at 0)

  jobs_apart : HasOwnTree whole job_made
  jobs_apart = own_stays two (archive_at 0) job_made (has_last job_made one.tables) jobs_first

  archives_apart : HasOwnTree whole archive_made
  archives_apart = own_new two (archive_at 0)

  pub indexes_first : (i : Index) → Has two.indexes i → i.table ≡ tree → i ≡ automatic job_made 0 (1 ∷ []) i.tree
  indexes_first i there same =
      let up1 = first_up in
      elim (before_last one.indexes key_index i there) [
        | inl in_one ↦ elim (index_was_or_new schema (meta_at 0) i in_one) [
          | inl was ↦ let low = h.indexes i was in absurd (omega (arith, same, low, up1))
          | inr e ↦ absurd (omega (arith, e, same, up1))
        ]
        | inr is ↦ is ∙ ap (automatic job_made 0 (1 ∷ [])) (sym (ap (λ (z : Index). z.tree) is))
      ]

  indexes_apart : (i : Index) → Has whole.indexes i → i.table ≡ tree → i ≡ automatic job_made 0 (1 ∷ []) i.tree
  indexes_apart i there same =
      let up2 = second_up in
      elim (index_was_or_new two (archive_at 0) i there) [ inl was ↦ indexes_first i was same | inr e ↦ absurd (omega (arith, e, same, up2)) ]

-- ---- the names that are free once a table is made

-- a table with one index
module _ (schema : Schema) (table : Table) (one_key : table.uniques ≡ (1 ∷ []) ∷ []) where
  abbrev after : Schema
  after = created schema table

  unknown_after : (name : List ℕ) → IsUnknown schema name → same_name table.name name ≡ false → same_name (automatic table 0 (1 ∷ []) 0).name name ≡ false → IsUnknown after name
  unknown_after name free other index_other = (
    free_after schema table name free.0 other,
    ap (λ keys. position_from (λ (i : Index). same_name i.name name) 0 (schema.indexes ++ automatics (record table { tree = next_tree schema }) 0 (next_tree schema + 1) keys)) one_key
        ∙ position_none (λ (i : Index). same_name i.name name) (automatic (record table { tree = next_tree schema }) 0 (1 ∷ []) (next_tree schema + 1)) index_other schema.indexes 0 free.1,
    free.2,
  )

module _ (schema : Schema) (table : Table) where
  abbrev later : Schema
  later = created schema table

  sequence_by : (x : Table) (place : Option ℕ) → table_named schema (codes "sqlite_sequence") ≡ place → option_and_then (slice_get schema.tables) place ≡ Some x → sequence later ≡ Some x
  sequence_by x None named at = absurd (let e = at in cc)
  sequence_by x (Some k) named at =
      let new : Table = record table { tree = next_tree schema } in
      ap (option_and_then (slice_get (schema.tables ++ new ∷ []))) (position_stays (λ (t : Table). same_name t.name (codes "sqlite_sequence")) (new ∷ []) schema.tables 0 k named) ∙ get_stays (new ∷ []) x schema.tables k at

  abbrev counts : Table → Bool
  counts t = t.is_counted

  counted_by : (b : Bool) → list_any counts schema.tables ≡ b → (o : Option Table) → sequence schema ≡ o → table.is_counted ≡ false → lacks_sequence schema ≡ false → lacks_sequence later ≡ false
  counted_by false none o at plain h =
      ap (λ b. b && not (is_some (sequence later))) (list_any-append counts schema.tables (record table { tree = next_tree schema } ∷ []) ∙ ap (λ b. b || (table.is_counted || false)) none ∙ ap (λ b. b || false) plain)
  counted_by true some None at plain h = absurd (true≢false (sym (ap (λ b. b && not (is_some (sequence schema))) some ∙ ap (λ o. not (is_some o)) at) ∙ h))
  counted_by true some (Some x) at plain h = ap (λ o. list_any counts later.tables && not (is_some o)) (sequence_by x (table_named schema (codes "sqlite_sequence")) refl at) ∙ and_false (list_any counts later.tables)

  pub counted_after : table.is_counted ≡ false → lacks_sequence schema ≡ false → lacks_sequence later ≡ false
  counted_after = counted_by (list_any counts schema.tables) refl (sequence schema) refl

-- ---- a store in which a record can be made

module _ (schema : Schema) (v : IsVacant schema) where
  pub meta_free : IsUnknown schema (codes "meta")
  meta_free = (v.takes.meta, v.meta.0, v.meta.1)

  pub job_free : IsUnknown (created schema (meta_at 0)) (codes "job")
  unfolding same_name
  job_free = unknown_after schema (meta_at 0) refl (codes "job") (v.takes.job, v.job.0, v.job.1) refl refl

  pub archive_free : IsUnknown (created (created schema (meta_at 0)) (job_at 0)) (codes "archive")
  unfolding same_name
  archive_free = unknown_after (created schema (meta_at 0)) (job_at 0) refl (codes "archive") (unknown_after schema (meta_at 0) refl (codes "archive") (v.takes.archive, v.archive.0, v.archive.1) refl refl) refl refl

  pub meta_counted : lacks_sequence (created schema (meta_at 0)) ≡ false
  meta_counted = counted_after schema (meta_at 0) refl v.counted

  pub job_counted : lacks_sequence (created (created schema (meta_at 0)) (job_at 0)) ≡ false
  job_counted = counted_after (created schema (meta_at 0)) (job_at 0) refl meta_counted

  pub archive_counted : lacks_sequence (with_record schema) ≡ false
  archive_counted = counted_after (created (created schema (meta_at 0)) (job_at 0)) (archive_at 0) refl job_counted

module _ (schema : Schema) (Elsewhere : Reference → Type 0) (harmless : AreHarmless schema Elsewhere) where
  pub first_harmless : AreHarmless (with_first schema) Elsewhere
  first_harmless = harmless_stays (created schema (meta_at 0)) (job_at 0) Elsewhere refl (harmless_stays schema (meta_at 0) Elsewhere refl harmless)

  all_harmless : AreHarmless (with_record schema) Elsewhere
  all_harmless = harmless_stays (with_first schema) (archive_at 0) Elsewhere refl first_harmless

pub record_made : (schema : Schema) → IsVacant schema → HasRecord (with_record schema)
record_made schema v = record {
  tables = stands_made schema v.takes;
  apart = record {
    jobs = subst (λ n. HasOwnTree (with_record schema) (job_at n)) (sym (job_tree_is schema v.takes)) (jobs_apart schema v.takes);
    archives = subst (λ n. HasOwnTree (with_record schema) (archive_at n)) (sym (archive_tree_is schema v.takes)) (archives_apart schema v.takes);
    references = all_harmless schema RefersElsewhere v.references;
    indexes = λ i there unique at columns. subst (λ n. i.table ≡ n → i ≡ automatic (job_at n) 0 (1 ∷ []) i.tree) (sym (job_tree_is schema v.takes)) (indexes_apart schema v.takes i there) at;
  };
}
