-- What others have added to a database stays out of what is done to the tables of a record.
use Rattle.std.proofs.Common.{◌≡◌, ◌≢◌, ◌⊎◌, inl, inr, ℕ, Bool, true, false, ◌&&◌, ◌==◌, true≢false, List, [], ◌∷◌, ◌++◌, find, Option, Some, None, option_map, refl, sym, ap, ◌∙◌}
use Rattle.std.specs.Prelude.{option_and_then}
use Rattle.std.specs.List.{list_any, flat_map, filter_map, cons_option}
use Rattle.std.proofs.lemmas.Bool.{and_parts, false_from_ne_true, eq-eqb, eqb-true, ne_eqb}
use Rattle.sqlite.specs.Collation.TheVariants.{Binary}
use Rattle.sqlite.specs.Order.{Row, column}
use Rattle.sqlite.specs.Table.{Table}
use Rattle.sqlite.specs.Schema.{Schema}
use Rattle.sqlite_value.proofs.KeyLemmas.{first_key-plain}
use Rattle.sqlite_sql.specs.Ops.{is_true, binary}
use Rattle.sqlite_sql.specs.declared.ops.BinaryOp.TheVariants.{Compare}
use Rattle.sqlite_sql.specs.declared.ops.CompareOp.TheVariants.{Eq}
use Rattle.sqlite_schema.specs.Names.{same_name}
use Rattle.sqlite_schema.specs.Rules.{ParentKey, key_in, key_places, declared_order}
use Rattle.sqlite_schema.specs.declared.schema.Index.{Index}
use Rattle.sqlite_schema.specs.declared.schema.Reference.{Reference}
use Rattle.sqlite_schema.specs.declared.schema.Keys.TheVariants.{Enforced}
use Rattle.sqlite_value.specs.declared.keys.Order.{Order}
use Rattle.sqlite_rules.specs.Lists.{Has}
use Rattle.sqlite_rules.specs.Keys.{shares}
use Rattle.sqlite_rules.specs.Action.{works, work_for, work_by, pairs, deed_of, deed_for}
use Rattle.sqlite_rules.specs.declared.action.Deed.{Deed}
use Rattle.sqlite_rules.proofs.ListLemmas.{has_found, some_has, some_from}
use Rattle.sqlite_resolve.specs.Given.{is_key_at}
use Rattle.sqlite_catalog.specs.Listing.{automatic}
use Rattle.job_record.specs.Places.{job_tree, job_in, archive_in, IsPassive, RefersElsewhere, AreHarmless, HasOwnTree, HasRecord}
use Rattle.job_record.proofs.KeyTest.{same_text, and_true}
use Rattle.job_record.proofs.Writing.{IsIdle}

-- ---- the index by which a row with the same key is found

any_is : {X : Type 0} (test : X → Bool) (xs : List X) (b : Bool) → ((x : X) → Has xs x → test x ≡ true → b ≡ true) → (x : X) → Has xs x → test x ≡ b → list_any test xs ≡ b
any_is test xs true only x there is = some_from test xs x there is
any_is test xs false only x there is = false_from_ne_true _ (λ h. let found = some_has test xs h in true≢false (sym (only found.0 found.1 found.2)))

module _ (schema : Schema) (h : HasRecord schema) (new r : Row) where
  abbrev own : Bool
  own = is_true (binary (Compare Eq Binary) (column r 1) (column new 1))

  abbrev shared : Index → Bool
  shared = shares (Some (1 ∷ [])) (job_in schema) new r

  shares_own : (tree : ℕ) → shared (automatic (job_in schema) 0 (1 ∷ []) tree) ≡ own
  shares_own tree = rw (eq-eqb (job_tree schema) (job_tree schema) refl, first_key-plain) (and_true _)

  of_index : (i : Index) → Has schema.indexes i → i.is_unique ≡ true → (i.table == job_tree schema) ≡ true → i.columns ≡ 1 ∷ [] → shared i ≡ own
  of_index i there unique at columns = ap shared (h.apart.indexes i there unique (eqb-true i.table (job_tree schema) at) columns) ∙ shares_own i.tree

  only_own : (i : Index) → Has schema.indexes i → shared i ≡ true → own ≡ true
  only_own i there is =
      let parts = and_parts _ _ (and_parts _ _ is).0 in
      let guarded = and_parts _ _ parts.0 in
      sym (of_index i there guarded.0 guarded.1 (sym (same_text (1 ∷ []) i.columns parts.1))) ∙ is

  the_columns : (i : Index) → option_map (λ (i : Index). i.columns) (Some i) ≡ Some (1 ∷ []) → i.columns ≡ 1 ∷ []
  the_columns i is = cc

  key_index : (found : Option Index) → find (is_key_at (job_in schema) (1 ∷ [])) schema.indexes ≡ found → option_map (λ i. i.columns) found ≡ Some (1 ∷ []) → list_any shared schema.indexes ≡ own
  unfolding is_key_at
  key_index None at is = absurd (let e = is in cc)
  key_index (Some i) at is =
      let found = has_found (is_key_at (job_in schema) (1 ∷ [])) schema.indexes i at in
      let parts = and_parts _ _ (and_parts _ _ (and_parts _ _ (and_parts _ _ found.1).0).0).0 in
      let columns = the_columns i is in
      any_is shared schema.indexes own only_own i found.0 (of_index i found.0 parts.0 parts.1 columns)

  -- two rows share the key of an index if they have one key
  pub shares_key : list_any shared schema.indexes ≡ own
  shares_key = key_index _ refl h.tables.keyed

-- ---- foreign keys

flat_none : {X A : Type 0} (f : X → List A) (xs : List X) → ((x : X) → Has xs x → f x ≡ []) → flat_map f xs ≡ []
flat_none f [] each = refl
flat_none f (x ∷ xs) each = ap (λ l. l ++ flat_map f xs) (each x (inl refl)) ∙ flat_none f xs (λ y h. each y (inr h))

filter_none : {X Y : Type 0} (h : X → Option Y) (xs : List X) → ((x : X) → Has xs x → h x ≡ None) → filter_map h xs ≡ []
filter_none h [] each = refl
filter_none h (x ∷ xs) each = ap (λ o. cons_option o (filter_map h xs)) (each x (inl refl)) ∙ filter_none h xs (λ y there. each y (inr there))

-- one that is passive sets nothing off
no_deed : (deletes : Bool) (reference : Reference) → IsPassive reference → deed_for Enforced deletes reference ≡ None
no_deed true reference passive = ap (deed_of Enforced true) passive.0
no_deed false reference passive = ap (deed_of Enforced false) passive.1

module _ (tree : ℕ) (moves : List (Row × Row)) (child : Table) (reference : Reference) where
  no_work : (deed : Option Deed) → deed ≡ None → (key : Option ParentKey) → work_by 0 tree moves child reference deed key ≡ None
  no_work None is key = refl
  no_work (Some deed) is key = absurd (let e = is in cc)

  module _ (parent : Table) (other : parent.tree ≢ tree) (deed : Deed) where
    of_order : (places : List ℕ) (order : Option Order) → work_by 0 tree moves child reference (Some deed) (option_map (λ o. (parent.tree, places, o)) order) ≡ None
    of_order places None = refl
    of_order places (Some order) = rw (ne_eqb parent.tree tree other) refl

    of_places : (places : Option (List ℕ)) → work_by 0 tree moves child reference (Some deed) (option_and_then (key_in parent) places) ≡ None
    of_places None = refl
    of_places (Some places) = of_order places (declared_order parent places)

  of_parent : (deed : Option Deed) (found : Option Table) → ((parent : Table) → found ≡ Some parent → parent.tree ≢ tree)
      → work_by 0 tree moves child reference deed (option_and_then (λ t. option_and_then (key_in t) (key_places t reference.parent_columns)) found) ≡ None
  of_parent None found other = refl
  of_parent (Some deed) None other = refl
  of_parent (Some deed) (Some parent) other = of_places parent (other parent refl) deed (key_places parent reference.parent_columns)

-- rows that are added set nothing off
pub and_false : (b : Bool) → (b && false) ≡ false
and_false true = refl
and_false false = refl

no_move : (tree : ℕ) (child : Table) (reference : Reference) (deed : Option Deed) (key : Option ParentKey) → work_by 0 tree [] child reference deed key ≡ None
no_move tree child reference None key = refl
no_move tree child reference (Some deed) None = refl
no_move tree child reference (Some deed) (Some key) = rw (and_false (key.0 == tree)) refl

pub adds_idle : (schema : Schema) (tree : ℕ) (news : List Row) → works schema Enforced 0 tree [] news ≡ []
adds_idle schema tree news = flat_none _ schema.tables (λ t there. filter_none _ t.references (λ reference own. no_move tree t reference _ _))

-- a table in a tree of its own, to which foreign keys refer only if they are passive
module _ (schema : Schema) (table : Table) (alone : HasOwnTree schema table) (Elsewhere : Reference → Type 0) (harmless : AreHarmless schema Elsewhere)
    (another : (reference : Reference) → Elsewhere reference → same_name table.name reference.parent ≡ false) where
  abbrev named : Reference → Table → Bool
  named reference t = same_name t.name reference.parent

  elsewhere_is : (reference : Reference) → Elsewhere reference → (parent : Table) → find (named reference) schema.tables ≡ Some parent → parent.tree ≢ table.tree
  elsewhere_is reference elsewhere parent is same =
      let found = has_found (named reference) schema.tables parent is in
      true≢false (sym found.1 ∙ ap (λ (t : Table). same_name t.name reference.parent) (alone parent found.0 same) ∙ another reference elsewhere)

  idle_by : (gone news : List Row) (t : Table) (reference : Reference) → IsPassive reference ⊎ Elsewhere reference → work_for schema Enforced 0 table.tree gone news t reference ≡ None
  idle_by gone news t reference (inl passive) = no_work table.tree (pairs gone news) t reference _ (no_deed _ reference passive) _
  idle_by gone news t reference (inr elsewhere) = of_parent table.tree (pairs gone news) t reference _ _ (elsewhere_is reference elsewhere)

  pub own_idle : IsIdle schema table
  own_idle gone news = flat_none _ schema.tables (λ t there. filter_none _ t.references (λ reference own. idle_by gone news t reference (harmless t reference there own)))

module _ (schema : Schema) (h : HasRecord schema) where
  pub job_idle : IsIdle schema (job_in schema)
  job_idle = own_idle schema (job_in schema) h.apart.jobs RefersElsewhere h.apart.references (λ reference elsewhere. elsewhere.0)

  pub archive_idle : IsIdle schema (archive_in schema)
  archive_idle = own_idle schema (archive_in schema) h.apart.archives RefersElsewhere h.apart.references (λ reference elsewhere. elsewhere.1)
