-- An archive is added only for a key that has none: the table lets no key come twice.
use Rattle.std.proofs.Common.{◌≡◌, ℕ, ℤ, Bool, true, false, not, ◌&&◌, ◌==◌, List, [], ◌∷◌, Some, None, Ok, inl, refl, sym, ap, subst, ◌∙◌, Ordering, Less, Equal, Greater, true≢false}
use Rattle.std.specs.List.{AllByRecursion}
use Rattle.std.specs.Ordering.{is_eq, is_ne}
use Rattle.std.proofs.lemmas.Bool.{and_parts, not-true, eq-eqb, both_ways, false_from_ne_true}
use Rattle.sqlite.specs.declared.types.Value.TheVariants.{Int, Text}
use Rattle.sqlite.specs.Order.{Row, column, value_cmp}
use Rattle.sqlite.specs.Tree.{rowid}
use Rattle.sqlite.specs.Schema.{Schema}
use Rattle.sqlite.specs.Edit.{next_rowid}
use Rattle.sqlite.specs.State.{State, Executes}
use Rattle.sqlite_value.specs.Keys.{plain, first_key}
use Rattle.sqlite_sql.specs.Ops.{is_true, from_truth, binary}
use Rattle.sqlite_schema.specs.Rules.{agree, differ, clashes}
use Rattle.sqlite_schema.specs.declared.schema.Constraint.TheVariants.{Unique}
use Rattle.sqlite_rules.specs.Lists.{Has}
use Rattle.sqlite_rules.proofs.ListLemmas.{all_has, test_has, some_from}
use Rattle.sqlite_catalog.specs.Listing.{automatic, IsGuarded}
use Rattle.sqlite_rules.proofs.TableLemmas.{put_all_adds, put_all_keeps}
use Rattle.job_record.specs.Places.{archive_tree, archive_in}
use Rattle.job_record.specs.Archives.{add_text}
use Rattle.job_record.specs.Keyed.{held_in}
use Rattle.job_record.proofs.KeyTest.{texts_equal, text_itself}
use Rattle.job_record.proofs.Placed.{archive_there, row_passes}
use Rattle.job_record.proofs.RowMap.{held_none}
use Rattle.job_record.proofs.Standing.{AreTables}
use Rattle.job_record.proofs.ArchiveRows.{Added, added, added_by}

-- ---- two rows with one key

others_differ : (o : Ordering) → is_eq o ≡ false → is_true (from_truth (Some (is_ne o))) ≡ true
others_differ Less h = refl
others_differ Equal h = absurd (true≢false h)
others_differ Greater h = refl

rowids_differ : (a b : ℤ) → is_eq (value_cmp (Int a) (Int b)) ≡ false → differ (Int a) (Int b) ≡ true
unfolding binary
rowids_differ a b h = others_differ (value_cmp (Int a) (Int b)) h

keys_agree : (r new : Row) (key : List ℕ) → column r 1 ≡ Text key → column new 1 ≡ Text key → agree plain (1 ∷ []) r (1 ∷ []) new ≡ true
unfolding first_key
keys_agree r new key is new_is = rw (is, new_is, texts_equal key key, text_itself key) refl

both_true : (a b : Bool) → a ≡ true → b ≡ true → (a && b) ≡ true
both_true a b p q = rw (p, q) refl

module _ (schema : Schema) (old new : State) (key : List ℕ) (bytes used : ℤ) (it : AreTables schema old.now) (count : ℕ) (ran : Executes add_text (Text key ∷ Int bytes ∷ Int used ∷ []) old new (Ok count)) where
  a : Added schema old new key bytes used it
  a = added_by schema old new key bytes used it count ran

  abbrev row : Row
  row = added schema old new key bytes used it

  there : Has (new.now.trees (archive_tree schema)) row
  there = subst (λ l. Has l row) (sym a.rows_are) (put_all_adds (row ∷ []) (old.now.trees (archive_tree schema)) row a.fresh (inl refl))

  unclashed : clashes plain (1 ∷ []) (new.now.trees (archive_tree schema)) row ≡ false
  unclashed =
      let index = all_has _ schema.tables (archive_in schema) (subst (λ (t : Schema). AllByRecursion (IsGuarded t.indexes) t.tables) a.schema_is a.sound.lists.guarded) (archive_there schema it.has.tables) 0 (1 ∷ []) refl in
      let passed = test_has _ schema.indexes (automatic (archive_in schema) 0 (1 ∷ []) index.0) (row_passes schema new.now a.schema_is a.sound Unique (archive_in schema) (archive_there schema it.has.tables) row there) index.1 in
      let free : not ((archive_tree schema == archive_tree schema) && clashes plain (1 ∷ []) (new.now.trees (archive_tree schema)) row) ≡ true = passed in
      not-true _ (ap (λ b. not (b && clashes plain (1 ∷ []) (new.now.trees (archive_tree schema)) row)) (sym (eq-eqb (archive_tree schema) (archive_tree schema) refl)) ∙ free)

  clash : (r : Row) → Has (old.now.trees (archive_tree schema)) r → column r 1 ≡ Text key → clashes plain (1 ∷ []) (new.now.trees (archive_tree schema)) row ≡ true
  clash r was is =
      let here = subst (λ l. Has l r) (sym a.rows_are) (put_all_keeps (row ∷ []) (old.now.trees (archive_tree schema)) r a.fresh was) in
      let id = it.kept.ids r was in
      let apart : is_eq (value_cmp (rowid r) (rowid row)) ≡ false = false_from_ne_true _ (λ yes. both_ways _ (not-true _ (and_parts _ _ a.fresh).0) (some_from _ (old.now.trees (archive_tree schema)) r was yes)) in
      let differs : differ (rowid r) (rowid row) ≡ true = ap (λ v. differ v (rowid row)) id.1 ∙ rowids_differ id.0 (next_rowid (old.now.trees (archive_tree schema))) (sym (ap (λ v. is_eq (value_cmp v (rowid row))) id.1) ∙ apart) in
      some_from _ (new.now.trees (archive_tree schema)) r here (both_true (agree plain (1 ∷ []) r (1 ∷ []) row) (differ (rowid r) (rowid row)) (keys_agree r row key is refl) differs)

  pub key_free : held_in (old.now.trees (archive_tree schema)) key ≡ None
  key_free = held_none (old.now.trees (archive_tree schema)) key (λ r was is. both_ways _ unclashed (clash r was is))
