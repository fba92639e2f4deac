-- The rows that an edit of one key leaves.
use Rattle.std.proofs.Common.{◌≡◌, ◌≢◌, inl, inr, ℕ, ℤ, true, List, [], ◌∷◌, subst, refl, sym, ap, ◌∙◌, Ordering, Less, Equal, Greater, true≢false}
use Rattle.std.proofs.lemmas.Bool.{and_parts, not-true, both_ways, false_from_ne_true}
use Rattle.std.proofs.lemmas.Cmp.{tied_itself, tied_back}
use Rattle.std.specs.Ordering.{is_eq}
use Rattle.sqlite.specs.declared.types.Value.TheVariants.{Int, Text}
use Rattle.sqlite.specs.Order.{Row, column, value_cmp}
use Rattle.sqlite_value.proofs.OrderLemmas.{value_cmp_total}
use Rattle.sqlite.specs.Tree.{rowid, has_rowid}
use Rattle.sqlite.specs.Edit.{without_all, put_all, are_fresh}
use Rattle.sqlite_rules.specs.Lists.{Has}
use Rattle.sqlite_rules.proofs.ListLemmas.{some_from}
use Rattle.sqlite_rules.proofs.TableLemmas.{put_all_has, put_all_keeps, put_all_adds}
use Rattle.job_record.specs.Keyed.{IsKeyed}
use Rattle.job_record.proofs.RowMap.{SetsRow, ClearsRow, set_apart, clear_apart}
use Rattle.job_record.proofs.Edits.{left_has, has_left}

equal_is : (o : Ordering) → is_eq o ≡ true → o ≡ Equal
equal_is Less h = absurd (true≢false (sym h))
equal_is Equal h = refl
equal_is Greater h = absurd (true≢false (sym h))

at_rowid : (r : Row) (id : ℤ) → rowid r ≡ Int id → has_rowid id r ≡ true
at_rowid r id is = ap (λ v. is_eq (value_cmp v (Int id))) is ∙ ap is_eq (tied_itself value_cmp_total (Int id))

-- a new row ties with none that is left
pub fresh_apart : (left : List Row) (new : Row) (more : List Row) (r : Row) → are_fresh left (new ∷ more) ≡ true → Has left r → value_cmp (rowid r) (rowid new) ≡ Equal → ⊥
fresh_apart left new more r fresh there tie = both_ways _ (not-true _ (and_parts _ _ fresh).0) (some_from _ left r there (ap is_eq tie))

module _ (rows after : List Row) (key : List ℕ) (keyed : IsKeyed rows) where
  pub keyed_set : (new : Row) → SetsRow rows after key new → (id : ℤ) → rowid new ≡ Int id
      → ((z : Row) → Has rows z → column z 1 ≢ Text key → value_cmp (rowid z) (rowid new) ≡ Equal → ⊥) → IsKeyed after
  keyed_set new s id id_is apart = record {
    ids = λ r h. elim (s.sound r h) [ inl is ↦ (id, ap rowid is ∙ id_is) | inr old ↦ keyed.ids r old.0 ];
    rowids = λ a b ha hb tie. elim (s.sound a ha) [
      | inl new_a ↦ elim (s.sound b hb) [
        | inl new_b ↦ new_a ∙ sym new_b
        | inr old_b ↦ absurd (apart b old_b.0 old_b.1 (tied_back value_cmp_total (rowid new) (rowid b) (ap (λ r. value_cmp (rowid r) (rowid b)) (sym new_a) ∙ tie)))
      ]
      | inr old_a ↦ elim (s.sound b hb) [
        | inl new_b ↦ absurd (apart a old_a.0 old_a.1 (ap (λ r. value_cmp (rowid a) (rowid r)) (sym new_b) ∙ tie))
        | inr old_b ↦ keyed.rowids a b old_a.0 old_b.0 tie
      ]
    ];
    keys = set_apart rows after key new s keyed.keys;
  }

  pub keyed_clear : ClearsRow rows after key → IsKeyed after
  keyed_clear s = record {
    ids = λ r h. keyed.ids r (s.sound r h).0;
    rowids = λ a b ha hb tie. keyed.rowids a b (s.sound a ha).0 (s.sound b hb).0 tie;
    keys = clear_apart rows after key s keyed.keys;
  }

-- ---- rows of one key are replaced by one

module _ (rows news : List Row) (gone : List ℤ) (fresh : are_fresh (without_all rows gone) news ≡ true) (keyed : IsKeyed rows) (r0 : Row) (in0 : Has rows r0) (id : ℤ) (id_is : rowid r0 ≡ Int id)
    (key : List ℕ) (key_is : column r0 1 ≡ Text key) (gone_is : (i : ℤ) → Has gone i → i ≡ id) (goes : Has gone id) where
  abbrev pub next : List Row
  next = put_all (without_all rows gone) news

  stays : (z : Row) → Has rows z → column z 1 ≢ Text key → Has (without_all rows gone) z
  stays z h other = left_has gone rows z h (λ i there. false_from_ne_true _ (λ yes.
      other (ap (λ (r : Row). column r 1) (keyed.rowids z r0 h in0 (ap (value_cmp (rowid z)) id_is ∙ ap (λ j. value_cmp (rowid z) (Int j)) (sym (gone_is i there)) ∙ equal_is _ yes)) ∙ key_is)))

  was : (z : Row) → Has (without_all rows gone) z → Has rows z × (column z 1 ≢ Text key)
  was z h =
      let l = has_left gone rows z h in
      (l.0, λ same. both_ways _ (l.1 id goes) (ap (has_rowid id) (keyed.keys z r0 l.0 in0 (same ∙ sym key_is)) ∙ at_rowid r0 id id_is))

  pub cleared : news ≡ [] → ClearsRow rows next key
  cleared none = record { sound = λ z h. was z (rw none at h); kept = λ z h other. rw none (stays z h other) }

  module _ (new : Row) (more : List Row) (news_are : news ≡ new ∷ more) (alike : (z : Row) → Has news z → z ≡ new) (new_key : column new 1 ≡ Text key) (new_id : rowid new ≡ Int id) where
    pub replaced : SetsRow rows next key new
    replaced = record {
      keyed = new_key;
      new_is = put_all_adds news (without_all rows gone) new fresh (rw news_are (inl refl));
      sound = λ z h. elim (put_all_has news (without_all rows gone) z h) [ inl is ↦ inl (alike z is) | inr left ↦ inr (was z left) ];
      kept = λ z h other. put_all_keeps news (without_all rows gone) z fresh (stays z h other);
    }

    pub replaced_keyed : IsKeyed next
    replaced_keyed = keyed_set rows next key keyed new replaced id new_id
        (λ z h other tie. fresh_apart (without_all rows gone) new more z (subst (λ l. are_fresh (without_all rows gone) l ≡ true) news_are fresh) (stays z h other) tie)
