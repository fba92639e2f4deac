-- The map that the rows of a table are, if no two have one key.
use Rattle.std.proofs.Common.{◌≡◌, ◌≢◌, ◌⊎◌, inl, inr, ℕ, Bool, true, false, cond, List, [], ◌∷◌, drop, find, Option, Some, None, option_map, if◌then◌else◌, refl, sym, ap, ◌∙◌, true≢false}
use Rattle.std.specs.Str.{bytes_eq}
use Rattle.std.proofs.lemmas.Bool.{cases_Bool, both_ways}
use Rattle.sqlite.specs.declared.types.Value.{Value}
use Rattle.sqlite.specs.declared.types.Value.TheVariants.{Null, Int, Real, Text, Blob}
use Rattle.sqlite.specs.Order.{Row, column}
use Rattle.sqlite_rules.specs.Lists.{Has}
use Rattle.sqlite_rules.proofs.ListLemmas.{has_found}
use Rattle.job_record.specs.Keyed.{is_text, is_keyed, held_in, AreKeysApart}
use Rattle.job_record.proofs.KeyTest.{same_text, text_itself}

text_is : (key : List ℕ) (v : Value) → is_text key v ≡ true → v ≡ Text key
text_is key Null h = absurd (true≢false (sym h))
text_is key (Int n) h = absurd (true≢false (sym h))
text_is key (Real x) h = absurd (true≢false (sym h))
text_is key (Text t) h = ap Text (same_text t key h)
text_is key (Blob b) h = absurd (true≢false (sym h))

keyed_is : (key : List ℕ) (v : Value) → v ≡ Text key → is_text key v ≡ true
keyed_is key v is = ap (is_text key) is ∙ text_itself key

nothing_found : (p : Row → Bool) (rows : List Row) → find p rows ≡ None → (r : Row) → Has rows r → p r ≡ true → ⊥
nothing_found p [] h r there passes = there
nothing_found p (x ∷ rows) h r there passes = go (p x) refl h there (nothing_found p rows)
  where
    go : (b : Bool) → p x ≡ b → cond b (Some x) (find p rows) ≡ None → Has (x ∷ rows) r → (find p rows ≡ None → (z : Row) → Has rows z → p z ≡ true → ⊥) → ⊥
    go true is e there later = cc
    go false is e (inl same) later = both_ways (p x) is (ap p (sym same) ∙ passes)
    go false is e (inr more) later = later e r more passes

found : (p : Row → Bool) (rows : List Row) → ((x : Row) × (find p rows ≡ Some x)) ⊎ (find p rows ≡ None)
found p rows = go (find p rows) refl
  where
    go : (o : Option Row) → find p rows ≡ o → ((x : Row) × (find p rows ≡ Some x)) ⊎ (find p rows ≡ None)
    go (Some x) is = inl (x, is)
    go None is = inr is

after_rowid : (r : Row) → column (drop 1 r) 0 ≡ column r 1
after_rowid [] = refl
after_rowid (x ∷ r) = refl

module _ (rows : List Row) (key : List ℕ) where
  pub held_row : AreKeysApart rows → (r : Row) → Has rows r → column r 1 ≡ Text key → held_in rows key ≡ Some (drop 1 r)
  held_row apart r there is = elim (found (is_keyed key) rows) [
    | inl some ↦
        let x = has_found (is_keyed key) rows some.0 some.1 in
        ap (option_map (drop 1)) some.1 ∙ ap (λ (y : Row). Some (drop 1 y)) (apart some.0 r x.0 there (text_is key _ x.1 ∙ sym is))
    | inr none ↦ absurd (nothing_found (is_keyed key) rows none r there (keyed_is key _ is))
  ]

  pub held_none : ((r : Row) → Has rows r → column r 1 ≡ Text key → ⊥) → held_in rows key ≡ None
  held_none free = elim (found (is_keyed key) rows) [
    | inl some ↦ let x = has_found (is_keyed key) rows some.0 some.1 in absurd (free some.0 x.0 (text_is key _ x.1))
    | inr none ↦ ap (option_map (drop 1)) none
  ]

  pub row_held : (c : Row) → held_in rows key ≡ Some c → (r : Row) × Has rows r × (column r 1 ≡ Text key) × (c ≡ drop 1 r)
  row_held c h = elim (found (is_keyed key) rows) [
    | inl some ↦
        let x = has_found (is_keyed key) rows some.0 some.1 in
        let e : Some (drop 1 some.0) ≡ Some c = sym (ap (option_map (drop 1)) some.1) ∙ h in
        (some.0, x.0, text_is key _ x.1, let same : c ≡ drop 1 some.0 = cc in same)
    | inr none ↦ absurd (let e : None ≡ Some c = sym (ap (option_map (drop 1)) none) ∙ h in cc)
  ]

  -- the columns of a key begin with it
  pub key_held : (c : Row) → held_in rows key ≡ Some c → column c 0 ≡ Text key
  key_held c h = let r = row_held c h in ap (λ (z : Row). column z 0) r.3 ∙ after_rowid r.0 ∙ r.2

  pub none_held : held_in rows key ≡ None → (r : Row) → Has rows r → column r 1 ≡ Text key → ⊥
  none_held h r there is = elim (found (is_keyed key) rows) [
    | inl some ↦ let e : Some (drop 1 some.0) ≡ None = sym (ap (option_map (drop 1)) some.1) ∙ h in cc
    | inr none ↦ nothing_found (is_keyed key) rows none r there (keyed_is key _ is)
  ]

-- the rows of the next table are those of other keys, and this one
pub record SetsRow (rows next : List Row) (key : List ℕ) (new : Row) : Type 0 where
  pub keyed : column new 1 ≡ Text key
  pub new_is : Has next new
  pub sound : (z : Row) → Has next z → (z ≡ new) ⊎ (Has rows z × (column z 1 ≢ Text key))
  pub kept : (z : Row) → Has rows z → column z 1 ≢ Text key → Has next z

pub record ClearsRow (rows next : List Row) (key : List ℕ) : Type 0 where
  pub sound : (z : Row) → Has next z → Has rows z × (column z 1 ≢ Text key)
  pub kept : (z : Row) → Has rows z → column z 1 ≢ Text key → Has next z

text_at : (a b : List ℕ) → Text a ≡ Text b → a ≡ b
text_at a b e = cc

other_text : (a b : List ℕ) → bytes_eq a b ≡ false → Text a ≢ Text b
other_text a b h e = both_ways (bytes_eq a b) h (ap (λ t. bytes_eq a t) (sym (text_at a b e)) ∙ text_itself a)

-- what the next table has for another key
module _ (rows next : List Row) (key k : List ℕ) (other : bytes_eq k key ≡ false) (apart : AreKeysApart rows) (apart_next : AreKeysApart next)
    (there : (z : Row) → Has next z → column z 1 ≡ Text k → Has rows z) (kept : (z : Row) → Has rows z → column z 1 ≢ Text key → Has next z) where
  others : held_in next k ≡ held_in rows k
  others = go (held_in rows k) refl
    where
      go : (o : Option Row) → held_in rows k ≡ o → held_in next k ≡ held_in rows k
      go (Some c) is =
          let r = row_held rows k c is in
          held_row next k apart_next r.0 (kept r.0 r.1 (λ e. other_text k key other (sym r.2 ∙ e))) r.2 ∙ ap Some (sym r.3) ∙ sym is
      go None is = held_none next k (λ z h at. none_held rows k is z (there z h at) at) ∙ sym is

module _ (rows next : List Row) (key : List ℕ) (new : Row) (s : SetsRow rows next key new) (apart : AreKeysApart rows) where
  pub set_apart : AreKeysApart next
  set_apart a b ha hb e = elim (s.sound a ha) [
    | inl new_a ↦ elim (s.sound b hb) [
      | inl new_b ↦ new_a ∙ sym new_b
      | inr old_b ↦ absurd (old_b.1 (sym e ∙ ap (λ r. column r 1) new_a ∙ s.keyed))
    ]
    | inr old_a ↦ elim (s.sound b hb) [
      | inl new_b ↦ absurd (old_a.1 (e ∙ ap (λ r. column r 1) new_b ∙ s.keyed))
      | inr old_b ↦ apart a b old_a.0 old_b.0 e
    ]
  ]

  pub set_is : (k : List ℕ) → held_in next k ≡ if bytes_eq k key then Some (drop 1 new) else held_in rows k
  set_is k = elim (cases_Bool (bytes_eq k key)) [
    | inl same ↦ rw same (held_row next k set_apart new s.new_is (s.keyed ∙ ap Text (sym (same_text k key same))))
    | inr other ↦ rw other (others rows next key k other apart set_apart
        (λ z h at. elim (s.sound z h) [ inl is ↦ absurd (other_text k key other (sym at ∙ ap (λ r. column r 1) is ∙ s.keyed)) | inr old ↦ old.0 ]) s.kept)
  ]

module _ (rows next : List Row) (key : List ℕ) (s : ClearsRow rows next key) (apart : AreKeysApart rows) where
  pub clear_apart : AreKeysApart next
  clear_apart a b ha hb e = apart a b (s.sound a ha).0 (s.sound b hb).0 e

  pub clear_is : (k : List ℕ) → held_in next k ≡ if bytes_eq k key then None else held_in rows k
  clear_is k = elim (cases_Bool (bytes_eq k key)) [
    | inl same ↦ rw same (held_none next k (λ z h at. (s.sound z h).1 (at ∙ ap Text (same_text k key same))))
    | inr other ↦ rw other (others rows next key k other apart clear_apart (λ z h at. (s.sound z h).0) s.kept)
  ]
