-- Indexes, as they are made of entries one after another.
use Rattle.std.proofs.Common.{◌≡◌, ◌∙◌, ◌+◌, ◌<◌, ◌≤◌, ◌||◌, ℕ, Bool, true, false, true≢false, cond, List, ◌∷◌, length, drop, get_or, Option, Some, None, refl, sym, ap}
use Rattle.std.specs.Prelude.{is_some}
use Rattle.std.specs.Borrow.{Bor}
use Rattle.std.specs.BTreeMap as tree
use Rattle.std.specs.BTreeMap.{BTreeMap, is_at}
use Rattle.std.specs.BTreeSet as sorted
use Rattle.std.specs.BTreeSet.{BTreeSet}
use Rattle.std.specs.Bool.{one_answer}
use Rattle.std.specs.Cmp.Lexicographic.{slice_cmp}
use Rattle.std.specs.List.{list_any}
use Rattle.std.specs.Map.{lookup}
use Rattle.std.specs.Option.{option_copied, option_or}
use Rattle.std.specs.Ordering.{nat_cmp}
use Rattle.std.specs.Str.{bytes_eq}
use Rattle.std.proofs.Math.ListN.{drop_of_length-le}
use Rattle.std.proofs.lemmas.List.{drop_more}
use Rattle.std.proofs.lemmas.Map.Text.{btree_map_updates_str, is_eq-slice_cmp}
use Rattle.std.proofs.lemmas.Slice.Eq.{bytes_eq-Decides}
use Rattle.plain_data.specs.ByName.{value_at}
use Rattle.workflow_check.specs.Scope.{Named, lists}
use Rattle.workflow_check.specs.inner.Indexed.{is_held, under}

bytes_turned : (xs ys : List ℕ) → bytes_eq xs ys ≡ bytes_eq ys xs
bytes_turned xs ys = one_answer (bytes_eq xs ys) (bytes_eq ys xs) (bytes_eq-Decides xs ys) (λ h. sym ((bytes_eq-Decides ys xs).0 h), λ e. (bytes_eq-Decides ys xs).1 (sym e))

or_none : {X : Type 0} (o : Option X) → option_or o None ≡ o
or_none None = refl
or_none (Some x) = refl

-- ---- a value put under an id that has none

module _ {X : Type 0} (value : X) where
  abbrev or_value : Option X → Bool → Option X
  or_value o here = option_or o (cond here (Some value) None)

  no_value : (o : Option X) → is_some o ≡ false → o ≡ None
  no_value None none = refl
  no_value (Some x) none = absurd (true≢false none)

  pub put : (old new : BTreeMap (Bor (List ℕ)) X) (key : Bor (List ℕ)) (id : List ℕ) → key.now ≡ id → is_some (under id old) ≡ false
      → tree.Updates (λ x y. slice_cmp nat_cmp x.now y.now) old new key (Some value) → (q : List ℕ) → under q new ≡ or_value (under q old) (bytes_eq q id)
  put old new key id is none updates q =
      btree_map_updates_str key.now old new (Some value) updates q
      ∙ ap (λ (t : List ℕ). cond (bytes_eq t q) (Some value) (under q old)) is
      ∙ ap (λ (here : Bool). cond here (Some value) (under q old)) (bytes_turned id q)
      ∙ by_test (bytes_eq q id) refl
    where
      by_test : (here : Bool) → bytes_eq q id ≡ here → cond here (Some value) (under q old) ≡ or_value (under q old) here
      by_test true same = sym (ap (λ (o : Option X). option_or o (Some value)) (ap (λ (t : List ℕ). under t old) ((bytes_eq-Decides q id).0 same) ∙ no_value (under id old) none))
      by_test false apart = sym (or_none (under q old))

-- ---- a map of the entries so far

none_under : {X : Type 0} (values : BTreeMap (Bor (List ℕ)) X) → tree.IsEmpty values → (q : List ℕ) → under q values ≡ None
none_under {X} values empty q = ap (λ (es : List (Bor (List ℕ) × X)). lookup (is_at (λ k. slice_cmp nat_cmp q k.now)) es) empty

or_more : {X : Type 0} (o : Option X) (here : Bool) (value : X) (rest : Option X) → option_or (option_or o (cond here (Some value) None)) rest ≡ option_or o (cond here (Some value) rest)
or_more None true value rest = refl
or_more None false value rest = refl
or_more (Some x) here value rest = refl

copied_or : {X : Type 0} (o : Option (Bor X)) (here : Bool) (value : Bor X) → option_copied (option_or o (cond here (Some value) None)) ≡ option_or (option_copied o) (cond here (Some value.now) None)
copied_or None true value = refl
copied_or None false value = refl
copied_or (Some x) here value = refl

-- what is found so far or further on is found
abbrev pub Finds : {X : Type 0} → (List ℕ → Option X) → Named X → Named X → Type 0
Finds found rest entries = (q : List ℕ) → option_or (found q) (value_at q rest) ≡ value_at q entries

module _ {X : Type 0} (entries : Named X) (i : ℕ) where
  one_more : (old new : List ℕ → Option X) (e : List ℕ × X) → i < length entries → e ≡ get_or entries i e → ((q : List ℕ) → new q ≡ option_or (old q) (cond (bytes_eq q e.0) (Some e.1) None))
      → Finds old (drop i entries) entries → Finds new (drop (i + 1) entries) entries
  one_more old new e within is found finds q =
      ap (λ (o : Option X). option_or o (value_at q (drop (i + 1) entries))) (found q)
      ∙ or_more (old q) (bytes_eq q e.0) e.1 (value_at q (drop (i + 1) entries))
      ∙ ap (λ (es : Named X). option_or (old q) (value_at q es)) (ap (λ (f : List ℕ × X). f ∷ drop (i + 1) entries) is ∙ sym (drop_more entries i e within))
      ∙ finds q

  all_found : (found : List ℕ → Option X) → length entries ≤ i → Finds found (drop i entries) entries → (q : List ℕ) → found q ≡ value_at q entries
  all_found found past finds q = sym (or_none (found q)) ∙ ap (λ (es : Named X). option_or (found q) (value_at q es)) (sym (drop_of_length-le entries past)) ∙ finds q

  pub lent_more : (old new : BTreeMap (Bor (List ℕ)) (Bor X)) (e : List ℕ × X) (value : Bor X) → value.now ≡ e.1 → i < length entries → e ≡ get_or entries i e
      → ((q : List ℕ) → under q new ≡ option_or (under q old) (cond (bytes_eq q e.0) (Some value) None))
      → Finds (λ q. option_copied (under q old)) (drop i entries) entries → Finds (λ q. option_copied (under q new)) (drop (i + 1) entries) entries
  lent_more old new e value same within is found finds =
      one_more (λ q. option_copied (under q old)) (λ q. option_copied (under q new)) e within is
      (λ q. ap option_copied (found q) ∙ copied_or (under q old) (bytes_eq q e.0) value ∙ ap (λ (x : X). option_or (option_copied (under q old)) (cond (bytes_eq q e.0) (Some x) None)) same) finds

  pub all_lent : (values : BTreeMap (Bor (List ℕ)) (Bor X)) → length entries ≤ i → Finds (λ q. option_copied (under q values)) (drop i entries) entries → (q : List ℕ) → option_copied (under q values) ≡ value_at q entries
  all_lent values past finds = all_found (λ q. option_copied (under q values)) past finds

  pub map_more : (old new : BTreeMap (Bor (List ℕ)) X) (e : List ℕ × X) (value : X) → value ≡ e.1 → i < length entries → e ≡ get_or entries i e
      → ((q : List ℕ) → under q new ≡ option_or (under q old) (cond (bytes_eq q e.0) (Some value) None))
      → Finds (λ q. under q old) (drop i entries) entries → Finds (λ q. under q new) (drop (i + 1) entries) entries
  map_more old new e value same within is found finds =
      one_more (λ q. under q old) (λ q. under q new) e within is (λ q. found q ∙ ap (λ (x : X). option_or (under q old) (cond (bytes_eq q e.0) (Some x) None)) same) finds

  pub all_mapped : (values : BTreeMap (Bor (List ℕ)) X) → length entries ≤ i → Finds (λ q. under q values) (drop i entries) entries → (q : List ℕ) → under q values ≡ value_at q entries
  all_mapped values past finds = all_found (λ q. under q values) past finds

pub no_lent : {X : Type 0} (values : BTreeMap (Bor (List ℕ)) (Bor X)) (entries : Named X) → tree.IsEmpty values → Finds (λ q. option_copied (under q values)) entries entries
no_lent {X} values entries empty q = ap (λ (o : Option (Bor X)). option_or (option_copied o) (value_at q entries)) (none_under values empty q)

pub none_mapped : {X : Type 0} (values : BTreeMap (Bor (List ℕ)) X) (entries : Named X) → tree.IsEmpty values → Finds (λ q. under q values) entries entries
none_mapped {X} values entries empty q = ap (λ (o : Option X). option_or o (value_at q entries)) (none_under values empty q)

-- ---- a set of the texts so far

abbrev pub Holds : BTreeSet (Bor (List ℕ)) → List (List ℕ) → List (List ℕ) → Type 0
Holds held rest texts = (q : List ℕ) → (is_held q held || lists rest q) ≡ lists texts q

pub none_held : (held : BTreeSet (Bor (List ℕ))) (texts : List (List ℕ)) → sorted.IsEmpty held → Holds held texts texts
none_held held texts empty q = ap (λ (ks : List (Bor (List ℕ))). list_any (is_at (λ k. slice_cmp nat_cmp q k.now)) ks || lists texts q) empty

cond_or : (here was rest : Bool) → (cond here true was || rest) ≡ (was || (here || rest))
cond_or true true rest = refl
cond_or true false rest = refl
cond_or false was rest = refl

or_false : (b : Bool) → (b || false) ≡ b
or_false true = refl
or_false false = refl

module _ (texts : List (List ℕ)) (i : ℕ) where
  pub set_more : (old new : BTreeSet (Bor (List ℕ))) (key : Bor (List ℕ)) (text : List ℕ) → key.now ≡ text → i < length texts → text ≡ get_or texts i text
      → sorted.Updates (λ x y. slice_cmp nat_cmp x.now y.now) old new key true → Holds old (drop i texts) texts → Holds new (drop (i + 1) texts) texts
  set_more old new key text same within is updates holds q =
      ap (λ (b : Bool). b || lists (drop (i + 1) texts) q) (updates.0 (record { ref_ptr = (0, 0); now = q }))
      ∙ ap (λ (b : Bool). cond b true (is_held q old) || lists (drop (i + 1) texts) q) (is_eq-slice_cmp key.now q ∙ ap (λ (t : List ℕ). bytes_eq t q) same)
      ∙ cond_or (bytes_eq text q) (is_held q old) (lists (drop (i + 1) texts) q)
      ∙ ap (λ (ts : List (List ℕ)). is_held q old || lists ts q) (ap (λ (t : List ℕ). t ∷ drop (i + 1) texts) is ∙ sym (drop_more texts i text within))
      ∙ holds q

  pub all_held : (held : BTreeSet (Bor (List ℕ))) → length texts ≤ i → Holds held (drop i texts) texts → (q : List ℕ) → is_held q held ≡ lists texts q
  all_held held past holds q = sym (or_false (is_held q held)) ∙ ap (λ (ts : List (List ℕ)). is_held q held || lists ts q) (sym (drop_of_length-le texts past)) ∙ holds q
