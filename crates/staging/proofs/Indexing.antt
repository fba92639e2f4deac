-- Groups looked up by their names and places.
use Rattle.std.proofs.Common.{◌≡◌, ℕ, Bool, true, false, true≢false, cond, ◌∷◌, List, [], ◌++◌, Option, Some, None, inl, inr, refl, sym, ap, subst, ◌∙◌}
use Rattle.std.specs.Prelude.{Contains, is_some, is_none, option_map}
use Rattle.std.specs.Bool.{Decides}
use Rattle.std.specs.BTreeMap as tree
use Rattle.std.specs.BTreeMap.{BTreeMap, is_at}
use Rattle.std.specs.Map.{lookup, KeepsOthers, IsKeyTest, AreApart}
use Rattle.std.specs.Cmp.Lexicographic.{slice_cmp, pointwise_decides, bytes_decides, lists_ties, texts_ties}
use Rattle.std.specs.Option.{option_or}
use Rattle.std.specs.Ordering.{eq_by_cmp}
use Rattle.std.proofs.lemmas.Bool.{false_from_ne_true}
use Rattle.std.proofs.lemmas.Cmp.{eq_by_cmp_equiv, lists_total, nat_list_cmp_total}
use Rattle.std.proofs.lemmas.List.Folds.{find-append}
use Rattle.std.proofs.lemmas.List.Elements.{Contains-append_right}
use Rattle.plain_data.specs.ByName.{name_cmp}
use Rattle.staging.specs.declared.group.Member.{Member}
use Rattle.staging.specs.declared.group.Placed.{Placed}
use Rattle.staging.specs.declared.index.FolderIndex.{FolderIndex}
use Rattle.staging.specs.inner.Folders.{NoneIs}
use Rattle.staging.specs.inner.Indexed.{IsIndex, number_at, number_of, texts_of, place_in, same_members}
use Rattle.staging.proofs.Folders.{head_in}
use Rattle.staging.proofs.Numbered.{same_is, is_same, contains_cons}
use Rattle.staging.proofs.Together.{nothing_in}

-- lists of texts are told apart by their order
pub texts_told : (xs ys : List (List ℕ)) → Decides (eq_by_cmp (slice_cmp name_cmp) xs ys) (xs ≡ ys)
texts_told xs ys = subst (λ b. Decides b (xs ≡ ys)) (lists_ties name_cmp texts_ties xs ys) (pointwise_decides bytes_decides xs ys)

-- an entry put under the texts that f reads of its key, in a map whose keys are ordered by them
module _ {K X : Type 0} (m n : BTreeMap K X) (f : K → List (List ℕ)) (key : K) (w : Option X) (h : tree.Updates (λ x y. slice_cmp name_cmp (f x) (f y)) m n key w) where
  abbrev at : BTreeMap K X → List (List ℕ) → Option X
  at map texts = tree.get_by (λ k. slice_cmp name_cmp texts (f k)) map

  pub put_here : (texts : List (List ℕ)) → texts ≡ f key → at n texts ≡ w
  put_here texts is = ap (λ t. at n t) is ∙ h.1

  others : KeepsOthers (eq_by_cmp (λ x y. slice_cmp name_cmp (f x) (f y))) (is_at (λ y. slice_cmp name_cmp (f key) (f y))) m.entries n.entries → (other : K → Bool) → IsKeyTest (eq_by_cmp (λ x y. slice_cmp name_cmp (f x) (f y))) other
      → AreApart (is_at (λ y. slice_cmp name_cmp (f key) (f y))) other → lookup other n.entries ≡ lookup other m.entries
  unfolding KeepsOthers
  others kept = kept

  pub put_others : (texts : List (List ℕ)) → (f key ≡ texts → ⊥) → at n texts ≡ at m texts
  put_others texts apart =
      others h.3 (is_at (λ k. slice_cmp name_cmp texts (f k)))
      (λ x y. (eq_by_cmp_equiv (lists_total nat_list_cmp_total)).congr texts (f x) (f y))
      (λ k here. false_from_ne_true (is_at (λ (l : K). slice_cmp name_cmp texts (f l)) k) (λ there. apart ((texts_told (f key) (f k)).0 here ∙ sym ((texts_told texts (f k)).0 there))))

-- and groups by their texts
pub one_group : (ms ns : List Member) → texts_of ms ≡ texts_of ns → ms ≡ ns
one_group [] [] is = refl
one_group [] (n ∷ ns) is = cc
one_group (m ∷ ms) [] is = cc
one_group (m ∷ ms) (n ∷ ns) is =
    let name : m.name ≡ n.name = cc in
    let source : m.source ≡ n.source = cc in
    let rest : texts_of ms ≡ texts_of ns = cc in
    let made : List ℕ → List ℕ → Member = λ source name. record { source = source; name = name } in
    let one : m ≡ n = ap (λ s. made s m.name) source ∙ ap (λ t. made n.source t) name in
    ap (λ x. x ∷ ms) one ∙ ap (λ xs. n ∷ xs) (one_group ms ns rest)

-- the first of the placed groups that is the same, with one more

pub first_more : (placed : List Placed) (p : Placed) (group : List Member) → place_in (placed ++ p ∷ []) group ≡ option_or (place_in placed group) (cond (same_members p.members group) (Some p) None)
first_more placed p group = find-append (λ (q : Placed). same_members q.members group) placed (p ∷ [])

or_none : (found : Option Placed) → option_or found None ≡ found
or_none None = refl
or_none (Some q) = refl

first_is : (placed : List Placed) (p : Placed) (group : List Member) → place_in placed group ≡ None → same_members p.members group ≡ true → place_in (placed ++ p ∷ []) group ≡ Some p
first_is placed p group none same = first_more placed p group ∙ ap (λ (o : Option Placed). option_or o (cond (same_members p.members group) (Some p) None)) none ∙ ap (λ (b : Bool). cond b (Some p) None) same

still_first : (placed : List Placed) (p q : Placed) (group : List Member) → place_in placed group ≡ Some q → place_in (placed ++ p ∷ []) group ≡ place_in placed group
still_first placed p q group found = first_more placed p group ∙ ap (λ (o : Option Placed). option_or o (cond (same_members p.members group) (Some p) None)) found ∙ sym found

first_stays : (placed : List Placed) (p : Placed) (group : List Member) → same_members p.members group ≡ false → place_in (placed ++ p ∷ []) group ≡ place_in placed group
first_stays placed p group apart = first_more placed p group ∙ ap (λ (b : Bool). option_or (place_in placed group) (cond b (Some p) None)) apart ∙ or_none (place_in placed group)

abbrev folder_if : Option Placed → Option ℕ
folder_if found = option_map (λ (p : Placed). p.folder) found

none_there : (found : Option Placed) → folder_if found ≡ None → found ≡ None
none_there None h = refl
none_there (Some p) h = cc

pub none_of : (found : Option ℕ) → is_some found ≡ false → found ≡ None
none_of None h = refl
none_of (Some k) h = absurd (true≢false h)

some_there : (found : Option Placed) → is_none (folder_if found) ≡ false → (p : Placed) × (found ≡ Some p)
some_there None h = absurd (true≢false h)
some_there (Some p) h = (p, refl)

-- a group that is new
pub noted_first : (old new : FolderIndex) (group : List Member) (folder : ℕ) (placed : List Placed) → number_of old group ≡ None → ((texts : List (List ℕ)) → texts ≡ texts_of group → number_at new texts ≡ Some folder)
    → ((texts : List (List ℕ)) → (texts_of group ≡ texts → ⊥) → number_at new texts ≡ number_at old texts) → IsIndex old placed → IsIndex new (placed ++ record { members = group; folder = folder } ∷ [])
noted_first old new group folder placed absent here elsewhere is other = by_test (same_members group other) refl where
  p : Placed
  p = record { members = group; folder = folder }

  by_test : (b : Bool) → same_members group other ≡ b → number_of new other ≡ folder_if (place_in (placed ++ p ∷ []) other)
  by_test true same =
      let e : group ≡ other = same_is group other same in
      let none : place_in placed other ≡ None = none_there (place_in placed other) (sym (is other) ∙ ap (number_of old) (sym e) ∙ absent) in
      here (texts_of other) (ap texts_of (sym e)) ∙ sym (ap folder_if (first_is placed p other none same))
  by_test false apart =
      let differ : texts_of group ≡ texts_of other → ⊥ = λ e. true≢false (sym (is_same group) ∙ ap (same_members group) (one_group group other e) ∙ apart) in
      elsewhere (texts_of other) differ ∙ is other ∙ sym (ap folder_if (first_stays placed p other apart))

-- a group that was noted before
pub noted_again : (old : FolderIndex) (group : List Member) (folder : ℕ) (placed : List Placed) → is_none (number_of old group) ≡ false → IsIndex old placed → IsIndex old (placed ++ record { members = group; folder = folder } ∷ [])
noted_again old group folder placed some is other = by_test (same_members group other) refl where
  p : Placed
  p = record { members = group; folder = folder }

  by_test : (b : Bool) → same_members group other ≡ b → number_of old other ≡ folder_if (place_in (placed ++ p ∷ []) other)
  by_test true same =
      let e : group ≡ other = same_is group other same in
      let found = some_there (place_in placed other) (ap is_none (sym (is other)) ∙ ap (λ g. is_none (number_of old g)) (sym e) ∙ some) in
      is other ∙ sym (ap folder_if (still_first placed p found.0 other found.1))
  by_test false apart = is other ∙ sym (ap folder_if (first_stays placed p other apart))

-- nothing is noted
pub none_noted : (index : FolderIndex) → tree.IsEmpty index.folders → IsIndex index []
none_noted index empty group = rw empty refl

-- what a group that has no number says of the placed ones

pub none_is : (placed : List Placed) (group : List Member) → place_in placed group ≡ None → NoneIs placed group
none_is [] group none p in_p = absurd (nothing_in p in_p)
none_is (q ∷ qs) group none p in_p = by_test (none_is qs group) (same_members q.members group) refl where
  by_test : (place_in qs group ≡ None → NoneIs qs group) → (b : Bool) → same_members q.members group ≡ b → p.members ≡ group → ⊥
  by_test rest true same is = let e : Some q ≡ None = rw same at none in cc
  by_test rest false apart is =
      let later : place_in qs group ≡ None = rw apart at none in
      elim (contains_cons q qs p in_p) [
        | inl here ↦ true≢false (sym (is_same group) ∙ ap (λ g. same_members g group) (sym is ∙ ap (λ (r : Placed). r.members) (sym here)) ∙ apart)
        | inr there ↦ rest later p there is
      ]

pub not_noted : (index : FolderIndex) (placed : List Placed) (group : List Member) → IsIndex index placed → number_of index group ≡ None → NoneIs placed group
not_noted index placed group is none = none_is placed group (none_there (place_in placed group) (sym (is group) ∙ none))

-- and one that has a number

found_is : (placed : List Placed) (group : List Member) (p : Placed) → place_in placed group ≡ Some p → Contains placed p × (p.members ≡ group)
found_is [] group p found = cc
found_is (q ∷ qs) group p found = by_test (found_is qs group p) (same_members q.members group) refl where
  by_test : (place_in qs group ≡ Some p → Contains qs p × (p.members ≡ group)) → (b : Bool) → same_members q.members group ≡ b → Contains (q ∷ qs) p × (p.members ≡ group)
  by_test rest true same =
      let e : Some q ≡ Some p = rw same at found in
      let one : q ≡ p = cc in
      (subst (λ (r : Placed). Contains (q ∷ qs) r) one (head_in q qs), ap (λ (r : Placed). r.members) (sym one) ∙ same_is q.members group same)
  by_test rest false apart =
      let e : place_in qs group ≡ Some p = rw apart at found in
      let more = rest e in
      (Contains-append_right (q ∷ []) qs p more.0, more.1)

pub noted_is : (index : FolderIndex) (placed : List Placed) (group : List Member) (k : ℕ) → IsIndex index placed → number_of index group ≡ Some k → Contains placed (record { members = group; folder = k })
noted_is index placed group k is found = by_found (place_in placed group) refl where
  by_found : (o : Option Placed) → place_in placed group ≡ o → Contains placed (record { members = group; folder = k })
  by_found None h = let e : Some k ≡ None = sym found ∙ is group ∙ ap folder_if h in cc
  by_found (Some p) h =
      let e : Some k ≡ Some p.folder = sym found ∙ is group ∙ ap folder_if h in
      let number : p.folder ≡ k = cc in
      let there = found_is placed group p h in
      let made : List Member → ℕ → Placed = λ members folder. record { members = members; folder = folder } in
      let same : p ≡ record { members = group; folder = k } = ap (λ ms. made ms p.folder) there.1 ∙ ap (λ n. made group n) number in
      subst (λ (q : Placed). Contains placed q) same there.0

-- the same of what `note` answers

pub is_new : (index : FolderIndex) (placed : List Placed) (group : List Member) → IsIndex index placed → is_none (number_of index group) ≡ true → NoneIs placed group
is_new index placed group is new = not_noted index placed group is (none_of_new (number_of index group) new) where
  none_of_new : (found : Option ℕ) → is_none found ≡ true → found ≡ None
  none_of_new None h = refl
  none_of_new (Some k) h = absurd (true≢false (sym h))

pub is_known : (index : FolderIndex) (placed : List Placed) (group : List Member) → IsIndex index placed → is_none (number_of index group) ≡ false → (q : Placed) × Contains placed q × (q.members ≡ group)
is_known index placed group is known =
    let found = some_there (place_in placed group) (ap is_none (sym (is group)) ∙ known) in
    let there = found_is placed group found.0 found.1 in
    (found.0, there.0, there.1)
