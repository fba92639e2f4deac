-- The names that patterns match are exactly those, each once and in order.
use Rattle.std.proofs.Common.{◌≡◌, ◌⊎◌, inl, inr, Bool, true, false, true≢false, not, cond, List, [], ◌∷◌, ◌++◌, append-nil, map, codes, refl, sym, ap, subst, ◌∙◌, arith}
use Rattle.std.specs.Prelude.{◌≢◌, bytes_eq, filter}
use Rattle.std.specs.List.{AllPairs, Contains}
use Rattle.std.specs.List.Sorted.{IsStrictlySortedBy}
use Rattle.std.specs.Map.{keys_of}
use Rattle.std.specs.Str.{chars}
use Rattle.std.proofs.lemmas.List.Elements.{All-contains, All-contains_itself, All-filter, All-weaker, filter_passes, filter-append, Contains-append_left, Contains-append_right, Contains-append_cases, Contains-push, Contains-push_cases}
use Rattle.std.proofs.lemmas.List.Kept.{AllPairs-cons, AllPairs-filter, IsStrictlySortedBy-filter}
use Rattle.std.proofs.lemmas.Slice.Eq.{bytes_eq-Decides}
use Rattle.plain_data.proofs.ByName.{order_by_name}
use Rattle.plain_data.proofs.Lookup.{name_itself}
use Rattle.plain_data.specs.ByName.{name_cmp}
use Rattle.staging.specs.declared.item.PatternItem.{PatternItem}
use Rattle.staging.proofs.Decided.{Told, name_told}
use Rattle.staging.proofs.Numbered.{contains_cons}
use Rattle.staging.proofs.Together.{nothing_in}
use Rattle.collected_outputs.specs.Laws.{MatchesThere, SomeMatches, NamesAreThoseMatched, NamesAreInOrder}
use Rattle.collected_outputs.specs.Listing.{Listing, listing_of, entry_of}
use Rattle.collected_outputs.specs.Matched.{Name, AreThose, AreOf, AreOfAll, without_repeats}

-- lists

module _ {X : Type 0} where
  first_in : (x : X) (xs : List X) → Contains (x ∷ xs) x
  first_in x xs = Contains-append_left (x ∷ []) xs x (Contains-push [] x)

  later_in : (x : X) (xs : List X) (y : X) → Contains xs y → Contains (x ∷ xs) y
  later_in x xs y h = Contains-append_right (x ∷ []) xs y h

  kept_in : (p : X → Bool) (xs : List X) (x : X) → Contains (filter p xs) x → Contains xs x
  kept_in p xs x h = All-contains (Contains xs) (filter p xs) x (All-filter p (Contains xs) xs (All-contains_itself xs)) h

  kept : (p : X → Bool) (xs : List X) (x : X) → p x ≡ true → Contains xs x → Contains (filter p xs) x
  kept p [] x is h = absurd (nothing_in x h)
  kept p (y ∷ ys) x is h = by (p y) refl (contains_cons y ys x h) (kept p ys x is) where
    by : (b : Bool) → p y ≡ b → (y ≡ x) ⊎ Contains ys x → (Contains ys x → Contains (filter p ys) x) → Contains (cond b (y ∷ filter p ys) (filter p ys)) x
    by true here (inl same) on = subst (λ (z : X). Contains (z ∷ filter p ys) x) (sym same) (first_in x (filter p ys))
    by true here (inr later) on = later_in y (filter p ys) x (on later)
    by false apart (inl same) on = absurd (true≢false (sym is ∙ ap p (sym same) ∙ apart))
    by false apart (inr later) on = on later

-- each once

once_in : (names : List Name) (name : Name) → Contains (without_repeats names) name → Contains names name
once_in [] name h = h
once_in (other ∷ names) name h = by (contains_cons other (filter (λ n. not (bytes_eq other n)) (without_repeats names)) name h) (once_in names name) where
  by : (other ≡ name) ⊎ Contains (filter (λ n. not (bytes_eq other n)) (without_repeats names)) name → (Contains (without_repeats names) name → Contains names name) → Contains (other ∷ names) name
  by (inl same) on = subst (λ (n : Name). Contains (n ∷ names) name) (sym same) (first_in name names)
  by (inr later) on = later_in other names name (on (kept_in (λ n. not (bytes_eq other n)) (without_repeats names) name later))

in_once : (names : List Name) (name : Name) → Contains names name → Contains (without_repeats names) name
in_once [] name h = h
in_once (other ∷ names) name h = by (bytes_eq other name) refl (contains_cons other names name h) (in_once names name) where
  rest : List Name
  rest = filter (λ n. not (bytes_eq other n)) (without_repeats names)

  first : other ≡ name → Contains (other ∷ rest) name
  first same = subst (λ (n : Name). Contains (n ∷ rest) name) (sym same) (first_in name rest)

  by : (b : Bool) → bytes_eq other name ≡ b → (other ≡ name) ⊎ Contains names name → (Contains names name → Contains (without_repeats names) name) → Contains (other ∷ rest) name
  by b is (inl same) on = first same
  by true is (inr later) on = first ((bytes_eq-Decides other name).0 is)
  by false is (inr later) on = later_in other rest name (kept (λ n. not (bytes_eq other n)) (without_repeats names) name (ap not is) (on later))

apart : (name other : Name) → not (bytes_eq name other) ≡ true → name ≢ other
apart name other differ same = true≢false (sym differ ∙ ap not (ap (bytes_eq name) (sym same) ∙ name_itself name))

each_once : (names : List Name) → AllPairs (λ a b. a ≢ b) (without_repeats names)
each_once [] = λ i j d low high. absurd (omega arith)
each_once (name ∷ names) =
    let others : Name → Bool = λ n. not (bytes_eq name n) in
    AllPairs-cons (λ a b. a ≢ b) name (filter others (without_repeats names))
    (All-weaker (λ n. others n ≡ true) (λ n. name ≢ n) (λ n differ. apart name n differ) (filter others (without_repeats names)) (filter_passes others (without_repeats names)))
    (AllPairs-filter (λ a b. a ≢ b) others (without_repeats names) (each_once names))

-- of one pattern

abbrev is_told : {A : Type 0} → Told A → Bool
is_told (inl a) = true
is_told (inr never) = false

told_true : {A : Type 0} (t : Told A) → A → is_told t ≡ true
told_true (inl a) h = refl
told_true (inr never) h = absurd (never h)

told_false : {A : Type 0} (t : Told A) → (A → ⊥) → is_told t ≡ false
told_false (inl a) never = absurd (never a)
told_false (inr other) never = refl

told_is : {A : Type 0} (t : Told A) → is_told t ≡ true → A
told_is (inl a) h = a
told_is (inr never) h = absurd (true≢false (sym h))

module _ (pattern : List PatternItem) where
  abbrev test : Name → Bool
  test name = is_told (name_told pattern true (chars name))

  those_kept : (names those : List Name) → AreThose pattern names those → those ≡ filter test names
  those_kept _ _ AreThose.none = refl
  those_kept _ _ (AreThose.matches names those name h is) =
      ap (λ l. l ++ name ∷ []) (those_kept names those h) ∙ sym (filter-append test names (name ∷ []) ∙ ap (λ b. filter test names ++ cond b (name ∷ []) []) (told_true (name_told pattern true (chars name)) is))
  those_kept _ _ (AreThose.differs names those name h never) =
      those_kept names those h ∙ sym (filter-append test names (name ∷ []) ∙ ap (λ b. filter test names ++ cond b (name ∷ []) []) (told_false (name_told pattern true (chars name)) never) ∙ append-nil (filter test names))

  of_there : (listing : Listing) (names : List Name) → AreOf listing pattern names → (name : Name) → Contains names name → MatchesThere listing pattern name
  of_there listing _ (AreOf.folder is) name h = by (contains_cons (codes ".") [] name h) where
    by : (codes "." ≡ name) ⊎ Contains [] name → MatchesThere listing pattern name
    by (inl same) = subst (MatchesThere listing pattern) same (MatchesThere.folder is)
    by (inr none) = absurd (nothing_in name none)
  of_there listing _ (AreOf.inside names apart those) name h =
      let within = subst (λ (l : List Name). Contains l name) (those_kept (keys_of listing) names those) h in
      MatchesThere.inside name apart (kept_in test (keys_of listing) name within)
      (told_is (name_told pattern true (chars name)) (All-contains (λ n. test n ≡ true) (filter test (keys_of listing)) name (filter_passes test (keys_of listing)) within))

  there_of : (listing : Listing) (names : List Name) → AreOf listing pattern names → (name : Name) → MatchesThere listing pattern name → Contains names name
  there_of listing _ (AreOf.folder is) _ (MatchesThere.folder same) = first_in (codes ".") []
  there_of listing _ (AreOf.folder is) _ (MatchesThere.inside name apart found matches) = absurd (true≢false (sym is ∙ apart))
  there_of listing _ (AreOf.inside names apart those) _ (MatchesThere.folder is) = absurd (true≢false (sym is ∙ apart))
  there_of listing _ (AreOf.inside names apart those) _ (MatchesThere.inside name same found matches) =
      subst (λ (l : List Name). Contains l name) (sym (those_kept (keys_of listing) names those))
      (kept test (keys_of listing) name (told_true (name_told pattern true (chars name)) matches) found)

-- of all of them

module _ (listing : Listing) where
  all_there : (patterns : List (List PatternItem)) (names : List Name) → AreOfAll listing patterns names → (name : Name) → Contains names name → SomeMatches listing patterns name
  all_there _ _ AreOfAll.none name h = absurd (nothing_in name h)
  all_there _ _ (AreOfAll.one_more patterns names pattern more h those) name there = by (Contains-append_cases names more name there) (all_there patterns names h name) where
    by : Contains names name ⊎ Contains more name → (Contains names name → SomeMatches listing patterns name) → SomeMatches listing (patterns ++ pattern ∷ []) name
    by (inl before) on =
        let some = on before in
        record { pattern = some.pattern; one = Contains-append_left patterns (pattern ∷ []) some.pattern some.one; matches = some.matches }
    by (inr now) on = record { pattern = pattern; one = Contains-push patterns pattern; matches = of_there pattern listing more those name now }

  there_all : (patterns : List (List PatternItem)) (names : List Name) → AreOfAll listing patterns names → (name : Name) → SomeMatches listing patterns name → Contains names name
  there_all _ _ AreOfAll.none name some = absurd (nothing_in some.pattern some.one)
  there_all _ _ (AreOfAll.one_more patterns names pattern more h those) name some = by (Contains-push_cases patterns pattern some.pattern some.one) (there_all patterns names h name) where
    by : Contains patterns some.pattern ⊎ (pattern ≡ some.pattern) → (SomeMatches listing patterns name → Contains names name) → Contains (names ++ more) name
    by (inl before) on = Contains-append_left names more name (on (record { pattern = some.pattern; one = before; matches = some.matches }))
    by (inr same) on = Contains-append_right names more name (there_of pattern listing more those name (subst (λ (p : List PatternItem). MatchesThere listing p name) (sym same) some.matches))

pub exactly : NamesAreThoseMatched
exactly listing patterns names is = record {
  members = λ name. (
    (λ h. all_there listing patterns is.names is.of_all name (once_in is.names name (subst (λ (l : List Name). Contains l name) is.once h))),
    (λ some. subst (λ (l : List Name). Contains l name) (sym is.once) (in_once is.names name (there_all listing patterns is.names is.of_all name some))),
  );
  once = subst (λ (l : List Name). AllPairs (λ a b. a ≢ b) l) (sym is.once) (each_once is.names);
}

in_order : (listing : Listing) (pattern : List PatternItem) (names : List Name) → IsStrictlySortedBy name_cmp (keys_of listing) → AreOf listing pattern names → IsStrictlySortedBy name_cmp names
unfolding IsStrictlySortedBy
in_order listing pattern _ climbs (AreOf.folder is) = (tt, tt)
in_order listing pattern _ climbs (AreOf.inside names apart those) =
    subst (IsStrictlySortedBy name_cmp) (sym (those_kept pattern (keys_of listing) names those)) (IsStrictlySortedBy-filter name_cmp (test pattern) (keys_of listing) climbs)

pub order : NamesAreInOrder
order found pattern names is = in_order (listing_of found) pattern names (order_by_name (map entry_of found)) is
