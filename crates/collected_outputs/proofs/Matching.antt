-- Matched names that are added one after another.
use Rattle.std.proofs.Common.{◌≡◌, ℕ, ◌+◌, ◌<◌, Bool, true, false, true≢false, cond, not, ◌||◌, List, [], ◌∷◌, ◌++◌, append-nil, append_assoc, length, get_or, take, Result, Ok, Err, OnOk, IfOk, refl, sym, ap, subst, ◌∙◌}
use Rattle.std.specs.Prelude.{bytes_eq, filter, codes}
use Rattle.std.specs.declared.alloc.AllocError.{AllocError}
use Rattle.std.specs.Cmp.Lexicographic.{nat_list_eq_equiv, slice_cmp}
use Rattle.std.specs.Ordering.{is_eq, nat_cmp}
use Rattle.std.proofs.lemmas.Map.Text.{is_eq-slice_cmp}
use Rattle.std.proofs.lemmas.List.Folds.{list_any-append}
use Rattle.std.specs.List.{list_any}
use Rattle.std.specs.Str.{chars}
use Rattle.std.specs.Map.{keys_of}
use Rattle.std.proofs.lemmas.List.{take_more}
use Rattle.std.proofs.lemmas.Slice.Eq.{bytes_eq-Decides}
use Rattle.staging.specs.Glob.{Glob, is_folder}
use Rattle.staging.specs.declared.item.PatternItem.{PatternItem}
use Rattle.collected_outputs.specs.declared.listing.Entry.{Entry}
use Rattle.collected_outputs.specs.Listing.{Listing}
use Rattle.collected_outputs.specs.Matched.{Name, AreThose, AreOf, AreOfAll, AreMatched, without_repeats}
use Rattle.collected_outputs.specs.inner.Matches.{AddsThose, AddsOf}

keys-append : (es : Listing) (e : Name × Entry) → keys_of (es ++ e ∷ []) ≡ keys_of es ++ e.0 ∷ []
keys-append [] e = refl
keys-append (d ∷ es) e = ap (λ l. d.0 ∷ l) (keys-append es e)

cut : (entries : Listing) (i : ℕ) (e : Name × Entry) → i < length entries → e ≡ get_or entries i e → keys_of (take (i + 1) entries) ≡ keys_of (take i entries) ++ e.0 ∷ []
cut entries i e within is = ap keys_of (take_more entries i e within ∙ ap (λ y. take i entries ++ y ∷ []) (sym is)) ∙ keys-append (take i entries) e

pub adds_none : (pattern : List PatternItem) (names : List Name) → AddsThose [] pattern names names
adds_none pattern names = record { those = []; are_those = AreThose.none; added = sym (append-nil names) }

pub adds_match : (entries : Listing) (pattern : List PatternItem) (i : ℕ) (e : Name × Entry) (before so_far after : List Name) (name : Name) → i < length entries → e ≡ get_or entries i e → Glob true pattern (chars e.0) → name ≡ e.0
    → after ≡ so_far ++ name ∷ [] → AddsThose (take i entries) pattern before so_far → AddsThose (take (i + 1) entries) pattern before after
adds_match entries pattern i e before so_far after name within is matches same pushed h = record {
  those = h.those ++ e.0 ∷ [];
  are_those = subst (λ (l : List Name). AreThose pattern l (h.those ++ e.0 ∷ [])) (sym (cut entries i e within is)) (AreThose.matches (keys_of (take i entries)) h.those e.0 h.are_those matches);
  added = pushed ∙ ap (λ l. l ++ name ∷ []) h.added ∙ append_assoc before h.those (name ∷ []) ∙ ap (λ n. before ++ (h.those ++ n ∷ [])) same;
}

pub adds_other : (entries : Listing) (pattern : List PatternItem) (i : ℕ) (e : Name × Entry) (before so_far : List Name) → i < length entries → e ≡ get_or entries i e → (Glob true pattern (chars e.0) → ⊥)
    → AddsThose (take i entries) pattern before so_far → AddsThose (take (i + 1) entries) pattern before so_far
adds_other entries pattern i e before so_far within is differs h = record {
  those = h.those;
  are_those = subst (λ (l : List Name). AreThose pattern l h.those) (sym (cut entries i e within is)) (AreThose.differs (keys_of (take i entries)) h.those e.0 h.are_those differs);
  added = h.added;
}

pub adds_below : (listing : Listing) (pattern : List PatternItem) (before after : List Name) → is_folder pattern ≡ false → AddsThose listing pattern before after → AddsOf listing pattern before after
adds_below listing pattern before after no_folder h = record { those = h.those; are_of = AreOf.inside h.those no_folder h.are_those; added = h.added }

pub all_more : (listing : Listing) (patterns : List (List PatternItem)) (i : ℕ) (pattern : List PatternItem) (so_far after : List Name) → i < length patterns → pattern ≡ get_or patterns i pattern → AddsOf listing pattern so_far after
    → AreOfAll listing (take i patterns) so_far → AreOfAll listing (take (i + 1) patterns) after
all_more listing patterns i pattern so_far after within is adds h =
    let longer : take (i + 1) patterns ≡ take i patterns ++ pattern ∷ [] = take_more patterns i pattern within ∙ ap (λ y. take i patterns ++ y ∷ []) (sym is) in
    subst (λ (ps : List (List PatternItem)). AreOfAll listing ps after) (sym longer)
    (subst (λ (ns : List Name). AreOfAll listing (take i patterns ++ pattern ∷ []) ns) (sym adds.added) (AreOfAll.one_more (take i patterns) so_far pattern adds.those h adds.are_of))

-- each name once

filter-append : {X : Type 0} (p : X → Bool) (xs : List X) (x : X) (b : Bool) → p x ≡ b → filter p (xs ++ x ∷ []) ≡ filter p xs ++ cond b (x ∷ []) []
filter-append p [] x true is = rw is refl
filter-append p [] x false is = rw is refl
filter-append p (y ∷ ys) x b is = by_test (filter-append p ys x b is) (p y) refl where
  by_test : filter p (ys ++ x ∷ []) ≡ filter p ys ++ cond b (x ∷ []) [] → (c : Bool) → p y ≡ c → filter p ((y ∷ ys) ++ x ∷ []) ≡ filter p (y ∷ ys) ++ cond b (x ∷ []) []
  by_test rest true here = rw here (ap (λ l. y ∷ l) rest)
  by_test rest false here = rw here rest

-- names differ either way round
flipped : (n name : Name) → bytes_eq name n ≡ false → bytes_eq n name ≡ false
flipped n name apart = by_test (bytes_eq n name) refl where
  by_test : (b : Bool) → bytes_eq n name ≡ b → bytes_eq n name ≡ false
  by_test true same = absurd (true≢false (sym ((bytes_eq-Decides name n).1 (sym ((bytes_eq-Decides n name).0 same))) ∙ apart))
  by_test false other = other

-- a name that stands is not repeated, and another one comes last
pub once_more : (names : List Name) (name : Name) (b : Bool) → list_any (bytes_eq name) names ≡ b → without_repeats (names ++ name ∷ []) ≡ cond b (without_repeats names) (without_repeats names ++ name ∷ [])
once_more [] name true is = absurd (true≢false (sym is))
once_more [] name false is = refl
once_more (n ∷ ns) name b is = by_test (once_more ns name (list_any (bytes_eq name) ns) refl) (bytes_eq name n) (list_any (bytes_eq name) ns) refl refl where
  by_test : without_repeats (ns ++ name ∷ []) ≡ cond (list_any (bytes_eq name) ns) (without_repeats ns) (without_repeats ns ++ name ∷ []) → (x y : Bool) → bytes_eq name n ≡ x → list_any (bytes_eq name) ns ≡ y
      → without_repeats ((n ∷ ns) ++ name ∷ []) ≡ cond b (without_repeats (n ∷ ns)) (without_repeats (n ∷ ns) ++ name ∷ [])
  by_test ih true true here later =
      let stands : b ≡ true = sym is ∙ ap (λ v. v || list_any (bytes_eq name) ns) here in
      let same : without_repeats (ns ++ name ∷ []) ≡ without_repeats ns = ih ∙ ap (λ v. cond v (without_repeats ns) (without_repeats ns ++ name ∷ [])) later in
      ap (λ l. n ∷ filter (λ other. not (bytes_eq n other)) l) same ∙ sym (ap (λ v. cond v (without_repeats (n ∷ ns)) (without_repeats (n ∷ ns) ++ name ∷ [])) stands)
  by_test ih true false here later =
      let stands : b ≡ true = sym is ∙ ap (λ v. v || list_any (bytes_eq name) ns) here in
      let same : without_repeats (ns ++ name ∷ []) ≡ without_repeats ns ++ name ∷ [] = ih ∙ ap (λ v. cond v (without_repeats ns) (without_repeats ns ++ name ∷ [])) later in
      let dropped : not (bytes_eq n name) ≡ false = ap not ((bytes_eq-Decides n name).1 (sym ((bytes_eq-Decides name n).0 here))) in
      ap (λ l. n ∷ filter (λ other. not (bytes_eq n other)) l) same
      ∙ ap (λ l. n ∷ l) (filter-append (λ other. not (bytes_eq n other)) (without_repeats ns) name false dropped ∙ append-nil (filter (λ other. not (bytes_eq n other)) (without_repeats ns)))
      ∙ sym (ap (λ v. cond v (without_repeats (n ∷ ns)) (without_repeats (n ∷ ns) ++ name ∷ [])) stands)
  by_test ih false true here later =
      let stands : b ≡ true = sym is ∙ ap (λ v. v || list_any (bytes_eq name) ns) here ∙ later in
      let same : without_repeats (ns ++ name ∷ []) ≡ without_repeats ns = ih ∙ ap (λ v. cond v (without_repeats ns) (without_repeats ns ++ name ∷ [])) later in
      ap (λ l. n ∷ filter (λ other. not (bytes_eq n other)) l) same ∙ sym (ap (λ v. cond v (without_repeats (n ∷ ns)) (without_repeats (n ∷ ns) ++ name ∷ [])) stands)
  by_test ih false false here later =
      let stands : b ≡ false = sym is ∙ ap (λ v. v || list_any (bytes_eq name) ns) here ∙ later in
      let same : without_repeats (ns ++ name ∷ []) ≡ without_repeats ns ++ name ∷ [] = ih ∙ ap (λ v. cond v (without_repeats ns) (without_repeats ns ++ name ∷ [])) later in
      let other_name : bytes_eq n name ≡ false = flipped n name here in
      ap (λ l. n ∷ filter (λ other. not (bytes_eq n other)) l) same
      ∙ ap (λ l. n ∷ l) (filter-append (λ other. not (bytes_eq n other)) (without_repeats ns) name true (ap not other_name))
      ∙ sym (ap (λ v. cond v (without_repeats (n ∷ ns)) (without_repeats (n ∷ ns) ++ name ∷ [])) stands)

pub if_folder : (listing : Listing) (pattern : List PatternItem) (before after : List Name) (name : Name) (r : Result (Unit {0}) AllocError) → is_folder pattern ≡ true → name ≡ codes "." → OnOk r (after ≡ before ++ name ∷ [])
    → OnOk r (AddsOf listing pattern before after)
if_folder listing pattern before after name (Ok u) folder is pushed = record { those = codes "." ∷ []; are_of = AreOf.folder folder; added = pushed ∙ ap (λ n. before ++ n ∷ []) is }
if_folder listing pattern before after name (Err e) folder is pushed = tt

pub if_below : (listing : Listing) (pattern : List PatternItem) (before after : List Name) (r : Result (Unit {0}) AllocError) → is_folder pattern ≡ false → OnOk r (AddsThose listing pattern before after) → OnOk r (AddsOf listing pattern before after)
if_below listing pattern before after (Ok u) no_folder adds = adds_below listing pattern before after no_folder adds
if_below listing pattern before after (Err e) no_folder adds = tt

pub if_once : (listing : Listing) (patterns : List (List PatternItem)) (names slice : List Name) (r : Result (List Name) AllocError) → AreOfAll listing patterns names → slice ≡ names → IfOk r (λ once. once ≡ without_repeats slice)
    → IfOk r (AreMatched listing patterns)
if_once listing patterns names slice (Ok once) all same is = record { names = names; of_all = all; once = is ∙ ap without_repeats same }
if_once listing patterns names slice (Err e) all same is = tt

pub one_more : (names : List Name) (i : ℕ) (name : Name) → i < length names → name ≡ get_or names i name → take (i + 1) names ≡ take i names ++ name ∷ []
one_more names i name within is = take_more names i name within ∙ ap (λ y. take i names ++ y ∷ []) (sym is)

-- the names that were seen, and one more
pub seen_more : (names : List Name) (i : ℕ) (name other : Name) (old new : Bool) → i < length names → name ≡ get_or names i name → old ≡ list_any (bytes_eq other) (take i names) → new ≡ cond (is_eq (slice_cmp nat_cmp name other)) true old
    → new ≡ list_any (bytes_eq other) (take (i + 1) names)
seen_more names i name other old new within is was more =
    more
    ∙ ap (λ test. cond test true old) (is_eq-slice_cmp name other ∙ nat_list_eq_equiv.symm name other)
    ∙ ap (λ o. cond (bytes_eq other name) true o) was
    ∙ joined (bytes_eq other name) (list_any (bytes_eq other) (take i names))
    ∙ sym (list_any-append (bytes_eq other) (take i names) (name ∷ []))
    ∙ ap (list_any (bytes_eq other)) (sym (one_more names i name within is)) where
      joined : (test o : Bool) → cond test true o ≡ (o || (test || false))
      joined true true = refl
      joined true false = refl
      joined false true = refl
      joined false false = refl
