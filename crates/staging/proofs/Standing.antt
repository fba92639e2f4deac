-- What the matcher knows at each step, and why its steps come to an end.
use Rattle.std.proofs.Common.{◌≡◌, ℕ, zero, suc, ◌+◌, ◌-◌, ◌*◌, ◌<◌, ◌≤◌, Bool, true, false, true≢false, not, ◌==◌, List, [], ◌∷◌, ◌++◌, length, drop, get_or, drop-cons, add-one, Option, Some, None, refl, sym, ap, subst, ◌∙◌, ◌⊎◌, inl, inr, arith}
use Rattle.std.specs.Str.{chars}
use Rattle.staging.specs.Glob.{Glob, takes, may_take, may_begin, is_run}
use Rattle.staging.specs.inner.Steps.{items_at, name_at, MatchesAt, IsTaken, IsStarred, TakesOneMore}
use Rattle.staging.specs.declared.item.PatternItem.{PatternItem}
use Rattle.staging.specs.declared.item.PatternItem.TheVariants.{Literal, One, Run, OneOf}
use Rattle.staging.specs.declared.matching.Place.{Place}
use Rattle.staging.proofs.Greedy.{Passed, passed_more, passed-forth, passed-back, from_first, is_in_component, both, may_take-slash, may_take-begins}

-- all hangs on the rest after the last `*`, which matches from its place or from a later one
pub record SinceStar (items : List PatternItem) (name : List ℕ) (star here : Place) : Type 0 where
  pub needs : Glob true items name → Glob star.front (Run ∷ items_at items star) (name_at star)
  pub gives : Glob star.front (Run ∷ items_at items star) (name_at star) → Glob true items name
  pub begins : may_begin star.front (name_at star) ≡ true
  pub passed : Passed star.front (items_at items star) (name_at star) here.front (items_at items here) (name_at here)

abbrev pub Standing : List PatternItem → List ℕ → Option Place → Place → Type 0
Standing items name None here = Passed true items name here.front (items_at items here) (name_at here)
Standing items name (Some star) here = SinceStar items name star here

passed_on : (items : List PatternItem) (a : Bool) (p : List PatternItem) (m : List ℕ) (here next : Place)
    → Passed a p m here.front (items_at items here) (name_at here) → IsTaken items here next → Passed a p m next.front (items_at items next) (name_at next)
passed_on items a p m here next passed taken =
    let exact : Passed a p m here.front (taken.own ∷ items_at items next) (taken.character ∷ name_at next) =
    subst (λ (n : List ℕ). Passed a p m here.front (taken.own ∷ items_at items next) n) taken.name_is
    (subst (λ (q : List PatternItem). Passed a p m here.front q (name_at here)) taken.items_are passed) in
    subst (λ (f : Bool). Passed a p m f (items_at items next) (name_at next)) (sym taken.front_is) (passed_more exact taken.taken)

pub stands_taken : (items : List PatternItem) (name : List ℕ) (star : Option Place) (here next : Place)
    → Standing items name star here → IsTaken items here next → Standing items name star next
stands_taken items name None here next stands taken = passed_on items true items name here next stands taken
stands_taken items name (Some star) here next stands taken =
    record { needs = stands.needs; gives = stands.gives; begins = stands.begins; passed = passed_on items star.front (items_at items star) (name_at star) here next stands.passed taken }

-- a `*` matches from its own place, or takes one more
record OneMore (front : Bool) (pattern : List PatternItem) (name : List ℕ) : Type 0 where
  character : ℕ
  rest : List ℕ
  name_is : name ≡ character ∷ rest
  taken : may_take front character ≡ true
  matches : Glob false (Run ∷ pattern) rest

run_cases : {front : Bool} {pattern : List PatternItem} {name : List ℕ} → Glob front (Run ∷ pattern) name → Glob front pattern name ⊎ OneMore front pattern name
run_cases (Glob.taken k matches) = absurd (true≢false (sym k))
run_cases (Glob.none k matches) = inl matches
run_cases (Glob.more {c = c} {name = name} k matches) = inr (record { character = c; rest = name; name_is = refl; taken = k; matches = matches })

-- where a `*` that takes one more matches, it comes to a place where what follows it matches
record Reaches (pattern : List PatternItem) (name : List ℕ) : Type 0 where
  run : List ℕ
  late : List ℕ
  parts : name ≡ run ++ late
  inside : is_in_component run ≡ true
  matches : Glob false pattern late

reaches : {front : Bool} {pattern : List PatternItem} {name : List ℕ} → front ≡ false → Glob front (Run ∷ pattern) name → Reaches pattern name
reaches is (Glob.taken k matches) = absurd (true≢false (sym k))
reaches {pattern = pattern} {name = name} is (Glob.none k matches) = record { run = []; late = name; parts = refl; inside = refl; matches = subst (λ (f : Bool). Glob f pattern name) is matches }
reaches is (Glob.more {front = front} {c = c} {name = name} k matches) =
    let further = reaches refl matches in
    record { run = c ∷ further.run; late = further.late; parts = ap (λ x. c ∷ x) further.parts; inside = both (not (c == 47)) (is_in_component further.run) (ap not (may_take-slash front c k)) further.inside; matches = further.matches }

-- where a `*` begins
star_here : (items : List PatternItem) (a : Bool) (p : List PatternItem) (m : List ℕ) (here next : Place)
    → Passed a p m here.front (items_at items here) (name_at here) → IsStarred items here next → Passed a p m next.front (Run ∷ items_at items next) (name_at next)
star_here items a p m here next passed starred =
    subst (λ (f : Bool). Passed a p m f (Run ∷ items_at items next) (name_at next)) (sym starred.front_is)
    (subst (λ (n : List ℕ). Passed a p m here.front (Run ∷ items_at items next) n) (ap chars (sym starred.same_rest))
    (subst (λ (q : List PatternItem). Passed a p m here.front q (name_at here)) starred.items_are passed))

begins_there : (items : List PatternItem) (here next : Place) → IsStarred items here next → may_begin next.front (name_at next) ≡ true
begins_there items here next starred =
    subst (λ (f : Bool). may_begin f (name_at next) ≡ true) (sym starred.front_is)
    (subst (λ (n : List ℕ). may_begin here.front n ≡ true) (ap chars (sym starred.same_rest)) starred.begins)

pub stands_starred : (items : List PatternItem) (name : List ℕ) (star : Option Place) (here next : Place)
    → Standing items name star here → IsStarred items here next → Standing items name (Some next) next
stands_starred items name None here next stands starred =
    let passed = star_here items true items name here next stands starred in
    record { needs = passed-back passed; gives = passed-forth passed; begins = begins_there items here next starred; passed = Passed.here }
stands_starred items name (Some star) here next stands starred =
    let passed = star_here items star.front (items_at items star) (name_at star) here next stands.passed starred in
    record {
      needs = λ matches.
          elim (run_cases (stands.needs matches)) [
            | inl now ↦ passed-back passed now
            | inr one ↦
                let far = reaches refl one.matches in
                from_first passed one.character far.run far.late one.taken far.inside (one.name_is ∙ ap (λ x. one.character ∷ x) far.parts) far.matches
          ];
      gives = λ matches. stands.gives (Glob.none stands.begins (passed-forth passed matches));
      begins = begins_there items here next starred;
      passed = Passed.here;
    }

begins-inside : (name : List ℕ) → may_begin false name ≡ true
begins-inside [] = refl
begins-inside (c ∷ name) = refl

pub stands_later : (items : List PatternItem) (name : List ℕ) (star : Option Place) (here next : Place)
    → Standing items name star here → (MatchesAt items here → ⊥) → TakesOneMore star (Some next) → Standing items name (Some next) next
stands_later items name None here next stands stuck more = absurd more
stands_later items name (Some star) here next stands stuck more =
    let same : items_at items star ≡ items_at items next = ap (λ n. drop n items) (sym more.same_at) in
    record {
      needs = λ matches.
          elim (run_cases (stands.needs matches)) [
            | inl now ↦ absurd (stuck (passed-back stands.passed now))
            | inr one ↦
                let parts : one.character ∷ one.rest ≡ more.character ∷ name_at next = sym one.name_is ∙ more.name_is in
                let rest : one.rest ≡ name_at next = cc in
                subst (λ (f : Bool). Glob f (Run ∷ items_at items next) (name_at next)) (sym more.front_is)
                (subst (λ (n : List ℕ). Glob false (Run ∷ items_at items next) n) rest
                (subst (λ (q : List PatternItem). Glob false (Run ∷ q) one.rest) same one.matches))
          ];
      gives = λ matches.
          let inside : Glob false (Run ∷ items_at items star) (name_at next) =
          subst (λ (q : List PatternItem). Glob false (Run ∷ q) (name_at next)) (sym same)
          (subst (λ (f : Bool). Glob f (Run ∷ items_at items next) (name_at next)) more.front_is matches) in
          stands.gives (subst (λ (n : List ℕ). Glob star.front (Run ∷ items_at items star) n) (sym more.name_is) (Glob.more more.taken inside));
      begins = subst (λ (f : Bool). may_begin f (name_at next) ≡ true) (sym more.front_is) (begins-inside (name_at next));
      passed = Passed.here;
    }

pub stands_failed : (items : List PatternItem) (name : List ℕ) (star : Option Place) (here : Place)
    → Standing items name star here → (MatchesAt items here → ⊥) → TakesOneMore star None → Glob true items name → ⊥
stands_failed items name None here stands stuck more matches = stuck (passed-back stands matches)
stands_failed items name (Some star) here stands stuck more matches =
    elim (run_cases (stands.needs matches)) [
      | inl now ↦ stuck (passed-back stands.passed now)
      | inr one ↦ more one.character one.rest one.name_is one.taken
    ]

at_end : (items : List PatternItem) (here : Place) → items_at items here ≡ [] → name_at here ≡ [] → MatchesAt items here
at_end items here no_items no_name =
    subst (λ (q : List PatternItem). Glob here.front q (name_at here)) (sym no_items) (subst (λ (n : List ℕ). Glob here.front [] n) (sym no_name) Glob.end)

pub stands_ended : (items : List PatternItem) (name : List ℕ) (star : Option Place) (here : Place)
    → Standing items name star here → items_at items here ≡ [] → name_at here ≡ [] → Glob true items name
stands_ended items name None here stands no_items no_name = passed-forth stands (at_end items here no_items no_name)
stands_ended items name (Some star) here stands no_items no_name =
    stands.gives (Glob.none stands.begins (passed-forth stands.passed (at_end items here no_items no_name)))

-- items by their index

pub item_here : (items : List PatternItem) (n : ℕ) (i : PatternItem) → n < length items → i ≡ get_or items n i → drop n items ≡ i ∷ drop (n + 1) items
item_here items n i within is = rw (add-one, drop-cons items n i) (ap (λ x. x ∷ drop (suc n) items) (sym is))

pub run_is : (i : PatternItem) → is_run i ≡ true → i ≡ Run
run_is Run h = refl
run_is (Literal c) h = absurd (true≢false (sym h))
run_is One h = absurd (true≢false (sym h))
run_is (OneOf bracket) h = absurd (true≢false (sym h))

pub past_end : (items : List PatternItem) (n : ℕ) → length items ≤ n → drop n items ≡ []
past_end [] zero h = refl
past_end [] (suc n) h = refl
past_end (j ∷ items) zero h = absurd (omega arith)
past_end (j ∷ items) (suc n) h = past_end items n (omega arith)

-- no item is left, but the name goes on
pub stuck_past : (items : List PatternItem) (here : Place) (c : ℕ) (rest : List ℕ) → items_at items here ≡ [] → name_at here ≡ c ∷ rest → MatchesAt items here → ⊥
stuck_past items here c rest no_items name_is matches = past here.front (subst (λ (q : List PatternItem). Glob here.front q (c ∷ rest)) no_items (subst (λ (n : List ℕ). Glob here.front (items_at items here) n) name_is matches))
  where
    past : (front : Bool) → Glob front [] (c ∷ rest) → ⊥
    past front h = elim h [ ]

stuck_run : (front : Bool) (pattern : List PatternItem) (name : List ℕ) → may_begin front name ≡ false → Glob front (Run ∷ pattern) name → ⊥
stuck_run front pattern name fails (Glob.taken k matches) = true≢false (sym k)
stuck_run front pattern name fails (Glob.none k matches) = true≢false (sym k ∙ fails)
stuck_run front pattern name fails (Glob.more {c = c} {name = rest} k matches) = true≢false (sym (may_take-begins front c rest k) ∙ fails)

-- a `*` right before a period that begins a component
pub stuck_begins : (items : List PatternItem) (here : Place) (pattern : List PatternItem) → items_at items here ≡ Run ∷ pattern → may_begin here.front (name_at here) ≡ false → MatchesAt items here → ⊥
stuck_begins items here pattern items_are fails matches =
    stuck_run here.front pattern (name_at here) fails (subst (λ (q : List PatternItem). Glob here.front q (name_at here)) items_are matches)

stuck_item : (front : Bool) (i : PatternItem) (pattern : List PatternItem) (name : List ℕ) → is_run i ≡ false
    → ((c : ℕ) (rest : List ℕ) → name ≡ c ∷ rest → takes front i c ≡ false) → Glob front (i ∷ pattern) name → ⊥
stuck_item front i pattern name plain fails (Glob.taken {c = c} {name = rest} k matches) = true≢false (sym k ∙ fails c rest refl)
stuck_item front i pattern name plain fails (Glob.none k matches) = true≢false plain
stuck_item front i pattern name plain fails (Glob.more k matches) = true≢false plain

-- an item that isn't `*` doesn't take the next character
pub stuck_takes : (items : List PatternItem) (here : Place) (i : PatternItem) (pattern : List PatternItem) (d : ℕ) (after : List ℕ) → items_at items here ≡ i ∷ pattern → is_run i ≡ false
    → name_at here ≡ d ∷ after → takes here.front i d ≡ false → MatchesAt items here → ⊥
stuck_takes items here i pattern d after items_are plain name_is fails matches =
    stuck_item here.front i pattern (name_at here) plain
    (λ c rest parts. let both_ways : d ∷ after ≡ c ∷ rest = sym name_is ∙ parts in let same : d ≡ c = cc in ap (takes here.front i) (sym same) ∙ fails)
    (subst (λ (q : List PatternItem). Glob here.front q (name_at here)) items_are matches)

-- the steps that are left at most: for each place that the last `*` can still come to, the items after it; and the items from here on.
-- At the start these are (length of the name + 1) * (items + 1) + items.
abbrev pub steps_left : List PatternItem → List ℕ → Option Place → Place → ℕ
steps_left items name None here = (length name + 1) * (length items + 1) + (length items - here.at)
steps_left items name (Some star) here = (length star.rest.now + 1) * (length items + 1 - star.at) + (length items - here.at)

abbrev pub InBounds : List PatternItem → List ℕ → Option Place → Place → Type 0
InBounds items name None here = (here.at ≤ length items) × (length here.rest.now ≤ length name)
InBounds items name (Some star) here = (here.at ≤ length items) × (star.at ≤ here.at) × (length here.rest.now ≤ length star.rest.now)

pub bounds_taken : (items : List PatternItem) (name : List ℕ) (star : Option Place) (here next : Place) → InBounds items name star here → IsTaken items here next → InBounds items name star next
bounds_taken items name None here next h t = (omega (arith, t.on, t.within), omega (arith, t.shorter, h.1))
bounds_taken items name (Some star) here next h t = (omega (arith, t.on, t.within), omega (arith, h.1, t.on), omega (arith, h.2, t.shorter))

pub bounds_starred : (items : List PatternItem) (name : List ℕ) (next here : Place) → IsStarred items here next → InBounds items name (Some next) next
bounds_starred items name next here t = (omega (arith, t.on, t.within), omega arith, omega arith)

pub bounds_later : (items : List PatternItem) (name : List ℕ) (star : Option Place) (here next : Place) → InBounds items name star here → TakesOneMore star (Some next) → InBounds items name (Some next) next
bounds_later items name None here next h t = absurd t
bounds_later items name (Some star) here next h t = (omega (arith, t.same_at, h.0, h.1), omega arith, omega arith)

one_less : (r s k : ℕ) → r < s → (r + 1) * k + k ≤ (s + 1) * k
one_less r s k h = grind arith
