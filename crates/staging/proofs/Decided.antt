-- Each name is matched by a pattern or it isn't, and each text reads as a pattern or has a fault.
use Rattle.std.proofs.Common.{◌≡◌, ◌⊎◌, inl, inr, ℕ, zero, suc, ◌+◌, ◌<◌, ◌≤◌, Bool, true, false, true≢false, not, ◌&&◌, ◌==◌, eqb-true, List, [], ◌∷◌, ◌++◌, length, length-append, Option, Some, None, Result, Ok, Err, refl, sym, ap, subst, ◌∙◌, arith}
use Rattle.std.specs.List.{list_all, list_any}
use Rattle.staging.specs.Glob.{Glob, takes, may_take, may_begin, is_run}
use Rattle.staging.specs.Reading.{Reads, Ranges, IsBracket, IsReading, body, fault_of, has_falling, is_inside, has_close, closes_later, is_closed, is_empty, is_plain}
use Rattle.staging.specs.declared.fault.GlobFault.{GlobFault}
use Rattle.staging.specs.declared.fault.GlobFault.TheVariants.{FallingRange}
use Rattle.staging.specs.declared.item.Bracket.{Bracket}
use Rattle.staging.specs.declared.item.CharRange.{CharRange}
use Rattle.staging.specs.declared.item.PatternItem.{PatternItem}
use Rattle.staging.specs.declared.item.PatternItem.TheVariants.{Literal, One, Run, OneOf}
use Rattle.staging.proofs.Greedy.{true-or_false, both, both_first, both_second}

abbrev pub Told : Type 0 → Type 0
Told A = A ⊎ (A → ⊥)

test_told : (b : Bool) → Told (b ≡ true)
test_told true = inl refl
test_told false = inr (λ h. true≢false (sym h))

both_told : {A B : Type 0} → Told A → Told B → Told (A × B)
both_told (inl a) (inl b) = inl (a, b)
both_told (inl a) (inr never) = inr (λ h. never h.1)
both_told (inr never) other = inr (λ h. never h.0)

neither : {A B : Type 0} → (A → ⊥) → (B → ⊥) → A ⊎ B → ⊥
neither never none (inl a) = never a
neither never none (inr b) = none b

either_told : {A B : Type 0} → Told A → Told B → Told (A ⊎ B)
either_told (inl a) other = inl (inl a)
either_told (inr never) (inl b) = inl (inr b)
either_told (inr never) (inr none) = inr (neither never none)

told_as : {A B : Type 0} → (A → B) → (B → A) → Told A → Told B
told_as to back (inl a) = inl (to a)
told_as to back (inr never) = inr (λ b. never (back b))

-- names

abbrev Ends : List PatternItem → List ℕ → Type 0
Ends [] [] = Unit {0}
Ends [] (c ∷ name) = ⊥
Ends (i ∷ pattern) name = Unit {0}

ends : {front : Bool} {pattern : List PatternItem} {name : List ℕ} → Glob front pattern name → Ends pattern name
ends Glob.end = tt
ends (Glob.taken h matches) = tt
ends (Glob.none h matches) = tt
ends (Glob.more h matches) = tt

no_end : {front : Bool} {i : PatternItem} {pattern : List PatternItem} → is_run i ≡ false → Glob front (i ∷ pattern) [] → ⊥
no_end apart (Glob.none h matches) = true≢false apart

step_back : {front : Bool} {i : PatternItem} {pattern : List PatternItem} {c : ℕ} {name : List ℕ} → is_run i ≡ false → Glob front (i ∷ pattern) (c ∷ name) → (takes front i c ≡ true) × Glob (c == 47) pattern name
step_back apart (Glob.taken h matches) = (h, matches)
step_back apart (Glob.none h matches) = absurd (true≢false apart)
step_back apart (Glob.more h matches) = absurd (true≢false apart)

run_end : {front : Bool} {pattern : List PatternItem} → Glob front (Run ∷ pattern) [] → Glob front pattern []
run_end (Glob.none h matches) = matches

abbrev RunOn : Bool → List PatternItem → ℕ → List ℕ → Type 0
RunOn front pattern c name = ((may_begin front (c ∷ name) ≡ true) × Glob front pattern (c ∷ name)) ⊎ ((may_take front c ≡ true) × Glob false (Run ∷ pattern) name)

run_back : {front : Bool} {pattern : List PatternItem} {c : ℕ} {name : List ℕ} → Glob front (Run ∷ pattern) (c ∷ name) → RunOn front pattern c name
run_back (Glob.taken h matches) = absurd (true≢false (sym h))
run_back (Glob.none h matches) = inl (h, matches)
run_back (Glob.more h matches) = inr (h, matches)

run_on : {front : Bool} {pattern : List PatternItem} {c : ℕ} {name : List ℕ} → RunOn front pattern c name → Glob front (Run ∷ pattern) (c ∷ name)
run_on (inl h) = Glob.none h.0 h.1
run_on (inr h) = Glob.more h.0 h.1

abbrev AllTold : List PatternItem → Type 0
AllTold pattern = (front : Bool) (name : List ℕ) → Told (Glob front pattern name)

of_run : (pattern : List PatternItem) → AllTold pattern → AllTold (Run ∷ pattern)
of_run pattern rest front [] = told_as (λ matches. Glob.none refl matches) run_end (rest front [])
of_run pattern rest front (c ∷ name) =
    told_as run_on run_back (either_told (both_told (test_told (may_begin front (c ∷ name))) (rest front (c ∷ name))) (both_told (test_told (may_take front c)) (of_run pattern rest false name)))

of_one : (i : PatternItem) (pattern : List PatternItem) → is_run i ≡ false → AllTold pattern → AllTold (i ∷ pattern)
of_one i pattern apart rest front [] = inr (no_end apart)
of_one i pattern apart rest front (c ∷ name) = told_as (λ h. Glob.taken h.0 h.1) (step_back apart) (both_told (test_told (takes front i c)) (rest (c == 47) name))

pub name_told : (pattern : List PatternItem) → AllTold pattern
name_told [] front [] = inl Glob.end
name_told [] front (c ∷ name) = inr (λ matches. ends matches)
name_told (Run ∷ pattern) front name = of_run pattern (name_told pattern) front name
name_told (Literal d ∷ pattern) front name = of_one (Literal d) pattern refl (name_told pattern) front name
name_told (One ∷ pattern) front name = of_one One pattern refl (name_told pattern) front name
name_told (OneOf set ∷ pattern) front name = of_one (OneOf set) pattern refl (name_told pattern) front name

-- texts

ranges_from : (text : List ℕ) → (ranges : List CharRange) × Ranges text ranges
ranges_from [] = ([], Ranges.nothing)
ranges_from (c ∷ []) = (record { low = c; high = c } ∷ [], Ranges.single refl Ranges.nothing)
ranges_from (c ∷ d ∷ []) = let rest = ranges_from (d ∷ []) in (record { low = c; high = c } ∷ rest.0, Ranges.single refl rest.1)
ranges_from (c ∷ d ∷ high ∷ text) = by (true-or_false (d == 45)) (ranges_from text) (ranges_from (d ∷ high ∷ text)) where
  by : ((d == 45) ≡ true) ⊎ ((d == 45) ≡ false) → (ranges : List CharRange) × Ranges text ranges → (ranges : List CharRange) × Ranges (d ∷ high ∷ text) ranges
      → (ranges : List CharRange) × Ranges (c ∷ d ∷ high ∷ text) ranges
  by (inl is) far near = (record { low = c; high = high } ∷ far.0, subst (λ (x : ℕ). Ranges (c ∷ x ∷ high ∷ text) (record { low = c; high = high } ∷ far.0)) (sym (eqb-true d 45 is)) (Ranges.range far.1))
  by (inr is) far near = (record { low = c; high = c } ∷ near.0, Ranges.single is near.1)

record Closing (text : List ℕ) : Type 0 where
  members : List ℕ
  rest : List ℕ
  parts : text ≡ members ++ 93 ∷ rest
  inside : list_all is_inside members ≡ true

closing : (text : List ℕ) → has_close text ≡ true → Closing text
closing [] h = absurd (true≢false (sym h))
closing (c ∷ text) h = by (closing text) (true-or_false (c == 93)) where
  goes_on : (c == 93) ≡ false → (not (c == 47) && has_close text) ≡ true
  goes_on apart = (rw apart at h)

  by : (has_close text ≡ true → Closing text) → ((c == 93) ≡ true) ⊎ ((c == 93) ≡ false) → Closing (c ∷ text)
  by deeper (inl is) = record { members = []; rest = text; parts = ap (λ x. x ∷ text) (eqb-true c 93 is); inside = refl }
  by deeper (inr apart) =
      let later = deeper (both_second (not (c == 47)) (has_close text) (goes_on apart)) in
      record {
        members = c ∷ later.members;
        rest = later.rest;
        parts = ap (λ l. c ∷ l) later.parts;
        inside = both (is_inside c) (list_all is_inside later.members) (both (not (c == 93)) (not (c == 47)) (ap not apart) (both_first (not (c == 47)) (has_close text) (goes_on apart))) later.inside;
      }

record Closed (text : List ℕ) : Type 0 where
  inside : List ℕ
  set : Bracket
  rest : List ℕ
  parts : text ≡ inside ++ 93 ∷ rest
  is : IsBracket inside set

not_true : (b : Bool) → not b ≡ true → b ≡ false
not_true true h = absurd (true≢false (sym h))
not_true false h = refl

closed_one : (first : ℕ) (text : List ℕ) → (first == 33) ≡ false → closes_later (first ∷ text) ≡ true → Closed (first ∷ text)
closed_one first text apart h =
    let no_slash : (first == 47) ≡ false = not_true (first == 47) (both_first (not (first == 47)) (has_close text) h) in
    let end = closing text (both_second (not (first == 47)) (has_close text) h) in
    let ranges = ranges_from (first ∷ end.members) in
    record {
      inside = first ∷ end.members;
      set = record { negated = false; ranges = ranges.0 };
      rest = end.rest;
      parts = ap (λ l. first ∷ l) end.parts;
      is = IsBracket.one_of apart no_slash end.inside ranges.1;
    }

closed_other : (text : List ℕ) → closes_later text ≡ true → Closed (33 ∷ text)
closed_other [] h = absurd (true≢false (sym h))
closed_other (first ∷ text) h =
    let no_slash : (first == 47) ≡ false = not_true (first == 47) (both_first (not (first == 47)) (has_close text) h) in
    let end = closing text (both_second (not (first == 47)) (has_close text) h) in
    let ranges = ranges_from (first ∷ end.members) in
    record {
      inside = 33 ∷ first ∷ end.members;
      set = record { negated = true; ranges = ranges.0 };
      rest = end.rest;
      parts = ap (λ l. 33 ∷ first ∷ l) end.parts;
      is = IsBracket.other_than no_slash end.inside ranges.1;
    }

closed : (text : List ℕ) → is_closed text ≡ true → Closed text
closed [] h = absurd (true≢false (sym h))
closed (c ∷ text) h = by (true-or_false (c == 33)) where
  by : ((c == 33) ≡ true) ⊎ ((c == 33) ≡ false) → Closed (c ∷ text)
  by (inl is) =
      let later : closes_later text ≡ true = (rw is at h) in
      subst (λ (x : ℕ). Closed (x ∷ text)) (sym (eqb-true c 33 is)) (closed_other text later)
  by (inr apart) =
      let later : closes_later (c ∷ text) ≡ true = (rw apart at h) in
      closed_one c text apart later

abbrev Read : List ℕ → Type 0
Read text = (pattern : List PatternItem) × Reads text pattern

shorter : (inside rest text : List ℕ) (n : ℕ) → text ≡ inside ++ 93 ∷ rest → length text < suc n → length rest ≤ n
shorter inside rest text n parts within =
    let long : length text ≡ length inside + suc (length rest) = ap length parts ∙ length-append inside (93 ∷ rest) in
    omega (arith, long)

-- what any shorter text reads as
abbrev Deeper : ℕ → Type 0
Deeper n = (text : List ℕ) → length text ≤ n → Read text

read_open : (n : ℕ) (text : List ℕ) → Deeper n → length text ≤ n → (is_closed text ≡ true) ⊎ (is_closed text ≡ false) → Read (91 ∷ text)
read_open n text deeper within (inl is) =
    let b = closed text is in
    let rest = deeper b.rest (shorter b.inside b.rest text n b.parts (omega arith)) in
    (OneOf b.set ∷ rest.0, subst (λ (t : List ℕ). Reads (91 ∷ t) (OneOf b.set ∷ rest.0)) (sym b.parts) (Reads.bracket b.is rest.1))
read_open n text deeper within (inr apart) = let rest = deeper text within in (Literal 91 ∷ rest.0, Reads.unclosed apart rest.1)

read_plain : (n : ℕ) (c : ℕ) (text : List ℕ) → Deeper n → length text ≤ n → (c == 42) ≡ false → (c == 63) ≡ false → (c == 91) ≡ false → ((c == 47 && is_empty text) ≡ true) ⊎ ((c == 47 && is_empty text) ≡ false) → Read (c ∷ text)
read_plain n c [] deeper within star question bracket (inl is) = ([], subst (λ (x : ℕ). Reads (x ∷ []) []) (sym (eqb-true c 47 (both_first (c == 47) true is))) Reads.last_slash)
read_plain n c (d ∷ text) deeper within star question bracket (inl is) = absurd (true≢false (sym (both_second (c == 47) false is)))
read_plain n c text deeper within star question bracket (inr apart) =
    let rest = deeper text within in
    let plain : is_plain c text ≡ true = rw (star, question, bracket, apart) refl in
    (Literal c ∷ rest.0, Reads.plain plain rest.1)

read_bracket : (n : ℕ) (c : ℕ) (text : List ℕ) → Deeper n → length text ≤ n → (c == 42) ≡ false → (c == 63) ≡ false → ((c == 91) ≡ true) ⊎ ((c == 91) ≡ false) → Read (c ∷ text)
read_bracket n c text deeper within star question (inl is) = subst (λ (x : ℕ). Read (x ∷ text)) (sym (eqb-true c 91 is)) (read_open n text deeper within (true-or_false (is_closed text)))
read_bracket n c text deeper within star question (inr apart) = read_plain n c text deeper within star question apart (true-or_false (c == 47 && is_empty text))

read_question : (n : ℕ) (c : ℕ) (text : List ℕ) → Deeper n → length text ≤ n → (c == 42) ≡ false → ((c == 63) ≡ true) ⊎ ((c == 63) ≡ false) → Read (c ∷ text)
read_question n c text deeper within star (inl is) =
    let rest = deeper text within in (One ∷ rest.0, subst (λ (x : ℕ). Reads (x ∷ text) (One ∷ rest.0)) (sym (eqb-true c 63 is)) (Reads.question_mark rest.1))
read_question n c text deeper within star (inr apart) = read_bracket n c text deeper within star apart (true-or_false (c == 91))

read_one : (n : ℕ) (c : ℕ) (text : List ℕ) → Deeper n → length text ≤ n → ((c == 42) ≡ true) ⊎ ((c == 42) ≡ false) → Read (c ∷ text)
read_one n c text deeper within (inl is) = let rest = deeper text within in (Run ∷ rest.0, subst (λ (x : ℕ). Reads (x ∷ text) (Run ∷ rest.0)) (sym (eqb-true c 42 is)) (Reads.star rest.1))
read_one n c text deeper within (inr apart) = read_question n c text deeper within apart (true-or_false (c == 63))

read_within : (n : ℕ) → Deeper n
read_within n [] within = ([], Reads.nothing)
read_within zero (c ∷ text) within = absurd (omega arith)
read_within (suc n) (c ∷ text) within = read_one n c text (read_within n) (omega arith) (true-or_false (c == 42))

pub text_read : (text : List ℕ) → (r : Result (List PatternItem) GlobFault) × IsReading text r
text_read text = by (fault_of (body text)) refl where
  fine : fault_of (body text) ≡ None → (p : Read (body text)) → (list_any has_falling p.0 ≡ true) ⊎ (list_any has_falling p.0 ≡ false) → (r : Result (List PatternItem) GlobFault) × IsReading text r
  fine none p (inl falls) = (Err FallingRange, IsReading.falling none p.1 falls)
  fine none p (inr right) = (Ok p.0, IsReading.accepted none p.1 right)

  by : (fault : Option GlobFault) → fault_of (body text) ≡ fault → (r : Result (List PatternItem) GlobFault) × IsReading text r
  by (Some fault) is = (Err fault, IsReading.refused is)
  by None is = let p = read_within (length (body text)) (body text) (omega arith) in fine is p (true-or_false (list_any has_falling p.0))
