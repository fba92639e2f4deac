use Rattle.std.proofs.Common.{◌≡◌, ◌≢◌, ℕ, zero, suc, ◌≤◌, ◌⊎◌, inl, inr, Bool, true, false, cond, eqb, List, [], ◌∷◌, ◌++◌, All, Option, Some, None, sym, refl, ap, ◌∙◌, arith, eq-eqb}
use Rattle.std.specs.Prelude.{codes}
use Rattle.std.specs.Fmt.{decimal}
use Rattle.std.specs.Option.{ForSome}
use Rattle.std.specs.Str.Parse.{AllDigits}
use Rattle.std.proofs.lemmas.Fmt.{decimal_is_IsNumeral}
use Rattle.std.proofs.lemmas.Str.Parse.{digit_from_value}
use Rattle.std.proofs.lemmas.Bool.Decides.{eqb_tells}
use Rattle.std.proofs.lemmas.List.Elements.{All-head, All-tail}
use Rattle.plan_checker.specs.declared.plan.Mark.{Mark}
use Rattle.plan_checker.specs.declared.plan.Mark.TheVariants.{Load, Compute, Prune}
use Rattle.plan_checker.specs.declared.row.Row.{Row}
use Rattle.plan_checker.specs.declared.row.Start.{Start}
use Rattle.plan_checker.specs.Format.{IsSmall, spaced, letter, flag, load_field, row_numbers, line, title, count_line, last_line, first_lines}
use Rattle.plan_checker.specs.inner.Reading.{start_text, start_of, IsRow}

-- no line feed
abbrev pub NoFeed : List ℕ → Type 0
NoFeed [] = Unit {0}
NoFeed (b ∷ l) = (b ≢ 10) × NoFeed l

-- one line, with its line feed
abbrev pub IsLine : List ℕ → Type 0
IsLine [] = ⊥
IsLine (b ∷ l) = ((b ≡ 10) × (l ≡ [])) ⊎ ((b ≢ 10) × IsLine l)

feed_step : (b n : ℕ) → b ≡ 10 → cond (eqb b 10) n (suc n) ≡ n
feed_step b n e = ap (λ t. cond t n (suc n)) (eq-eqb b 10 e)

other_step : (b n : ℕ) → b ≢ 10 → cond (eqb b 10) n (suc n) ≡ suc n
other_step b n ne =
    elim (eqb_tells b 10) [ inl hit ↦ absurd (ne hit.1) | inr miss ↦ ap (λ t. cond t n (suc n)) miss.0 ]

pub no_lines : (text : List ℕ) → first_lines 0 text ≡ []
no_lines [] = refl
no_lines (b ∷ text) = refl

-- the first lines of a line and what follows
pub line_ahead : (l x : List ℕ) (n : ℕ) → IsLine l → first_lines (suc n) (l ++ x) ≡ l ++ first_lines n x
line_ahead [] x n h = absurd h
line_ahead (b ∷ l) x n h =
    elim h [
      | inl feed ↦ ap (λ k. b ∷ first_lines k (l ++ x)) (feed_step b n feed.0)
          ∙ ap (λ t. b ∷ first_lines n (t ++ x)) feed.1
          ∙ sym (ap (λ t. b ∷ (t ++ first_lines n x)) feed.1)
      | inr more ↦ ap (λ k. b ∷ first_lines k (l ++ x)) (other_step b n more.0) ∙ ap (λ t. b ∷ t) (line_ahead l x n more.1)
    ]

-- a text whose first lines begin with a line begins with it
pub line_back : (l r text : List ℕ) (n : ℕ) → IsLine l → first_lines (suc n) text ≡ l ++ r → (rest : List ℕ) × (text ≡ l ++ rest) × (first_lines n rest ≡ r)
line_back [] r text n h e = absurd h
line_back (b ∷ l) r [] n h e = absurd (cc)
line_back (b ∷ l) r (c ∷ text) n h e =
    let head : c ≡ b = cc in
    let tail : first_lines (cond (eqb c 10) n (suc n)) text ≡ l ++ r = cc in
    elim h [
      | inl feed ↦ (
        text,
        ap (λ x. x ∷ text) head ∙ sym (ap (λ t. b ∷ (t ++ text)) feed.1),
        sym (ap (λ k. first_lines k text) (feed_step c n (head ∙ feed.0))) ∙ tail ∙ ap (λ t. t ++ r) feed.1,
      )
      | inr more ↦
          let other : c ≢ 10 = λ feed. more.0 (sym head ∙ feed) in
          let ih = line_back l r text n more.1 (sym (ap (λ k. first_lines k text) (other_step c n other)) ∙ tail) in
          (ih.0, ap (λ x. x ∷ text) head ∙ ap (λ t. b ∷ t) ih.1, ih.2)
    ]

-- the first lines of the first lines
pub first_first : (n k : ℕ) (text : List ℕ) → n ≤ k → first_lines n (first_lines k text) ≡ first_lines n text
first_first zero k text h = no_lines (first_lines k text) ∙ sym (no_lines text)
first_first (suc n) zero text h = absurd (omega arith)
first_first (suc n) (suc k) [] h = refl
first_first (suc n) (suc k) (b ∷ text) h =
    elim (eqb_tells b 10) [
      | inl hit ↦ ap (λ t. b ∷ first_lines t (first_lines (cond (eqb b 10) k (suc k)) text)) (feed_step b n hit.1)
          ∙ ap (λ t. b ∷ first_lines n (first_lines t text)) (feed_step b k hit.1)
          ∙ ap (λ t. b ∷ t) (first_first n k text (omega arith))
          ∙ sym (ap (λ t. b ∷ first_lines t text) (feed_step b n hit.1))
      | inr miss ↦ ap (λ t. b ∷ first_lines t (first_lines (cond (eqb b 10) k (suc k)) text)) (other_step b n miss.1)
          ∙ ap (λ t. b ∷ first_lines (suc n) (first_lines t text)) (other_step b k miss.1)
          ∙ ap (λ t. b ∷ t) (first_first (suc n) (suc k) text h)
          ∙ sym (ap (λ t. b ∷ first_lines t text) (other_step b n miss.1))
    ]

line_from : (l : List ℕ) → NoFeed l → IsLine (l ++ 10 ∷ [])
line_from [] h = inl (refl, refl)
line_from (b ∷ l) h = inr (h.0, line_from l h.1)

no_feed-append : (a b : List ℕ) → NoFeed a → NoFeed b → NoFeed (a ++ b)
no_feed-append [] b p q = q
no_feed-append (x ∷ a) b p q = (p.0, no_feed-append a b p.1 q)

no_feed-digits : (ds : List ℕ) → AllDigits 10 ds → NoFeed ds
no_feed-digits [] h = tt
no_feed-digits (d ∷ ds) h = let range = digit_from_value d h.0 in ((λ e. absurd (omega arith)), no_feed-digits ds h.1)

no_feed-decimal : (n : ℕ) → IsSmall n → NoFeed (decimal n)
no_feed-decimal n small = no_feed-digits (decimal n) (decimal_is_IsNumeral n small).0.1

no_feed-spaced : (ns : List ℕ) → All IsSmall ns → NoFeed (spaced ns)
no_feed-spaced [] h = tt
no_feed-spaced (n ∷ ns) h =
    ((λ e. absurd (omega arith)), no_feed-append (decimal n) (spaced ns) (no_feed-decimal n (All-head IsSmall n ns h)) (no_feed-spaced ns (All-tail IsSmall n ns h)))

no_feed-load : (load : Option ℕ) → ForSome load IsSmall → NoFeed (load_field load)
no_feed-load None h = ((λ e. absurd (omega arith)), ((λ e. absurd (omega arith)), tt))
no_feed-load (Some n) h =
    ((λ e. absurd (omega arith)), no_feed-append (decimal n) [] (no_feed-decimal n (h n refl)) tt)

letter_no_feed : (mark : Mark) → letter mark ≢ 10
letter_no_feed Load e = absurd (omega arith)
letter_no_feed Compute e = absurd (omega arith)
letter_no_feed Prune e = absurd (omega arith)

flag_no_feed : (needed : Bool) → flag needed ≢ 10
flag_no_feed true e = absurd (omega arith)
flag_no_feed false e = absurd (omega arith)

no_feed-start : (start : Start) → ForSome start.load IsSmall → NoFeed (start_text start)
no_feed-start start h =
    (letter_no_feed start.mark, ((λ e. absurd (omega arith)), (flag_no_feed start.needed, no_feed-load start.load h)))

pub row_is_line : (row : Row) → IsRow row → IsLine (line row)
row_is_line row h =
    line_from (start_text (start_of row) ++ spaced (row_numbers row)) (no_feed-append (start_text (start_of row)) (spaced (row_numbers row)) (no_feed-start (start_of row) h.load_small) (no_feed-spaced (row_numbers row) h.numbers_small))

has_no_feed : List ℕ → Bool
has_no_feed [] = true
has_no_feed (b ∷ l) = cond (eqb b 10) false (has_no_feed l)

has_no_feed_is : (l : List ℕ) → has_no_feed l ≡ true → NoFeed l
unfolding has_no_feed
has_no_feed_is [] h = tt
has_no_feed_is (b ∷ l) h =
    elim (eqb_tells b 10) [
      | inl hit ↦ let bad : false ≡ true = sym (ap (λ t. cond t false (has_no_feed l)) hit.0) ∙ h in absurd (cc)
      | inr miss ↦ (miss.1, has_no_feed_is l (sym (ap (λ t. cond t false (has_no_feed l)) miss.0) ∙ h))
    ]

pub title_is_line : IsLine title
unfolding has_no_feed
title_is_line = line_from (codes "cwl-plan 1") (has_no_feed_is (codes "cwl-plan 1") refl)

pub last_is_line : IsLine last_line
unfolding has_no_feed
last_is_line = line_from (codes "end") (has_no_feed_is (codes "end") refl)

pub count_is_line : (n : ℕ) → IsSmall n → IsLine (count_line n)
unfolding has_no_feed
count_is_line n small =
    line_from (codes "jobs" ++ spaced (n ∷ [])) (no_feed-append (codes "jobs") (spaced (n ∷ [])) (has_no_feed_is (codes "jobs") refl) ((λ e. absurd (omega arith)), no_feed-append (decimal n) [] (no_feed-decimal n small) tt))
