-- What `src/processors.rt` finds is what the lists of the kernel say.
use Rattle.std.proofs.Common.{◌≡◌, ◌∙◌, ℕ, ◌+◌, ◌<◌, ◌&&◌, Bool, true, false, List, [], ◌∷◌, Option, Some, None, Result, Ok, Err, IfSome, MatchResult, add-one, ap, arith, codes, cond, drop, eqb, find, if◌then◌else◌, length, ltb, option_map, refl, subst, sym, take}
use Rattle.std.proofs.Math.Seq.{take-length}
use Rattle.std.specs.Option.{unwrap_or}
use Rattle.std.specs.List.{after_first, before_first, list_any, position_or_len, slice_split, starts_with}
use Rattle.std.specs.Str.{all_ascii_digits, trim}
use Rattle.std.specs.Str.Lines.{lines}
use Rattle.std.specs.Str.Parse.{ParsesUnsigned, digits_value}
use Rattle.std.proofs.lemmas.Bool.{le-ltb, lt-ltb, ltb-true}
use Rattle.std.proofs.lemmas.Str.Parse.{IsNumeralModel, numerals_by_value, tells_all_ascii_digits}
use Rattle.given_words.specs.Processors.{allowed_in, count_below, is_between, list_has, number_in, part_has}

-- ---- the line of a status

abbrev pub has_label : List ℕ → Bool
has_label line = starts_with eqb line (codes "Cpus_allowed_list:")

first_passes : {X : Type 0} (p : X → Bool) (x : X) (r : Option X) (b : Bool) → p x ≡ b → IfSome r (λ y. p y ≡ true) → IfSome (cond b (Some x) r) (λ y. p y ≡ true)
first_passes p x r true e h = e
first_passes p x r false e h = h

found_passes : {X : Type 0} (p : X → Bool) (xs : List X) → IfSome (find p xs) (λ x. p x ≡ true)
found_passes p [] = tt
found_passes p (x ∷ xs) = first_passes p x (find p xs) (p x) refl (found_passes p xs)

pub none_allowed : (status : List ℕ) → None ≡ find has_label (lines status) → [] ≡ allowed_in status
unfolding allowed_in
none_allowed status e = ap (λ (o : Option (List ℕ)). unwrap_or (option_map (drop 18) o) []) e

pub some_allowed : (status line list : List ℕ) → Some line ≡ find has_label (lines status) → (has_label line ≡ true → list ≡ drop 18 line) → list ≡ allowed_in status
unfolding allowed_in
some_allowed status line list e behind =
    let passes : IfSome (Some line) (λ (x : List ℕ). has_label x ≡ true) = subst (λ (o : Option (List ℕ)). IfSome o (λ (x : List ℕ). has_label x ≡ true)) (sym e) (found_passes has_label (lines status)) in
    behind passes ∙ ap (λ (o : Option (List ℕ)). unwrap_or (option_map (drop 18) o) []) e

-- ---- a number, a part and a list

own : IsNumeralModel (λ ds. all_ascii_digits ds ≡ true) (digits_value 10)
own = numerals_by_value (λ ds. all_ascii_digits ds ≡ true) tells_all_ascii_digits

all_three : (a b c : Bool) (x : ℕ) → a ≡ true → b ≡ true → c ≡ true → Some x ≡ (if a && b && c then Some x else None)
all_three a b c x p q r = rw (p, q, r) refl

not_all : (a b c : Bool) (x : ℕ) → (a ≡ true → b ≡ true → c ≡ true → ⊥) → None ≡ (if a && b && c then Some x else None)
not_all true true true x other = absurd (other refl refl refl)
not_all true true false x other = refl
not_all true false c x other = refl
not_all false b c x other = refl

pub read : {E : Type 0} (text : List ℕ) (r : Result ℕ E) → ParsesUnsigned 64 10 text r → MatchResult r (λ n. Some n ≡ number_in text) (λ e. None ≡ number_in text)
unfolding number_in
read text (Ok n) h = ap Some h.1 ∙ all_three _ _ _ _ (lt-ltb _ _ h.0.0.0) (own.from _ h.0.0.1) (lt-ltb _ _ h.0.1)
read text (Err e) other = not_all _ _ _ _ (λ p q r. other ((ltb-true _ _ p, own.to _ q), ltb-true _ _ r))

pub alone : (part : List ℕ) (number : ℕ) → position_or_len (λ b. eqb b 45) part ≡ length part → is_between (number_in part) (number_in part) number ≡ part_has part number
unfolding part_has
alone part number e =
    let whole : before_first (λ b. eqb b 45) part ≡ part = ap (λ k. take k part) e ∙ take-length part in
    let last : (if ltb (position_or_len (λ b. eqb b 45) part) (length part) then after_first (λ b. eqb b 45) part else part) ≡ part = ap (λ b. if b then after_first (λ b. eqb b 45) part else part) (le-ltb _ _ (omega (arith, e))) in
    ap (λ text. is_between (number_in text) (number_in part) number) (sym whole)
    ∙ ap (λ text. is_between (number_in (before_first (λ b. eqb b 45) part)) (number_in text) number) (sym last)

pub two : (part : List ℕ) (number : ℕ) → position_or_len (λ b. eqb b 45) part < length part → is_between (number_in (before_first (λ b. eqb b 45) part)) (number_in (after_first (λ b. eqb b 45) part)) number ≡ part_has part number
unfolding part_has
two part number l = ap (λ b. is_between (number_in (before_first (λ b. eqb b 45) part)) (number_in (if b then after_first (λ b. eqb b 45) part else part)) number) (sym (lt-ltb _ _ l))

pub parts : (list text : List ℕ) (number : ℕ) → text ≡ trim list → list_any (λ part. part_has part number) (slice_split (λ b. eqb b 44) text) ≡ list_has list number
unfolding list_has
parts list text number e = ap (λ t. list_any (λ part. part_has part number) (slice_split (λ b. eqb b 44) t)) e

-- ---- the count

pub none_below : (test : ℕ → Bool) → count_below test 0 ≡ 0
unfolding count_below
none_below test = refl

count_more : (test : ℕ → Bool) (n : ℕ) → count_below test (n + 1) ≡ count_below test n + (if test n then 1 else 0)
unfolding count_below
count_more test n = ap (count_below test) (add-one n)

pub one_more : (test : ℕ → Bool) (n count : ℕ) → count ≡ count_below test n → test n ≡ true → count + 1 ≡ count_below test (n + 1)
one_more test n count e p = ap (λ k. k + 1) e ∙ ap (λ b. count_below test n + (if b then 1 else 0)) (sym p) ∙ sym (count_more test n)

pub no_more : (test : ℕ → Bool) (n count : ℕ) → count ≡ count_below test n → test n ≡ false → count ≡ count_below test (n + 1)
no_more test n count e p =
    let plain : count_below test n ≡ count_below test n + 0 = omega arith in
    e ∙ plain ∙ ap (λ b. count_below test n + (if b then 1 else 0)) (sym p) ∙ sym (count_more test n)
