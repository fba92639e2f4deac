use Rattle.std.proofs.Common.{◌≡◌, ℕ, ◌<◌, ◌≤◌, List, [], ◌∷◌, ◌++◌, length, get_or, All, Option, Some, None, sym, refl, ap, ◌∙◌, subst, arith}
use Rattle.std.specs.Fmt.{decimal}
use Rattle.std.specs.Char.{IsAsciiDigit}
use Rattle.std.specs.Option.{ForSome}
use Rattle.std.specs.Str.Parse.{AllDigits}
use Rattle.std.proofs.lemmas.Fmt.{decimal_is_IsNumeral, decimal_injective}
use Rattle.std.proofs.lemmas.Str.Parse.{digit_from_value}
use Rattle.std.proofs.lemmas.List.{append_assoc, append-nil, length-append, get_or_append_left}
use Rattle.std.proofs.lemmas.List.Elements.{All-head, All-tail, All-nil, All-cons, All-append}
use Rattle.plan_checker.specs.Format.{IsSmall, spaced, load_field, pairs}
use Rattle.plan_checker.proofs.Texts.{spaced-append}
use Rattle.plan_checker.specs.inner.Reading.{EndsNumber, NoNumber, BeginsWithNumber, BeginsWithNumbers}

-- digits are read in one way, up to what ends them
pub digits_once : (xs ys a b : List ℕ) → AllDigits 10 xs → AllDigits 10 ys → EndsNumber a → EndsNumber b → xs ++ a ≡ ys ++ b → (xs ≡ ys) × (a ≡ b)
digits_once [] [] a b p q ea eb e = (refl, e)
digits_once [] (y ∷ ys) a b p q ea eb e =
    let starts : List ℕ → Type 0 = λ t. IsAsciiDigit (get_or t 0 0) in
    absurd (ea (subst starts (sym e) (digit_from_value y q.0)))
digits_once (x ∷ xs) [] a b p q ea eb e =
    let starts : List ℕ → Type 0 = λ t. IsAsciiDigit (get_or t 0 0) in
    absurd (eb (subst starts e (digit_from_value x p.0)))
digits_once (x ∷ xs) (y ∷ ys) a b p q ea eb e =
    let tail : xs ++ a ≡ ys ++ b = cc in
    let head : x ≡ y = cc in
    let rest : (xs ≡ ys) × (a ≡ b) = digits_once xs ys a b p.1 q.1 ea eb tail in
    let front : xs ≡ ys = rest.0 in
    ((cc), rest.1)

-- a number is read in one way, up to what ends it
pub number_once : (m n : ℕ) (a b : List ℕ) → IsSmall m → IsSmall n → EndsNumber a → EndsNumber b → decimal m ++ a ≡ decimal n ++ b → (m ≡ n) × (a ≡ b)
number_once m n a b small_m small_n ea eb e =
    let both : (decimal m ≡ decimal n) × (a ≡ b) = digits_once (decimal m) (decimal n) a b (decimal_is_IsNumeral m small_m).0.1 (decimal_is_IsNumeral n small_n).0.1 ea eb e in
    (decimal_injective m n small_m small_n both.0, both.1)

pub space_ends : (x : List ℕ) → EndsNumber (32 ∷ x)
space_ends x = λ d. absurd (omega arith)

pub feed_ends : (x : List ℕ) → EndsNumber (10 ∷ x)
feed_ends x = λ d. absurd (omega arith)

pub dash_ends : (x : List ℕ) → EndsNumber (45 ∷ x)
dash_ends x = λ d. absurd (omega arith)

abbrev first_of : List ℕ → ℕ
first_of t = get_or t 0 0

-- numbers begin with a space, or there are none
pub numbers_end : (ns x : List ℕ) → EndsNumber (spaced ns ++ 10 ∷ x)
numbers_end [] x = feed_ends x
numbers_end (n ∷ ns) x = space_ends ((decimal n ++ spaced ns) ++ 10 ∷ x)

-- numbers are read in one way, up to the line feed behind them
pub numbers_once : (ns ms x y : List ℕ) → All IsSmall ns → All IsSmall ms → spaced ns ++ 10 ∷ x ≡ spaced ms ++ 10 ∷ y → (ns ≡ ms) × (x ≡ y)
numbers_once [] [] x y p q e = (refl, (cc))
numbers_once [] (m ∷ ms) x y p q e = absurd (let h : 10 ≡ 32 = ap first_of e in omega (arith, h))
numbers_once (n ∷ ns) [] x y p q e = absurd (let h : 32 ≡ 10 = ap first_of e in omega (arith, h))
numbers_once (n ∷ ns) (m ∷ ms) x y p q e =
    let tail : (decimal n ++ spaced ns) ++ 10 ∷ x ≡ (decimal m ++ spaced ms) ++ 10 ∷ y = cc in
    let grouped : decimal n ++ (spaced ns ++ 10 ∷ x) ≡ decimal m ++ (spaced ms ++ 10 ∷ y) =
    sym (append_assoc (decimal n) (spaced ns) (10 ∷ x)) ∙ tail ∙ append_assoc (decimal m) (spaced ms) (10 ∷ y)
    in
    let one : (n ≡ m) × (spaced ns ++ 10 ∷ x ≡ spaced ms ++ 10 ∷ y) =
    number_once n m _ _ (All-head IsSmall n ns p) (All-head IsSmall m ms q) (numbers_end ns x) (numbers_end ms y) grouped
    in
    let more : (ns ≡ ms) × (x ≡ y) = numbers_once ns ms x y (All-tail IsSmall n ns p) (All-tail IsSmall m ms q) one.1 in
    let head : n ≡ m = one.0 in
    let rest : ns ≡ ms = more.0 in
    ((cc), more.1)

-- pairs are those of one list of parents and one of amounts
pub pairs_once : (ps ws qs bs : List ℕ) → length ws ≡ length ps → length bs ≡ length qs → pairs ps ws ≡ pairs qs bs → (ps ≡ qs) × (ws ≡ bs)
pairs_once [] [] [] [] h g e = (refl, refl)
pairs_once [] [] [] (b ∷ bs) h g e = absurd (omega arith)
pairs_once [] [] (q ∷ qs) [] h g e = absurd (omega arith)
pairs_once [] [] (q ∷ qs) (b ∷ bs) h g e = absurd (cc)
pairs_once [] (w ∷ ws) qs bs h g e = absurd (omega arith)
pairs_once (p ∷ ps) [] qs bs h g e = absurd (omega arith)
pairs_once (p ∷ ps) (w ∷ ws) [] [] h g e = absurd (cc)
pairs_once (p ∷ ps) (w ∷ ws) [] (b ∷ bs) h g e = absurd (omega arith)
pairs_once (p ∷ ps) (w ∷ ws) (q ∷ qs) [] h g e = absurd (omega arith)
pairs_once (p ∷ ps) (w ∷ ws) (q ∷ qs) (b ∷ bs) h g e =
    let tail : pairs ps ws ≡ pairs qs bs = cc in
    let first : p ≡ q = cc in
    let second : w ≡ b = cc in
    let rest : (ps ≡ qs) × (ws ≡ bs) = pairs_once ps ws qs bs (omega arith) (omega arith) tail in
    let others : ps ≡ qs = rest.0 in
    let amounts : ws ≡ bs = rest.1 in
    ((cc), (cc))

-- a load cost is read in one way
pub load_once : (l k : Option ℕ) (a b : List ℕ) → ForSome l IsSmall → ForSome k IsSmall → ForSome l (λ n. EndsNumber a) → ForSome k (λ n. EndsNumber b) → load_field l ++ a ≡ load_field k ++ b → (l ≡ k) × (a ≡ b)
load_once None None a b sl sk el ek e = (refl, (cc))
load_once None (Some k) a b sl sk el ek e =
    let tail : 45 ∷ a ≡ (decimal k ++ []) ++ b = cc in
    let both : ([] ≡ decimal k) × (45 ∷ a ≡ b) =
    digits_once [] (decimal k) (45 ∷ a) b tt (decimal_is_IsNumeral k (sk k refl)).0.1 (dash_ends a) (ek k refl) (tail ∙ ap (λ t. t ++ b) (append-nil (decimal k)))
    in
    let some : 0 < length (decimal k) = (decimal_is_IsNumeral k (sk k refl)).0.0 in
    let none : 0 ≡ length (decimal k) = ap length both.0 in
    absurd (omega arith)
load_once (Some l) None a b sl sk el ek e =
    let tail : (decimal l ++ []) ++ a ≡ 45 ∷ b = cc in
    let both : (decimal l ≡ []) × (a ≡ 45 ∷ b) =
    digits_once (decimal l) [] a (45 ∷ b) (decimal_is_IsNumeral l (sl l refl)).0.1 tt (el l refl) (dash_ends b) (ap (λ t. t ++ a) (sym (append-nil (decimal l))) ∙ tail)
    in
    let some : 0 < length (decimal l) = (decimal_is_IsNumeral l (sl l refl)).0.0 in
    let none : length (decimal l) ≡ 0 = ap length both.0 in
    absurd (omega arith)
load_once (Some l) (Some k) a b sl sk el ek e =
    let tail : (decimal l ++ []) ++ a ≡ (decimal k ++ []) ++ b = cc in
    let both : (l ≡ k) × (a ≡ b) =
    number_once l k a b (sl l refl) (sk k refl) (el l refl) (ek k refl) (ap (λ t. t ++ a) (sym (append-nil (decimal l))) ∙ tail ∙ ap (λ t. t ++ b) (append-nil (decimal k)))
    in
    (ap Some both.0, both.1)

-- what may follow numbers that were read
ends_more : (ns rest : List ℕ) → EndsNumber rest → EndsNumber (spaced ns ++ rest)
ends_more [] rest h = h
ends_more (n ∷ ns) rest h = space_ends ((decimal n ++ spaced ns) ++ rest)

-- no number, no numbers
pub no_numbers : (text : List ℕ) (n : ℕ) (ns rest : List ℕ) → NoNumber text → ¬ BeginsWithNumbers text (n ∷ ns) rest
no_numbers text n ns rest none read =
    none n (spaced ns ++ rest) (record { small = All-head IsSmall n ns read.small; ends = ends_more ns rest read.ends; begins = read.begins ∙ append_assoc (32 ∷ decimal n) (spaced ns) rest })

pub number_read : (text : List ℕ) (n : ℕ) (rest : List ℕ) → BeginsWithNumber text n rest → BeginsWithNumbers text (n ∷ []) rest
number_read text n rest read = record {
  small = All-cons IsSmall n [] read.small (All-nil IsSmall);
  ends = read.ends;
  begins = read.begins ∙ ap (λ t. t ++ rest) (sym (append-nil (32 ∷ decimal n)));
}

-- numbers, and those behind them
pub numbers_read : (text ns after ms rest : List ℕ) → BeginsWithNumbers text ns after → BeginsWithNumbers after ms rest → BeginsWithNumbers text (ns ++ ms) rest
numbers_read text ns after ms rest read more = record {
  small = All-append IsSmall ns ms read.small more.small;
  ends = more.ends;
  begins =
      read.begins
      ∙ ap (λ t. spaced ns ++ t) more.begins
      ∙ sym (append_assoc (spaced ns) (spaced ms) rest)
      ∙ ap (λ t. t ++ rest) (sym (spaced-append ns ms));
}

-- the first of some numbers
pub first_read : (text ns ms rest : List ℕ) → BeginsWithNumbers text (ns ++ ms) rest → BeginsWithNumbers text ns (spaced ms ++ rest)
first_read text ns ms rest read = record {
  small = λ k d below. subst IsSmall (get_or_append_left ns ms d k below) (read.small k d (omega (arith, length-append ns ms, below)));
  ends = ends_more ms rest read.ends;
  begins = read.begins ∙ ap (λ t. t ++ rest) (spaced-append ns ms) ∙ append_assoc (spaced ns) (spaced ms) rest;
}

-- numbers are read in one way: where there are more of them, the others follow
pub others_follow : (text ns ms a b : List ℕ) → BeginsWithNumbers text ns a → BeginsWithNumbers text ms b → length ns ≤ length ms → (others : List ℕ) × (ms ≡ ns ++ others) × BeginsWithNumbers a others b
others_follow text [] ms a b p q le = (ms, refl, record { small = q.small; ends = q.ends; begins = sym p.begins ∙ q.begins })
others_follow text (n ∷ ns) [] a b p q le = absurd (omega arith)
others_follow text (n ∷ ns) (m ∷ ms) a b p q le =
    let whole : spaced (n ∷ ns) ++ a ≡ spaced (m ∷ ms) ++ b = sym p.begins ∙ q.begins in
    let tail : (decimal n ++ spaced ns) ++ a ≡ (decimal m ++ spaced ms) ++ b = cc in
    let grouped : decimal n ++ (spaced ns ++ a) ≡ decimal m ++ (spaced ms ++ b) =
    sym (append_assoc (decimal n) (spaced ns) a) ∙ tail ∙ append_assoc (decimal m) (spaced ms) b
    in
    let one : (n ≡ m) × (spaced ns ++ a ≡ spaced ms ++ b) =
    number_once n m (spaced ns ++ a) (spaced ms ++ b) (All-head IsSmall n ns p.small) (All-head IsSmall m ms q.small) (ends_more ns a p.ends) (ends_more ms b q.ends) grouped
    in
    let ours : BeginsWithNumbers (spaced ns ++ a) ns a = record { small = All-tail IsSmall n ns p.small; ends = p.ends; begins = refl } in
    let theirs : BeginsWithNumbers (spaced ns ++ a) ms b = record { small = All-tail IsSmall m ms q.small; ends = q.ends; begins = one.1 } in
    let rest = others_follow (spaced ns ++ a) ns ms a b ours theirs (omega arith) in
    let head : n ≡ m = one.0 in
    let more : ms ≡ ns ++ rest.0 = rest.1 in
    (rest.0, (cc), rest.2)

-- one number before others
pub number_before : (text : List ℕ) (n : ℕ) (after ns rest : List ℕ) → BeginsWithNumber text n after → BeginsWithNumbers after ns rest → BeginsWithNumbers text (n ∷ ns) rest
number_before text n after ns rest read more = numbers_read text (n ∷ []) after ns rest (number_read text n after read) more

-- what is behind the first of some numbers
pub behind_number : (text : List ℕ) (n : ℕ) (after : List ℕ) (m : ℕ) (ms rest : List ℕ) → BeginsWithNumber text n after → BeginsWithNumbers text (m ∷ ms) rest → BeginsWithNumbers after ms rest
behind_number text n after m ms rest read all =
    let follow = others_follow text (n ∷ []) (m ∷ ms) after rest (number_read text n after read) all (omega arith) in
    let is : m ∷ ms ≡ n ∷ follow.0 = follow.1 in
    let same : follow.0 ≡ ms = cc in
    let with : List ℕ → Type 0 = λ ns. BeginsWithNumbers after ns rest in
    subst with same follow.2
