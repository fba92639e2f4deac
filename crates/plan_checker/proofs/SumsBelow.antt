use Rattle.std.proofs.Common.{◌≡◌, ◌≢◌, ℕ, zero, suc, ◌+◌, ◌*◌, ◌<◌, ◌≤◌, List, length, get_or, sum, sym, refl, ap, ◌∙◌, inl, inr, ⊎_elim, ◌⊎◌, arith}
use Rattle.std.proofs.Math.Nat.{mul-zero, suc-mul}
use Rattle.std.proofs.lemmas.List.{take_all}
use Rattle.std.proofs.lemmas.List.Sums.{sum_by_more}
use Rattle.std.proofs.Common.{take}
use Rattle.std.proofs.lemmas.Bool.{cases_lt}
use Rattle.plan_checker.specs.Sums.{sum_below}

-- one more term
pub sum_below_more : (n : ℕ) (f : ℕ → ℕ) → sum_below (n + 1) f ≡ sum_below n f + f n
sum_below_more n f = let e : n + 1 ≡ suc n = omega arith in rw e refl

-- a place below n + 1 is one below n, or n
pub below_or_last : (n i : ℕ) → i < suc n → (i < n) ⊎ (i ≡ n)
below_or_last n i h = ⊎_elim (λ lt. inl lt) (λ le. inr (omega arith)) (cases_lt i n)

-- terms that are equal, one by one
pub sum_below_same : (n : ℕ) (f g : ℕ → ℕ) → ((i : ℕ) → i < n → f i ≡ g i) → sum_below n f ≡ sum_below n g
sum_below_same zero f g same = refl
sum_below_same (suc n) f g same =
    let rest = sum_below_same n f g (λ i h. same i (omega arith)) in
    let last = same n (omega arith) in
    omega arith

-- terms that are at most the others, one by one
pub sum_below_le : (n : ℕ) (f g : ℕ → ℕ) → ((i : ℕ) → i < n → f i ≤ g i) → sum_below n f ≤ sum_below n g
sum_below_le zero f g le = omega arith
sum_below_le (suc n) f g le =
    let rest = sum_below_le n f g (λ i h. le i (omega arith)) in
    let last = le n (omega arith) in
    omega arith

-- where the sums are equal, so is each term
pub sum_below_tight : (n : ℕ) (f g : ℕ → ℕ) → ((i : ℕ) → i < n → f i ≤ g i) → sum_below n g ≤ sum_below n f → (i : ℕ) → i < n → f i ≡ g i
sum_below_tight zero f g le more i h = absurd (omega arith)
sum_below_tight (suc n) f g le more i h =
    let rest = sum_below_le n f g (λ i h. le i (omega arith)) in
    let last = le n (omega arith) in
    let tight : f n ≡ g n = omega arith in
    ⊎_elim (λ lt. sum_below_tight n f g (λ j h. le j (omega arith)) (omega arith) i lt) (λ e. rw e tight) (below_or_last n i h)

pub sum_below-zero : (n : ℕ) → sum_below n (λ i. 0) ≡ 0
sum_below-zero zero = refl
sum_below-zero (suc n) = let rest = sum_below-zero n in omega arith

pub sum_below-add : (n : ℕ) (f g : ℕ → ℕ) → sum_below n (λ i. f i + g i) ≡ sum_below n f + sum_below n g
sum_below-add zero f g = refl
sum_below-add (suc n) f g = let rest = sum_below-add n f g in omega arith

mul-add : (c a b : ℕ) → c * (a + b) ≡ c * a + c * b
mul-add c a b = omega arith

pub sum_below-scale : (n c : ℕ) (f : ℕ → ℕ) → sum_below n (λ i. c * f i) ≡ c * sum_below n f
sum_below-scale zero c f = sym (mul-zero c)
sum_below-scale (suc n) c f = let rest = sum_below-scale n c f in let split = mul-add c (sum_below n f) (f n) in omega arith

-- the order of two sums is free
pub sum_below-swap : (n m : ℕ) (f : ℕ → ℕ → ℕ) → sum_below n (λ i. sum_below m (λ j. f i j)) ≡ sum_below m (λ j. sum_below n (λ i. f i j))
sum_below-swap zero m f = sym (sum_below-zero m)
sum_below-swap (suc n) m f =
    let rest = sum_below-swap n m f in
    let split = sum_below-add m (λ j. sum_below n (λ i. f i j)) (λ j. f n j) in
    omega arith

-- a term is at most the sum
pub term-le-sum_below : (n : ℕ) (f : ℕ → ℕ) (i : ℕ) → i < n → f i ≤ sum_below n f
term-le-sum_below zero f i h = absurd (omega arith)
term-le-sum_below (suc n) f i h =
    let last : f n ≤ sum_below n f + f n = omega arith in
    ⊎_elim (λ lt. let rest = term-le-sum_below n f i lt in omega arith) (λ e. rw e last) (below_or_last n i h)

-- two sums whose terms differ at one place alone
pub sum_below_changed : (n : ℕ) (f g : ℕ → ℕ) (i : ℕ) → i < n → ((j : ℕ) → j < n → j ≢ i → f j ≡ g j) → sum_below n f + g i ≡ sum_below n g + f i
sum_below_changed zero f g i h others = absurd (omega arith)
sum_below_changed (suc n) f g i h others =
    ⊎_elim
    (λ lt.
    let rest = sum_below_changed n f g i lt (λ j below ne. others j (omega arith) ne) in
    let last : f n ≡ g n = others n (omega arith) (omega arith) in
    omega arith)
    (λ e.
    let rest : sum_below n f ≡ sum_below n g = sum_below_same n f g (λ j below. others j (omega arith) (omega arith)) in
    let here : (f i ≡ f n) × (g i ≡ g n) = (ap f e, ap g e) in
    omega (arith, here.0, here.1))
    (below_or_last n i h)

-- one term alone: the others are 0
pub sum_below_only : (n : ℕ) (f : ℕ → ℕ) (i : ℕ) → i < n → ((j : ℕ) → j < n → j ≢ i → f j ≡ 0) → sum_below n f ≡ f i
sum_below_only n f i h others =
    let changed = sum_below_changed n f (λ j. 0) i h others in
    let none = sum_below-zero n in
    omega arith

-- a bound on each term bounds the sum
pub sum_below-le-product : (n bound : ℕ) (f : ℕ → ℕ) → ((i : ℕ) → i < n → f i ≤ bound) → sum_below n f ≤ n * bound
sum_below-le-product zero bound f le = omega arith
sum_below-le-product (suc n) bound f le =
    let rest = sum_below-le-product n bound f (λ i h. le i (omega arith)) in
    let last = le n (omega arith) in
    let product = suc-mul n bound in
    omega arith

-- a list's sum, by index
sum_of_front : (xs : List ℕ) (n : ℕ) → n ≤ length xs → sum (take n xs) ≡ sum_below n (λ i. get_or xs i 0)
sum_of_front xs zero h = refl
sum_of_front xs (suc n) h =
    let rest = sum_of_front xs n (omega arith) in
    let more = sum_by_more (λ x. x) xs n 0 (omega arith) in
    let e : suc n ≡ n + 1 = omega arith in
    let front = ap (λ m. sum (take m xs)) e in
    omega arith

pub sum_is_below : (xs : List ℕ) → sum xs ≡ sum_below (length xs) (λ i. get_or xs i 0)
sum_is_below xs = ap sum (sym (take_all (length xs) xs (omega arith))) ∙ sum_of_front xs (length xs) (omega arith)
