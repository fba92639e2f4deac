-- Where a name's last period is.
use Rattle.std.proofs.Common.{◌≡◌, ◌≢◌, ℕ, ◌+◌, ◌-◌, ◌<◌, ◌≤◌, true, false, not, List, [], length, get_or, take, drop, refl, ap, ◌∙◌, arith, rules}
use Rattle.std.specs.List.{before_last, suffix_len}
use Rattle.std.proofs.lemmas.List.{length-take-le, drop_all}
use Rattle.std.proofs.lemmas.List.Sums.{suffix_len_is}
use Rattle.cwl_value.specs.NameParts.{is_period, has_other, nameroot, nameext}

other : (x : ℕ) → x ≢ 46 → not (is_period x) ≡ true
other x h = search rules

pub before_last-at : (bs : List ℕ) (k : ℕ) → k < length bs → get_or bs k 0 ≡ 46 → ((i : ℕ) → k < i → i < length bs → get_or bs i 0 ≢ 46) → before_last is_period bs ≡ take k bs
before_last-at bs k within is none =
    let e = suffix_len_is (λ x. not (is_period x)) bs (k + 1) 0 (omega arith) (λ i after below. other _ (none i (omega arith) below)) (λ _. search rules) in
    let at : length bs - suffix_len (λ x. not (is_period x)) bs - 1 ≡ k = omega (arith, e) in
    ap (λ n. take n bs) at

pub before_last-none : (bs : List ℕ) → ((i : ℕ) → i < length bs → get_or bs i 0 ≢ 46) → before_last is_period bs ≡ []
before_last-none bs none =
    let e = suffix_len_is (λ x. not (is_period x)) bs 0 0 (omega arith) (λ i after below. other _ (none i below)) (λ h. absurd (omega arith)) in
    let at : length bs - suffix_len (λ x. not (is_period x)) bs - 1 ≡ 0 = omega (arith, e) in
    ap (λ n. take n bs) at

pub rooted : (bs : List ℕ) (k : ℕ) → before_last is_period bs ≡ take k bs → has_other (take k bs) ≡ true → nameroot bs ≡ take k bs
rooted bs k last other = rw (last, other) refl

pub rootless : (bs front : List ℕ) → before_last is_period bs ≡ front → has_other front ≡ false → nameroot bs ≡ bs
rootless bs front last none = rw (last, none) refl

pub ext-rooted : (bs : List ℕ) (k : ℕ) → k ≤ length bs → nameroot bs ≡ take k bs → nameext bs ≡ drop k bs
ext-rooted bs k within root = ap (λ n. drop n bs) (ap length root ∙ length-take-le k bs within)

pub ext-rootless : (bs : List ℕ) → nameroot bs ≡ bs → nameext bs ≡ []
ext-rootless bs root = ap (λ r. drop (length r) bs) root ∙ drop_all (length bs) bs (omega arith)
