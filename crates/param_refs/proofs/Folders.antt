-- Where a path's last slash is.
use Rattle.std.proofs.Common.{◌≡◌, ◌≢◌, ℕ, ◌+◌, ◌-◌, ◌<◌, true, not, ◌==◌, List, [], length, get_or, take, ap, arith, ne_eqb, eq-eqb}
use Rattle.std.specs.List.{suffix_len}
use Rattle.std.proofs.lemmas.List.Sums.{suffix_len_is}
use Rattle.param_refs.specs.Keys.{dirname}

last_is : (bs : List ℕ) (k : ℕ) → get_or bs k 0 ≡ 47 → (get_or bs (k + 1 - 1) 0 == 47) ≡ true
last_is bs k is = let here : k + 1 - 1 ≡ k = omega arith in rw here (eq-eqb (get_or bs k 0) 47 is)

pub dirname-at : (bs : List ℕ) (k : ℕ) → k < length bs → get_or bs k 0 ≡ 47 → ((i : ℕ) → k < i → i < length bs → get_or bs i 0 ≢ 47) → dirname bs ≡ take k bs
dirname-at bs k within is none =
    let e = suffix_len_is (λ x. not (x == 47)) bs (k + 1) 0 (omega arith) (λ i after below. ap not (ne_eqb (get_or bs i 0) 47 (none i (omega arith) below))) (λ _. ap not (last_is bs k is)) in
    let at : length bs - suffix_len (λ x. not (x == 47)) bs - 1 ≡ k = omega (arith, e) in
    ap (λ n. take n bs) at

pub dirname-none : (bs : List ℕ) → ((i : ℕ) → i < length bs → get_or bs i 0 ≢ 47) → dirname bs ≡ []
dirname-none bs none =
    let e = suffix_len_is (λ x. not (x == 47)) bs 0 0 (omega arith) (λ i after below. ap not (ne_eqb (get_or bs i 0) 47 (none i below))) (λ h. absurd (omega arith)) in
    let at : length bs - suffix_len (λ x. not (x == 47)) bs - 1 ≡ 0 = omega (arith, e) in
    ap (λ n. take n bs) at
