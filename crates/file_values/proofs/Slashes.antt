-- Where a path's last slash is, and what is before and after it.
use Rattle.std.proofs.Common.{◌≡◌, ◌≢◌, ℕ, ◌+◌, ◌-◌, ◌<◌, true, false, not, if◌then◌else◌, List, [], ◌∷◌, ◌++◌, suc, refl, length, get_or, take, ap, ◌∙◌, arith, ne_eqb, eq-eqb}
use Rattle.std.specs.List.{before_last, suffix_len, list_any}
use Rattle.std.proofs.lemmas.List.Sums.{suffix_len_is}
use Rattle.std.proofs.lemmas.List.Folds.{list_any_at}
use Rattle.file_values.specs.Names.{is_slash}

pub before-at : (bs : List ℕ) (k : ℕ) → k < length bs → get_or bs k 0 ≡ 47 → ((i : ℕ) → k < i → i < length bs → get_or bs i 0 ≢ 47) → before_last is_slash bs ≡ take k bs
before-at bs k within is none =
    let e = suffix_len_is (λ x. not (is_slash x)) bs (k + 1) 0 (omega arith) (λ i after below. ap not (ne_eqb _ 47 (none i (omega arith) below))) (λ _. ap (λ n. not (is_slash (get_or bs n 0))) (let back : k + 1 - 1 ≡ k = omega arith in back) ∙ ap not (eq-eqb _ 47 is)) in
    let at : length bs - suffix_len (λ x. not (is_slash x)) bs - 1 ≡ k = omega (arith, e) in
    ap (λ n. take n bs) at

pub before-none : (bs : List ℕ) → ((i : ℕ) → i < length bs → get_or bs i 0 ≢ 47) → before_last is_slash bs ≡ []
before-none bs none =
    let e = suffix_len_is (λ x. not (is_slash x)) bs 0 0 (omega arith) (λ i after below. ap not (ne_eqb _ 47 (none i below))) (λ h. absurd (omega arith)) in
    let at : length bs - suffix_len (λ x. not (is_slash x)) bs - 1 ≡ 0 = omega (arith, e) in
    ap (λ n. take n bs) at

any_at : (bs : List ℕ) (k : ℕ) → k < length bs → get_or bs k 0 ≡ 47 → list_any is_slash bs ≡ true
any_at bs k within is = list_any_at is_slash bs k 0 within (eq-eqb _ 47 is)

none_any : (bs : List ℕ) → ((i : ℕ) → i < length bs → get_or bs i 0 ≢ 47) → list_any is_slash bs ≡ false
none_any [] none = refl
none_any (b ∷ bs) none =
    let here : is_slash b ≡ false = ne_eqb b 47 (none 0 (omega arith)) in
    rw here (none_any bs (λ i below same. none (suc i) (omega arith) same))

-- the path of a name in the folder of another path
abbrev pub beside_path : List ℕ → List ℕ → List ℕ
beside_path primary name = (if list_any is_slash primary then before_last is_slash primary ++ 47 ∷ name else name)

pub beside-at : (primary name : List ℕ) (k : ℕ) → k < length primary → get_or primary k 0 ≡ 47 → ((i : ℕ) → k < i → i < length primary → get_or primary i 0 ≢ 47) → beside_path primary name ≡ take k primary ++ 47 ∷ name
beside-at primary name k within is none = rw (any_at primary k within is, before-at primary k within is none) refl

pub beside-none : (primary name : List ℕ) → ((i : ℕ) → i < length primary → get_or primary i 0 ≢ 47) → beside_path primary name ≡ name
beside-none primary name none = rw (none_any primary none) refl
