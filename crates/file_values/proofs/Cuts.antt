-- Where names and paths are cut.
use Rattle.std.proofs.Common.{◌≡◌, ◌≢◌, ℕ, ◌+◌, ◌-◌, ◌<◌, false, not, List, [], ◌∷◌, ◌++◌, length, get_or, take, drop, refl, sym, ap, ◌∙◌, arith, eq-eqb, append-nil, length-append, take_all, take_at}
use Rattle.std.specs.List.{after_last, suffix_len, prefix_len}
use Rattle.std.proofs.lemmas.Bool.{cond-true, cond-false, ne_eqb}
use Rattle.std.proofs.lemmas.List.{reverse-append, take_more, get_or_at, take-append-le}
use Rattle.std.proofs.lemmas.List.Elements.{All-from_get_or}
use Rattle.std.proofs.lemmas.List.Folds.{list_any_at, list_any_none}
use Rattle.std.proofs.lemmas.List.Sums.{suffix_len_is, suffix_len-le-length}
use Rattle.cwl_value.specs.NameParts.{is_period}
use Rattle.cwl_value.proofs.Periods.{before_last-at}
use Rattle.file_values.specs.Names.{stem, beside, required, is_slash, without_last_slashes}

-- a name with a last period, and one without
pub stem-at : (name : List ℕ) (k : ℕ) → k < length name → get_or name k 0 ≡ 46 → ((i : ℕ) → k < i → i < length name → get_or name i 0 ≢ 46) → take k name ≡ stem name
stem-at name k within is none =
    sym (cond-true _ _ _ (list_any_at is_period name k 0 within (eq-eqb _ 46 is)) ∙ before_last-at name k within is none)

pub stem-none : (name : List ℕ) → ((i : ℕ) → i < length name → get_or name i 0 ≢ 46) → name ≡ stem name
stem-none name none =
    sym (cond-false _ _ _ (list_any_none is_period name (All-from_get_or (λ x. is_period x ≡ false) name 0 (λ i within. ne_eqb _ 46 (none i within)))))

-- what stands after the last slash
pub after-at : (path : List ℕ) (k : ℕ) → k < length path → get_or path k 0 ≡ 47 → ((i : ℕ) → k < i → i < length path → get_or path i 0 ≢ 47) → drop (k + 1) path ≡ after_last is_slash path
after-at path k within is none =
    let e = suffix_len_is (λ x. not (is_slash x)) path (k + 1) 0 (omega arith) (λ i after below. ap not (ne_eqb _ 47 (none i (omega arith) below))) (λ _. ap (λ n. not (is_slash (get_or path n 0))) (let back : k + 1 - 1 ≡ k = omega arith in back) ∙ ap not (eq-eqb _ 47 is)) in
    let at : length path - suffix_len (λ x. not (is_slash x)) path ≡ k + 1 = omega (arith, e) in
    sym (ap (λ n. drop n path) at)

pub after-none : (path : List ℕ) → ((i : ℕ) → i < length path → get_or path i 0 ≢ 47) → path ≡ after_last is_slash path
after-none path none =
    let e = suffix_len_is (λ x. not (is_slash x)) path 0 0 (omega arith) (λ i after below. ap not (ne_eqb _ 47 (none i below))) (λ h. absurd (omega arith)) in
    let at : length path - suffix_len (λ x. not (is_slash x)) path ≡ 0 = omega (arith, e) in
    sym (ap (λ n. drop n path) at)

-- the list ends with this byte
ends : (xs : List ℕ) (c : ℕ) → 0 < length xs → get_or xs (length xs - 1) 0 ≡ c → xs ≡ take (length xs - 1) xs ++ c ∷ []
ends xs c some is =
    let whole : length xs - 1 + 1 ≡ length xs = omega arith in
    sym (take_all (length xs) xs (omega arith)) ∙ ap (λ n. take n xs) (sym whole) ∙ take_more xs (length xs - 1) 0 (omega arith) ∙ ap (λ x. take (length xs - 1) xs ++ x ∷ []) is

-- one slash fewer at the end
pub trimmed-step : (path front : List ℕ) → path ≡ front ++ 47 ∷ [] → without_last_slashes path ≡ without_last_slashes front
trimmed-step path front is =
    let s = suffix_len is_slash front in
    let below = suffix_len-le-length is_slash front in
    let more : suffix_len is_slash (front ++ 47 ∷ []) ≡ 1 + s = ap (prefix_len is_slash) (reverse-append front (47 ∷ [])) in
    let len = length-append front (47 ∷ []) in
    let n : length (front ++ 47 ∷ []) - suffix_len is_slash (front ++ 47 ∷ []) ≡ length front - s = omega (arith, more, len) in
    ap without_last_slashes is ∙ ap (λ k. take k (front ++ 47 ∷ [])) n ∙ take-append-le (length front - s) front (47 ∷ []) (omega arith)

pub trimmed-end : (path : List ℕ) → ((front : List ℕ) → path ≢ front ++ 47 ∷ []) → path ≡ without_last_slashes path
trimmed-end path none =
    let last : 0 < length path → is_slash (get_or path (length path - 1) 0) ≡ false = λ some. ne_eqb _ 47 (λ is. none _ (ends path 47 some is)) in
    let e = suffix_len_is is_slash path (length path) 0 (omega arith) (λ k low high. absurd (omega arith)) last in
    sym (take_all (length path - suffix_len is_slash path) path (omega (arith, e)))

-- the pattern's last byte
pub required-some : (pattern front : List ℕ) → pattern ≡ front ++ 63 ∷ [] → front ≡ required pattern
required-some pattern front is =
    let len = length-append front (63 ∷ []) in
    let n : length (front ++ 63 ∷ []) - 1 ≡ length front = omega (arith, len) in
    let last = ap (λ k. get_or (front ++ 63 ∷ []) k 0) n ∙ get_or_at front 63 [] 0 _ refl in
    let cut = ap (λ k. take k (front ++ 63 ∷ [])) n ∙ take_at front (63 ∷ []) _ refl in
    sym (ap required is ∙ cond-true _ _ _ (eq-eqb _ 63 last) ∙ cut)

pub required-none : (pattern : List ℕ) → ((front : List ℕ) → pattern ≢ front ++ 63 ∷ []) → pattern ≡ required pattern
required-none [] none = refl
required-none (b ∷ bs) none =
    sym (cond-false _ _ _ (ne_eqb _ 63 (λ is. none _ (ends (b ∷ bs) 63 (omega arith) is))))

-- a caret at the front, and none
pub beside-caret : (rest others name : List ℕ) → rest ≡ 94 ∷ others → beside rest name ≡ beside others (stem name)
beside-caret rest others name is = ap (λ r. beside r name) is

pub beside-end : (rest name : List ℕ) → ((others : List ℕ) → rest ≢ 94 ∷ others) → name ++ rest ≡ beside rest name
beside-end [] name none = append-nil name
beside-end (c ∷ rest) name none = sym (cond-false _ _ _ (ne_eqb c 94 (λ is. none rest (ap (λ x. x ∷ rest) is))))
