-- What stands after the last `/` of a text, and texts without a `#` at their front.
use Rattle.std.proofs.Common.{◌≡◌, ◌≢◌, ℕ, ◌+◌, ◌-◌, ◌<◌, ◌==◌, not, List, [], ◌∷◌, Bool, true, false, length, get_or, drop, refl, sym, ap, ◌∙◌, arith, eq-eqb}
use Rattle.std.specs.Prelude.{if◌then◌else◌}
use Rattle.std.specs.List.{after_last, suffix_len}
use Rattle.std.proofs.lemmas.Bool.{ne_eqb}
use Rattle.std.proofs.lemmas.Bool.Decides.{Decides-eqb}
use Rattle.std.proofs.lemmas.List.Sums.{suffix_len_is}
use Rattle.document_table.specs.Texts.{plain_id}

pub after-at : (text : List ℕ) (k : ℕ) → k < length text → get_or text k 0 ≡ 47 → ((i : ℕ) → k < i → i < length text → get_or text i 0 ≢ 47) → drop (k + 1) text ≡ after_last (λ c. c == 47) text
after-at text k within is none =
    let e = suffix_len_is (λ x. not (x == 47)) text (k + 1) 0 (omega arith) (λ i after below. ap not (ne_eqb _ 47 (none i (omega arith) below))) (λ _. ap (λ n. not (get_or text n 0 == 47)) (let back : k + 1 - 1 ≡ k = omega arith in back) ∙ ap not (eq-eqb _ 47 is)) in
    let at : length text - suffix_len (λ x. not (x == 47)) text ≡ k + 1 = omega (arith, e) in
    sym (ap (λ n. drop n text) at)

pub after-none : (text : List ℕ) → ((i : ℕ) → i < length text → get_or text i 0 ≢ 47) → text ≡ after_last (λ c. c == 47) text
after-none text none =
    let e = suffix_len_is (λ x. not (x == 47)) text 0 0 (omega arith) (λ i after below. ap not (ne_eqb _ 47 (none i below))) (λ h. absurd (omega arith)) in
    let at : length text - suffix_len (λ x. not (x == 47)) text ≡ 0 = omega (arith, e) in
    sym (ap (λ n. drop n text) at)

-- a text that begins with no `#` stands for itself
pub plain_itself : (text : List ℕ) → ((rest : List ℕ) → text ≢ 35 ∷ rest) → text ≡ plain_id text
plain_itself [] none = refl
plain_itself (c ∷ rest) none = by (c == 35) refl
  where
    by : (test : Bool) → (c == 35) ≡ test → c ∷ rest ≡ (if test then after_last (λ c. c == 47) rest else c ∷ rest)
    by true is = absurd (none rest (ap (λ x. x ∷ rest) ((Decides-eqb c 35).0 is)))
    by false is = refl
