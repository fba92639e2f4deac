-- Where the name of a process ends.
use Rattle.std.proofs.Common.{◌≡◌, ◌≢◌, ◌==◌, ℕ, ◌+◌, ◌-◌, ◌<◌, false, not, List, [], length, get_or, drop, sym, ap, ◌∙◌, arith, eq-eqb}
use Rattle.std.specs.List.{after_last, suffix_len}
use Rattle.std.proofs.lemmas.Bool.{cond-true, cond-false, ne_eqb}
use Rattle.std.proofs.lemmas.List.Elements.{All-from_get_or}
use Rattle.std.proofs.lemmas.List.Folds.{list_any_at, list_any_none}
use Rattle.std.proofs.lemmas.List.Sums.{suffix_len_is}
use Rattle.run_facts.specs.MadeBy.{is_closing, after_name}

-- what stands behind the last one of a byte
after-at : (byte : ℕ) (text : List ℕ) (k : ℕ) → k < length text → get_or text k 0 ≡ byte → ((i : ℕ) → k < i → i < length text → get_or text i 0 ≢ byte) → drop (k + 1) text ≡ after_last (λ b. b == byte) text
after-at byte text k within is none =
    let e = suffix_len_is (λ x. not (x == byte)) text (k + 1) 0 (omega arith) (λ i after below. ap not (ne_eqb _ byte (none i (omega arith) below))) (λ _. ap (λ n. not (get_or text n 0 == byte)) (let back : k + 1 - 1 ≡ k = omega arith in back) ∙ ap not (eq-eqb _ byte is)) in
    let at : length text - suffix_len (λ x. not (x == byte)) text ≡ k + 1 = omega (arith, e) in
    sym (ap (λ n. drop n text) at)

pub name_at : (stat : List ℕ) (k : ℕ) → k < length stat → get_or stat k 0 ≡ 41 → ((i : ℕ) → k < i → i < length stat → get_or stat i 0 ≢ 41) → drop (k + 1) stat ≡ after_name stat
name_at stat k within is none =
    after-at 41 stat k within is none ∙ sym (cond-true _ _ _ (list_any_at is_closing stat k 0 within (eq-eqb _ 41 is)))

pub no_name : (stat : List ℕ) → ((i : ℕ) → i < length stat → get_or stat i 0 ≢ 41) → [] ≡ after_name stat
no_name stat none =
    sym (cond-false _ _ _ (list_any_none is_closing stat (All-from_get_or (λ x. is_closing x ≡ false) stat 0 (λ i within. ne_eqb _ 41 (none i within)))))
