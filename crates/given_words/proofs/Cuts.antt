-- What stands before a suffix, and behind a prefix.
use Rattle.std.proofs.Common.{◌≡◌, ◌∙◌, ℕ, ◌+◌, ◌-◌, ◌≤◌, true, false, List, Option, Some, None, Bor, MatchOption, ap, arith, drop, eqb, length, subst, sym, take}
use Rattle.std.specs.List.{ends_with, starts_with}
use Rattle.std.specs.Str.{IsCharBoundary}
use Rattle.std.specs.Str.Pattern.{FindsTextPrefix, FindsTextSuffix}
use Rattle.std.proofs.lemmas.Str.Pattern.{ends_text, starts_text}

pub before_suffix : (suffix text : List ℕ) (r : Option (Bor (List ℕ))) →
    MatchOption r (FindsTextSuffix suffix text None) (λ x. (n : ℕ) × FindsTextSuffix suffix text (Some n) × (x.now ≡ take (length text - n) text) × (length x.now + n ≡ length text)) →
    MatchOption r (ends_with eqb text suffix ≡ false) (λ x. (ends_with eqb text suffix ≡ true) × (x.now ≡ take (length text - length suffix) text))
before_suffix suffix text None h = sym (ends_text false suffix text h)
before_suffix suffix text (Some x) h =
    let n = h.0 in
    let whole = h.3 in
    let within : n ≤ length text = omega (arith, whole) in
    let boundary : IsCharBoundary text (length text - n) = subst (λ k. IsCharBoundary text (length text - k)) (sym h.1.0) h.1.2 in
    (sym (ends_text true suffix text (n, h.1, within, boundary)), h.2 ∙ ap (λ k. take (length text - k) text) h.1.0)

pub behind_prefix : (prefix text : List ℕ) (r : Option (Bor (List ℕ))) →
    MatchOption r (FindsTextPrefix prefix text None) (λ x. (n : ℕ) × FindsTextPrefix prefix text (Some n) × (x.now ≡ drop n text) × (length x.now + n ≡ length text)) →
    MatchOption r (starts_with eqb text prefix ≡ false) (λ x. (starts_with eqb text prefix ≡ true) × (x.now ≡ drop (length prefix) text))
behind_prefix prefix text None h = sym (starts_text false prefix text h)
behind_prefix prefix text (Some x) h =
    let n = h.0 in
    let boundary : IsCharBoundary text n = subst (λ k. IsCharBoundary text k) (sym h.1.0) h.1.2 in
    (sym (starts_text true prefix text (n, h.1, boundary)), h.2 ∙ ap (λ k. drop k text) h.1.0)
