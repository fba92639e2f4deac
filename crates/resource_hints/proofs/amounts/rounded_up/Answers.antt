use Rattle.std.proofs.Common.{◌≡◌, ℕ, Bool, true, false, Some, None, w64, sym, ap, subst, ◌∙◌}
use Rattle.std.specs.Prelude.{◌&&◌, if◌then◌else◌}
use Rattle.std.specs.Float.{binary64, ceil, float_to_unsigned, float_zero, two_to}
use Rattle.std.specs.Float.Ieee.{le, lt}
use Rattle.resource_hints.proofs.Literals.{two_to_64_is, zero_is}
use Rattle.resource_hints.proofs.amounts.rounded_up.Goals as goal
use Rattle.resource_hints.proofs.amounts.rounded_up.Goals.{else-amount-via-then-amount+else-amount-2, else-amount-via-else-amount}

both : (a b : Bool) (n : ℕ) → a ≡ true → b ≡ true → Some n ≡ (if a && b then Some n else None)
both a b n one other = sym (ap (λ t. if t && b then Some n else None) one ∙ ap (λ t. if t then Some n else None) other)

not_first : (a b : Bool) (n : ℕ) → a ≡ false → None ≡ (if a && b then Some n else None)
not_first a b n one = sym (ap (λ t. if t && b then Some n else None) one)

not_second : (a b : Bool) (n : ℕ) → a ≡ true → b ≡ false → None ≡ (if a && b then Some n else None)
not_second a b n one other = sym (ap (λ t. if t && b then Some n else None) one ∙ ap (λ t. if t then Some n else None) other)

pub returns-then-amount-2 : goal.returns-then-amount-2
returns-then-amount-2 c =
    let x = c.args.amount in
    ap Some (c.saturating_f64_to_u64.ensures ∙ ap (λ y. float_to_unsigned w64 y) c.ceil.ensures)
    ∙ both (le float_zero x) (lt x (two_to 64)) (float_to_unsigned w64 (ceil binary64 x)) (subst (λ z. le z x ≡ true) zero_is c.if-amount.true) (subst (λ z. lt x z ≡ true) two_to_64_is c.if-amount-2.true)

pub returns-else-amount : goal.returns-else-amount
returns-else-amount c =
    let x = c.args.amount in
    elim c.else-amount.branch [
      | else-amount-via-then-amount+else-amount-2 w ↦
          not_second (le float_zero x) (lt x (two_to 64)) (float_to_unsigned w64 (ceil binary64 x)) (subst (λ z. le z x ≡ true) zero_is w.if-amount.true) (subst (λ z. lt x z ≡ false) two_to_64_is w.if-amount-2.false)
      | else-amount-via-else-amount w ↦ not_first (le float_zero x) (lt x (two_to 64)) (float_to_unsigned w64 (ceil binary64 x)) (subst (λ z. le z x ≡ false) zero_is w.if-amount.false)
    ]
