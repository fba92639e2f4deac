-- Rounds in which steps go that wait for none that is left.
use Rattle.std.proofs.Common.{◌≡◌, ℕ, zero, suc, ◌+◌, ◌-◌, ◌<◌, ap, refl, arith}
use Rattle.workflow_check.specs.Order.{left_after, still_waiting}
use Rattle.workflow_check.specs.Scope.{Named}
use Rattle.document_links.specs.declared.process.Step.{Step}

fewer : (n k m : ℕ) → suc m ≡ n - k → m ≡ n - (k + 1)
fewer n k m is = omega arith

next_at : (m n k : ℕ) (steps : Named Step) → m ≡ n - k → k < n → left_after m steps ≡ left_after (n - (k + 1)) (still_waiting steps)
next_at zero n k steps is below = absurd (omega arith)
next_at (suc m) n k steps is below = ap (λ r. left_after r (still_waiting steps)) (fewer n k m is)

-- one round
pub next_round : (n k : ℕ) (steps : Named Step) → k < n → left_after (n - k) steps ≡ left_after (n - (k + 1)) (still_waiting steps)
next_round n k steps below = next_at (n - k) n k steps refl below
