-- Steps that are open within some links.
use Rattle.std.proofs.Common.{◌≡◌, ℕ, zero, suc, ◌+◌, ◌-◌, ◌≤◌, ◌∙◌, Bool, List, ap, arith, length, map, refl}
use Rattle.plan_waits.specs.Waiting.{is_open, open_steps, open_within}
use Rattle.plan_waits.specs.declared.waiting.Standing.{Standing}

-- where one link more gives nothing new, no link does
stays : (m k : ℕ) (steps : List Standing) → map (is_open (open_within k steps)) steps ≡ open_within k steps → open_within (m + k) steps ≡ open_within k steps
stays zero k steps same = let e : zero + k ≡ k = omega arith in rw e refl
stays (suc m) k steps same =
    let e : suc m + k ≡ suc (m + k) = omega arith in
    rw e (ap (λ (flags : List Bool). map (is_open flags) steps) (stays m k steps same) ∙ same)

pub open_steps_so : (k : ℕ) (steps : List Standing) → k ≤ length steps → map (is_open (open_within k steps)) steps ≡ open_within k steps
    → open_steps steps ≡ open_within k steps
open_steps_so k steps within same =
    let m : ℕ = length steps - k in
    let e : length steps ≡ m + k = omega arith in
    rw e (stays m k steps same)
