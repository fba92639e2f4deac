-- The tickets of the children in flight once one of them has ended.
use Rattle.std.specs.Prelude.{Contains, not, slice_get, slice_index_or, nat_eq}
use Rattle.std.specs.List.{AllByRecursion, IsDistinct, remove}
use Rattle.std.proofs.Common.{◌≡◌, ◌∙◌, ℕ, zero, suc, ◌+◌, ◌<◌, ◌≤◌, ◌==◌, Bool, true, false, cond, List, [], ◌∷◌, length, Some, refl, sym, ap, subst, arith}
use Rattle.std.proofs.lemmas.Cmp.{nat_eq_equiv}
use Rattle.std.proofs.lemmas.Map.Keys.{IsDistinct-head, IsDistinct-tail}
use Rattle.proc_host.specs.Tickets.{without}

none_to_take : (ticket : ℕ) (tickets : List ℕ) → AllByRecursion (λ n. nat_eq ticket n ≡ false) tickets → without ticket tickets ≡ tickets
none_to_take ticket [] all = refl
none_to_take ticket (x ∷ tickets) all =
    ap (λ b. cond (not b) (x ∷ without ticket tickets) (without ticket tickets)) (nat_eq_equiv.symm x ticket ∙ all.0)
    ∙ ap (λ (left : List ℕ). x ∷ left) (none_to_take ticket tickets all.1)

other : (n : ℕ) (tickets : List ℕ) (index ticket : ℕ) → AllByRecursion (λ m. nat_eq n m ≡ false) tickets → slice_get tickets index ≡ Some ticket → nat_eq n ticket ≡ false
other n [] index ticket all there = absurd cc
other n (x ∷ tickets) zero ticket all there = let same : x ≡ ticket = cc in subst (λ m. nat_eq n m ≡ false) same all.0
other n (x ∷ tickets) (suc index) ticket all there = other n tickets index ticket all.1 there

-- where each child has its own ticket, the child at an index is the one of its ticket
pub one_less : (tickets : List ℕ) (index ticket : ℕ) → IsDistinct nat_eq tickets → slice_get tickets index ≡ Some ticket → remove tickets index ≡ without ticket tickets
one_less [] index ticket apart there = absurd cc
one_less (x ∷ tickets) zero ticket apart there =
    let same : x ≡ ticket = cc in
    sym (ap (λ b. cond (not b) (x ∷ without ticket tickets) (without ticket tickets)) (ap (λ n. nat_eq n ticket) same ∙ nat_eq_equiv.refl ticket)
    ∙ none_to_take ticket tickets (subst (λ n. AllByRecursion (λ m. nat_eq n m ≡ false) tickets) same (IsDistinct-head nat_eq x tickets apart)))
one_less (x ∷ tickets) (suc index) ticket apart there =
    ap (λ (left : List ℕ). x ∷ left) (one_less tickets index ticket (IsDistinct-tail nat_eq x tickets apart) there)
    ∙ sym (ap (λ b. cond (not b) (x ∷ without ticket tickets) (without ticket tickets))
    (other x tickets index ticket (IsDistinct-head nat_eq x tickets apart) there))

no_more : (b : Bool) (x : ℕ) (left : List ℕ) → length (cond b (x ∷ left) left) ≤ length left + 1
no_more true x left = omega arith
no_more false x left = omega arith

pub at_most : (ticket : ℕ) (tickets : List ℕ) → length (without ticket tickets) ≤ length tickets
at_most ticket [] = omega arith
at_most ticket (x ∷ tickets) = omega (arith, no_more (not (x == ticket)) x (without ticket tickets), at_most ticket tickets)

fewer_by : (tickets : List ℕ) (ticket k : ℕ) → k < length tickets → slice_index_or tickets k ticket ≡ ticket → length (without ticket tickets) < length tickets
fewer_by [] ticket k within is = absurd (omega (arith, within))
fewer_by (x ∷ tickets) ticket zero within is =
    let first : (x == ticket) ≡ true = ap (λ n. nat_eq n ticket) is ∙ nat_eq_equiv.refl ticket in
    let left : length (without ticket (x ∷ tickets)) ≡ length (without ticket tickets) =
    ap (λ b. length (cond (not b) (x ∷ without ticket tickets) (without ticket tickets))) first in
    omega (arith, left, at_most ticket tickets)
fewer_by (x ∷ tickets) ticket (suc k) within is =
    omega (arith, no_more (not (x == ticket)) x (without ticket tickets), fewer_by tickets ticket k (omega (arith, within)) is)

pub fewer_without : (tickets : List ℕ) (ticket : ℕ) → Contains tickets ticket → length (without ticket tickets) < length tickets
fewer_without tickets ticket there = fewer_by tickets ticket there.0 there.1 there.2
