-- The tickets of the children that run, as starts and closes change them.
use Rattle.std.proofs.Common.{◌≡◌, ℕ, ◌+◌, ◌≤◌, ◌<◌, Bool, true, false, cond, not, eqb, List, [], ◌∷◌, ◌++◌, refl, ap, ◌∙◌, append-nil, arith}
use Rattle.std.proofs.lemmas.Bool.Decides.{nat_tests}
use Rattle.std.proofs.lemmas.List.Elements.{filter-append}
use Rattle.proc_host.specs.Tickets.{without, IsFresh, AllUpTo}

other_kept : (n ticket : ℕ) (ns : List ℕ) → n < ticket → without ticket (n ∷ ns) ≡ n ∷ without ticket ns
other_kept n ticket ns below = grind (arith, nat_tests)

-- a number above them all is fresh
pub next_is_fresh : (last : ℕ) (running : List ℕ) → AllUpTo last running → IsFresh (last + 1) running
next_is_fresh last [] all = refl
next_is_fresh last (n ∷ ns) all = other_kept n (last + 1) ns (omega (arith, all.0)) ∙ ap (λ rest. n ∷ rest) (next_is_fresh last ns all.1)

-- and they stay below the next number when it joins them
pub up_to_next : (last : ℕ) (running : List ℕ) → AllUpTo last running → AllUpTo (last + 1) (running ++ (last + 1) ∷ [])
up_to_next last [] all = (omega arith, tt)
up_to_next last (n ∷ ns) all = (omega (arith, all.0), up_to_next last ns all.1)

up_to_cond : (last n : ℕ) (ns : List ℕ) (b : Bool) → n ≤ last → AllUpTo last ns → AllUpTo last (cond b (n ∷ ns) ns)
up_to_cond last n ns true below all = (below, all)
up_to_cond last n ns false below all = all

-- and when one is taken out
pub up_to_without : (last ticket : ℕ) (running : List ℕ) → AllUpTo last running → AllUpTo last (without ticket running)
up_to_without last ticket [] all = tt
up_to_without last ticket (n ∷ ns) all = up_to_cond last n _ _ all.0 (up_to_without last ticket ns all.1)

without_itself : (ticket : ℕ) → without ticket (ticket ∷ []) ≡ []
without_itself ticket = grind (arith, nat_tests)

-- closing the ticket that a start has added leaves the others
pub without_started : (ticket : ℕ) (running : List ℕ) → IsFresh ticket running → without ticket (running ++ ticket ∷ []) ≡ running
without_started ticket running fresh =
    filter-append (λ n. not (eqb n ticket)) running (ticket ∷ []) ∙ ap (λ rest. without ticket running ++ rest) (without_itself ticket)
    ∙ append-nil (without ticket running) ∙ fresh
