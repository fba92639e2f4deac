-- Room for what comes next.
use Rattle.std.specs.Prelude.{◌≤◌}
use Rattle.std.proofs.Common.{◌≡◌, ◌⊎◌, inl, inr, ◌+◌, ℕ, List, [], ◌∷◌, Result, length, refl, sym, subst, arith}
use Rattle.run_rules.specs.declared.outcome.Outcome.{Outcome}
use Rattle.run_rules.specs.declared.outcome.RunFault.{RunFault}
use Rattle.run_core.specs.declared.state.Course.{Course}
use Rattle.run_core.specs.declared.state.Phase.{Phase}
use Rattle.run_core.specs.declared.state.Turn.{Turn}
use Rattle.run_core.specs.inner.Course.{Past}
use Rattle.run_core.specs.inner.Follows.{HasPairs, MakesRoom, has_room, no_room}
use Rattle.run_core.specs.inner.Standing.{HasRoom, pairs_ahead}
use Rattle.run_core.specs.inner.Turn.{lost_after, lost_with}

pub room_at_rest : (pairs room : ℕ) (past : Past) (turn : Turn) →
    (turn.phase ≡ Phase.Draining) ⊎ ((outcome : Result Outcome RunFault) × (turn.phase ≡ Phase.Ended outcome)) → HasPairs pairs room past turn →
    MakesRoom pairs room past turn turn
room_at_rest pairs room past turn (inl drains) fits = has_room (subst (λ (p : Phase). pairs + pairs_ahead past p ≤ room) (sym drains) fits)
room_at_rest pairs room past turn (inr ended) fits =
    has_room (subst (λ (p : Phase). pairs + pairs_ahead past p ≤ room) (sym ended.1) (let less : pairs + 0 ≤ room = omega (arith, fits) in less))

-- the answer, and the end of each child that is or will be in flight
pub ahead : (past : Past) (phase : Phase) → (phase ≡ Phase.Draining → ⊥) → ((outcome : Result Outcome RunFault) → phase ≡ Phase.Ended outcome → ⊥) →
    pairs_ahead past phase ≡ length past.tickets + 2
ahead past Phase.Draining other still = absurd (other refl)
ahead past (Phase.Ended outcome) other still = absurd (still outcome refl)
ahead past phase other still = refl

nothing_starts : (course : Course) (tickets : List ℕ) → HasRoom course (lost_with tickets).phase
nothing_starts course [] = record { tickets = λ takes. absurd takes; flights = λ takes. absurd takes }
nothing_starts course (ticket ∷ tickets) = record { tickets = λ takes. absurd takes; flights = λ takes. absurd takes }

pub lost_takes_none : (course : Course) (past : Past) → HasRoom course (lost_after past).phase
lost_takes_none course past = nothing_starts course past.tickets

pub lost_has_room : (pairs room : ℕ) (past : Past) (old turn : Turn) → pairs + length past.tickets ≤ room → turn ≡ lost_after past → MakesRoom pairs room past old turn
lost_has_room pairs room past old turn fits is = subst (λ (t : Turn). MakesRoom pairs room past old t) (sym is) (no_room fits)
