-- A plan that is made anew changes nothing else of what the machine keeps.
use Rattle.std.proofs.Common.{◌≡◌, ◌∙◌, ℕ, ap}
use Rattle.plan_keeper.specs.declared.planned.Planned.{Planned}
use Rattle.run_core.specs.declared.state.Course.{Course}
use Rattle.run_core.specs.declared.state.Given.{Given}
use Rattle.run_core.specs.inner.Course.{Past, past_of, with_plan}
use Rattle.run_core.specs.inner.Planning.{Replans, fails, plans, stays}

-- what a plan leaves as it was
pub replanned : {X : Type 0} (f : Past → X) → ((after : ℕ) (made : Planned) (past : Past) → f (with_plan after made past) ≡ f past) → (given : Given) (old : Course) {new : Course} →
    Replans given old new → f (past_of new) ≡ f (past_of old)
replanned f left given old (plans made new some is past known) = ap f past ∙ left given.answers made (past_of old)
replanned f left given old (stays new all past known) = ap f past
replanned f left given old (fails new none past known) = ap f past

pub known_replanned : (given : Given) (old : Course) {new : Course} → Replans given old new → new.known ≡ old.known
known_replanned given old (plans made new some is past known) = known
known_replanned given old (stays new all past known) = known
known_replanned given old (fails new none past known) = known
