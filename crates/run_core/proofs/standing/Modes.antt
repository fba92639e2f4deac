-- How far a machine is, and what it tells.
use Rattle.std.proofs.Common.{◌≡◌, ◌∙◌, Ok, Err, refl, sym}
use Rattle.run_rules.specs.declared.outcome.RunFault.{RunFault}
use Rattle.run_core.specs.declared.state.Phase.{Phase}
use Rattle.run_core.specs.Machine.{is_draining, is_over}
use Rattle.run_core.specs.inner.Follows.{told_of}
use Rattle.run_core.specs.inner.Inside.{mode_of}

pub draining_phase : (phase : Phase) → mode_of phase ≡ is_draining → phase ≡ Phase.Draining
draining_phase Phase.Draining is = refl
draining_phase (Phase.Ended outcome) is = absurd cc
draining_phase (Phase.Measuring measuring) is = absurd cc
draining_phase (Phase.Finding number) is = absurd cc
draining_phase (Phase.Putting number) is = absurd cc
draining_phase (Phase.Fetching number) is = absurd cc
draining_phase (Phase.Dropping number) is = absurd cc
draining_phase (Phase.Touching number) is = absurd cc
draining_phase (Phase.Discarding number left) is = absurd cc
draining_phase (Phase.Storing number row) is = absurd cc
draining_phase (Phase.Staging number) is = absurd cc
draining_phase (Phase.Working number phase) is = absurd cc
draining_phase Phase.Collecting is = absurd cc
draining_phase (Phase.Delivering outputs) is = absurd cc

pub lost_phase : (phase : Phase) → mode_of phase ≡ is_over (Err RunFault.OutOfMemory) → phase ≡ Phase.Ended (Err RunFault.OutOfMemory)
lost_phase (Phase.Ended outcome) is = cc
lost_phase Phase.Draining is = absurd cc
lost_phase (Phase.Measuring measuring) is = absurd cc
lost_phase (Phase.Finding number) is = absurd cc
lost_phase (Phase.Putting number) is = absurd cc
lost_phase (Phase.Fetching number) is = absurd cc
lost_phase (Phase.Dropping number) is = absurd cc
lost_phase (Phase.Touching number) is = absurd cc
lost_phase (Phase.Discarding number left) is = absurd cc
lost_phase (Phase.Storing number row) is = absurd cc
lost_phase (Phase.Staging number) is = absurd cc
lost_phase (Phase.Working number phase) is = absurd cc
lost_phase Phase.Collecting is = absurd cc
lost_phase (Phase.Delivering outputs) is = absurd cc

-- what `take` answers
pub data Tells (phase : Phase) : Type 0 where
  tells_ok : told_of phase ≡ Ok tt → (mode_of phase ≡ is_over (Err RunFault.OutOfMemory) → ⊥) → Tells phase
  tells_lost : phase ≡ Phase.Ended (Err RunFault.OutOfMemory) → Tells phase

pub tells : (phase : Phase) → Tells phase
tells (Phase.Ended (Err RunFault.OutOfMemory)) = tells_lost refl
tells (Phase.Ended (Err RunFault.TooManyJobs)) = tells_ok refl (λ lost. cc)
tells (Phase.Ended (Err (RunFault.Host fault running))) = tells_ok refl (λ lost. cc)
tells (Phase.Ended (Err (RunFault.Record refusal))) = tells_ok refl (λ lost. cc)
tells (Phase.Ended (Err (RunFault.Mismatch place))) = tells_ok refl (λ lost. cc)
tells (Phase.Ended (Ok report)) = tells_ok refl (λ lost. cc)
tells (Phase.Measuring measuring) = tells_ok refl (λ lost. cc)
tells (Phase.Finding number) = tells_ok refl (λ lost. cc)
tells (Phase.Putting number) = tells_ok refl (λ lost. cc)
tells (Phase.Fetching number) = tells_ok refl (λ lost. cc)
tells (Phase.Dropping number) = tells_ok refl (λ lost. cc)
tells (Phase.Touching number) = tells_ok refl (λ lost. cc)
tells (Phase.Discarding number left) = tells_ok refl (λ lost. cc)
tells (Phase.Storing number row) = tells_ok refl (λ lost. cc)
tells (Phase.Staging number) = tells_ok refl (λ lost. cc)
tells (Phase.Working number phase) = tells_ok refl (λ lost. cc)
tells Phase.Collecting = tells_ok refl (λ lost. cc)
tells (Phase.Delivering outputs) = tells_ok refl (λ lost. cc)
tells Phase.Draining = tells_ok refl (λ lost. cc)

told_by : (phase : Phase) (fault : RunFault) → Tells phase → told_of phase ≡ Err fault → phase ≡ Phase.Ended (Err RunFault.OutOfMemory)
told_by phase fault (tells_ok is other) told = let never : Ok tt ≡ Err fault = sym is ∙ told in absurd cc
told_by phase fault (tells_lost is) told = is

-- an error is that memory ran out
pub told_lost : (phase : Phase) (fault : RunFault) → told_of phase ≡ Err fault → phase ≡ Phase.Ended (Err RunFault.OutOfMemory)
told_lost phase fault told = told_by phase fault (tells phase) told
