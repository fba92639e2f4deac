-- What is known of the process, by the rules of its unfolding.
use Rattle.std.specs.Prelude.{◌≡◌, ℕ, ◌++◌, ◌∷◌, List, [], Option, Some, None, IsSome, OnErr, Result, Err, unwrap_or}
use Rattle.job_graph.specs.declared.unfolding.Unfolding.{Unfolding}
use Rattle.job_graph.specs.declared.fault.UnfoldError.{UnfoldError}
use Rattle.job_graph.specs.declared.fault.UnfoldFault.{UnfoldFault}
use Rattle.job_graph.specs.Jobs.{Walker}
use Rattle.job_graph.specs.Words.{Fields}
use Rattle.job_graph.specs.Unfold.{Resolved, unfolded}
use Rattle.job_graph.specs.Unfolding.{AnswersAlike, Learns as LearnsPlace}
pub use Rattle.job_graph.specs.Unfolding.{Knows, fault_of}
use Rattle.run_rules.specs.declared.outcome.Cause.{Cause}
use Rattle.run_rules.specs.declared.outcome.Outcome.{Outcome}
use Rattle.run_rules.specs.declared.outcome.RunFault.{RunFault}
use Rattle.run_core.specs.declared.state.Course.{Course}
use Rattle.run_core.specs.inner.Course.{known_in, past_of, place_at, with_end, with_hand}
use Rattle.run_core.specs.inner.Turn.{permanent}

-- what these places unfold is known, and no equation fails
abbrev pub IsKnown : Walker → List Resolved → Option Unfolding → Type 0
IsKnown walks learned None = ⊥
IsKnown walks learned (Some kept) = Knows walks learned kept

-- the end by a fault
abbrev pub end_by : UnfoldFault → Result Outcome RunFault
end_by UnfoldFault.TooManyJobs = Err RunFault.TooManyJobs
end_by (UnfoldFault.Fault place cause) = permanent place (Cause.Equation cause)

-- what comes of a course where these places are learned: more is known, or a fault settles the end and the jobs stay
pub data IsUnfolded (walks : Walker) (learned : List Resolved) (old : Course) : Course → Type 0 where
  knows : (kept : Unfolding) (new : Course) → Knows walks learned kept → new.known ≡ Some kept → past_of new ≡ past_of old →
      IsUnfolded walks learned old new
  fails : (fault : UnfoldFault) (new : Course) → (unfolded walks learned).fault ≡ Some (fault_of fault) → known_in new.known ≡ known_in old.known →
      past_of new ≡ with_end (end_by fault) (past_of old) → IsUnfolded walks learned old new

-- what is kept after one more place, as the call answered
pub record IsTold (one : Resolved) (kept : Unfolding) (new : Option Unfolding) (result : Result (Unit {0}) UnfoldError) : Type 0 where
  pub told : Unfolding
  pub is : new ≡ Some told
  pub learns : LearnsPlace kept one told result
  pub alike : OnErr result (AnswersAlike kept told)

-- a job's outputs are learned
abbrev pub Learns : Resolved → Course → Course → Type 0
Learns one old new = (walks : Walker) (learned : List Resolved) (kept : Unfolding) → old.known ≡ Some kept → Knows walks learned kept →
    IsUnfolded walks (learned ++ one ∷ []) old new

-- and so, unless the end is settled
pub record LearnsUnlessOver (one : Resolved) (old new : Course) : Type 0 where
  pub settled : IsSome old.end → past_of new ≡ past_of old
  pub unlearned : IsSome old.end → new.known ≡ old.known
  pub learned : old.end ≡ None → Learns one old new

-- the job of a number gives these outputs: they are at hand, and learned
pub record GivesAt (number : ℕ) (outputs : Fields) (old new : Course) : Type 0 where
  pub there : Course
  pub past : past_of there ≡ with_hand number (past_of old)
  pub known : there.known ≡ old.known
  pub learns : LearnsUnlessOver (record { place = place_at (known_in old.known) number; outputs = outputs }) there new

-- the outputs of the process, where they are there
abbrev pub outputs_in : Option Unfolding → Fields
outputs_in None = []
outputs_in (Some kept) = unwrap_or kept.result []

-- the outputs of the process are there
abbrev pub IsWhole : Option Unfolding → Type 0
IsWhole None = ⊥
IsWhole (Some kept) = IsSome kept.result
