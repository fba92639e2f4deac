-- What an `Unfolding` knows, and what its calls answer.
use Rattle.std.specs.Prelude.{◌≡◌, List, [], ◌∷◌, ◌++◌, Option, Some, None, Result, Ok, Err}
use Rattle.job_graph.specs.Jobs.{Walker}
use Rattle.job_graph.specs.Unfold.{Fault, fault_at, too_many_jobs, Resolved, or_else, unfolded}
use Rattle.job_graph.specs.UnfoldedSoFar.{UnfoldedSoFar, walks_of}
use Rattle.job_graph.specs.declared.fault.UnfoldError.{UnfoldError}
use Rattle.job_graph.specs.declared.fault.UnfoldError.TheVariants.{Refused, OutOfMemory}
use Rattle.job_graph.specs.declared.fault.UnfoldFault.{UnfoldFault}
use Rattle.job_graph.specs.declared.fault.UnfoldFault.TheVariants as kept

abbrev pub fault_of : UnfoldFault → Fault
fault_of kept.TooManyJobs = too_many_jobs
fault_of (kept.Fault place cause) = fault_at place cause

-- it knows what these places unfold, learned in this order, and no equation fails
pub record Knows (walks : Walker) (learned : List Resolved) (held : UnfoldedSoFar) : Type 0 where
  pub walker : walks_of held ≡ walks
  pub places : held.learned ≡ learned
  pub jobs : held.known ≡ (unfolded walks learned).jobs
  pub result : held.result ≡ (unfolded walks learned).result
  pub outs : held.outs ≡ (unfolded walks learned).outs
  pub fault : (unfolded walks learned).fault ≡ None
  pub goes_on : held.refused ≡ None

-- what it answers is as it was
pub record AnswersAlike (old new : UnfoldedSoFar) : Type 0 where
  pub jobs : new.known ≡ old.known
  pub result : new.result ≡ old.result
  pub outs : new.outs ≡ old.outs

-- the fault that is found, or nothing is said, out of memory
abbrev pub Blames : Option Fault → UnfoldError → Type 0
Blames found (Refused fault) = found ≡ Some (fault_of fault)
Blames found OutOfMemory = Unit {0}

-- the fault that was met first: one that is kept, or else the one that another place leads to
abbrev pub first_met : UnfoldedSoFar → Resolved → Option Fault
first_met held one = or_else held.refused (unfolded (walks_of held) (held.learned ++ one ∷ [])).fault

-- once one more place is learned: more is known; or there is a fault, which is kept, and all else stays; or nothing has changed, out
-- of memory
abbrev pub Learns : UnfoldedSoFar → Resolved → UnfoldedSoFar → Result (Unit {0}) UnfoldError → Type 0
Learns old one new (Ok done) = (old.refused ≡ None) × Knows (walks_of old) (old.learned ++ one ∷ []) new
Learns old one new (Err (Refused fault)) = (first_met old one ≡ Some (fault_of fault)) × (new ≡ record old { refused = Some (fault_of fault) })
Learns old one new (Err OutOfMemory) = new ≡ old
