-- How the known jobs grow by what is met.
use Rattle.std.specs.Prelude.{◌≡◌, ℕ, List, [], ◌∷◌, ◌++◌, None, Some, Result, Ok, Err, OnErr, OnOk, length, map, option_map, take, true}
use Rattle.job_graph.specs.inner.Elements.{IsIn}
use Rattle.job_graph.specs.Jobs.{Job, Met, met_fault, met_job, Walk, Walker, result_in, those_named}
use Rattle.job_graph.specs.KnownJobs.{jobs_in, known_of}
use Rattle.job_graph.specs.Unfold.{Resolved, entries_from, first_fault, is_known, known_from, or_else, unfolded, with_met}
use Rattle.job_graph.specs.Unfolding.{Blames, fault_of}
use Rattle.job_graph.specs.inner.Inside.{Follows, IsFlagged, walks_in}
use Rattle.job_graph.specs.inner.Kept.{KeepsRoot, met_by}
use Rattle.job_graph.specs.inner.Outputs.{result_of}
use Rattle.job_graph.specs.inner.Views.{made_from}
use Rattle.job_graph.specs.declared.fault.UnfoldError.{UnfoldError}
use Rattle.job_graph.specs.declared.fault.UnfoldError.TheVariants.{Refused, OutOfMemory}
use Rattle.job_graph.specs.declared.growth.KnownJob.{KnownJob}
use Rattle.job_graph.specs.declared.progress.Progress.{Progress}

-- each job has its parents, which are so many in all
pub record AreCounted (known : List KnownJob) (entries : ℕ) : Type 0 where
  pub parents : map known_of known ≡ known_from [] (jobs_in known)
  pub count : entries ≡ entries_from 0 [] (jobs_in known)

abbrev pub GrowsTo : List KnownJob → List Met → List KnownJob → Result ℕ UnfoldError → Type 0
GrowsTo old met new (Ok entries) =
    (jobs_in new ≡ with_met (jobs_in old) met) × (first_fault (jobs_in old) met ≡ None) × AreCounted new entries
GrowsTo old met new (Err error) = Blames (first_fault (jobs_in old) met) error

-- whatever is answered, those that were known come first
pub record Grows (old : List KnownJob) (entries : ℕ) (met : List Met) (new : List KnownJob) (result : Result ℕ UnfoldError) : Type 0 where
  pub front : take (length old) new ≡ old
  pub grown : AreCounted old entries → GrowsTo old met new result

-- the walk that it makes on what was learned
abbrev pub walk_in : Progress → Walk
walk_in held = walks_in held (made_from held.facts)

-- the process and what is handed to it stay
pub record IsOfOneProcess (old new : Progress) : Type 0 where
  pub process : new.process.now ≡ old.process.now
  pub fields : new.fields ≡ old.fields
  pub measures : new.facts.measures ≡ old.facts.measures

-- one of these jobs is at its place
abbrev pub IsKnownMet : List Job → Met → Type 0
IsKnownMet jobs (met_job job) = is_known jobs job ≡ true
IsKnownMet jobs (met_fault place cause) = ⊥

-- what is known stays
pub record IsAlike (old new : Progress) : Type 0 where
  pub jobs : new.known ≡ old.known
  pub entries : new.entries ≡ old.entries
  pub outputs : new.outputs ≡ old.outputs
  pub ended : new.ended.items ≡ old.ended.items

-- once its walk was made
pub record IsWalked (old new : Progress) : Type 0 where
  pub grown : GrowsTo old.known (walk_in old).met new.known (Ok new.entries)
  pub result : result_of new.outputs ≡ result_in (made_from old.facts) (walk_in old)
  pub outs : new.outputs.named.items ≡ those_named (walk_in old).outs

-- where these are known, each that was met of which something is kept is one of them, and each of them is met
pub record IsAhead (held : Progress) : Type 0 where
  pub seen : (m : Met) → IsIn m (met_by held.facts held.fields held.process.now held.kept) → IsKnownMet (jobs_in held.known) m
  pub met : (job : Job) → IsIn job (jobs_in held.known) → IsIn (met_job job) (walk_in held).met

abbrev pub UnfoldsTo : Progress → Progress → Result (Unit {0}) UnfoldError → Type 0
UnfoldsTo old new (Ok done) = IsWalked old new
UnfoldsTo old new (Err error) = Blames (first_fault (jobs_in old.known) (walk_in old).met) error

pub record Unfolds (old new : Progress) (result : Result (Unit {0}) UnfoldError) : Type 0 where
  pub same : IsOfOneProcess old new
  pub learned : new.facts.learned ≡ old.facts.learned
  pub kept : new.fault ≡ old.fault
  pub front : take (length old.known) new.known ≡ old.known
  pub alike : OnErr result (IsAlike old new)
  pub root : OnOk result (KeepsRoot new.facts new.fields new.process.now new.kept)
  pub none : OnErr result (new.kept ≡ None)
  pub ended : IsFlagged old → IsFlagged new
  pub unfolds : IsAhead old → AreCounted old.known old.entries → UnfoldsTo old new result

-- one more place is learned, or nothing changes
abbrev pub Resolves : Walker → List Resolved → Resolved → Progress → Result (Unit {0}) UnfoldError → Type 0
Resolves walks learned one new (Ok done) = Follows walks (learned ++ one ∷ []) new
Resolves walks learned one new (Err error) = Blames (unfolded walks (learned ++ one ∷ [])).fault error × Follows walks learned new

-- the fault that is answered is kept from then on
abbrev pub Keeps : Progress → UnfoldError → Progress → UnfoldError → Type 0
Keeps old error new OutOfMemory = new ≡ old
Keeps old error new (Refused fault) = (error ≡ Refused fault) × (new ≡ record old { fault = Some fault })

-- one more place is learned; or a fault is kept, or found and kept from then on; or nothing changes
abbrev pub LearnsIn : Walker → List Resolved → Resolved → Progress → Progress → Result (Unit {0}) UnfoldError → Type 0
LearnsIn walks learned one old new (Ok done) = (old.fault ≡ None) × (new.fault ≡ None) × Follows walks (learned ++ one ∷ []) new
LearnsIn walks learned one old new (Err (Refused fault)) =
    (or_else (option_map fault_of old.fault) (unfolded walks (learned ++ one ∷ [])).fault ≡ Some (fault_of fault))
    × (new.fault ≡ Some fault) × Follows walks learned new
LearnsIn walks learned one old new (Err OutOfMemory) = (new.fault ≡ old.fault) × Follows walks learned new
