-- What is known of an unfolding, by what its fields are.
use Rattle.std.proofs.Common.{◌≡◌, ◌∙◌, ℕ, length, take, List, [], ◌∷◌, ◌++◌, map, Option, Some, None, Result, Ok, Err, sym, ap, ap₂, subst, option_map}
use Rattle.std.specs.Prelude.{OnErr, OnOk}
use Rattle.std.proofs.lemmas.List.{length-map, take-map}
use Rattle.document_links.specs.declared.process.Process.{Process}
use Rattle.input_files.specs.Measured.{Measures}
use Rattle.job_graph.specs.declared.fault.UnfoldError.{UnfoldError}
use Rattle.job_graph.specs.declared.fault.UnfoldError.TheVariants.{Refused, OutOfMemory}
use Rattle.job_graph.specs.declared.fault.UnfoldFault.{UnfoldFault}
use Rattle.job_graph.specs.declared.growth.KnownJob.{KnownJob}
use Rattle.job_graph.specs.declared.progress.Progress.{Progress}
use Rattle.job_graph.specs.Words.{Fields}
use Rattle.job_graph.specs.Jobs.{Job, Walker}
use Rattle.job_graph.specs.KnownJobs.{job_of, jobs_in, known_of}
use Rattle.job_graph.specs.Unfold.{Fault, Resolved, known_from, or_else, unfolded}
use Rattle.job_graph.specs.UnfoldedSoFar.{Task, UnfoldedSoFar}
use Rattle.job_graph.specs.Unfolding.{AnswersAlike, Knows, Learns, fault_of}
use Rattle.job_graph.specs.inner.Growth.{IsOfOneProcess, LearnsIn}
use Rattle.job_graph.specs.inner.Inside.{Follows, Stands, seen, walks_in}
use Rattle.job_graph.specs.inner.Views.{resolved_of}

-- ---- what is followed is known

pub knows_seen : (walks : Walker) (learned : List Resolved) (held : Progress) → Follows walks learned held → held.fault ≡ None → Knows walks learned (seen held)
knows_seen walks learned held follows none = record {
  walker = follows.walker;
  places = follows.places;
  jobs = follows.jobs;
  result = follows.result;
  outs = follows.outs;
  fault = follows.fault;
  goes_on = ap (λ (found : Option UnfoldFault). option_map fault_of found) none;
}

pub stands_by : (walks : Walker) (learned : List Resolved) (held : Progress) → Follows walks learned held → Stands held
stands_by walks learned held follows =
    subst (λ (places : List Resolved). Follows (walks_in held) places held) (sym follows.places)
    (subst (λ (w : Walker). Follows w learned held) (sym follows.walker) follows)

-- ---- what is known after one more place

module _ (one : Resolved) (old new : Progress) where
  abbrev walks : Walker
  walks = walks_in old

  abbrev learned : List Resolved
  learned = map resolved_of old.facts.learned

  pub stands_still : (result : Result (Unit {0}) UnfoldError) → LearnsIn walks learned one old new result → Stands new
  stands_still (Ok done) learns = stands_by walks (learned ++ one ∷ []) new learns.2
  stands_still (Err (Refused fault)) learns = stands_by walks learned new learns.2
  stands_still (Err OutOfMemory) learns = stands_by walks learned new learns.1

  same_task : IsOfOneProcess old new → (seen new).task ≡ (seen old).task
  same_task same =
      ap₂ (λ (process : Process) (rest : Fields × Measures). record { process = process; handed = rest.0; measures = rest.1 }) same.process
      (ap₂ (λ (handed : Fields) (measures : Measures). (handed, measures)) same.fields same.measures)

  -- all but the fault is as it was
  same_seen : Stands old → IsOfOneProcess old new → Follows walks learned new → (refused : Option Fault) → (seen new).refused ≡ refused → seen new ≡ record (seen old) { refused = refused }
  same_seen stands same follows refused is =
      ap₂ (λ (front : Task × (List Resolved × List Job)) (back : Option Fields × (Fields × Option Fault)).
      record { task = front.0; learned = front.1.0; known = front.1.1; result = back.0; outs = back.1.0; refused = back.1.1 })
      (ap₂ (λ (task : Task) (rest : List Resolved × List Job). (task, rest)) (same_task same)
      (ap₂ (λ (places : List Resolved) (jobs : List Job). (places, jobs)) follows.places (follows.jobs ∙ sym stands.jobs)))
      (ap₂ (λ (outputs : Option Fields) (rest : Fields × Option Fault). (outputs, rest)) (follows.result ∙ sym stands.result)
      (ap₂ (λ (outs : Fields) (fault : Option Fault). (outs, fault)) (follows.outs ∙ sym stands.outs) is))

  pub learns_seen : (result : Result (Unit {0}) UnfoldError) → Stands old → IsOfOneProcess old new → LearnsIn walks learned one old new result → Learns (seen old) one (seen new) result
  learns_seen (Ok done) stands same learns =
      (ap (λ (found : Option UnfoldFault). option_map fault_of found) learns.0, knows_seen walks (learned ++ one ∷ []) new learns.2 learns.1)
  learns_seen (Err (Refused fault)) stands same learns =
      (learns.0, same_seen stands same learns.2 (Some (fault_of fault)) (ap (λ (found : Option UnfoldFault). option_map fault_of found) learns.1))
  learns_seen (Err OutOfMemory) stands same learns =
      same_seen stands same learns.1 (seen old).refused (ap (λ (found : Option UnfoldFault). option_map fault_of found) learns.0)

-- the known jobs come first
pub front_seen : (old new : Progress) (result : Result (Unit {0}) UnfoldError) → OnOk result (take (length old.known) new.known ≡ old.known) →
    OnOk result (take (length (seen old).known) (seen new).known ≡ (seen old).known)
front_seen old new (Ok done) front =
    ap (λ (n : ℕ). take n (jobs_in new.known)) (length-map old.known (λ (k : KnownJob). job_of k.job))
    ∙ take-map (λ (k : KnownJob). job_of k.job) (length old.known) new.known ∙ ap jobs_in front
front_seen old new (Err error) front = tt

pub parents_seen : (held : Progress) → Stands held → map known_of held.known ≡ known_from [] (seen held).known
parents_seen held stands = stands.parents ∙ ap (known_from []) (sym stands.jobs)

pub answers_alike : (old new : UnfoldedSoFar) (one : Resolved) (result : Result (Unit {0}) UnfoldError) → Learns old one new result → OnErr result (AnswersAlike old new)
answers_alike old new one (Ok done) learns = tt
answers_alike old new one (Err (Refused fault)) learns = record {
  jobs = ap (λ (held : UnfoldedSoFar). held.known) learns.1;
  result = ap (λ (held : UnfoldedSoFar). held.result) learns.1;
  outs = ap (λ (held : UnfoldedSoFar). held.outs) learns.1;
}
answers_alike old new one (Err OutOfMemory) learns = record {
  jobs = ap (λ (held : UnfoldedSoFar). held.known) learns;
  result = ap (λ (held : UnfoldedSoFar). held.result) learns;
  outs = ap (λ (held : UnfoldedSoFar). held.outs) learns;
}

-- ---- for any walk and places that are known

-- once one more place is learned, by what was known
abbrev pub LearnsBy : Walker → List Resolved → Resolved → UnfoldedSoFar → UnfoldedSoFar → Result (Unit {0}) UnfoldError → Type 0
LearnsBy walks learned one old new (Ok done) = Knows walks (learned ++ one ∷ []) new
LearnsBy walks learned one old new (Err (Refused fault)) =
    ((unfolded walks (learned ++ one ∷ [])).fault ≡ Some (fault_of fault)) × (new ≡ record old { refused = Some (fault_of fault) })
LearnsBy walks learned one old new (Err OutOfMemory) = Knows walks learned new

pub learns_by : (walks : Walker) (learned : List Resolved) (one : Resolved) (old new : UnfoldedSoFar) (result : Result (Unit {0}) UnfoldError) →
    Knows walks learned old → Learns old one new result → LearnsBy walks learned one old new result
learns_by through places one old new (Ok done) knows learns =
    subst (λ (front : List Resolved). Knows through (front ++ one ∷ []) new) knows.places
    (subst (λ (w : Walker). Knows w (old.learned ++ one ∷ []) new) knows.walker learns.1)
learns_by through places one old new (Err (Refused fault)) knows learns = (
  sym (ap₂ (λ (found : Option Fault) (later : Option Fault). or_else found later) knows.goes_on
      (ap₂ (λ (w : Walker) (front : List Resolved). (unfolded w (front ++ one ∷ [])).fault) knows.walker knows.places)) ∙ learns.0,
  learns.1,
)
learns_by through places one old new (Err OutOfMemory) knows learns = subst (Knows through places) (sym learns) knows
