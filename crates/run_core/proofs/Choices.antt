-- What is picked, by the tests that lead there.
use Rattle.std.specs.Prelude.{OnErr}
use Rattle.std.proofs.Common.{◌≡◌, ◌∙◌, ℕ, List, [], None, Some, Result, Ok, Err, refl, sym, ap, subst}
use Rattle.proc_host.specs.declared.call.HostFault.{HostFault}
use Rattle.proc_host.specs.declared.call.HostRequest.{HostRequest}
use Rattle.job_graph.specs.Words.{JobPlace, Name}
use Rattle.job_rows.specs.declared.row.Row.{Row}
use Rattle.run_core.specs.declared.state.Course.{Course}
use Rattle.run_core.specs.declared.state.Given.{Given}
use Rattle.run_core.specs.declared.state.JobNext.{JobNext}
use Rattle.run_core.specs.declared.state.JobPhase.{JobPhase}
use Rattle.run_core.specs.declared.state.Phase.{Phase}
use Rattle.run_core.specs.declared.state.Turn.{Turn}
use Rattle.run_core.specs.inner.Course.{TellsAlike, known_in, past_of, place_at, with_hand}
use Rattle.run_core.specs.inner.Follows.{AfterFailure, asked_at}
use Rattle.run_core.specs.inner.Picks.{AfterFault, Chooses, Picks, Turns, asks, chooses, Finds, IsNextToFind, NoneToFind, Puts, ends_so, finds, repeats}
use Rattle.run_core.specs.inner.JobStates.{state_at}
use Rattle.run_core.specs.inner.Planning.{Replans}
use Rattle.run_rules.specs.declared.request.Request.{Request}
use Rattle.run_rules.specs.declared.outcome.Outcome.{Outcome}
use Rattle.run_rules.specs.declared.outcome.RunFault.{RunFault}
use Rattle.run_core.specs.inner.Turn.{ends, works}

module _ (given : Given) (course : Course) (going : course.end ≡ None) where
  pub picks_find : (number : ℕ) (turn : Turn) → IsNextToFind course number → Finds course number turn → Picks given course turn course
  picks_find number turn next f = finds number turn course going next f refl refl

  pub picks_by_plan : NoneToFind course → (planned : Course) → Replans given course planned → (turn : Turn) (new : Course) → new ≡ planned → Chooses given planned turn →
      Picks given course turn new
  picks_by_plan looked planned replans turn new same chosen =
      chooses planned turn new going looked replans chosen (ap past_of same) (ap (λ (c : Course). c.known) same)

-- where memory ran out
pub if_lost : {X E : Type 0} (result : Result X E) {A B : Type 0} → (A → B) → OnErr result A → OnErr result B
if_lost (Ok x) leads holds = tt
if_lost (Err error) leads holds = leads holds

-- a job goes on
pub turns_asks : (given : Given) (course : Course) (number : ℕ) (next : JobNext) (call : HostRequest) (phase : JobPhase) (place : JobPlace) (turn : Turn) →
    next ≡ JobNext.Asks call phase → place_at (known_in course.known) number ≡ place → turn ≡ works place number call phase → Turns given course number next turn course
turns_asks given course number next call phase place turn is at so =
    subst (λ (n : JobNext). Turns given course number n turn course) (sym is)
    (subst (λ (t : Turn). Turns given course number (JobNext.Asks call phase) t course) (sym (so ∙ ap (λ (p : JobPlace). works p number call phase) (sym at)))
    (asks call phase course refl refl))

-- after a call that is no collect, no store and no discard
pub fault_by : (given : Given) (old : Course) (asked : Request) (phase : Phase) (fault : HostFault) (turn : Turn) (new : Course) → (phase ≡ Phase.Collecting → ⊥) → (phase ≡ Phase.Draining → ⊥) →
    ((number : ℕ) (row : Row) → phase ≡ Phase.Storing number row → ⊥) → ((number : ℕ) (left : List Name) → phase ≡ Phase.Discarding number left → ⊥) →
    AfterFault given old (asked_at asked) fault turn new → AfterFailure given old asked phase fault turn new
fault_by given old asked Phase.Collecting fault turn new one other third fourth after = absurd (one refl)
fault_by given old asked Phase.Draining fault turn new one other third fourth after = absurd (other refl)
fault_by given old asked (Phase.Storing number row) fault turn new one other third fourth after = absurd (third number row refl)
fault_by given old asked (Phase.Discarding number left) fault turn new one other third fourth after = absurd (fourth number left refl)
fault_by given old asked phase fault turn new one other third fourth after = after

-- a job gives what its row has
pub repeats_now : (given : Given) (old new : Course) (number : ℕ) (row : Row) (turn : Turn) → past_of new ≡ with_hand number (past_of old) → new.known ≡ old.known →
    Puts given (place_at (known_in old.known) number) (state_at old.jobs number).folder new number row turn new → Turns given old number (JobNext.Repeats row) turn new
repeats_now given old new number row turn past known puts = repeats row new turn new past known puts

-- the end that was settled comes
pub ends_now : (given : Given) (old new : Course) (turn : Turn) (end : Result Outcome RunFault) → turn ≡ ends end → old.end ≡ Some end → old.tickets.items ≡ [] → new.tickets.items ≡ [] →
    new.known ≡ old.known → TellsAlike (past_of old) (past_of new) → Picks given old turn new
ends_now given old new turn end is ended none still known alike = subst (λ (t : Turn). Picks given old t new) (sym is) (ends_so end new ended none still known alike)
