-- The host has answered whether the files of a job are archived: its row, which says so, is put next.
use Rattle.std.proofs.Common.{◌≡◌, ◌∙◌, ℕ, true, false, List, [], ◌∷◌, ◌++◌, Option, None, refl, sym, ap, subst, append-nil}
use Rattle.proc_host.specs.Answers.{CanAnswer, has_failed, is_stored}
use Rattle.proc_host.specs.declared.call.HostAnswer.{HostAnswer}
use Rattle.proc_host.specs.declared.call.HostFault.{HostFault}
use Rattle.proc_host.specs.declared.call.HostRequest.{HostRequest}
use Rattle.job_graph.specs.declared.unfolding.Unfolding.{Unfolding}
use Rattle.job_graph.specs.Jobs.{Job}
use Rattle.job_graph.specs.Words.{JobPlace}
use Rattle.job_rows.specs.declared.row.Row.{Row}
use Rattle.run_rules.specs.Allowed.{Allowed}
use Rattle.run_rules.specs.Events.{Event, Progress, folder_at, put_due, store_due, store_failed}
use Rattle.run_rules.specs.Plans.{InForce, PlansSoFar}
use Rattle.run_rules.specs.Run.{Goes}
use Rattle.run_rules.specs.Scene.{Scene}
use Rattle.run_rules.specs.Steps.{Steps, call, progress_with, store_fails, stores as archives}
use Rattle.run_rules.specs.declared.request.Answer.{Answer}
use Rattle.run_rules.specs.declared.request.Pair.{Pair}
use Rattle.run_rules.specs.declared.request.Request.{Request}
use Rattle.run_rules.proofs.events.Asks.{due_when}
use Rattle.run_rules.proofs.events.Grows.{comes_on}
use Rattle.run_rules.proofs.events.Places.{IsJob}
use Rattle.run_core.specs.declared.state.Course.{Course}
use Rattle.run_core.specs.declared.state.Given.{Given}
use Rattle.run_core.specs.declared.state.Turn.{Turn}
use Rattle.run_core.specs.inner.Course.{Past, known_in, past_of, place_at, store_note, with_note}
use Rattle.run_core.specs.inner.Follows.{FollowsFrom}
use Rattle.run_core.specs.inner.Keeps.{Reflects}
use Rattle.run_core.specs.inner.Picks.{PutsRow}
use Rattle.run_core.specs.inner.Standing.{IsAt, KeepsPlans, Runs, putting}
use Rattle.run_core.specs.inner.Turn.{puts, stores}
use Rattle.run_core.proofs.events.Numbers.{place_there}
use Rattle.run_core.proofs.events.Reflecting.{reflects_same, store_failed_reflects}
use Rattle.run_core.proofs.PlansKept.{planned_same}
use Rattle.run_core.proofs.job_steps.Turns.{runs_due}

module _ (s : Scene) (given : Given) (t : List Pair) (f : Progress) (plans : PlansSoFar) (goes : Goes s (InForce s) t f plans) (old : Course) (n : ℕ) (job : Job) (row : Row)
    (planned : KeepsPlans plans (past_of old)) (r : Reflects s f.events old None) (it : IsJob (known_in old.known) n job) (due : f.work ≡ store_due job.place row) where
  abbrev its_store : HostRequest
  its_store = HostRequest.Store row.key (folder_at s f.events job.place) row.files

  -- with this row put next
  row_next : (answer : HostAnswer) (its_row : Row) (new_events : List Event) (kept : Past) → Steps s f (call job.place its_store answer) (put_due job.place its_row) new_events →
      (turn : Turn) (new : Course) → PutsRow old n its_row kept turn new → KeepsPlans plans kept → Reflects s (f.events ++ new_events) new None → Runs s (t ++ call job.place its_store answer ∷ []) new turn
  row_next answer its_row new_events kept steps turn new follows keeps reflects =
      let later : Progress = progress_with f (put_due job.place its_row) new_events in
      let may : Allowed s f plans.marks (Request.Host job.place its_store) = due_when s f plans.marks (store_due job.place row) (Request.Host job.place its_store) due refl in
      runs_due s (t ++ call job.place its_store answer ∷ []) later plans (comes_on s (call job.place its_store answer) (put_due job.place its_row) new_events goes may steps)
      (put_due job.place its_row) refl refl turn new (planned_same plans kept (past_of new) follows.past keeps)
      (subst (λ (its : Turn). IsAt s later plans.marks new its)
      (ap (λ (place : JobPlace). puts place n its_row) (sym (place_there (known_in old.known) n job it)) ∙ sym follows.is)
      (putting n job its_row reflects (subst (λ (k : Option Unfolding). IsJob (known_in k) n job) (sym follows.known) it) refl))

  pub store_goes_on : {answer : HostAnswer} → CanAnswer old.tickets.items its_store answer → (turn : Turn) (new : Course) →
      FollowsFrom given old (stores job.place n (folder_at s f.events job.place) row) (Answer.Host answer) turn new → Runs s (t ++ call job.place its_store answer ∷ []) new turn
  store_goes_on (is_stored key folder files) turn new follows =
      row_next HostAnswer.Done (record row { archived = true }) [] (past_of old) (archives job.place _ _ _ row due) turn new follows planned
      (subst (λ (happened : List Event). Reflects s happened new None) (sym (append-nil f.events)) (reflects_same s f.events old new None follows.past follows.known r))
  store_goes_on (has_failed request) turn new follows =
      row_next (HostAnswer.Failed HostFault.Store) (record row { archived = false }) (store_failed job.place ∷ [])
      (with_note (store_note (place_at (known_in old.known) n) HostFault.Store) (past_of old)) (store_fails job.place _ _ _ row due) turn new follows planned
      (store_failed_reflects s f.events old new job.place
      (follows.past ∙ ap (λ (place : JobPlace). with_note (store_note place HostFault.Store) (past_of old)) (place_there (known_in old.known) n job it)) follows.known r)
