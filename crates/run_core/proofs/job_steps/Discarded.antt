-- The record has answered whether the row of a job is kept, or the host whether an archive is discarded: what is of no use any more is discarded next.
use Rattle.std.proofs.Common.{◌≡◌, ◌∙◌, ℕ, List, [], ◌∷◌, ◌++◌, Option, None, reverse, refl, sym, ap, subst, append-nil}
use Rattle.std.proofs.lemmas.List.{reverse-reverse}
use Rattle.proc_host.specs.Answers.{CanAnswer, has_failed, is_discarded}
use Rattle.proc_host.specs.declared.call.HostAnswer.{HostAnswer}
use Rattle.proc_host.specs.declared.call.HostFault.{HostFault}
use Rattle.proc_host.specs.declared.call.HostRequest.{HostRequest}
use Rattle.job_graph.specs.declared.unfolding.Unfolding.{Unfolding}
use Rattle.job_graph.specs.Jobs.{Job}
use Rattle.job_graph.specs.Words.{JobPlace, Name}
use Rattle.job_rows.specs.declared.row.Row.{Row}
use Rattle.run_rules.specs.declared.request.Answer.{Answer}
use Rattle.run_rules.specs.declared.request.Pair.{Pair}
use Rattle.run_rules.specs.declared.request.RecordAnswer.{RecordAnswer}
use Rattle.run_rules.specs.declared.request.RecordRequest.{RecordRequest}
use Rattle.run_rules.specs.declared.request.Request.{Request}
use Rattle.run_rules.specs.Allowed.{Allowed}
use Rattle.run_rules.specs.Answers.{CanTell, is_put, is_refused}
use Rattle.run_rules.specs.Events.{Event, Progress, discard_due, discard_failed, nothing_due, put_due, put_failed}
use Rattle.run_rules.specs.Plans.{InForce, PlansSoFar}
use Rattle.run_rules.specs.Run.{Goes}
use Rattle.run_rules.specs.Scene.{Scene}
use Rattle.run_rules.specs.Steps.{Steps, call, command, discard_fails, discards as discards_it, progress_with, put_fails, puts, work_to_discard}
use Rattle.run_rules.proofs.events.Asks.{due_when}
use Rattle.run_rules.proofs.events.Grows.{Comes, comes_on}
use Rattle.run_rules.proofs.events.Places.{IsJob}
use Rattle.run_core.specs.declared.state.Course.{Course}
use Rattle.run_core.specs.declared.state.Given.{Given}
use Rattle.run_core.specs.declared.state.Turn.{Turn}
use Rattle.run_core.specs.inner.Course.{Past, discard_note, known_in, past_of, put_note, with_note}
use Rattle.run_core.specs.inner.Discards.{AfterPut, DiscardsOn, discards_one, none_left}
use Rattle.run_core.specs.inner.Follows.{FollowsFrom}
use Rattle.run_core.specs.inner.Keeps.{Reflects}
use Rattle.run_core.specs.inner.Standing.{IsAt, KeepsPlans, Runs, discarding}
use Rattle.run_core.specs.inner.Turn.{discards}
use Rattle.run_core.proofs.PlansKept.{planned_same}
use Rattle.run_core.proofs.Working.{turned}
use Rattle.run_core.proofs.events.Numbers.{place_there}
use Rattle.run_core.proofs.events.Reflecting.{discard_failed_reflects, put_failed_reflects, reflects_same}
use Rattle.run_core.proofs.job_steps.Turns.{PicksAt, PicksNext, runs_due}

-- where archives are to be discarded, the next one is, or nothing is due
module _ (s : Scene) (given : Given) (t : List Pair) (picks : PicksAt s given t) (f : Progress) (plans : PlansSoFar) (comes : Comes s t f plans) (old : Course) (n : ℕ) (job : Job)
    (planned : KeepsPlans plans (past_of old)) (r : Reflects s f.events old None) (it : IsJob (known_in old.known) n job) where
  pub discards_at : (left : List Name) (turn : Turn) (new : Course) → f.work ≡ work_to_discard job.place (reverse left) → DiscardsOn given old n left turn new → Runs s t new turn
  discards_at left turn new work (none_left none picked) =
      picks f plans comes (work ∙ ap (λ (keys : List Name). work_to_discard job.place (reverse keys)) none) old turn new planned r picked
  discards_at left turn new work (discards_one rest key is turn_is past known) =
      let due : f.work ≡ discard_due job.place key (reverse rest) = work ∙ ap (work_to_discard job.place) (turned left rest key is) in
      runs_due s t f plans comes (discard_due job.place key (reverse rest)) due refl turn new (planned_same plans (past_of old) (past_of new) past planned)
      (subst (λ (its : Turn). IsAt s f plans.marks new its)
      (ap (λ (place : JobPlace). discards place n key rest) (sym (place_there (known_in old.known) n job it)) ∙ sym turn_is)
      (discarding n job key rest (reflects_same s f.events old new None past known r) (subst (λ (k : Option Unfolding). IsJob (known_in k) n job) (sym known) it) due))

-- The record has answered whether the row of a job is kept
module _ (s : Scene) (given : Given) (t : List Pair) (picks : PicksNext s given t) (f : Progress) (plans : PlansSoFar) (goes : Goes s (InForce s) t f plans) (old : Course) (n : ℕ) (job : Job)
    (row : Row) (planned : KeepsPlans plans (past_of old)) (r : Reflects s f.events old None) (it : IsJob (known_in old.known) n job) (due : f.work ≡ put_due job.place row) where
  abbrev its_put : RecordRequest
  its_put = RecordRequest.Put row

  may_put : Allowed s f plans.marks (Request.Record job.place its_put)
  may_put = due_when s f plans.marks (put_due job.place row) (Request.Record job.place its_put) due refl

  pub put_goes_on : (answer : RecordAnswer) → CanTell its_put answer → (turn : Turn) (new : Course) → AfterPut given old n answer turn new →
      Runs s (t ++ command job.place its_put answer ∷ []) new turn
  put_goes_on answer (is_put its_row gone) turn new after =
      let pair : Pair = command job.place its_put (RecordAnswer.Put gone) in
      discards_at s given (t ++ pair ∷ []) (picks pair) (progress_with f (work_to_discard job.place gone) []) plans
      (comes_on s pair (work_to_discard job.place gone) [] goes may_put (puts job.place row gone)) old n job planned
      (subst (λ (happened : List Event). Reflects s happened old None) (sym (append-nil f.events)) r) it
      (reverse gone) turn new (ap (work_to_discard job.place) (sym (reverse-reverse gone))) after.on
  put_goes_on answer (is_refused request refusal) turn new after =
      let pair : Pair = command job.place its_put (RecordAnswer.Refused refusal) in
      picks pair (progress_with f nothing_due (put_failed job.place refusal ∷ [])) plans
      (comes_on s pair nothing_due (put_failed job.place refusal ∷ []) goes may_put (put_fails job.place row refusal)) refl after.noted turn new
      (subst (λ (p : Past). KeepsPlans plans p) (sym after.past) planned)
      (put_failed_reflects s f.events old after.noted job.place refusal
      (after.past ∙ ap (λ (place : JobPlace). with_note (put_note place refusal) (past_of old)) (place_there (known_in old.known) n job it)) after.known r)
      after.picks

-- The host has answered whether an archive is discarded
module _ (s : Scene) (given : Given) (t : List Pair) (picks : PicksNext s given t) (f : Progress) (plans : PlansSoFar) (goes : Goes s (InForce s) t f plans) (old : Course) (n : ℕ) (job : Job)
    (its_key : Name) (left : List Name) (planned : KeepsPlans plans (past_of old)) (r : Reflects s f.events old None) (it : IsJob (known_in old.known) n job)
    (due : f.work ≡ discard_due job.place its_key (reverse left)) where
  abbrev its_discard : HostRequest
  its_discard = HostRequest.Discard its_key

  -- with the others left
  left_on : (answer : HostAnswer) (new_events : List Event) → Steps s f (call job.place its_discard answer) (work_to_discard job.place (reverse left)) new_events → (noted : Course) →
      KeepsPlans plans (past_of noted) → Reflects s (f.events ++ new_events) noted None → IsJob (known_in noted.known) n job → (turn : Turn) (new : Course) → DiscardsOn given noted n left turn new →
      Runs s (t ++ call job.place its_discard answer ∷ []) new turn
  left_on answer new_events steps noted kept reflects its turn new on =
      let pair : Pair = call job.place its_discard answer in
      let may : Allowed s f plans.marks (Request.Host job.place its_discard) =
      due_when s f plans.marks (discard_due job.place its_key (reverse left)) (Request.Host job.place its_discard) due refl in
      discards_at s given (t ++ pair ∷ []) (picks pair) (progress_with f (work_to_discard job.place (reverse left)) new_events) plans
      (comes_on s pair (work_to_discard job.place (reverse left)) new_events goes may steps) noted n job kept reflects its left turn new refl on

  pub discard_goes_on : {answer : HostAnswer} → CanAnswer old.tickets.items its_discard answer → (turn : Turn) (new : Course) →
      FollowsFrom given old (discards job.place n its_key left) (Answer.Host answer) turn new → Runs s (t ++ call job.place its_discard answer ∷ []) new turn
  discard_goes_on (is_discarded key) turn new follows =
      left_on HostAnswer.Done [] (discards_it job.place its_key (reverse left) due) old planned
      (subst (λ (happened : List Event). Reflects s happened old None) (sym (append-nil f.events)) r) it turn new follows
  discard_goes_on (has_failed request) turn new follows =
      left_on (HostAnswer.Failed HostFault.Discard) (discard_failed job.place ∷ []) (discard_fails job.place its_key (reverse left) due) follows.noted
      (subst (λ (p : Past). KeepsPlans plans p) (sym follows.past) planned)
      (discard_failed_reflects s f.events old follows.noted job.place
      (follows.past ∙ ap (λ (place : JobPlace). with_note (discard_note place HostFault.Discard) (past_of old)) (place_there (known_in old.known) n job it)) follows.known r)
      (subst (λ (k : Option Unfolding). IsJob (known_in k) n job) (sym follows.known) it) turn new follows.on
