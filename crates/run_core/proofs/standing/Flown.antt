-- The children in flight after each answer.
use Rattle.std.specs.Prelude.{nat_eq, is_some}
use Rattle.std.specs.List.{IsDistinct}
use Rattle.std.proofs.Common.{◌≡◌, ◌∙◌, ℕ, Bool, true, false, List, [], None, refl, reverse, sym, ap, Option, Some, Result}
use Rattle.proc_host.specs.Answers.{fault_of, is_measured, is_staged, is_started, has_ended, is_listed, is_read, is_delivered, is_discarded, has_failed, is_stored, is_fetched}
use Rattle.proc_host.specs.Tickets.{without}
use Rattle.proc_host.specs.declared.call.HostAnswer.{HostAnswer}
use Rattle.proc_host.specs.declared.call.HostFault.{HostFault}
use Rattle.proc_host.specs.declared.call.HostRequest.{HostRequest}
use Rattle.proc_host.specs.declared.child.ChildEnd.{ChildEnd}
use Rattle.cwl_process.specs.declared.tool.Tool.{Tool}
use Rattle.job_graph.specs.Jobs.{Job, Walker}
use Rattle.job_graph.specs.Unfold.{Resolved}
use Rattle.job_graph.specs.Words.{JobPlace, Name}
use Rattle.run_rules.specs.Answers.{MayAnswer, by_host, flying_after, by_record}
use Rattle.run_rules.specs.declared.request.Answer.{Answer}
use Rattle.run_rules.specs.declared.request.Request.{Request}
use Rattle.run_rules.specs.declared.request.RecordAnswer.{RecordAnswer}
use Rattle.job_rows.specs.declared.refusal.RecordRefusal.{RecordRefusal}
use Rattle.run_core.specs.declared.state.Course.{Course}
use Rattle.run_core.specs.declared.state.Flight.{Flight}
use Rattle.run_core.specs.declared.state.Given.{Given}
use Rattle.run_core.specs.declared.state.JobNext.{JobNext}
use Rattle.run_core.specs.declared.state.JobPhase.{JobPhase}
use Rattle.run_core.specs.declared.state.Measuring.{Measuring}
use Rattle.run_core.specs.declared.state.Phase.{Phase}
use Rattle.run_core.specs.declared.state.Turn.{Turn}
use Rattle.run_rules.specs.declared.outcome.Outcome.{Outcome}
use Rattle.run_rules.specs.declared.outcome.RunFault.{RunFault}
use Rattle.run_core.specs.inner.Course.{GivesUp, Past, fault_after, TakesOut, again, known_in, past_of, too_often, with_answer, place_at}
use Rattle.run_core.specs.inner.Follows.{AsksOf, FollowsFrom, IsLeftAfter}
use Rattle.run_core.specs.inner.Knows.{IsUnfolded, LearnsUnlessOver, fails as unfold_fails, knows as unfold_knows}
use Rattle.run_core.specs.inner.JobStates.{state_at}
use Rattle.run_core.specs.inner.Measures.{MeasuresOn, all_measured, measures}
use Rattle.run_core.specs.inner.Picks.{AfterEnd, AfterFault, AfterTemporary, Picks, Turns, asks, badly, chooses, drains, ends_so, fails, for_now, gives, well, AfterFetch, AfterFind, AfterTouch, LearnsRow, PicksAfter, PutsOrPicks, agrees, differs, finds, mismatches, repeats, touched_by}
use Rattle.run_core.specs.inner.Discards.{AfterDrop, AfterPut, DiscardsOn, DiscardsPast, discards_one, dropped_by, none_left}
use Rattle.staging.specs.declared.found.Found.{Found}
use Rattle.run_core.proofs.Plans.{replanned}
use Rattle.run_core.proofs.standing.Answered.{asks_none, asks_no_call, drops_no_call, puts_no_call, touches_no_call}
use Rattle.run_core.proofs.standing.Leaving.{KnowsSome, MayKnow, is_none, known_still, learns_by, row_unlearned, settled_by_refusal}
use Rattle.run_core.proofs.standing.Tickets.{one_less}
use Rattle.job_rows.specs.declared.row.Row.{Row}

-- those that fly once this is asked next: after a failed collect none, and nothing is asked
pub data FliesAfter (old : List ℕ) (next : Request) : Answer → List ℕ → Type 0 where
  flies_on : (answer : Answer) (new : List ℕ) → new ≡ flying_after old answer → FliesAfter old next answer new
  none_waited_for : (new : List ℕ) → new ≡ [] → next ≡ Request.Finished → FliesAfter old next (Answer.Host (HostAnswer.Failed HostFault.Collect)) new

same_tickets : (one other : Past) → one ≡ other → one.tickets ≡ other.tickets
same_tickets one other same = ap (λ (p : Past). p.tickets) same

lost_collect : (old new : Course) (next : Request) (place : JobPlace) (call : HostRequest) → AsksOf old (Request.Host place call) Phase.Collecting → new.tickets.items ≡ [] →
    next ≡ Request.Finished → FliesAfter old.tickets.items next (Answer.Host (HostAnswer.Failed (fault_of call))) new.tickets.items
lost_collect old new next place HostRequest.Collect fits none ends = none_waited_for _ none ends
lost_collect old new next place call fits none ends = absurd fits

module _ (given : Given) where
  picks_fly : (old : Course) (turn : Turn) (new : Course) → Picks given old turn new → new.tickets.items ≡ old.tickets.items
  picks_fly old turn new (drains its_new settled flying same known) = same_tickets (past_of new) (past_of old) same
  picks_fly old turn new (ends_so end its_new is none cleared known same_notes) = cleared ∙ sym none
  picks_fly old turn new (finds number its_turn its_new going is_next finding same known) = same_tickets (past_of new) (past_of old) same
  picks_fly old turn new (chooses planned its_turn its_new going looked replans chosen same known) =
      same_tickets (past_of new) (past_of planned) same ∙ replanned (λ (p : Past). p.tickets) (λ after made past. refl) given old replans

  unfolded_fly : (walks : Walker) (learned : List Resolved) (old new : Course) → IsUnfolded walks learned old new → new.tickets.items ≡ old.tickets.items
  unfolded_fly walks learned old new (unfold_knows kept its_new knows known same) = same_tickets (past_of new) (past_of old) same
  unfolded_fly walks learned old new (unfold_fails fault its_new is known same) = ap (λ (p : Past). p.tickets) same

  unless_over_fly : (old new : Course) (one : Resolved) → (old.end ≡ None → KnowsSome old) → LearnsUnlessOver one old new → new.tickets.items ≡ old.tickets.items
  unless_over_fly old new one knows l = by (is_some old.end) refl
    where
      by : (over : Bool) → is_some old.end ≡ over → new.tickets.items ≡ old.tickets.items
      by true over = ap (λ (p : Past). p.tickets) (l.settled over)
      by false still =
          let going : old.end ≡ None = is_none old.end still in
          let some : KnowsSome old = knows going in
          unfolded_fly some.walks _ old new (learns_by some.walks some.learned one old new old.known refl some.is (l.learned going))

  given_fly : (place : JobPlace) (folder : ℕ) (over : Course) (number : ℕ) (row : Option Row) (turn : Turn) (new : Course) → PutsOrPicks given place folder over number row turn new → new.tickets.items ≡ over.tickets.items
  given_fly place folder over number None turn new picks = picks_fly over turn new picks
  given_fly place folder over number (Some row) turn new put = same_tickets (past_of new) (past_of over) put.past

  turns_fly : (old : Course) (number : ℕ) (next : JobNext) (turn : Turn) (new : Course) → (old.end ≡ None → KnowsSome old) → Turns given old number next turn new →
      new.tickets.items ≡ old.tickets.items
  turns_fly old number next turn new knows (asks call phase its_new same known) = same_tickets (past_of new) (past_of old) same
  turns_fly old number next turn new knows (fails cause failed its_turn its_new is known picks) = picks_fly failed turn new picks ∙ ap (λ (p : Past). p.tickets) is
  turns_fly old number next turn new knows (mismatches outputs failed its_turn its_new is known picks) = picks_fly failed turn new picks ∙ ap (λ (p : Past). p.tickets) is
  turns_fly old number next turn new knows (gives outputs row learned its_turn its_new given_it picks) =
      given_fly (place_at (known_in old.known) number) (state_at old.jobs number).folder learned number row turn new picks
      ∙ unless_over_fly given_it.there learned _ (known_still old given_it.there (ap (λ (p : Past). p.end) given_it.past) given_it.known knows) given_it.learns
      ∙ ap (λ (p : Past). p.tickets) given_it.past
  turns_fly old number next turn new knows (repeats row there its_turn its_new past known put) =
      same_tickets (past_of new) (past_of there) put.past ∙ ap (λ (p : Past). p.tickets) past

  gave_up_fly : (past : Past) (jobs : List Job) (number retries : ℕ) {new : Past} → GivesUp jobs number retries past new → new.tickets ≡ past.tickets
  gave_up_fly past jobs number retries (again state there few) = refl
  gave_up_fly past jobs number retries (too_often state there many) = refl

  temporary_fly : (old : Course) (number : ℕ) (turn : Turn) (new : Course) → AfterTemporary given old number turn new → new.tickets.items ≡ old.tickets.items
  temporary_fly old number turn new after =
      picks_fly after.tried turn new after.picks ∙ gave_up_fly (past_of old) (known_in old.known) number given.options.retries after.gives_up

  fault_tickets : (o : Option (Result Outcome RunFault)) (place : JobPlace) (fault : HostFault) (past : Past) → (fault_after o place fault past).tickets ≡ past.tickets
  fault_tickets None place fault past = refl
  fault_tickets (Some end) place fault past = refl

  fault_fly : (old : Course) (place : JobPlace) (fault : HostFault) (turn : Turn) (new : Course) → AfterFault given old place fault turn new → new.tickets.items ≡ old.tickets.items
  fault_fly old place fault turn new after =
      picks_fly after.settled turn new after.picks ∙ ap (λ (p : Past). p.tickets) after.past ∙ fault_tickets old.end place fault (past_of old)

  answer_fly : (number : ℕ) (answer : RecordAnswer) (refusal : Option RecordRefusal) (past : Past) → (with_answer number answer refusal past).tickets ≡ past.tickets
  answer_fly number answer None past = refl
  answer_fly number answer (Some refusal) past = refl

  after_fly : (old : Course) (kept : Past) (turn : Turn) (new : Course) → kept.tickets ≡ old.tickets.items → PicksAfter given old kept turn new → new.tickets.items ≡ old.tickets.items
  after_fly old kept turn new same after = picks_fly after.noted turn new after.picks ∙ ap (λ (p : Past). p.tickets) after.past ∙ same

  discards_fly : (old : Course) (number : ℕ) (left : List Name) (turn : Turn) (new : Course) → DiscardsOn given old number left turn new → new.tickets.items ≡ old.tickets.items
  discards_fly old number left turn new (none_left none picks) = picks_fly old turn new picks
  discards_fly old number left turn new (discards_one rest key is turn_is same known) = same_tickets (past_of new) (past_of old) same

  past_fly : (old : Course) (number : ℕ) (left : List Name) (fault : HostFault) (turn : Turn) (new : Course) → DiscardsPast given old number left fault turn new →
      new.tickets.items ≡ old.tickets.items
  past_fly old number left fault turn new after = discards_fly after.noted number left turn new after.on ∙ ap (λ (p : Past). p.tickets) after.past

  put_fly : (old : Course) (number : ℕ) (answer : RecordAnswer) (turn : Turn) (new : Course) → AfterPut given old number answer turn new → new.tickets.items ≡ old.tickets.items
  put_fly old number (RecordAnswer.Put gone) turn new after = discards_fly old number (reverse gone) turn new after.on
  put_fly old number (RecordAnswer.Refused refusal) turn new after = after_fly old _ turn new refl after
  put_fly old number (RecordAnswer.Found row) turn new after = absurd after
  put_fly old number RecordAnswer.Done turn new after = absurd after

  fetch_fly : (old : Course) (number : ℕ) (found : List Found) (turn : Turn) (new : Course) → AfterFetch old number found turn new → new.tickets.items ≡ old.tickets.items
  fetch_fly old number found turn new (agrees its turn_is past known) = ap (λ (p : Past). p.tickets) past
  fetch_fly old number found turn new (differs other turn_is past known) = ap (λ (p : Past). p.tickets) past

  touched_fly : (place : JobPlace) (answer : RecordAnswer) (past : Past) → (touched_by place answer past).tickets ≡ past.tickets
  touched_fly place (RecordAnswer.Found row) past = refl
  touched_fly place (RecordAnswer.Put gone) past = refl
  touched_fly place RecordAnswer.Done past = refl
  touched_fly place (RecordAnswer.Refused refusal) past = refl

  touch_fly : (old : Course) (number : ℕ) (answer : RecordAnswer) (turn : Turn) (new : Course) → AfterTouch given old number answer turn new → new.tickets.items ≡ old.tickets.items
  touch_fly old number answer turn new after = after_fly old _ turn new (touched_fly (place_at (known_in old.known) number) answer (past_of old)) after

  dropped_fly : (place : JobPlace) (answer : RecordAnswer) (past : Past) → (dropped_by place answer past).tickets ≡ past.tickets
  dropped_fly place (RecordAnswer.Found row) past = refl
  dropped_fly place (RecordAnswer.Put gone) past = refl
  dropped_fly place RecordAnswer.Done past = refl
  dropped_fly place (RecordAnswer.Refused refusal) past = refl

  drop_fly : (old : Course) (number : ℕ) (answer : RecordAnswer) (turn : Turn) (new : Course) → AfterDrop old number answer turn new → new.tickets.items ≡ old.tickets.items
  drop_fly old number answer turn new after = ap (λ (p : Past). p.tickets) after.past ∙ dropped_fly (place_at (known_in old.known) number) answer (past_of old)

  learned_fly : (place : JobPlace) (answer : RecordAnswer) (old new : Course) → (old.end ≡ None → KnowsSome old) → LearnsRow place answer old new →
      new.tickets.items ≡ old.tickets.items
  learned_fly place (RecordAnswer.Found (Some row)) old new knows learns = unless_over_fly old new _ knows learns
  learned_fly place (RecordAnswer.Found None) old new knows learns = ap (λ (p : Past). p.tickets) learns.0
  learned_fly place (RecordAnswer.Put gone) old new knows learns = ap (λ (p : Past). p.tickets) learns.0
  learned_fly place RecordAnswer.Done old new knows learns = ap (λ (p : Past). p.tickets) learns.0
  learned_fly place (RecordAnswer.Refused refusal) old new knows learns = ap (λ (p : Past). p.tickets) learns.0

  found_fly : (old noted learned : Course) (number : ℕ) (answer : RecordAnswer) (refusal : Option RecordRefusal) → (old.end ≡ None → KnowsSome old) →
      past_of noted ≡ with_answer number answer refusal (past_of old) → noted.known ≡ old.known → LearnsRow (place_at (known_in old.known) number) answer noted learned →
      learned.tickets.items ≡ noted.tickets.items
  found_fly old noted learned number answer None knows past known learns =
      learned_fly (place_at (known_in old.known) number) answer noted learned (known_still old noted (ap (λ (p : Past). p.end) past) known knows) learns
  found_fly old noted learned number answer (Some refusal) knows past known learns =
      ap (λ (p : Past). p.tickets)
      (row_unlearned (place_at (known_in old.known) number) answer noted learned (ap (λ (p : Past). is_some p.end) past ∙ settled_by_refusal refusal old.end) learns)

  find_fly : (old : Course) (number : ℕ) (answer : RecordAnswer) (turn : Turn) (new : Course) → (old.end ≡ None → KnowsSome old) → AfterFind given old number answer turn new →
      new.tickets.items ≡ old.tickets.items
  find_fly old number answer turn new knows after =
      picks_fly after.learned turn new after.picks
      ∙ found_fly old after.noted after.learned number answer after.refusal knows after.past after.known after.learns
      ∙ ap (λ (p : Past). p.tickets) after.past ∙ answer_fly number answer after.refusal (past_of old)

  pub measures_fly : (old : Course) (measuring : Measuring) (turn : Turn) (new : Course) → MeasuresOn given old measuring turn new → new.tickets.items ≡ old.tickets.items
  measures_fly old measuring turn new (all_measured known its_turn its_new none unfolded picks) = picks_fly known turn new picks ∙ unfolded_fly _ [] old known unfolded
  measures_fly old measuring turn new (measures rest path its_new is same known) = same_tickets (past_of new) (past_of old) same

  end_fly : (landed : Course) (flight : Flight) (tool : Tool) (ending : ChildEnd) (turn : Turn) (new : Course) → (landed.end ≡ None → KnowsSome landed) →
      AfterEnd given landed flight tool ending turn new → new.tickets.items ≡ landed.tickets.items
  end_fly landed flight tool ending turn new knows (well site next class site_is scans turns) = turns_fly landed flight.job next turn new knows turns
  end_fly landed flight tool ending turn new knows (badly class turns) = turns_fly landed flight.job _ turn new knows turns
  end_fly landed flight tool ending turn new knows (for_now class temporary) = temporary_fly landed flight.job turn new temporary

  pub taken_out : (ticket : ℕ) (flight : Flight) (old new : Past) → IsDistinct nat_eq old.tickets → TakesOut ticket flight old new → new.tickets ≡ without ticket old.tickets
  taken_out ticket flight old new apart taken = same_tickets new _ taken.is ∙ one_less old.tickets taken.index ticket apart taken.ticket_there

  module _ (old : Course) (turn : Turn) (new : Course) (apart : IsDistinct nat_eq old.tickets.items) where
    -- an answer of a call that starts no child and waits for none leaves those that fly
    abbrev After : Answer → Type 0
    After answer = FliesAfter old.tickets.items turn.asks answer new.tickets.items

    pub step_flies : (request_asks : Request) (phase : Phase) (answer : Answer) → MayAnswer old.tickets.items request_asks answer → AsksOf old request_asks phase →
        (phase ≡ Phase.Draining → ⊥) → MayKnow old phase → FollowsFrom given old (record { asks = request_asks; phase = phase }) answer turn new → After answer
    step_flies it (Phase.Measuring measuring) answer (by_host place request its (is_measured path measure)) fits goes knows follows =
        flies_on _ _ (measures_fly old follows.next turn new follows.on)
    step_flies it (Phase.Measuring measuring) answer (by_host place request its (has_failed call)) fits goes knows follows = flies_on _ _ (fault_fly old place _ turn new follows)
    step_flies it (Phase.Finding number) answer (by_host place request its can) fits goes knows follows = absurd (asks_no_call old place request number fits)
    step_flies it (Phase.Finding number) answer (by_record place request its can) fits goes knows follows = flies_on _ _ (find_fly old number its turn new knows follows)
    step_flies it (Phase.Putting number) answer (by_host place request its can) fits goes knows follows = absurd (puts_no_call old place request number fits)
    step_flies it (Phase.Putting number) answer (by_record place request its can) fits goes knows follows = flies_on _ _ (put_fly old number its turn new follows)
    step_flies it (Phase.Touching number) answer (by_host place request its can) fits goes knows follows = absurd (touches_no_call old place request number fits)
    step_flies it (Phase.Touching number) answer (by_record place request its can) fits goes knows follows = flies_on _ _ (touch_fly old number its turn new follows)
    step_flies it (Phase.Dropping number) answer (by_host place request its can) fits goes knows follows = absurd (drops_no_call old place request number fits)
    step_flies it (Phase.Dropping number) answer (by_record place request its can) fits goes knows follows = flies_on _ _ (drop_fly old number its turn new follows)
    step_flies it (Phase.Fetching number) answer (by_host place request its (is_fetched its_key folder files found among)) fits goes knows follows =
        flies_on _ _ (fetch_fly old number found turn new follows)
    step_flies it (Phase.Fetching number) answer (by_host place request its (has_failed call)) fits goes knows follows = flies_on _ _ (fault_fly old place _ turn new follows)
    step_flies it (Phase.Staging number) answer (by_host place request its (is_staged plan folder)) fits goes knows follows =
        flies_on _ _ (turns_fly follows.staged number follows.next turn new (known_still old follows.staged (ap (λ (p : Past). p.end) follows.past) follows.known knows) follows.turns
        ∙ ap (λ (p : Past). p.tickets) follows.past)
    step_flies it (Phase.Staging number) answer (by_host place request its (has_failed call)) fits goes knows follows = flies_on _ _ (fault_fly old place _ turn new follows)
    step_flies it (Phase.Working number (JobPhase.Filling filling)) answer (by_host place request its (is_read path limit bytes short)) fits goes knows follows =
        flies_on _ _ (turns_fly old number follows.next turn new knows follows.turns)
    step_flies it (Phase.Working number (JobPhase.Filling filling)) answer (by_host place request its (has_failed call)) fits goes knows follows =
        flies_on _ _ (fault_fly old place _ turn new follows)
    step_flies it (Phase.Working number (JobPhase.Starting kept)) answer (by_host place request its (is_started launch ticket fresh)) fits goes knows follows =
        flies_on _ _ (picks_fly follows.started turn new follows.picks ∙ ap (λ (p : Past). p.tickets) follows.past)
    step_flies it (Phase.Working number (JobPhase.Starting kept)) answer (by_host place request its (has_failed call)) fits goes knows follows =
        flies_on _ _ (fault_fly old place _ turn new follows)
    step_flies it (Phase.Working number (JobPhase.Scanning kept millis)) answer (by_host place request its (is_listed folder found below)) fits goes knows follows =
        flies_on _ _ (turns_fly old number follows.next turn new knows follows.turns)
    step_flies it (Phase.Working number (JobPhase.Scanning kept millis)) answer (by_host place request its (has_failed call)) fits goes knows follows =
        flies_on _ _ (fault_fly old place _ turn new follows)
    step_flies it (Phase.Working number (JobPhase.Reading kept reading)) answer (by_host place request its (is_read path limit bytes short)) fits goes knows follows =
        flies_on _ _ (turns_fly old number follows.next turn new knows follows.turns)
    step_flies it (Phase.Working number (JobPhase.Reading kept reading)) answer (by_host place request its (has_failed call)) fits goes knows follows =
        flies_on _ _ (fault_fly old place _ turn new follows)
    step_flies it Phase.Collecting answer (by_host place request its (has_ended ending flies)) fits goes knows follows =
        flies_on _ _ (end_fly follows.landed follows.flight follows.job.tool ending turn new
        (known_still old follows.landed (ap (λ (p : Past). p.end) follows.taken.is) follows.known knows) follows.ends
        ∙ taken_out ending.ticket follows.flight (past_of old) (past_of follows.landed) apart follows.taken)
    step_flies it Phase.Collecting answer (by_host place request its (has_failed call)) fits goes knows follows = lost_collect old new turn.asks place call fits follows.2 (ap (λ (t : Turn). t.asks) follows.0)
    step_flies it (Phase.Delivering outputs) answer (by_host place request its (is_delivered plan)) fits goes knows follows =
        flies_on _ _ (replanned (λ (p : Past). p.tickets) (λ after made past. refl) given old follows.1)
    step_flies it (Phase.Delivering outputs) answer (by_host place request its (has_failed call)) fits goes knows follows = flies_on _ _ (fault_fly old place _ turn new follows)
    step_flies it (Phase.Storing number row) answer (by_host place request its (is_stored key folder files)) fits goes knows follows = flies_on _ _ (same_tickets (past_of new) (past_of old) follows.past)
    step_flies it (Phase.Storing number row) answer (by_host place request its (has_failed call)) fits goes knows follows = flies_on _ _ (ap (λ (p : Past). p.tickets) follows.past)
    step_flies it (Phase.Discarding number left) answer (by_host place request its (is_discarded key)) fits goes knows follows = flies_on _ _ (discards_fly old number left turn new follows)
    step_flies it (Phase.Discarding number left) answer (by_host place request its (has_failed call)) fits goes knows follows =
        flies_on _ _ (past_fly old number left (fault_of call) turn new follows)
    step_flies it Phase.Draining answer may fits goes knows follows = absurd (goes refl)
    step_flies it (Phase.Ended outcome) answer (by_host place request its can) fits goes knows follows = absurd (asks_none old place request outcome fits)
    step_flies it phase answer (by_host place request its can) fits goes knows follows = absurd fits
    step_flies it phase answer (by_record place request its can) fits goes knows follows = absurd follows

  -- where memory ran out
  pub left_flies : (old new : List ℕ) (answer : Answer) → IsDistinct nat_eq old → IsLeftAfter old answer new → new ≡ flying_after old answer
  left_flies old new (Answer.Host (HostAnswer.Ended ending)) apart left = left.is ∙ one_less old left.index ending.ticket apart left.there
  left_flies old new (Answer.Host HostAnswer.Done) apart left = left
  left_flies old new (Answer.Host (HostAnswer.Measured measure)) apart left = left
  left_flies old new (Answer.Host (HostAnswer.Started ticket)) apart left = left
  left_flies old new (Answer.Host (HostAnswer.Listed found)) apart left = left
  left_flies old new (Answer.Host (HostAnswer.FirstBytes bytes)) apart left = left
  left_flies old new (Answer.Host (HostAnswer.Fetched found)) apart left = left
  left_flies old new (Answer.Host (HostAnswer.Failed fault)) apart left = left
  left_flies old new (Answer.Record answer) apart left = left
