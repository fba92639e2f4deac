-- One answer taken: what the machine is in then.
use Rattle.std.specs.Prelude.{◌≢◌, ◌*◌, IfErr, Contains}
use Rattle.std.proofs.Common.{◌≡◌, ◌∙◌, ℕ, ◌+◌, ◌<◌, ◌≤◌, List, [], ◌∷◌, ◌++◌, length, Result, Ok, Err, refl, sym, ap, subst, arith, length-append}
use Rattle.std.proofs.lemmas.List.{map-append, append-nil}
use Rattle.std.proofs.lemmas.List.Elements.{filter_map-append, Contains-push}
use Rattle.proc_host.specs.Answers.{is_started}
use Rattle.proc_host.specs.declared.call.Entry.{Entry}
use Rattle.proc_host.specs.Tickets.{without}
use Rattle.proc_host.specs.declared.call.HostFault.{HostFault}
use Rattle.proc_host.specs.declared.call.HostAnswer.{HostAnswer}
use Rattle.proc_host.specs.declared.call.HostRequest.{HostRequest}
use Rattle.run_rules.specs.Allowed.{Allowed}
use Rattle.run_rules.specs.Answers.{MayAnswer, by_host, flying_after, by_record}
use Rattle.run_rules.specs.Blame.{BlamesRightly, IsToBlame, WereStarted, logged_answers}
use Rattle.run_rules.proofs.Rising.{flown, started_still, told_still}
use Rattle.run_rules.specs.Reports.{entries_of, entry_of}
use Rattle.run_rules.specs.Scene.{Scene, scene_of}
use Rattle.run_rules.specs.declared.outcome.Outcome.{Outcome}
use Rattle.run_rules.specs.declared.outcome.RunFault.{RunFault}
use Rattle.run_rules.specs.declared.request.Answer.{Answer}
use Rattle.run_rules.specs.declared.request.Pair.{Pair}
use Rattle.run_rules.specs.declared.request.Request.{Request}
use Rattle.run_rules.specs.declared.setting.Options.{Options}
use Rattle.run_rules.specs.declared.request.RecordAnswer.{RecordAnswer}
use Rattle.run_rules.specs.declared.request.RecordRequest.{RecordRequest}
use Rattle.job_graph.specs.Words.{JobPlace}
use Rattle.run_core.specs.declared.state.Course.{Course}
use Rattle.run_core.specs.declared.state.Given.{Given}
use Rattle.run_core.specs.declared.state.JobPhase.{JobPhase}
use Rattle.run_core.specs.declared.state.Phase.{Phase}
use Rattle.run_core.specs.declared.state.Turn.{Turn}
use Rattle.run_core.specs.Core.{IsLanded}
use Rattle.run_core.specs.inner.Inside.{setting_in}
use Rattle.run_core.specs.inner.Attempts.{StaysBounded, answers_left, many_items, weight_of, weight_of_job, weight_of_past}
use Rattle.run_core.specs.inner.Course.{Past, past_of}
use Rattle.run_core.specs.inner.Follows.{AsksOf, FollowsFrom}
use Rattle.run_core.specs.inner.Standing.{Blames, RanOut, Runs, SettlesRightly, pairs_ahead}
use Rattle.run_core.specs.inner.Turn.{lost_after, lost_with, waits}
use Rattle.run_core.proofs.going.Same.{runs_same}
use Rattle.run_core.proofs.standing.Answered.{asks_none, IsLogged, asks_no_row}
use Rattle.run_core.proofs.standing.Flown.{FliesAfter, flies_on, none_waited_for}
use Rattle.run_core.proofs.standing.Lost.{none_when_lost}
use Rattle.run_core.proofs.standing.Tickets.{at_most}

-- how the run of a machine goes on while memory is there
pub record RunsOn (given : Given) (t : List Pair) : Type 0 where
  pub follows_on : (old : Course) (before : Turn) (answer : Answer) (turn : Turn) (new : Course) → Runs (scene_of (setting_in given)) t old before →
      MayAnswer old.tickets.items before.asks answer → FollowsFrom given old before answer turn new →
      Runs (scene_of (setting_in given)) (t ++ record { request = before.asks; answer = answer } ∷ []) new turn
  pub allows : (course : Course) (turn : Turn) (r : Runs (scene_of (setting_in given)) t course turn) → turn.asks ≢ Request.Finished →
      Allowed (scene_of (setting_in given)) r.happened r.plans.marks turn.asks

-- on its run, or off it
pub data IsGoing (s : Scene) (t : List Pair) (course : Course) (turn : Turn) : Type 0 where
  on : Runs s t course turn → IsGoing s t course turn
  off : RanOut s t (past_of course) turn → IsGoing s t course turn

going_same : (s : Scene) (t : List Pair) (turn : Turn) (new last : Course) → past_of last ≡ past_of new → (Runs s t new turn → Runs s t last turn) →
    IsGoing s t new turn → IsGoing s t last turn
going_same s t turn new last same stays (on runs) = on (stays runs)
going_same s t turn new last same stays (off out) = off (subst (λ (p : Past). RanOut s t p turn) (sym same) out)

-- where the machine is after an answer
pub record Taken (given : Given) (t : List Pair) (old : Course) (before : Turn) (answer : Answer) (turn : Turn) (new : Course) : Type 0 where
  pub going : IsGoing (scene_of (setting_in given)) (t ++ record { request = before.asks; answer = answer } ∷ []) new turn
  pub bounded : StaysBounded given.options (past_of new) turn.phase
  pub blames : Blames (entries_of (t ++ record { request = before.asks; answer = answer } ∷ [])) (past_of new) turn.phase
  pub fewer : answers_left given.options (past_of new) turn.phase < answers_left given.options (past_of old) before.phase
  pub landed : turn.phase ≡ Phase.Ended (Err RunFault.OutOfMemory) → IsLanded old.tickets.items answer
  pub finished : turn.phase ≡ Phase.Ended (Err RunFault.OutOfMemory) → turn.asks ≡ Request.Finished
  pub flying : turn.asks ≢ Request.Finished → new.tickets.items ≡ flying_after old.tickets.items answer
  pub drains : before.phase ≡ Phase.Draining → turn.asks ≢ Request.Finished → turn ≡ waits HostRequest.Collect Phase.Draining

-- What the host's log gains

abbrev by_call : JobPlace → HostRequest → HostAnswer → Pair
by_call place request answer = record { request = Request.Host place request; answer = Answer.Host answer }

abbrev by_command : JobPlace → RecordRequest → RecordAnswer → Pair
by_command place request answer = record { request = Request.Record place request; answer = Answer.Record answer }

answers_more : (t : List Pair) (place : JobPlace) (request : HostRequest) (answer : HostAnswer) →
    logged_answers (entries_of (t ++ by_call place request answer ∷ [])) ≡ logged_answers (entries_of t) ++ answer ∷ []
answers_more t place request answer =
    ap logged_answers (filter_map-append entry_of t (by_call place request answer ∷ []))
    ∙ map-append (λ (entry : Entry). entry.answer) (entries_of t) (entries_of (by_call place request answer ∷ []))

-- a command to the record adds nothing
nothing_more : (t : List Pair) (place : JobPlace) (request : RecordRequest) (answer : RecordAnswer) → entries_of (t ++ by_command place request answer ∷ []) ≡ entries_of t
nothing_more t place request answer = filter_map-append entry_of t (by_command place request answer ∷ []) ∙ append-nil (entries_of t)

pub is_logged : (t : List Pair) {flying : List ℕ} {asks : Request} {answer : Answer} → MayAnswer flying asks answer →
    IsLogged (entries_of (t ++ record { request = asks; answer = answer } ∷ [])) answer
is_logged t (by_host place request answer can) =
    subst (λ (all : List HostAnswer). Contains all answer) (sym (answers_more t place request answer)) (Contains-push (logged_answers (entries_of t)) answer)
is_logged t (by_record place request answer can) = tt

-- the children in flight after an answer were started
pub started_after : (t : List Pair) {flying : List ℕ} {asks : Request} {answer : Answer} → MayAnswer flying asks answer → WereStarted (entries_of t) flying →
    WereStarted (entries_of (t ++ record { request = asks; answer = answer } ∷ [])) (flying_after flying answer)
started_after t {flying = flying} (by_host place request answer can) began =
    flown (entries_of t) (entries_of (t ++ by_call place request answer ∷ [])) answer (answers_more t place request answer) flying began
started_after t {flying = flying} (by_record place request answer can) began =
    subst (λ (es : List Entry). WereStarted es flying) (sym (nothing_more t place request answer)) began

-- and those in flight before it
pub began_still : (t : List Pair) {flying : List ℕ} {asks : Request} {answer : Answer} → MayAnswer flying asks answer → (running : List ℕ) → WereStarted (entries_of t) running →
    WereStarted (entries_of (t ++ record { request = asks; answer = answer } ∷ [])) running
began_still t (by_host place request answer can) running began =
    started_still (entries_of t) (entries_of (t ++ by_call place request answer ∷ [])) answer (answers_more t place request answer) running began
began_still t (by_record place request answer can) running began =
    subst (λ (es : List Entry). WereStarted es running) (sym (nothing_more t place request answer)) began

-- What was blamed is so still

module _ (entries more : List Entry) (answer : HostAnswer) (is : logged_answers more ≡ logged_answers entries ++ answer ∷ []) where
  blame_more : (fault : HostFault) (running : List ℕ) → IsToBlame entries fault running → IsToBlame more fault running
  blame_more fault running blame = record {
    failed = told_still entries more answer is (HostAnswer.Failed fault) blame.failed;
    started = started_still entries more answer is running blame.started;
  }

  settles_more : (end : Result Outcome RunFault) → SettlesRightly entries end → SettlesRightly more end
  settles_more (Ok report) settles = tt
  settles_more (Err (RunFault.Host fault running)) settles = blame_more fault running settles
  settles_more (Err (RunFault.Record refusal)) settles = tt
  settles_more (Err (RunFault.Mismatch place)) settles = tt
  settles_more (Err RunFault.TooManyJobs) settles = tt
  settles_more (Err RunFault.OutOfMemory) settles = absurd settles

  ends_more : (outcome : Result Outcome RunFault) → IfErr outcome (BlamesRightly entries) → IfErr outcome (BlamesRightly more)
  ends_more (Ok report) blames = tt
  ends_more (Err (RunFault.Host fault running)) blames = blame_more fault running blames
  ends_more (Err (RunFault.Record refusal)) blames = tt
  ends_more (Err (RunFault.Mismatch place)) blames = tt
  ends_more (Err RunFault.TooManyJobs) blames = tt
  ends_more (Err RunFault.OutOfMemory) blames = tt

  pub blames_more : (past : Past) (phase : Phase) → Blames entries past phase → Blames more past phase
  blames_more past (Phase.Ended outcome) blames = ends_more outcome blames
  blames_more past Phase.Draining blames = tt
  blames_more past phase blames = record { settled = λ end is. settles_more end (blames.settled end is) }

pub blames_after : (t : List Pair) {flying : List ℕ} {asks : Request} {answer : Answer} → MayAnswer flying asks answer → (past : Past) (phase : Phase) →
    Blames (entries_of t) past phase → Blames (entries_of (t ++ record { request = asks; answer = answer } ∷ [])) past phase
blames_after t (by_host place request answer can) past phase blames =
    blames_more (entries_of t) (entries_of (t ++ by_call place request answer ∷ [])) answer (answers_more t place request answer) past phase blames
blames_after t (by_record place request answer can) past phase blames =
    subst (λ (es : List Entry). Blames es past phase) (sym (nothing_more t place request answer)) blames

-- How many fly

pub rise : Answer → ℕ
rise (Answer.Host (HostAnswer.Started ticket)) = 1
rise answer = 0

after_few : (old : List ℕ) (answer : Answer) → length (flying_after old answer) ≤ length old + rise answer
unfolding rise
after_few old (Answer.Host (HostAnswer.Started ticket)) = let longer : length (old ++ ticket ∷ []) ≡ length old + 1 = length-append old (ticket ∷ []) in omega (arith, longer)
after_few old (Answer.Host (HostAnswer.Ended ending)) = let left : length (without ending.ticket old) ≤ length old = at_most ending.ticket old in omega (arith, left)
after_few old (Answer.Host HostAnswer.Done) = omega arith
after_few old (Answer.Host (HostAnswer.Measured measure)) = omega arith
after_few old (Answer.Host (HostAnswer.Listed found)) = omega arith
after_few old (Answer.Host (HostAnswer.FirstBytes bytes)) = omega arith
after_few old (Answer.Host (HostAnswer.Fetched found)) = omega arith
after_few old (Answer.Host (HostAnswer.Failed fault)) = omega arith
after_few old (Answer.Record answer) = omega arith

pub flown_few : (old : List ℕ) (next : Request) (answer : Answer) (new : List ℕ) → FliesAfter old next answer new → length new ≤ length old + rise answer
flown_few old next answer new (flies_on its_answer its_new is) = subst (λ (ns : List ℕ). length ns ≤ length old + rise answer) (sym is) (after_few old answer)
flown_few old next answer new (none_waited_for its_new is ends) = subst (λ (ns : List ℕ). length ns ≤ length old + rise answer) (sym is) (omega arith)

pub rise_at_most : (answer : Answer) → rise answer ≤ 1
unfolding rise
rise_at_most (Answer.Host (HostAnswer.Started ticket)) = omega arith
rise_at_most (Answer.Host (HostAnswer.Ended ending)) = omega arith
rise_at_most (Answer.Host HostAnswer.Done) = omega arith
rise_at_most (Answer.Host (HostAnswer.Measured measure)) = omega arith
rise_at_most (Answer.Host (HostAnswer.Listed found)) = omega arith
rise_at_most (Answer.Host (HostAnswer.FirstBytes bytes)) = omega arith
rise_at_most (Answer.Host (HostAnswer.Fetched found)) = omega arith
rise_at_most (Answer.Host (HostAnswer.Failed fault)) = omega arith
rise_at_most (Answer.Record answer) = omega arith

some_weight_of_job : (phase : JobPhase) → 0 < weight_of_job phase
some_weight_of_job (JobPhase.Filling filling) = omega arith
some_weight_of_job (JobPhase.Starting kept) = omega arith
some_weight_of_job (JobPhase.Scanning kept millis) = omega arith
some_weight_of_job (JobPhase.Reading kept reading) = omega arith

pub some_weight : (phase : Phase) → 0 < weight_of phase
some_weight (Phase.Measuring measuring) = omega arith
some_weight (Phase.Finding number) = omega arith
some_weight (Phase.Putting number) = omega arith
some_weight (Phase.Fetching number) = omega arith
some_weight (Phase.Dropping number) = omega arith
some_weight (Phase.Touching number) = omega arith
some_weight (Phase.Discarding number left) = omega arith
some_weight (Phase.Storing number row) = omega arith
some_weight (Phase.Staging number) = omega arith
some_weight (Phase.Working number phase) = some_weight_of_job phase
some_weight Phase.Collecting = omega arith
some_weight (Phase.Delivering outputs) = omega arith
some_weight Phase.Draining = omega arith
some_weight (Phase.Ended outcome) = omega arith

pub rise_below : (course : Course) (tickets : List ℕ) (asks : Request) (phase : Phase) (answer : Answer) → MayAnswer tickets asks answer → AsksOf course asks phase →
    rise answer < weight_of phase
unfolding rise
rise_below course tickets asks (Phase.Working number (JobPhase.Starting kept)) answer (by_host place request its (is_started launch ticket fresh)) fits = omega arith
rise_below course tickets asks phase answer (by_host place request its (is_started launch ticket fresh)) fits = absurd fits
rise_below course tickets asks phase answer (by_host place request its can) fits = some_weight phase
rise_below course tickets asks phase answer (by_record place request its can) fits = some_weight phase

-- What is asked while an answer comes

pub asks_some : {tickets : List ℕ} {asks : Request} {answer : Answer} → MayAnswer tickets asks answer → asks ≢ Request.Finished
asks_some (by_host place request answer can) = λ none. cc
asks_some (by_record place request answer can) = λ none. cc

pub not_ended : (course : Course) {tickets : List ℕ} {asks : Request} {answer : Answer} (phase : Phase) → MayAnswer tickets asks answer → AsksOf course asks phase →
    (outcome : Result Outcome RunFault) → phase ≡ Phase.Ended outcome → ⊥
not_ended course phase (by_host place request answer can) fits outcome is =
    asks_none course place request outcome (subst (λ (p : Phase). AsksOf course (Request.Host place request) p) is fits)
not_ended course phase (by_record place request answer can) fits outcome is =
    asks_no_row course place request outcome (subst (λ (p : Phase). AsksOf course (Request.Record place request) p) is fits)

pub left_now : (options : Options) (past : Past) (phase : Phase) → (phase ≡ Phase.Draining → ⊥) → ((outcome : Result Outcome RunFault) → phase ≡ Phase.Ended outcome → ⊥) →
    answers_left options past phase ≡ weight_of_past options past + weight_of phase
left_now options past Phase.Draining goes asks = absurd (goes refl)
left_now options past (Phase.Ended outcome) goes asks = absurd (asks outcome refl)
left_now options past phase goes asks = refl

pub ahead_now : (past : Past) (phase : Phase) → (phase ≡ Phase.Draining → ⊥) → ((outcome : Result Outcome RunFault) → phase ≡ Phase.Ended outcome → ⊥) →
    pairs_ahead past phase ≡ length past.tickets + 2
ahead_now past Phase.Draining goes asks = absurd (goes refl)
ahead_now past (Phase.Ended outcome) goes asks = absurd (asks outcome refl)
ahead_now past phase goes asks = refl

pub lost_below : (a new flown rises rows stagings weight : ℕ) → a ≤ new → new ≤ flown + rises → rises < weight →
    a < rows + (stagings + flown * (2 * many_items + 4)) + weight
lost_below a new flown rises rows stagings weight few risen below = omega (arith, few, risen, below)

pub flies_if : (old : List ℕ) (next : Request) (answer : Answer) (new : List ℕ) → FliesAfter old next answer new → next ≢ Request.Finished → new ≡ flying_after old answer
flies_if old next answer new (flies_on its_answer its_new is) asks = is
flies_if old next answer new (none_waited_for its_new is ends) asks = absurd (asks ends)

pub lost_ends : (past : Past) → (lost_after past).phase ≡ Phase.Ended (Err RunFault.OutOfMemory) → (lost_after past).asks ≡ Request.Finished
lost_ends past ended = ap (λ (ns : List ℕ). (lost_with ns).asks) (none_when_lost past ended)

-- the same course, in other memory
pub taken_same : (given : Given) (t : List Pair) (old : Course) (before : Turn) (answer : Answer) (turn : Turn) (new last : Course) →
    past_of last ≡ past_of new → last.known ≡ new.known → Taken given t old before answer turn new → Taken given t old before answer turn last
taken_same given t old before answer turn new last same known taken = record {
  going = going_same (scene_of (setting_in given)) (t ++ record { request = before.asks; answer = answer } ∷ []) turn new last same
      (runs_same (scene_of (setting_in given)) (t ++ record { request = before.asks; answer = answer } ∷ []) new last turn same known) taken.going;
  bounded = subst (λ (p : Past). StaysBounded given.options p turn.phase) (sym same) taken.bounded;
  blames = subst (λ (p : Past). Blames (entries_of (t ++ record { request = before.asks; answer = answer } ∷ [])) p turn.phase) (sym same) taken.blames;
  fewer = subst (λ (p : Past). answers_left given.options p turn.phase < answers_left given.options (past_of old) before.phase) (sym same) taken.fewer;
  landed = taken.landed;
  finished = taken.finished;
  flying = λ asks. ap (λ (p : Past). p.tickets) same ∙ taken.flying asks;
  drains = taken.drains;
}
