-- What each answer leaves.
use Rattle.std.specs.Prelude.{Contains}
use Rattle.std.proofs.Common.{◌≡◌, true, false, List, [], Option, None, Result, Err, refl, sym, ap, subst, ℕ, Some}
use Rattle.proc_host.specs.Answers.{fault_of, is_measured, is_staged, is_started, has_ended, is_listed, is_read, is_delivered, is_stored, is_discarded, has_failed, is_fetched}
use Rattle.proc_host.specs.declared.call.Entry.{Entry}
use Rattle.proc_host.specs.declared.call.HostAnswer.{HostAnswer}
use Rattle.proc_host.specs.declared.call.HostFault.{HostFault}
use Rattle.proc_host.specs.declared.call.HostRequest.{HostRequest}
use Rattle.proc_host.specs.declared.child.ChildEnd.{ChildEnd}
use Rattle.cwl_process.specs.declared.tool.Tool.{Tool}
use Rattle.run_rules.specs.Answers.{MayAnswer, by_host, by_record}
use Rattle.run_rules.specs.Blame.{IsToBlame, WereStarted, logged_answers}
use Rattle.run_rules.proofs.Rising.{none_started}
use Rattle.run_rules.specs.declared.outcome.Outcome.{Outcome}
use Rattle.run_rules.specs.declared.outcome.RunFault.{RunFault}
use Rattle.run_rules.specs.declared.request.Answer.{Answer}
use Rattle.run_rules.specs.declared.request.Request.{Request}
use Rattle.job_graph.specs.Words.{JobPlace, Name}
use Rattle.run_rules.specs.declared.request.RecordRequest.{RecordRequest}
use Rattle.job_rows.specs.declared.row.Row.{Row}
use Rattle.run_core.specs.declared.state.Course.{Course}
use Rattle.run_core.specs.declared.state.Flight.{Flight}
use Rattle.run_core.specs.declared.state.Given.{Given}
use Rattle.run_core.specs.declared.state.JobPhase.{JobPhase}
use Rattle.run_core.specs.declared.state.Measuring.{Measuring}
use Rattle.run_core.specs.declared.state.Phase.{Phase}
use Rattle.run_core.specs.declared.state.Turn.{Turn}
use Rattle.run_core.specs.inner.Attempts.{StaysBounded}
use Rattle.run_core.specs.inner.Course.{Past, known_in, past_of, place_at, store_note, late_note, fault_after, with_note}
use Rattle.run_core.specs.inner.Follows.{AsksOf, FollowsFrom}
use Rattle.run_core.specs.inner.Measures.{MeasuresOn, all_measured, measures}
use Rattle.run_core.specs.inner.Picks.{AfterEnd, AfterFault, badly, for_now, well}
use Rattle.run_core.specs.inner.Standing.{Blames}
use Rattle.run_core.proofs.standing.Books.{Books, books_end, books_landed, books_staged, books_start, books_unstaged, books_noted, books_unfetched}
use Rattle.run_core.proofs.standing.Leaving.{FewKnown, KnowsSome, Leaves, MayKnow, books_course, books_unfolded, leaves_end, leaves_temporary, picks_leave, turns_leave, leaves_discards, leaves_drop, leaves_fetch, leaves_find, leaves_past, leaves_put, leaves_store, leaves_touch}
pub use Rattle.run_core.proofs.standing.Leaving.{known_still}

-- an answer of the host's is in its log
abbrev pub IsLogged : List Entry → Answer → Type 0
IsLogged entries (Answer.Host answer) = Contains (logged_answers entries) answer
IsLogged entries (Answer.Record answer) = Unit {0}

-- nothing is asked at the end
pub asks_none : (course : Course) (place : JobPlace) (call : HostRequest) (outcome : Result Outcome RunFault) → AsksOf course (Request.Host place call) (Phase.Ended outcome) → ⊥
asks_none course place (HostRequest.Measure path) outcome fits = fits
asks_none course place (HostRequest.Stage plan folder) outcome fits = fits
asks_none course place (HostRequest.Start launch) outcome fits = fits
asks_none course place HostRequest.Collect outcome fits = fits
asks_none course place (HostRequest.Scan folder) outcome fits = fits
asks_none course place (HostRequest.Head path limit) outcome fits = fits
asks_none course place (HostRequest.Fetch key number files) outcome fits = fits
asks_none course place (HostRequest.Store key folder files) outcome fits = fits
asks_none course place (HostRequest.Deliver plan) outcome fits = fits
asks_none course place (HostRequest.Discard key) outcome fits = fits

-- while a row is looked for nothing is asked of the host
pub asks_no_call : (course : Course) (place : JobPlace) (call : HostRequest) (number : ℕ) → AsksOf course (Request.Host place call) (Phase.Finding number) → ⊥
asks_no_call course place (HostRequest.Measure path) number fits = fits
asks_no_call course place (HostRequest.Stage plan folder) number fits = fits
asks_no_call course place (HostRequest.Start launch) number fits = fits
asks_no_call course place HostRequest.Collect number fits = fits
asks_no_call course place (HostRequest.Scan folder) number fits = fits
asks_no_call course place (HostRequest.Head path limit) number fits = fits
asks_no_call course place (HostRequest.Fetch key folder files) number fits = fits
asks_no_call course place (HostRequest.Store key folder files) number fits = fits
asks_no_call course place (HostRequest.Deliver plan) number fits = fits
asks_no_call course place (HostRequest.Discard key) number fits = fits

-- nor while one is put
pub puts_no_call : (course : Course) (place : JobPlace) (call : HostRequest) (number : ℕ) → AsksOf course (Request.Host place call) (Phase.Putting number) → ⊥
puts_no_call course place (HostRequest.Measure path) number fits = fits
puts_no_call course place (HostRequest.Stage plan folder) number fits = fits
puts_no_call course place (HostRequest.Start launch) number fits = fits
puts_no_call course place HostRequest.Collect number fits = fits
puts_no_call course place (HostRequest.Scan folder) number fits = fits
puts_no_call course place (HostRequest.Head path limit) number fits = fits
puts_no_call course place (HostRequest.Fetch key folder files) number fits = fits
puts_no_call course place (HostRequest.Store key folder files) number fits = fits
puts_no_call course place (HostRequest.Deliver plan) number fits = fits
puts_no_call course place (HostRequest.Discard key) number fits = fits

-- nor while an archive is dropped
pub drops_no_call : (course : Course) (place : JobPlace) (call : HostRequest) (number : ℕ) → AsksOf course (Request.Host place call) (Phase.Dropping number) → ⊥
drops_no_call course place (HostRequest.Measure path) number fits = fits
drops_no_call course place (HostRequest.Stage plan folder) number fits = fits
drops_no_call course place (HostRequest.Start launch) number fits = fits
drops_no_call course place HostRequest.Collect number fits = fits
drops_no_call course place (HostRequest.Scan folder) number fits = fits
drops_no_call course place (HostRequest.Head path limit) number fits = fits
drops_no_call course place (HostRequest.Fetch key folder files) number fits = fits
drops_no_call course place (HostRequest.Store key folder files) number fits = fits
drops_no_call course place (HostRequest.Deliver plan) number fits = fits
drops_no_call course place (HostRequest.Discard key) number fits = fits

-- nor while it is noted that one was used
pub touches_no_call : (course : Course) (place : JobPlace) (call : HostRequest) (number : ℕ) → AsksOf course (Request.Host place call) (Phase.Touching number) → ⊥
touches_no_call course place (HostRequest.Measure path) number fits = fits
touches_no_call course place (HostRequest.Stage plan folder) number fits = fits
touches_no_call course place (HostRequest.Start launch) number fits = fits
touches_no_call course place HostRequest.Collect number fits = fits
touches_no_call course place (HostRequest.Scan folder) number fits = fits
touches_no_call course place (HostRequest.Head path limit) number fits = fits
touches_no_call course place (HostRequest.Fetch key folder files) number fits = fits
touches_no_call course place (HostRequest.Store key folder files) number fits = fits
touches_no_call course place (HostRequest.Deliver plan) number fits = fits
touches_no_call course place (HostRequest.Discard key) number fits = fits

-- where files are to be fetched, nothing of the record
pub fetches_no_row : (course : Course) (place : JobPlace) (request : RecordRequest) (number : ℕ) → AsksOf course (Request.Record place request) (Phase.Fetching number) → ⊥
fetches_no_row course place (RecordRequest.Find key) number fits = fits
fetches_no_row course place (RecordRequest.Put row) number fits = fits
fetches_no_row course place (RecordRequest.Touch key) number fits = fits
fetches_no_row course place (RecordRequest.DropArchive key) number fits = fits

-- where a job is to be staged, nothing of the record
pub stages_no_row : (course : Course) (place : JobPlace) (request : RecordRequest) (number : ℕ) → AsksOf course (Request.Record place request) (Phase.Staging number) → ⊥
stages_no_row course place (RecordRequest.Find key) number fits = fits
stages_no_row course place (RecordRequest.Put row) number fits = fits
stages_no_row course place (RecordRequest.Touch key) number fits = fits
stages_no_row course place (RecordRequest.DropArchive key) number fits = fits

-- nor where files are archived
pub stores_no_row : (course : Course) (place : JobPlace) (request : RecordRequest) (number : ℕ) (row : Row) → AsksOf course (Request.Record place request) (Phase.Storing number row) → ⊥
stores_no_row course place (RecordRequest.Find key) number row fits = fits
stores_no_row course place (RecordRequest.Put other) number row fits = fits
stores_no_row course place (RecordRequest.Touch key) number row fits = fits
stores_no_row course place (RecordRequest.DropArchive key) number row fits = fits

-- nor where one is discarded
pub discards_no_row : (course : Course) (place : JobPlace) (request : RecordRequest) (number : ℕ) (left : List Name) → AsksOf course (Request.Record place request) (Phase.Discarding number left) → ⊥
discards_no_row course place (RecordRequest.Find key) number left fits = fits
discards_no_row course place (RecordRequest.Put row) number left fits = fits
discards_no_row course place (RecordRequest.Touch key) number left fits = fits
discards_no_row course place (RecordRequest.DropArchive key) number left fits = fits

-- nor is the record
pub asks_no_row : (course : Course) (place : JobPlace) (request : RecordRequest) (outcome : Result Outcome RunFault) →
    AsksOf course (Request.Record place request) (Phase.Ended outcome) → ⊥
asks_no_row course place (RecordRequest.Find key) outcome fits = fits
asks_no_row course place (RecordRequest.Put row) outcome fits = fits
asks_no_row course place (RecordRequest.Touch key) outcome fits = fits
asks_no_row course place (RecordRequest.DropArchive key) outcome fits = fits

pub after_measure : (given : Given) (old : Course) (entries : List Entry) (turn : Turn) (new : Course) → FewKnown turn new → (measuring : Measuring) →
    Books given.options entries (past_of old) → MeasuresOn given old measuring turn new → Leaves given.options entries turn new
after_measure given old entries turn new few measuring books (all_measured known its_turn its_new none unfolded picks) =
    picks_leave given.options entries given refl known turn new few (books_unfolded given.options entries given refl _ [] old known unfolded books) picks
after_measure given old entries turn new few measuring books (measures rest path its_new is same known) =
    let now : Books given.options entries (past_of new) = books_course given.options entries new old same books in
    record { bounded = now.bounded; blames = now.blames; not_lost = λ lost. cc; goes = λ drains. cc }

module _ (given : Given) (old : Course) (entries : List Entry) (turn : Turn) (new : Course) (few : FewKnown turn new) (began : WereStarted entries old.tickets.items) where
  abbrev Left : Type 0
  Left = Leaves given.options entries turn new

  books_fault : (o : Option (Result Outcome RunFault)) (place : JobPlace) (fault : HostFault) (past : Past) → IsToBlame entries fault [] → Books given.options entries past →
      Books given.options entries (fault_after o place fault past)
  books_fault None place fault past blame books = books_end given.options entries past (Err (RunFault.Host fault [])) blame books
  books_fault (Some end) place fault past blame books = books_noted given.options entries past (late_note place fault) books

  after_fault : (place : JobPlace) (fault : HostFault) → Contains (logged_answers entries) (HostAnswer.Failed fault) → Books given.options entries (past_of old) →
      AfterFault given old place fault turn new → Left
  after_fault place fault told books after =
      let blame : IsToBlame entries fault [] = record { failed = told; started = none_started entries } in
      picks_leave given.options entries given refl after.settled turn new few
      (subst (λ (p : Past). Books given.options entries p) (sym after.past) (books_fault old.end place fault (past_of old) blame books))
      after.picks

  after_end : (landed : Course) (flight : Flight) (tool : Tool) (ending : ChildEnd) → (landed.end ≡ None → KnowsSome landed) →
      Books given.options entries (past_of landed) → AfterEnd given landed flight tool ending turn new → Left
  after_end landed flight tool ending still books (well site next class site_is scans turns) =
      turns_leave given.options entries given refl landed flight.job next turn new few still books turns
  after_end landed flight tool ending still books (badly class turns) =
      turns_leave given.options entries given refl landed flight.job _ turn new few still books turns
  after_end landed flight tool ending still books (for_now class temporary) =
      leaves_temporary given.options entries given refl landed flight.job turn new few books temporary

  pub step_leaves : (asks : Request) (phase : Phase) (answer : Answer) → MayAnswer old.tickets.items asks answer → AsksOf old asks phase → (phase ≡ Phase.Draining → ⊥) → MayKnow old phase →
      IsLogged entries answer → StaysBounded given.options (past_of old) phase → Blames entries (past_of old) phase →
      FollowsFrom given old (record { asks = asks; phase = phase }) answer turn new → Left
  step_leaves asks (Phase.Measuring measuring) answer (by_host place request its (is_measured path measure)) fits goes knows told bounded blames follows =
      after_measure given old entries turn new few follows.next (record { bounded = bounded; blames = blames }) follows.on
  step_leaves asks (Phase.Measuring measuring) answer (by_host place request its (has_failed call)) fits goes knows told bounded blames follows =
      after_fault place (fault_of call) told (record { bounded = bounded; blames = blames }) follows
  step_leaves asks (Phase.Finding number) answer (by_host place request its can) fits goes knows told bounded blames follows = absurd (asks_no_call old place request number fits)
  step_leaves asks (Phase.Finding number) answer (by_record place request its can) fits goes knows told bounded blames follows =
      leaves_find given.options entries given refl old number its turn new few knows (record { bounded = bounded; blames = blames }) follows
  step_leaves asks (Phase.Putting number) answer (by_host place request its can) fits goes knows told bounded blames follows = absurd (puts_no_call old place request number fits)
  step_leaves asks (Phase.Putting number) answer (by_record place request its can) fits goes knows told bounded blames follows =
      leaves_put given.options entries given refl old number its turn new few (record { bounded = bounded; blames = blames }) follows
  step_leaves asks (Phase.Touching number) answer (by_host place request its can) fits goes knows told bounded blames follows = absurd (touches_no_call old place request number fits)
  step_leaves asks (Phase.Touching number) answer (by_record place request its can) fits goes knows told bounded blames follows =
      leaves_touch given.options entries given refl old number its turn new few (record { bounded = bounded; blames = blames }) follows
  step_leaves asks (Phase.Dropping number) answer (by_host place request its can) fits goes knows told bounded blames follows = absurd (drops_no_call old place request number fits)
  step_leaves asks (Phase.Dropping number) answer (by_record place request its can) fits goes knows told bounded blames follows =
      leaves_drop given.options entries given refl old number its turn new (record { bounded = bounded; blames = blames }) follows
  step_leaves asks (Phase.Fetching number) answer (by_host place request its (is_fetched its_key folder files found among)) fits goes knows told bounded blames follows =
      leaves_fetch given.options entries given refl old number found turn new (record { bounded = bounded; blames = blames }) follows
  step_leaves asks (Phase.Fetching number) answer (by_host place request its (has_failed call)) fits goes knows told bounded blames follows =
      after_fault place (fault_of call) told (books_unfetched given.options entries (past_of old) number (record { bounded = bounded; blames = blames })) follows
  step_leaves asks (Phase.Staging number) answer (by_host place request its (is_staged plan folder)) fits goes knows told bounded blames follows =
      turns_leave given.options entries given refl follows.staged number follows.next turn new few
      (known_still old follows.staged (ap (λ (p : Past). p.end) follows.past) follows.known knows)
      (subst (λ (p : Past). Books given.options entries p) (sym follows.past)
      (books_staged given.options entries (past_of old) number (record { bounded = bounded; blames = blames }))) follows.turns
  step_leaves asks (Phase.Staging number) answer (by_host place request its (has_failed call)) fits goes knows told bounded blames follows =
      after_fault place (fault_of call) told (books_unstaged given.options entries (past_of old) number (record { bounded = bounded; blames = blames })) follows
  step_leaves asks (Phase.Working number (JobPhase.Filling filling)) answer (by_host place request its (is_read path limit bytes short)) fits goes knows told bounded blames follows =
      turns_leave given.options entries given refl old number follows.next turn new few knows (record { bounded = bounded; blames = blames }) follows.turns
  step_leaves asks (Phase.Working number (JobPhase.Filling filling)) answer (by_host place request its (has_failed call)) fits goes knows told bounded blames follows =
      after_fault place (fault_of call) told (record { bounded = bounded; blames = blames }) follows
  step_leaves asks (Phase.Working number (JobPhase.Starting kept)) answer (by_host place request its (is_started launch ticket fresh)) fits goes knows told bounded blames follows =
      picks_leave given.options entries given refl follows.started turn new few
      (subst (λ (p : Past). Books given.options entries p) (sym follows.past)
      (books_start given.options entries (past_of old) number kept ticket (record { bounded = bounded; blames = blames }))) follows.picks
  step_leaves asks (Phase.Working number (JobPhase.Starting kept)) answer (by_host place request its (has_failed call)) fits goes knows told bounded blames follows =
      after_fault place (fault_of call) told (record { bounded = bounded; blames = blames }) follows
  step_leaves asks (Phase.Working number (JobPhase.Scanning kept millis)) answer (by_host place request its (is_listed folder found below)) fits goes knows told bounded blames follows =
      turns_leave given.options entries given refl old number follows.next turn new few knows (record { bounded = bounded; blames = blames }) follows.turns
  step_leaves asks (Phase.Working number (JobPhase.Scanning kept millis)) answer (by_host place request its (has_failed call)) fits goes knows told bounded blames follows =
      after_fault place (fault_of call) told (record { bounded = bounded; blames = blames }) follows
  step_leaves asks (Phase.Working number (JobPhase.Reading kept reading)) answer (by_host place request its (is_read path limit bytes short)) fits goes knows told bounded blames follows =
      turns_leave given.options entries given refl old number follows.next turn new few knows (record { bounded = bounded; blames = blames }) follows.turns
  step_leaves asks (Phase.Working number (JobPhase.Reading kept reading)) answer (by_host place request its (has_failed call)) fits goes knows told bounded blames follows =
      after_fault place (fault_of call) told (record { bounded = bounded; blames = blames }) follows
  step_leaves asks Phase.Collecting answer (by_host place request its (has_ended ending flies)) fits goes knows told bounded blames follows =
      let books : Books given.options entries (past_of follows.landed) =
      books_landed given.options entries (past_of old) ending.ticket follows.flight (past_of follows.landed) follows.taken (record { bounded = bounded; blames = blames }) in
      after_end follows.landed follows.flight follows.job.tool ending
      (known_still old follows.landed (ap (λ (p : Past). p.end) follows.taken.is) follows.known knows) books follows.ends
  step_leaves asks Phase.Collecting answer (by_host place request its (has_failed call)) fits goes knows told bounded blames follows =
      let blame : IsToBlame entries (fault_of call) old.tickets.items = record { failed = told; started = began } in
      leaves_end given.options entries (Err (RunFault.Host (fault_of call) old.tickets.items)) turn new (ap (λ (t : Turn). t.phase) follows.0) blame
  step_leaves asks (Phase.Delivering outputs) answer (by_host place request its (is_delivered plan)) fits goes knows told bounded blames follows =
      leaves_end given.options entries _ turn new (ap (λ (t : Turn). t.phase) follows.0) tt
  step_leaves asks (Phase.Delivering outputs) answer (by_host place request its (has_failed call)) fits goes knows told bounded blames follows =
      after_fault place (fault_of call) told (record { bounded = bounded; blames = blames }) follows
  step_leaves asks (Phase.Storing number row) answer (by_host place request its (is_stored key folder files)) fits goes knows told bounded blames follows =
      leaves_store given.options entries given refl old number (record row { archived = true }) (past_of old) turn new (record { bounded = bounded; blames = blames }) follows
  step_leaves asks (Phase.Storing number row) answer (by_host place request its (has_failed call)) fits goes knows told bounded blames follows =
      leaves_store given.options entries given refl old number (record row { archived = false }) (with_note (store_note (place_at (known_in old.known) number) (fault_of call)) (past_of old)) turn new
      (books_noted given.options entries (past_of old) (store_note (place_at (known_in old.known) number) (fault_of call)) (record { bounded = bounded; blames = blames })) follows
  step_leaves asks (Phase.Discarding number left) answer (by_host place request its (is_discarded key)) fits goes knows told bounded blames follows =
      leaves_discards given.options entries given refl old number left turn new few (record { bounded = bounded; blames = blames }) follows
  step_leaves asks (Phase.Discarding number left) answer (by_host place request its (has_failed call)) fits goes knows told bounded blames follows =
      leaves_past given.options entries given refl old number left (fault_of call) turn new few (record { bounded = bounded; blames = blames }) follows
  step_leaves asks Phase.Draining answer may fits goes knows told bounded blames follows = absurd (goes refl)
  step_leaves asks (Phase.Ended outcome) answer (by_host place request its can) fits goes knows told bounded blames follows = absurd (asks_none old place request outcome fits)
  step_leaves asks phase answer (by_host place request its can) fits goes knows told bounded blames follows = absurd fits
  step_leaves asks phase answer (by_record place request its can) fits goes knows told bounded blames follows = absurd follows
