-- What an answer tells of the phase that waits for it, and of the course.
use Rattle.std.specs.Prelude.{◌<◌, Contains}
use Rattle.std.proofs.Common.{◌≡◌, ℕ, List, length, refl}
use Rattle.proc_host.specs.Answers.{is_measured, is_staged, is_started, has_ended, is_listed, is_read, is_delivered, is_stored, is_discarded, has_failed, fault_of, is_fetched}
use Rattle.proc_host.specs.declared.call.HostAnswer.{HostAnswer}
use Rattle.proc_host.specs.declared.call.HostFault.{HostFault}
use Rattle.proc_host.specs.declared.call.HostRequest.{HostRequest}
use Rattle.proc_host.specs.declared.child.ChildEnd.{ChildEnd}
use Rattle.staging.specs.declared.found.Found.{Found}
use Rattle.staging.specs.declared.measure.Measure.{Measure}
use Rattle.run_rules.specs.Answers.{MayAnswer, by_host, by_record, is_found, is_refused, is_put, is_dropped, is_touched}
use Rattle.run_rules.specs.declared.request.Answer.{Answer}
use Rattle.run_rules.specs.declared.request.Request.{Request}
use Rattle.run_rules.specs.declared.request.RecordAnswer.{RecordAnswer}
use Rattle.run_rules.specs.declared.request.RecordRequest.{RecordRequest}
use Rattle.cwl_value.specs.declared.value.Value.{Value}
use Rattle.job_graph.specs.Words.{Name}
use Rattle.job_rows.specs.declared.row.Row.{Row}
use Rattle.run_core.specs.declared.state.Measuring.{Measuring}
use Rattle.run_core.specs.declared.state.Course.{Course}
use Rattle.run_core.specs.declared.state.JobPhase.{JobPhase}
use Rattle.run_core.specs.declared.state.Phase.{Phase}
use Rattle.run_core.specs.inner.Follows.{AnswersWork, AsksOf, CanStage, IsStaging, IsReady, IsForKnown, IsReadyFor, WaitsForRecord}
use Rattle.run_core.proofs.standing.Answered.{asks_none, asks_no_call, stages_no_row, puts_no_call, discards_no_row, stores_no_row, drops_no_call, fetches_no_row, touches_no_call}

-- the job of a number may be staged, which was asked
pub record AtStaging (course : Course) (number : ℕ) (asks : Request) : Type 0 where
  pub stages : CanStage course number
  pub asked : IsStaging asks

-- the job of a number was staged, and its work waits for this answer
pub record AtWork (course : Course) (job : ℕ) (work : JobPhase) (answer : HostAnswer) : Type 0 where
  pub staged : job < length course.jobs
  pub answers : AnswersWork work answer

module _ (flying : List ℕ) (course : Course) where
  pub at_staging : (asks : Request) (number : ℕ) → AsksOf course asks (Phase.Staging number) → AtStaging course number asks
  at_staging (Request.Host place (HostRequest.Stage plan folder)) number fits = record { stages = fits; asked = tt }
  at_staging (Request.Record place request) number fits = absurd (stages_no_row course place request number fits)
  at_staging asks number fits = absurd fits

  pub at_work : (asks : Request) (number : ℕ) (work : JobPhase) (answer : HostAnswer) → MayAnswer flying asks (Answer.Host answer) → AsksOf course asks (Phase.Working number work) →
      ((fault : HostFault) → answer ≡ HostAnswer.Failed fault → ⊥) → AtWork course number work answer
  at_work asks number (JobPhase.Filling filling) answer (by_host place request its (is_read path limit bytes short)) fits well = record { staged = fits; answers = tt }
  at_work asks number (JobPhase.Starting kept) answer (by_host place request its (is_started launch ticket fresh)) fits well = record { staged = fits; answers = tt }
  at_work asks number (JobPhase.Scanning kept millis) answer (by_host place request its (is_listed folder found below)) fits well = record { staged = fits; answers = tt }
  at_work asks number (JobPhase.Reading kept reading) answer (by_host place request its (is_read path limit bytes short)) fits well = record { staged = fits; answers = tt }
  at_work asks number work answer (by_host place request its (has_failed call)) fits well = absurd (well (fault_of call) refl)
  at_work asks number work answer (by_host place request its can) fits well = absurd fits

  -- the kind of answer that a phase waits for
  abbrev Awaits : Phase → HostAnswer → Type 0
  Awaits (Phase.Measuring measuring) answer = (measure : Measure) × (answer ≡ HostAnswer.Measured measure)
  Awaits (Phase.Finding number) answer = ⊥
  Awaits (Phase.Putting number) answer = ⊥
  Awaits (Phase.Fetching number) answer = (found : List Found) × (answer ≡ HostAnswer.Fetched found)
  Awaits (Phase.Touching number) answer = ⊥
  Awaits (Phase.Dropping number) answer = ⊥
  Awaits (Phase.Discarding number left) answer = answer ≡ HostAnswer.Done
  Awaits (Phase.Staging number) answer = answer ≡ HostAnswer.Done
  Awaits (Phase.Working number work) answer = Unit {0}
  Awaits Phase.Collecting answer = (ending : ChildEnd) × (answer ≡ HostAnswer.Ended ending)
  Awaits (Phase.Delivering outputs) answer = answer ≡ HostAnswer.Done
  Awaits Phase.Draining answer = (ending : ChildEnd) × (answer ≡ HostAnswer.Ended ending)
  Awaits (Phase.Ended outcome) answer = ⊥
  Awaits (Phase.Storing number row) answer = answer ≡ HostAnswer.Done

  pub awaits : (asks : Request) (phase : Phase) (answer : HostAnswer) → MayAnswer flying asks (Answer.Host answer) → AsksOf course asks phase →
      ((fault : HostFault) → answer ≡ HostAnswer.Failed fault → ⊥) → Awaits phase answer
  awaits asks (Phase.Measuring measuring) answer (by_host place request its (is_measured path measure)) fits well = (measure, refl)
  awaits asks (Phase.Finding number) answer (by_host place request its can) fits well = absurd (asks_no_call course place request number fits)
  awaits asks (Phase.Putting number) answer (by_host place request its can) fits well = absurd (puts_no_call course place request number fits)
  awaits asks (Phase.Fetching number) answer (by_host place request its (is_fetched its_key folder files found among)) fits well = (found, refl)
  awaits asks (Phase.Touching number) answer (by_host place request its can) fits well = absurd (touches_no_call course place request number fits)
  awaits asks (Phase.Dropping number) answer (by_host place request its can) fits well = absurd (drops_no_call course place request number fits)
  awaits asks (Phase.Staging number) answer (by_host place request its (is_staged plan folder)) fits well = refl
  awaits asks (Phase.Working number work) answer may fits well = tt
  awaits asks Phase.Collecting answer (by_host place request its (has_ended ending flies)) fits well = (ending, refl)
  awaits asks Phase.Draining answer (by_host place request its (has_ended ending flies)) fits well = (ending, refl)
  awaits asks (Phase.Delivering outputs) answer (by_host place request its (is_delivered plan)) fits well = refl
  awaits asks (Phase.Ended outcome) answer (by_host place request its can) fits well = absurd (asks_none course place request outcome fits)
  awaits asks (Phase.Storing number row) answer (by_host place request its (is_stored key folder files)) fits well = refl
  awaits asks (Phase.Discarding number left) answer (by_host place request its (is_discarded key)) fits well = refl
  awaits asks phase answer (by_host place request its (has_failed call)) fits well = absurd (well (fault_of call) refl)
  awaits asks phase answer (by_host place request its can) fits well = absurd fits

  -- any other phase waits for none
  pub awaits_none : (phase : Phase) (answer : HostAnswer) → Awaits phase answer → ((measuring : Measuring) → phase ≡ Phase.Measuring measuring → ⊥) →
      ((number : ℕ) → phase ≡ Phase.Fetching number → ⊥) → ((number : ℕ) → phase ≡ Phase.Staging number → ⊥) → ((number : ℕ) (work : JobPhase) → phase ≡ Phase.Working number work → ⊥) → (phase ≡ Phase.Collecting → ⊥) →
      ((outputs : Value) → phase ≡ Phase.Delivering outputs → ⊥) → (phase ≡ Phase.Draining → ⊥) →
      ((number : ℕ) (row : Row) → phase ≡ Phase.Storing number row → ⊥) → ((number : ℕ) (left : List Name) → phase ≡ Phase.Discarding number left → ⊥) → ⊥
  awaits_none (Phase.Measuring measuring) answer waits no_measuring no_fetching no_staging no_working no_collecting no_delivering no_draining no_storing no_discarding = no_measuring measuring refl
  awaits_none (Phase.Finding number) answer waits no_measuring no_fetching no_staging no_working no_collecting no_delivering no_draining no_storing no_discarding = waits
  awaits_none (Phase.Putting number) answer waits no_measuring no_fetching no_staging no_working no_collecting no_delivering no_draining no_storing no_discarding = waits
  awaits_none (Phase.Touching number) answer waits no_measuring no_fetching no_staging no_working no_collecting no_delivering no_draining no_storing no_discarding = waits
  awaits_none (Phase.Dropping number) answer waits no_measuring no_fetching no_staging no_working no_collecting no_delivering no_draining no_storing no_discarding = waits
  awaits_none (Phase.Fetching number) answer waits no_measuring no_fetching no_staging no_working no_collecting no_delivering no_draining no_storing no_discarding = no_fetching number refl
  awaits_none (Phase.Staging number) answer waits no_measuring no_fetching no_staging no_working no_collecting no_delivering no_draining no_storing no_discarding = no_staging number refl
  awaits_none (Phase.Working number work) answer waits no_measuring no_fetching no_staging no_working no_collecting no_delivering no_draining no_storing no_discarding = no_working number work refl
  awaits_none Phase.Collecting answer waits no_measuring no_fetching no_staging no_working no_collecting no_delivering no_draining no_storing no_discarding = no_collecting refl
  awaits_none (Phase.Delivering outputs) answer waits no_measuring no_fetching no_staging no_working no_collecting no_delivering no_draining no_storing no_discarding = no_delivering outputs refl
  awaits_none Phase.Draining answer waits no_measuring no_fetching no_staging no_working no_collecting no_delivering no_draining no_storing no_discarding = no_draining refl
  awaits_none (Phase.Ended outcome) answer waits no_measuring no_fetching no_staging no_working no_collecting no_delivering no_draining no_storing no_discarding = waits
  awaits_none (Phase.Storing number row) answer waits no_measuring no_fetching no_staging no_working no_collecting no_delivering no_draining no_storing no_discarding = no_storing number row refl
  awaits_none (Phase.Discarding number left) answer waits no_measuring no_fetching no_staging no_working no_collecting no_delivering no_draining no_storing no_discarding = no_discarding number left refl

  -- the job that an archive is made for, or discarded, is known, which was asked
  pub known_for : (asks : Request) (phase : Phase) → AsksOf course asks phase → IsForKnown course phase
  known_for (Request.Host place (HostRequest.Store key folder files)) (Phase.Storing number row) fits = fits
  known_for (Request.Record place request) (Phase.Storing number row) fits = absurd (stores_no_row course place request number row fits)
  known_for asks (Phase.Storing number row) fits = absurd fits
  known_for (Request.Host place (HostRequest.Discard key)) (Phase.Discarding number left) fits = fits
  known_for (Request.Record place request) (Phase.Discarding number left) fits = absurd (discards_no_row course place request number left fits)
  known_for asks (Phase.Discarding number left) fits = absurd fits
  known_for asks phase fits = tt

  -- the record's answer is one to what was asked for a known job
  pub record AtRecord (phase : Phase) (answer : RecordAnswer) : Type 0 where
    pub ready : IsReady course
    pub waits : WaitsForRecord course phase answer

  pub at_record : (asks : Request) (phase : Phase) (answer : RecordAnswer) → MayAnswer flying asks (Answer.Record answer) → AsksOf course asks phase → IsReadyFor course phase →
      AtRecord phase answer
  at_record asks (Phase.Finding number) answer (by_record place request its (is_found key row same)) fits ready = record { ready = ready; waits = (fits, tt) }
  at_record asks (Phase.Finding number) answer (by_record place request its (is_refused (RecordRequest.Find key) refusal)) fits ready = record { ready = ready; waits = (fits, tt) }
  at_record asks (Phase.Putting number) answer (by_record place request its (is_put row gone)) fits ready = record { ready = ready; waits = (fits, tt) }
  at_record asks (Phase.Putting number) answer (by_record place request its (is_refused (RecordRequest.Put row) refusal)) fits ready = record { ready = ready; waits = (fits, tt) }
  at_record asks (Phase.Touching number) answer (by_record place request its (is_touched key)) fits ready = record { ready = ready; waits = (fits, tt) }
  at_record asks (Phase.Touching number) answer (by_record place request its (is_refused (RecordRequest.Touch key) refusal)) fits ready = record { ready = ready; waits = (fits, tt) }
  at_record asks (Phase.Dropping number) answer (by_record place request its (is_dropped key)) fits ready = record { ready = ready; waits = (fits, tt) }
  at_record asks (Phase.Dropping number) answer (by_record place request its (is_refused (RecordRequest.DropArchive key) refusal)) fits ready = record { ready = ready; waits = (fits, tt) }
  at_record asks (Phase.Fetching number) answer (by_record place request its can) fits ready = absurd (fetches_no_row course place request number fits)
  at_record asks (Phase.Discarding number left) answer (by_record place request its can) fits ready = absurd (discards_no_row course place request number left fits)
  at_record asks phase answer (by_record place request its (is_refused (RecordRequest.Find key) refusal)) fits ready = absurd fits
  at_record asks phase answer (by_record place request its (is_refused (RecordRequest.Put row) refusal)) fits ready = absurd fits
  at_record asks phase answer (by_record place request its (is_refused (RecordRequest.Touch key) refusal)) fits ready = absurd fits
  at_record asks phase answer (by_record place request its (is_refused (RecordRequest.DropArchive key) refusal)) fits ready = absurd fits
  at_record asks phase answer (by_record place request its can) fits ready = absurd fits

  pub it_flies : (asks : Request) (ending : ChildEnd) → MayAnswer flying asks (Answer.Host (HostAnswer.Ended ending)) → Contains flying ending.ticket
  it_flies asks ending (by_host place request answer (has_ended ended flies)) = flies
