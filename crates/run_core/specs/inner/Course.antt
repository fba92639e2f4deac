-- What a run has come to, and what each event makes of it.
use Rattle.std.specs.Prelude.{Bool, false, Ok, Err, ◌≡◌, ◌<◌, ◌≤◌, ℕ, ◌+◌, cond, List, [], ◌∷◌, ◌++◌, Option, Some, None, Result, option_map, slice_get, unwrap_or}
use Rattle.std.specs.List.{remove}
use Rattle.std.specs.Option.{option_map_or}
use Rattle.job_graph.specs.declared.unfolding.Unfolding.{Unfolding}
use Rattle.job_rows.specs.declared.refusal.RecordRefusal.{RecordRefusal}
use Rattle.job_rows.specs.declared.row.Row.{Row}
use Rattle.proc_host.specs.declared.call.HostFault.{HostFault}
use Rattle.run_rules.specs.declared.outcome.Cause.{Cause}
use Rattle.run_rules.specs.declared.outcome.Note.{Note}
use Rattle.run_rules.specs.declared.outcome.NoteKind.{NoteKind}
use Rattle.run_rules.specs.declared.request.RecordAnswer.{RecordAnswer}
use Rattle.run_rules.specs.declared.outcome.Outcome.{Outcome}
use Rattle.run_rules.specs.declared.outcome.PlanNote.{PlanNote}
use Rattle.run_rules.specs.declared.outcome.RunFault.{RunFault}
use Rattle.job_graph.specs.Jobs.{Job}
use Rattle.job_graph.specs.Unfold.{Known, known_from, or_else}
use Rattle.job_graph.specs.Words.{JobPlace, is_same_place}
use Rattle.plan_keeper.specs.declared.planned.Planned.{Planned}
use Rattle.run_core.specs.declared.state.Course.{Course}
use Rattle.run_core.specs.declared.state.Flight.{Flight}
use Rattle.run_core.specs.declared.job_states.JobState.{JobState}
use Rattle.run_core.specs.declared.state.Kept.{Kept}
pub use Rattle.run_core.specs.inner.Archives.{is_lost_in}
pub use Rattle.run_core.specs.inner.Known.{known_in}
use Rattle.run_core.specs.inner.FoundRows.{row_in, rows_after}
use Rattle.run_core.specs.inner.JobStates.{brought_in, given_up_in, loaded_in, missed_in, staged_in}

-- the known jobs, with the numbers of their parents
abbrev pub families_in : Option Unfolding → List Known
families_in known = known_from [] (known_in known)

-- what is kept of the events, but for what is known
pub record Past : Type 0 where
  pub tickets : List ℕ
  pub flights : List Flight
  pub jobs : List JobState
  pub folders : ℕ
  pub looked_up : ℕ
  pub rows : List (Option Row)
  pub lost : List (List ℕ)
  pub notes : List Note
  pub planned : Option Planned
  pub plans : List PlanNote
  pub end : Option (Result Outcome RunFault)

abbrev pub past_of : Course → Past
past_of course = record {
  tickets = course.tickets.items;
  flights = course.flights.items;
  jobs = course.jobs;
  folders = course.folders;
  looked_up = course.looked_up;
  rows = course.rows;
  lost = course.lost.items;
  notes = course.notes.items;
  planned = course.planned;
  plans = course.plans.items;
  end = course.end;
}

abbrev pub nothing_past : Past
nothing_past = record { tickets = []; flights = []; jobs = []; folders = 0; looked_up = 0; rows = []; lost = []; notes = []; planned = None; plans = []; end = None }

-- what is reported of a run, and shown of its plans, stays
pub record TellsAlike (old new : Past) : Type 0 where
  pub notes : new.notes ≡ old.notes
  pub planned : new.planned ≡ old.planned
  pub plans : new.plans ≡ old.plans

-- the place of the job of a number
abbrev pub place_at : List Job → ℕ → JobPlace
place_at jobs number = unwrap_or (option_map (λ job. job.place) (slice_get jobs number)) []

-- the number of the folders of the job at a place; 0 where it was never staged
abbrev pub number_in : List Job → List JobState → JobPlace → ℕ
number_in [] states place = 0
number_in (job ∷ jobs) [] place = 0
number_in (job ∷ jobs) (state ∷ states) place = cond (is_same_place job.place place) state.folder (number_in jobs states place)

-- whether these are the folders of a fetch
abbrev pub fetched_in : List Job → List JobState → JobPlace → Bool
fetched_in [] states place = false
fetched_in (job ∷ jobs) [] place = false
fetched_in (job ∷ jobs) (state ∷ states) place = cond (is_same_place job.place place) state.fetched (fetched_in jobs states place)

-- the first failure settles the end
abbrev pub with_end : Result Outcome RunFault → Past → Past
with_end end past = record past { end = or_else past.end (Some end) }

-- the record has told this of the job of a number, or there is a refusal that settles the end
abbrev pub with_answer : ℕ → RecordAnswer → Option RecordRefusal → Past → Past
with_answer number answer None past = record past { looked_up = number + 1; rows = rows_after number answer past.rows }
with_answer number answer (Some refusal) past = with_end (Err (RunFault.Record refusal)) past

-- this went wrong, and the end stays
abbrev pub with_note : Note → Past → Past
with_note note past = record past { notes = past.notes ++ note ∷ [] }

-- this plan was made after so many answers, and is in force
abbrev pub with_plan : ℕ → Planned → Past → Past
with_plan after made past = record past { planned = Some made; plans = past.plans ++ record { after = after; cost = made.cost } ∷ [] }

-- what went wrong so for the job at a place
abbrev pub note_at : JobPlace → NoteKind → Note
note_at place kind = record { place = place; kind = kind }

-- the record refused to keep the row of the job at a place
abbrev pub put_note : JobPlace → RecordRefusal → Note
put_note place refusal = note_at place (NoteKind.Put refusal)

-- the files of the job at a place could not be archived
abbrev pub store_note : JobPlace → HostFault → Note
store_note place fault = note_at place (NoteKind.Store fault)

-- a call for the job at a place failed once the end was settled
abbrev pub late_note : JobPlace → HostFault → Note
late_note place fault = note_at place (NoteKind.Late fault)

-- a call for the job at a place failed: that settles the end, and where it was settled before, it is noted
abbrev pub fault_after : Option (Result Outcome RunFault) → JobPlace → HostFault → Past → Past
fault_after None place fault past = with_end (Err (RunFault.Host fault [])) past
fault_after (Some end) place fault past = with_note (late_note place fault) past

abbrev pub with_fault : JobPlace → HostFault → Past → Past
with_fault place fault past = fault_after past.end place fault past

-- the end by a job that gives no outputs: a mismatch where a row was found for it
abbrev pub failure_by : Option Row → JobPlace → Cause → Result Outcome RunFault
failure_by None place cause = Ok (Outcome.PermanentFail place cause)
failure_by (Some row) place cause = Err (RunFault.Mismatch place)

abbrev pub failure_in : Past → ℕ → JobPlace → Cause → Result Outcome RunFault
failure_in past number place cause = failure_by (row_in past.rows number) place cause

-- the files of the job of a number were fetched
abbrev pub with_load : ℕ → Past → Past
with_load number past = record past { folders = past.folders + 1; jobs = loaded_in number (past.folders + 1) past.jobs }

-- the key of the row that was found for the job of a number; empty where there is none
abbrev pub key_in : List (Option Row) → ℕ → List ℕ
key_in rows number = option_map_or (λ (row : Row). row.key) (row_in rows number) []

-- what was fetched is not what its row has
abbrev pub with_loss : ℕ → Past → Past
with_loss number past = record past {
  folders = past.folders + 1;
  jobs = missed_in number past.jobs;
  lost = past.lost ++ key_in past.rows number ∷ [];
}

-- the record refused to note that the archive of the row of the job at a place is gone
abbrev pub drop_note : JobPlace → RecordRefusal → Note
drop_note place refusal = note_at place (NoteKind.Drop refusal)

-- or that it was used
abbrev pub touch_note : JobPlace → RecordRefusal → Note
touch_note place refusal = note_at place (NoteKind.Touch refusal)

-- an archive could not be discarded for the job at a place
abbrev pub discard_note : JobPlace → HostFault → Note
discard_note place fault = note_at place (NoteKind.Discard fault)

abbrev pub with_staging : ℕ → Past → Past
with_staging number past = record past { folders = past.folders + 1; jobs = staged_in number (past.folders + 1) past.jobs }

-- the outputs of the job of a number are at hand
abbrev pub with_hand : ℕ → Past → Past
with_hand number past = record past { jobs = brought_in number past.jobs }

abbrev pub with_start : ℕ → Kept → ℕ → Past → Past
with_start number kept ticket past = record past {
  tickets = past.tickets ++ ticket ∷ [];
  flights = past.flights ++ record { job = number; kept = kept } ∷ [];
}

-- the job of a number failed temporarily once more, and waits again
abbrev pub with_giving_up : ℕ → Past → Past
with_giving_up number past = record past { jobs = given_up_in number past.jobs }

-- the child of a ticket is taken out of those in flight
pub record TakesOut (ticket : ℕ) (flight : Flight) (old new : Past) : Type 0 where
  pub index : ℕ
  pub ticket_there : slice_get old.tickets index ≡ Some ticket
  pub flight_there : slice_get old.flights index ≡ Some flight
  pub is : new ≡ record old { tickets = remove old.tickets index; flights = remove old.flights index }

-- what a job's temporary failure comes to: it waits to be started again, or its retries are used up
pub data GivesUp (jobs : List Job) (number retries : ℕ) (old : Past) : Past → Type 0 where
  again : (state : JobState) → slice_get old.jobs number ≡ Some state → state.gave_up < retries → GivesUp jobs number retries old (with_giving_up number old)
  too_often : (state : JobState) → slice_get old.jobs number ≡ Some state → retries ≤ state.gave_up →
      GivesUp jobs number retries old (with_end (Ok (Outcome.TemporaryFail (place_at jobs number))) old)
