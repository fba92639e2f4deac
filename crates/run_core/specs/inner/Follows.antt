-- What the machine turns to after each answer.
use Rattle.std.specs.Prelude.{◌≡◌, ◌≤◌, ◌<◌, ◌+◌, ◌^◌, ℕ, true, false, List, [], Result, Some, Ok, Err, Contains, length, slice_get}
use Rattle.std.specs.List.{remove}
use Rattle.proc_host.specs.Tickets.{without}
use Rattle.proc_host.specs.declared.call.HostAnswer.{HostAnswer}
use Rattle.proc_host.specs.declared.call.HostFault.{HostFault}
use Rattle.proc_host.specs.declared.call.HostRequest.{HostRequest}
use Rattle.proc_host.specs.declared.child.ChildEnd.{ChildEnd}
use Rattle.run_rules.specs.declared.outcome.RunFault.{RunFault}
use Rattle.run_rules.specs.declared.request.Answer.{Answer}
use Rattle.run_rules.specs.declared.request.RecordAnswer.{RecordAnswer}
use Rattle.run_rules.specs.declared.request.RecordRequest.{RecordRequest}
use Rattle.run_rules.specs.declared.request.Request.{Request}
use Rattle.run_rules.specs.Answers.{flying_after}
use Rattle.job_graph.specs.Words.{JobPlace}
use Rattle.run_core.specs.declared.state.Course.{Course}
use Rattle.run_core.specs.declared.state.Flight.{Flight}
use Rattle.run_core.specs.declared.state.Given.{Given}
use Rattle.run_core.specs.declared.state.JobPhase.{JobPhase}
use Rattle.run_core.specs.declared.state.Phase.{Phase}
use Rattle.run_core.specs.declared.state.Turn.{Turn}
use Rattle.run_core.specs.inner.Course.{Past, TellsAlike, known_in, past_of, place_at, store_note, with_note}
use Rattle.run_core.specs.inner.Discards.{AfterDrop, AfterPut, DiscardsOn, DiscardsPast}
use Rattle.run_core.specs.inner.Measures.{TakesMeasure}
use Rattle.run_core.specs.inner.Picks.{AfterChild, AfterFault, AfterFind, AfterInputHead, AfterListing, AfterOutputHead, AfterStaging, AfterStart, PutsRow, AfterFetch, AfterTouch}
use Rattle.run_core.specs.inner.Planning.{Replans}
use Rattle.run_core.specs.inner.Standing.{pairs_ahead}
use Rattle.run_core.specs.inner.Turn.{ends, lost_after, succeeds}

-- what each step needs of the course: its lists fit one another, and folders have numbers
pub record IsReady (course : Course) : Type 0 where
  pub as_many : length course.flights.items ≡ length course.tickets.items
  pub flights : (flight : Flight) → Contains course.flights.items flight → flight.job < length course.jobs
  pub staged : length course.jobs ≤ length (known_in course.known)
  pub folders : course.folders + 2 < 2 ^ 64

-- what comes after memory ran out needs nothing of it
abbrev pub IsReadyFor : Course → Phase → Type 0
IsReadyFor course Phase.Draining = Unit {0}
IsReadyFor course phase = IsReady course

-- the job of a number may be staged: it is known
pub record CanStage (course : Course) (job : ℕ) : Type 0 where
  pub known : job < length (known_in course.known)

-- the phase fits what is asked
abbrev pub AsksOf : Course → Request → Phase → Type 0
AsksOf course (Request.Host place (HostRequest.Measure path)) (Phase.Measuring measuring) = Unit {0}
AsksOf course (Request.Record place (RecordRequest.Find key)) (Phase.Finding job) = job < length (known_in course.known)
AsksOf course (Request.Record place (RecordRequest.Put row)) (Phase.Putting job) = job < length (known_in course.known)
AsksOf course (Request.Record place (RecordRequest.Touch key)) (Phase.Touching job) = job < length (known_in course.known)
AsksOf course (Request.Record place (RecordRequest.DropArchive key)) (Phase.Dropping job) = job < length (known_in course.known)
AsksOf course (Request.Host place (HostRequest.Discard key)) (Phase.Discarding job left) = job < length (known_in course.known)
AsksOf course (Request.Host place (HostRequest.Fetch key number files)) (Phase.Fetching job) = job < length (known_in course.known)
AsksOf course (Request.Host place (HostRequest.Stage plan folder)) (Phase.Staging job) = CanStage course job
AsksOf course (Request.Host place (HostRequest.Head path limit)) (Phase.Working job (JobPhase.Filling filling)) = job < length course.jobs
AsksOf course (Request.Host place (HostRequest.Start launch)) (Phase.Working job (JobPhase.Starting kept)) = job < length course.jobs
AsksOf course (Request.Host place (HostRequest.Scan folder)) (Phase.Working job (JobPhase.Scanning kept millis)) = job < length course.jobs
AsksOf course (Request.Host place (HostRequest.Head path limit)) (Phase.Working job (JobPhase.Reading kept reading)) = job < length course.jobs
AsksOf course (Request.Host place HostRequest.Collect) Phase.Collecting = Unit {0}
AsksOf course (Request.Host place HostRequest.Collect) Phase.Draining = Unit {0}
AsksOf course (Request.Host place (HostRequest.Deliver plan)) (Phase.Delivering outputs) = Unit {0}
AsksOf course Request.Finished (Phase.Ended outcome) = Unit {0}
AsksOf course (Request.Host place (HostRequest.Store key folder files)) (Phase.Storing job row) = job < length (known_in course.known)
AsksOf course asks phase = ⊥

-- the job that an archive is made for, or discarded, is known
abbrev pub IsForKnown : Course → Phase → Type 0
IsForKnown course (Phase.Storing job row) = job < length (known_in course.known)
IsForKnown course (Phase.Discarding job left) = job < length (known_in course.known)
IsForKnown course phase = Unit {0}

abbrev pub AsksIn : Course → Turn → Type 0
AsksIn course turn = AsksOf course turn.asks turn.phase

-- a child has ended after memory ran out
pub record Drains (old : Course) (ending : ChildEnd) (turn : Turn) (new : Course) : Type 0 where
  pub tickets : new.tickets.items ≡ without ending.ticket old.tickets.items
  pub is : turn ≡ lost_after (past_of new)

-- the place of the job that is asked for
abbrev pub asked_at : Request → JobPlace
asked_at (Request.Host place call) = place
asked_at (Request.Record place command) = place
asked_at Request.Finished = []

-- a call failed; after a failed collect nobody waits for the children in flight any more, where a job's files could not be archived, its row
-- is put all the same, and where an archive could not be discarded, the others are
abbrev pub AfterFailure : Given → Course → Request → Phase → HostFault → Turn → Course → Type 0
AfterFailure given old asks Phase.Collecting fault turn new = (turn ≡ ends (Err (RunFault.Host fault old.tickets.items))) × (new.known ≡ old.known) × (new.tickets.items ≡ []) × TellsAlike (past_of old) (past_of new)
AfterFailure given old asks Phase.Draining fault turn new = (turn ≡ ends (Err RunFault.OutOfMemory)) × (new.tickets.items ≡ [])
AfterFailure given old asks (Phase.Storing number row) fault turn new =
    PutsRow old number (record row { archived = false }) (with_note (store_note (place_at (known_in old.known) number) fault) (past_of old)) turn new
AfterFailure given old asks (Phase.Discarding number left) fault turn new = DiscardsPast given old number left fault turn new
AfterFailure given old asks phase fault turn new = AfterFault given old (asked_at asks) fault turn new

-- the open work on a job goes on, by what it waits for
abbrev pub FollowsWork : Given → Course → ℕ → JobPhase → HostAnswer → Turn → Course → Type 0
FollowsWork given old number (JobPhase.Filling filling) (HostAnswer.FirstBytes bytes) turn new = AfterInputHead given old number filling bytes turn new
FollowsWork given old number (JobPhase.Starting kept) (HostAnswer.Started ticket) turn new = AfterStart given old number kept ticket turn new
FollowsWork given old number (JobPhase.Scanning kept millis) (HostAnswer.Listed found) turn new = AfterListing given old number kept millis found turn new
FollowsWork given old number (JobPhase.Reading kept reading) (HostAnswer.FirstBytes bytes) turn new = AfterOutputHead given old number kept reading bytes turn new
FollowsWork given old number work answer turn new = ⊥

-- what follows from an answer, by where the machine was
abbrev pub FollowsIn : Given → Course → Phase → HostAnswer → Request → Turn → Course → Type 0
FollowsIn given old phase (HostAnswer.Failed fault) asks turn new = AfterFailure given old asks phase fault turn new
FollowsIn given old (Phase.Measuring measuring) (HostAnswer.Measured measure) asks turn new = TakesMeasure given old measuring measure turn new
FollowsIn given old (Phase.Fetching number) (HostAnswer.Fetched found) asks turn new = AfterFetch old number found turn new
FollowsIn given old (Phase.Staging number) HostAnswer.Done (Request.Host place (HostRequest.Stage plan folder)) turn new = AfterStaging given old number plan.value turn new
FollowsIn given old (Phase.Working number work) answer asks turn new = FollowsWork given old number work answer turn new
FollowsIn given old Phase.Collecting (HostAnswer.Ended ending) asks turn new = AfterChild given old ending turn new
FollowsIn given old Phase.Draining (HostAnswer.Ended ending) asks turn new = Drains old ending turn new
FollowsIn given old (Phase.Delivering outputs) HostAnswer.Done asks turn new = (turn ≡ succeeds outputs) × Replans given old new
FollowsIn given old (Phase.Storing number row) HostAnswer.Done asks turn new = PutsRow old number (record row { archived = true }) (past_of old) turn new
FollowsIn given old (Phase.Discarding number left) HostAnswer.Done asks turn new = DiscardsOn given old number left turn new
FollowsIn given old phase answer asks turn new = ⊥

-- what follows from an answer of the record's
abbrev pub FollowsRecord : Given → Course → Phase → RecordAnswer → Turn → Course → Type 0
FollowsRecord given old (Phase.Finding number) answer turn new = AfterFind given old number answer turn new
FollowsRecord given old (Phase.Putting number) answer turn new = AfterPut given old number answer turn new
FollowsRecord given old (Phase.Touching number) answer turn new = AfterTouch given old number answer turn new
FollowsRecord given old (Phase.Dropping number) answer turn new = AfterDrop old number answer turn new
FollowsRecord given old phase answer turn new = ⊥

abbrev pub FollowsFrom : Given → Course → Turn → Answer → Turn → Course → Type 0
FollowsFrom given old before (Answer.Host answer) turn new = FollowsIn given old before.phase answer before.asks turn new
FollowsFrom given old before (Answer.Record answer) turn new = FollowsRecord given old before.phase answer turn new

-- an answer to what the open work on a job waits for
abbrev pub AnswersWork : JobPhase → HostAnswer → Type 0
AnswersWork (JobPhase.Filling filling) (HostAnswer.FirstBytes bytes) = Unit {0}
AnswersWork (JobPhase.Starting kept) (HostAnswer.Started ticket) = Unit {0}
AnswersWork (JobPhase.Scanning kept millis) (HostAnswer.Listed found) = Unit {0}
AnswersWork (JobPhase.Reading kept reading) (HostAnswer.FirstBytes bytes) = Unit {0}
AnswersWork work answer = ⊥

-- an answer that a find can have
abbrev pub IsOfAFind : RecordAnswer → Type 0
IsOfAFind (RecordAnswer.Found row) = Unit {0}
IsOfAFind (RecordAnswer.Refused refusal) = Unit {0}
IsOfAFind answer = ⊥

-- and a put
abbrev pub IsOfAPut : RecordAnswer → Type 0
IsOfAPut (RecordAnswer.Put gone) = Unit {0}
IsOfAPut (RecordAnswer.Refused refusal) = Unit {0}
IsOfAPut answer = ⊥

-- and a touch, or a drop
abbrev pub IsDoneOrNot : RecordAnswer → Type 0
IsDoneOrNot RecordAnswer.Done = Unit {0}
IsDoneOrNot (RecordAnswer.Refused refusal) = Unit {0}
IsDoneOrNot answer = ⊥

-- the row of a known job is looked for, or put, or its archive is told of, and the record can answer so
abbrev pub WaitsForRecord : Course → Phase → RecordAnswer → Type 0
WaitsForRecord course (Phase.Finding number) answer = (number < length (known_in course.known)) × IsOfAFind answer
WaitsForRecord course (Phase.Putting number) answer = (number < length (known_in course.known)) × IsOfAPut answer
WaitsForRecord course (Phase.Touching number) answer = (number < length (known_in course.known)) × IsDoneOrNot answer
WaitsForRecord course (Phase.Dropping number) answer = (number < length (known_in course.known)) × IsDoneOrNot answer
WaitsForRecord course phase answer = ⊥

abbrev pub IsStaging : Request → Type 0
IsStaging (Request.Host place (HostRequest.Stage plan folder)) = Unit {0}
IsStaging asks = ⊥

-- one child is taken out of those in flight
pub record IsOneLess (ticket : ℕ) (old new : List ℕ) : Type 0 where
  pub index : ℕ
  pub there : slice_get old index ≡ Some ticket
  pub is : new ≡ remove old index

-- the children in flight after an answer, where memory ran out for what comes next
abbrev pub IsLeftAfter : List ℕ → Answer → List ℕ → Type 0
IsLeftAfter old (Answer.Host (HostAnswer.Ended ending)) new = IsOneLess ending.ticket old new
IsLeftAfter old answer new = new ≡ flying_after old answer

-- what an answer makes of the machine: what follows from it, or nothing more but the ends of the children in flight where memory ran out
pub data Moves (given : Given) (old : Course) (before : Turn) (answer : Answer) : Turn → Course → Type 0 where
  moves : (turn : Turn) (new : Course) → FollowsFrom given old before answer turn new → Moves given old before answer turn new
  gives_up : (new : Course) → (before.phase ≡ Phase.Draining → ⊥) → IsLeftAfter old.tickets.items answer new.tickets.items → Moves given old before answer (lost_after (past_of new)) new

-- with so many pairs and room for so many: the end of each child in flight has room
abbrev pub HasPairs : ℕ → ℕ → Past → Turn → Type 0
HasPairs pairs room past turn = pairs + length past.tickets ≤ room

-- there is room for what comes next, or nothing more is asked but for the children in flight
pub data MakesRoom (pairs room : ℕ) (past : Past) (old : Turn) : Turn → Type 0 where
  has_room : pairs + pairs_ahead past old.phase ≤ room → MakesRoom pairs room past old old
  no_room : pairs + length past.tickets ≤ room → MakesRoom pairs room past old (lost_after past)

-- what `take` answers: an error where memory ran out and no child is in flight
abbrev pub told_of : Phase → Result (Unit {0}) RunFault
told_of (Phase.Ended (Err RunFault.OutOfMemory)) = Err RunFault.OutOfMemory
told_of phase = Ok tt
