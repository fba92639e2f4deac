-- What each step leaves: the run stays bounded, what it blames on the host is so, and memory is not what it ends by.
use Rattle.std.specs.Prelude.{◌&&◌, IfErr, IsSome, is_some}
use Rattle.std.specs.List.{list_all}
use Rattle.std.proofs.Common.{◌≡◌, ◌∙◌, ℕ, ◌<◌, ◌≤◌, Bool, true, false, List, [], ◌∷◌, ◌++◌, length, reverse, Option, Some, None, Result, Ok, Err, refl, sym, ap, subst, arith}
use Rattle.std.proofs.lemmas.Bool.{and_parts}
use Rattle.plan_checker.specs.Plan.{mark}
use Rattle.plan_checker.specs.declared.graph.TheConstants.{MOST_VERTICES}
use Rattle.proc_host.specs.declared.call.Entry.{Entry}
use Rattle.job_graph.specs.declared.unfolding.Unfolding.{Unfolding}
use Rattle.job_graph.specs.declared.fault.UnfoldFault.{UnfoldFault}
use Rattle.job_graph.specs.Jobs.{Job, Walker}
use Rattle.job_graph.specs.Unfold.{Resolved, or_else}
use Rattle.run_rules.specs.declared.outcome.Outcome.{Outcome}
use Rattle.run_rules.specs.declared.outcome.RunFault.{RunFault}
use Rattle.run_rules.specs.declared.setting.Options.{Options}
use Rattle.run_rules.specs.Blame.{BlamesRightly}
use Rattle.run_rules.specs.declared.request.RecordAnswer.{RecordAnswer}
use Rattle.job_rows.specs.declared.refusal.RecordRefusal.{RecordRefusal}
use Rattle.run_core.specs.declared.state.Course.{Course}
use Rattle.run_core.specs.declared.state.Given.{Given}
use Rattle.run_core.specs.declared.state.JobNext.{JobNext}
use Rattle.run_core.specs.declared.state.Phase.{Phase}
use Rattle.run_core.specs.declared.state.Turn.{Turn}
use Rattle.run_core.specs.inner.Attempts.{StaysBounded}
use Rattle.run_core.specs.inner.Course.{GivesUp, Past, again, families_in, known_in, past_of, too_often, with_answer, discard_note, drop_note, failure_by, place_at, put_note, touch_note}
use Rattle.run_core.specs.inner.Knows.{IsKnown, IsUnfolded, Learns, LearnsUnlessOver, end_by, fails as unfold_fails, knows as unfold_knows}
use Rattle.run_core.specs.inner.Picks.{AfterTemporary, Chooses, Delivers, Picks, Stages, Turns, asks, chooses, delivers, drains, ends_so, fails, gives, has_result, stages, succeeds_at_once, waits_for_one, AfterFetch, AfterFind, AfterTouch, Finds, finds, LearnsRow, PicksAfter, PutsOrPicks, mismatches, repeats, PutsRow, fetches, agrees, differs, touched_by}
use Rattle.run_core.specs.inner.Discards.{AfterDrop, AfterPut, DiscardsOn, DiscardsPast, discards_one, dropped_by, none_left}
use Rattle.proc_host.specs.declared.call.HostFault.{HostFault}
use Rattle.run_core.specs.inner.Fetches.{Fetches}
use Rattle.run_core.specs.inner.Marks.{is_compute, marks_in}
use Rattle.run_core.specs.inner.Planning.{Replans, fails as none_planned, plans, stays}
use Rattle.staging.specs.declared.found.Found.{Found}
use Rattle.run_core.specs.inner.Standing.{Blames, SettlesRightly}
use Rattle.run_core.proofs.standing.Books.{Books, BooksAt, BooksFetching, books_brought, books_loaded, books_missed, books_untried, books_end, books_given_up, books_waiting, books_looked, books_noted, books_planned}
use Rattle.job_rows.specs.declared.row.Row.{Row}
use Rattle.run_rules.specs.declared.outcome.Cause.{Cause}
use Rattle.job_graph.specs.Words.{JobPlace, Name}
use Rattle.run_rules.specs.Folders.{out_folder}
use Rattle.run_core.specs.inner.JobStates.{state_at}
use Rattle.run_core.specs.inner.Turn.{keeps_row, puts}
use Rattle.run_core.specs.inner.FoundRows.{row_in}
use Rattle.run_core.specs.inner.JobStates.{IsLowest, is_there, parents_in, state_at, waits_in}
use Rattle.run_core.proofs.events.Families.{as_many}

-- with this turn and this course
pub record Leaves (options : Options) (entries : List Entry) (turn : Turn) (new : Course) : Type 0 where
  pub bounded : StaysBounded options (past_of new) turn.phase
  pub blames : Blames entries (past_of new) turn.phase
  pub not_lost : turn.phase ≡ Phase.Ended (Err RunFault.OutOfMemory) → ⊥
  pub goes : turn.phase ≡ Phase.Draining → ⊥

-- the files of the job of a number were not asked for before, and no more jobs are known than a graph may have
pub record IsUntried (course : Course) (number : ℕ) : Type 0 where
  pub untried : (state_at course.jobs number).tried ≡ false
  pub within : number < length (known_in course.known)
  pub few : length (known_in course.known) ≤ MOST_VERTICES

-- where a job is to be staged, no more jobs are known than a graph may have; and so where its files are to be fetched
pub record FewKnown (turn : Turn) (new : Course) : Type 0 where
  pub staged : (number : ℕ) → turn.phase ≡ Phase.Staging number → length (known_in new.known) ≤ MOST_VERTICES
  pub fetched : (number : ℕ) → turn.phase ≡ Phase.Fetching number → IsUntried new number

-- what is known is what some places unfold
pub record KnowsSome (course : Course) : Type 0 where
  pub walks : Walker
  pub learned : List Resolved
  pub is : IsKnown walks learned course.known

-- what was known is known still
pub known_still : (old new : Course) → new.end ≡ old.end → new.known ≡ old.known → (old.end ≡ None → KnowsSome old) → new.end ≡ None → KnowsSome new
known_still old new same known knows going =
    let some : KnowsSome old = knows (sym same ∙ going) in
    record { walks = some.walks; learned = some.learned; is = subst (λ (k : Option Unfolding). IsKnown some.walks some.learned k) (sym known) some.is }

pub is_none : {T : Type 0} (o : Option T) → is_some o ≡ false → o ≡ None
is_none None none = refl
is_none (Some x) none = absurd cc

-- where the end is settled, nothing is learned of a row
pub row_unlearned : (place : JobPlace) (answer : RecordAnswer) (old new : Course) → IsSome old.end → LearnsRow place answer old new → past_of new ≡ past_of old
row_unlearned place (RecordAnswer.Found (Some row)) old new over learns = learns.settled over
row_unlearned place (RecordAnswer.Found None) old new over learns = learns.0
row_unlearned place (RecordAnswer.Put gone) old new over learns = learns.0
row_unlearned place RecordAnswer.Done old new over learns = learns.0
row_unlearned place (RecordAnswer.Refused refusal) old new over learns = learns.0

pub settled_by_refusal : (refusal : RecordRefusal) (end : Option (Result Outcome RunFault)) → is_some (or_else end (Some (Err (RunFault.Record refusal)))) ≡ true
settled_by_refusal refusal None = refl
settled_by_refusal refusal (Some end) = refl

-- once each input file is measured, and while the end is open
abbrev pub MayKnow : Course → Phase → Type 0
MayKnow course (Phase.Measuring measuring) = Unit {0}
MayKnow course phase = course.end ≡ None → KnowsSome course

rightly : (entries : List Entry) (end : Result Outcome RunFault) → SettlesRightly entries end → IfErr end (BlamesRightly entries)
rightly entries (Ok report) settles = tt
rightly entries (Err (RunFault.Host fault running)) settles = settles
rightly entries (Err (RunFault.Record refusal)) settles = tt
rightly entries (Err (RunFault.Mismatch place)) settles = tt
rightly entries (Err RunFault.TooManyJobs) settles = tt
rightly entries (Err RunFault.OutOfMemory) settles = absurd settles

settles_by : (entries : List Entry) (fault : UnfoldFault) → SettlesRightly entries (end_by fault)
settles_by entries UnfoldFault.TooManyJobs = tt
settles_by entries (UnfoldFault.Fault place cause) = tt

-- what is learned where something is known
pub learns_by : (walks : Walker) (learned : List Resolved) (one : Resolved) (old new : Course) (known : Option Unfolding) → old.known ≡ known → IsKnown walks learned known →
    Learns one old new → IsUnfolded walks (learned ++ one ∷ []) old new
learns_by walks learned one old new None is knows learns = absurd knows
learns_by walks learned one old new (Some kept) is knows learns = learns walks learned kept is knows

-- a job that is ready waits
is_waiting : (course : Course) (number : ℕ) → IsLowest (marks_in course.planned) (families_in course.known) course.jobs number → waits_in course.jobs number ≡ true
is_waiting course number lowest =
    (and_parts (waits_in course.jobs number)
    (is_compute (mark (marks_in course.planned) number) && list_all (is_there course.jobs) (parents_in (families_in course.known) number)) lowest.ready).0

module _ (options : Options) (entries : List Entry) where
  pub leaves_end : (end : Result Outcome RunFault) (turn : Turn) (new : Course) → turn.phase ≡ Phase.Ended end → SettlesRightly entries end → Leaves options entries turn new
  leaves_end end turn new is settles = record {
    bounded = subst (λ (p : Phase). StaysBounded options (past_of new) p) (sym is) tt;
    blames = subst (λ (p : Phase). Blames entries (past_of new) p) (sym is) (rightly entries end settles);
    not_lost = λ lost.
        let same : Phase.Ended end ≡ Phase.Ended (Err RunFault.OutOfMemory) = sym is ∙ lost in
        let it : end ≡ Err RunFault.OutOfMemory = cc in
        subst (λ (e : Result Outcome RunFault). SettlesRightly entries e) it settles;
    goes = λ drains. let same : Phase.Ended end ≡ Phase.Draining = sym is ∙ drains in cc;
  }

  books_at : (one other : Past) → one ≡ other → Books options entries other → Books options entries one
  books_at one other same books = subst (λ (p : Past). Books options entries p) (sym same) books

  pub books_course : (new old : Course) → past_of new ≡ past_of old → Books options entries (past_of old) → Books options entries (past_of new)
  books_course new old same books = books_at (past_of new) (past_of old) same books

  -- What comes next

  module _ (given : Given) (its : given.options ≡ options) where
    leaves_staging : (number : ℕ) (course new : Course) (turn : Turn) → Stages given course number turn → past_of new ≡ past_of course →
        BooksAt options entries (past_of course) number → Leaves options entries turn new
    leaves_staging number course new turn staging same books =
        let at : BooksAt options entries (past_of new) number = subst (λ (p : Past). BooksAt options entries p number) (sym same) books in
        subst (λ (t : Turn). Leaves options entries t new) (sym staging.is)
        (record { bounded = at.bounded; blames = at.blames; not_lost = λ lost. cc; goes = λ drains. cc })

    leaves_finding : (number : ℕ) (course new : Course) (turn : Turn) → Finds course number turn → Books options entries (past_of new) → Leaves options entries turn new
    leaves_finding number course new turn finding books =
        subst (λ (t : Turn). Leaves options entries t new) (sym finding.is)
        (record { bounded = books.bounded; blames = books.blames; not_lost = λ lost. cc; goes = λ drains. cc })

    leaves_fetching : (number : ℕ) (course new : Course) (turn : Turn) → Fetches course number turn → past_of new ≡ past_of course →
        BooksFetching options entries (past_of course) number → Leaves options entries turn new
    leaves_fetching number course new turn fetching same books =
        let at : BooksFetching options entries (past_of new) number = subst (λ (p : Past). BooksFetching options entries p number) (sym same) books in
        subst (λ (t : Turn). Leaves options entries t new) (sym fetching.is)
        (record { bounded = at.bounded; blames = at.blames; not_lost = λ lost. cc; goes = λ drains. cc })

    leaves_delivery : (old new : Course) (turn : Turn) → Delivers given old turn → Books options entries (past_of new) → Leaves options entries turn new
    leaves_delivery old new turn (delivers its_turn files copies) books =
        subst (λ (t : Turn). Leaves options entries t new) (sym copies.is)
        (record { bounded = books.bounded; blames = books.blames; not_lost = λ lost. cc; goes = λ drains. cc })
    leaves_delivery old new turn (succeeds_at_once none) books = record { bounded = tt; blames = tt; not_lost = λ lost. cc; goes = λ drains. cc }

    books_replanned : (old : Course) {new : Course} → Books options entries (past_of old) → Replans given old new → Books options entries (past_of new)
    books_replanned old books (plans made new some is past known) =
        books_at (past_of new) _ past (books_planned options entries (past_of old) given.answers made books)
    books_replanned old books (stays new all past known) = books_course new old past books
    books_replanned old books (none_planned new none past known) = books_course new old past books

    chosen_leave : (old : Course) (turn : Turn) (new : Course) → FewKnown turn new → Books options entries (past_of old) → past_of new ≡ past_of old → new.known ≡ old.known →
        Chooses given old turn → Leaves options entries turn new
    chosen_leave old turn new few books same known (fetches number its_turn is_next fetching) =
        let its : IsUntried new number = few.fetched number (ap (λ (t : Turn). t.phase) fetching.is) in
        let untried : (state_at old.jobs number).tried ≡ false = ap (λ (p : Past). (state_at p.jobs number).tried) (sym same) ∙ its.untried in
        leaves_fetching number old new turn fetching same
        (books_untried options entries (past_of old) number (length (known_in new.known)) its.within its.few untried books)
    chosen_leave old turn new few books same known (stages number its_turn unfetched may staging) =
        let phase : turn.phase ≡ Phase.Staging number = ap (λ (t : Turn). t.phase) staging.is in
        let most : length (known_in old.known) ≤ MOST_VERTICES =
        subst (λ (k : Option Unfolding). length (known_in k) ≤ MOST_VERTICES) known (few.staged number phase) in
        let many : length (families_in old.known) ≡ length (known_in old.known) = as_many [] (known_in old.known) in
        leaves_staging number old new turn staging same
        (books_waiting options entries (past_of old) number (length (known_in old.known)) (omega (arith, may.lowest.within, many)) most (is_waiting old number may.lowest) books)
    chosen_leave old turn new few books same known (waits_for_one unfetched none flying) =
        let now : Books options entries (past_of new) = books_course new old same books in
        record { bounded = now.bounded; blames = now.blames; not_lost = λ lost. cc; goes = λ drains. cc }
    chosen_leave old turn new few books same known (has_result its_turn unfetched to_stage none result) =
        leaves_delivery old new turn result (books_course new old same books)

    pub picks_leave : (old : Course) (turn : Turn) (new : Course) → FewKnown turn new → Books options entries (past_of old) → Picks given old turn new → Leaves options entries turn new
    picks_leave old turn new few books (drains its_new settled flying same known) =
        let now : Books options entries (past_of new) = books_course new old same books in
        record { bounded = now.bounded; blames = now.blames; not_lost = λ lost. cc; goes = λ drains. cc }
    picks_leave old turn new few books (ends_so end its_new is none cleared known same_notes) = leaves_end end turn new refl (books.blames.settled end is)
    picks_leave old turn new few books (finds number its_turn its_new going is_next finding same known) = leaves_finding number old new turn finding (books_course new old same books)
    picks_leave old turn new few books (chooses planned its_turn its_new going looked replans chosen same known) =
        chosen_leave planned turn new few (books_replanned old books replans) same known chosen

    -- A job gave up

    books_gave_up : (past : Past) (jobs : List Job) (number retries : ℕ) {new : Past} → retries ≡ options.retries → GivesUp jobs number retries past new →
        Books options entries past → Books options entries new
    books_gave_up past jobs number retries limit (again state there few) books = books_given_up options entries past number state there (omega (arith, few, limit)) books
    books_gave_up past jobs number retries limit (too_often state there many) books = books_end options entries past _ tt books

    limit_is : given.options.retries ≡ options.retries
    limit_is = ap (λ (o : Options). o.retries) its

    pub leaves_temporary : (old : Course) (number : ℕ) (turn : Turn) (new : Course) → FewKnown turn new → Books options entries (past_of old) →
        AfterTemporary given old number turn new → Leaves options entries turn new
    leaves_temporary old number turn new few books after =
        picks_leave after.tried turn new few (books_gave_up (past_of old) (known_in old.known) number given.options.retries limit_is after.gives_up books) after.picks

    pub books_unfolded : (walks : Walker) (learned : List Resolved) (old new : Course) → IsUnfolded walks learned old new → Books options entries (past_of old) →
        Books options entries (past_of new)
    books_unfolded walks learned old new (unfold_knows kept its_new knows known same) books = books_course new old same books
    books_unfolded walks learned old new (unfold_fails fault its_new is known same) books =
        books_at (past_of new) _ same (books_end options entries (past_of old) (end_by fault) (settles_by entries fault) books)

    -- The record has answered

    books_answered : (past : Past) (number : ℕ) (answer : RecordAnswer) (refusal : Option RecordRefusal) → Books options entries past →
        Books options entries (with_answer number answer refusal past)
    books_answered past number answer None books = books_looked options entries past number answer books
    books_answered past number answer (Some refusal) books = books_end options entries past (Err (RunFault.Record refusal)) tt books

    unless_over_books : (old new : Course) (one : Resolved) → (old.end ≡ None → KnowsSome old) → LearnsUnlessOver one old new → Books options entries (past_of old) →
        Books options entries (past_of new)
    unless_over_books old new one knows l books = by (is_some old.end) refl
      where
        by : (over : Bool) → is_some old.end ≡ over → Books options entries (past_of new)
        by true over = books_course new old (l.settled over) books
        by false still =
            let going : old.end ≡ None = is_none old.end still in
            let some : KnowsSome old = knows going in
            books_unfolded some.walks _ old new (learns_by some.walks some.learned one old new old.known refl some.is (l.learned going)) books

    row_books : (place : JobPlace) (answer : RecordAnswer) (old new : Course) → (old.end ≡ None → KnowsSome old) → LearnsRow place answer old new → Books options entries (past_of old) →
        Books options entries (past_of new)
    row_books place (RecordAnswer.Found (Some row)) old new knows learns books = unless_over_books old new _ knows learns books
    row_books place (RecordAnswer.Found None) old new knows learns books = books_course new old learns.0 books
    row_books place (RecordAnswer.Put gone) old new knows learns books = books_course new old learns.0 books
    row_books place RecordAnswer.Done old new knows learns books = books_course new old learns.0 books
    row_books place (RecordAnswer.Refused refusal) old new knows learns books = books_course new old learns.0 books

    find_books : (old noted learned : Course) (number : ℕ) (answer : RecordAnswer) (refusal : Option RecordRefusal) → (old.end ≡ None → KnowsSome old) →
        past_of noted ≡ with_answer number answer refusal (past_of old) → noted.known ≡ old.known → LearnsRow (place_at (known_in old.known) number) answer noted learned →
        Books options entries (past_of noted) → Books options entries (past_of learned)
    find_books old noted learned number answer None knows past known learns books =
        row_books (place_at (known_in old.known) number) answer noted learned (known_still old noted (ap (λ (p : Past). p.end) past) known knows) learns books
    find_books old noted learned number answer (Some refusal) knows past known learns books =
        books_course learned noted
        (row_unlearned (place_at (known_in old.known) number) answer noted learned (ap (λ (p : Past). is_some p.end) past ∙ settled_by_refusal refusal old.end) learns) books

    pub leaves_find : (old : Course) (number : ℕ) (answer : RecordAnswer) (turn : Turn) (new : Course) → FewKnown turn new → (old.end ≡ None → KnowsSome old) →
        Books options entries (past_of old) → AfterFind given old number answer turn new → Leaves options entries turn new
    leaves_find old number answer turn new few knows books after =
        picks_leave after.learned turn new few
        (find_books old after.noted after.learned number answer after.refusal knows after.past after.known after.learns
        (books_at (past_of after.noted) _ after.past (books_answered (past_of old) number answer after.refusal books))) after.picks

    -- something is noted, and nothing is due
    leaves_after : (old : Course) (kept : Past) (turn : Turn) (new : Course) → FewKnown turn new → Books options entries kept → PicksAfter given old kept turn new →
        Leaves options entries turn new
    leaves_after old kept turn new few books after = picks_leave after.noted turn new few (books_at (past_of after.noted) kept after.past books) after.picks

    -- archives are discarded
    pub leaves_discards : (old : Course) (number : ℕ) (left : List Name) (turn : Turn) (new : Course) → FewKnown turn new → Books options entries (past_of old) →
        DiscardsOn given old number left turn new → Leaves options entries turn new
    leaves_discards old number left turn new few books (none_left none picks) = picks_leave old turn new few books picks
    leaves_discards old number left turn new few books (discards_one rest key is turn_is same known) =
        let now : Books options entries (past_of new) = books_course new old same books in
        subst (λ (t : Turn). Leaves options entries t new) (sym turn_is)
        (record { bounded = now.bounded; blames = now.blames; not_lost = λ lost. cc; goes = λ drains. cc })

    -- also where one could not be
    pub leaves_past : (old : Course) (number : ℕ) (left : List Name) (fault : HostFault) (turn : Turn) (new : Course) → FewKnown turn new → Books options entries (past_of old) →
        DiscardsPast given old number left fault turn new → Leaves options entries turn new
    leaves_past old number left fault turn new few books after =
        leaves_discards after.noted number left turn new few
        (books_at (past_of after.noted) _ after.past (books_noted options entries (past_of old) (discard_note (place_at (known_in old.known) number) fault) books)) after.on

    pub leaves_put : (old : Course) (number : ℕ) (answer : RecordAnswer) (turn : Turn) (new : Course) → FewKnown turn new → Books options entries (past_of old) →
        AfterPut given old number answer turn new → Leaves options entries turn new
    leaves_put old number (RecordAnswer.Put gone) turn new few books after = leaves_discards old number (reverse gone) turn new few books after.on
    leaves_put old number (RecordAnswer.Refused refusal) turn new few books after =
        leaves_after old _ turn new few (books_noted options entries (past_of old) (put_note (place_at (known_in old.known) number) refusal) books) after
    leaves_put old number (RecordAnswer.Found row) turn new few books after = absurd after
    leaves_put old number RecordAnswer.Done turn new few books after = absurd after

    -- the files of a job were fetched, or others were
    pub leaves_fetch : (old : Course) (number : ℕ) (found : List Found) (turn : Turn) (new : Course) → BooksFetching options entries (past_of old) number →
        AfterFetch old number found turn new → Leaves options entries turn new
    leaves_fetch old number found turn new books (agrees its turn_is past known) =
        let now : Books options entries (past_of new) = books_at (past_of new) _ past (books_loaded options entries (past_of old) number books) in
        subst (λ (t : Turn). Leaves options entries t new) (sym turn_is)
        (record { bounded = now.bounded; blames = now.blames; not_lost = λ lost. cc; goes = λ drains. cc })
    leaves_fetch old number found turn new books (differs other turn_is past known) =
        let now : Books options entries (past_of new) = books_at (past_of new) _ past (books_missed options entries (past_of old) number books) in
        subst (λ (t : Turn). Leaves options entries t new) (sym turn_is)
        (record { bounded = now.bounded; blames = now.blames; not_lost = λ lost. cc; goes = λ drains. cc })

    books_touched : (past : Past) (place : JobPlace) (answer : RecordAnswer) → Books options entries past → Books options entries (touched_by place answer past)
    books_touched past place (RecordAnswer.Found row) books = books
    books_touched past place (RecordAnswer.Put gone) books = books
    books_touched past place RecordAnswer.Done books = books
    books_touched past place (RecordAnswer.Refused refusal) books = books_noted options entries past (touch_note place refusal) books

    pub leaves_touch : (old : Course) (number : ℕ) (answer : RecordAnswer) (turn : Turn) (new : Course) → FewKnown turn new → Books options entries (past_of old) →
        AfterTouch given old number answer turn new → Leaves options entries turn new
    leaves_touch old number answer turn new few books after =
        leaves_after old _ turn new few (books_touched (past_of old) (place_at (known_in old.known) number) answer books) after

    books_dropped : (past : Past) (place : JobPlace) (answer : RecordAnswer) → Books options entries past → Books options entries (dropped_by place answer past)
    books_dropped past place (RecordAnswer.Found row) books = books
    books_dropped past place (RecordAnswer.Put gone) books = books
    books_dropped past place RecordAnswer.Done books = books
    books_dropped past place (RecordAnswer.Refused refusal) books = books_noted options entries past (drop_note place refusal) books

    pub leaves_drop : (old : Course) (number : ℕ) (answer : RecordAnswer) (turn : Turn) (new : Course) → Books options entries (past_of old) → AfterDrop old number answer turn new →
        Leaves options entries turn new
    leaves_drop old number answer turn new books after =
        let now : Books options entries (past_of new) = books_at (past_of new) _ after.past (books_dropped (past_of old) (place_at (known_in old.known) number) answer books) in
        subst (λ (t : Turn). Leaves options entries t new) (sym after.is)
        (record { bounded = now.bounded; blames = now.blames; not_lost = λ lost. cc; goes = λ drains. cc })

    -- a row is put, or its files are archived
    leaves_put_next : (place : JobPlace) (number : ℕ) (row : Row) (new : Course) → Books options entries (past_of new) → Leaves options entries (puts place number row) new
    leaves_put_next place number row new now = record { bounded = now.bounded; blames = now.blames; not_lost = λ lost. cc; goes = λ drains. cc }

    leaves_kept : (keep : Bool) (folder : Name) (place : JobPlace) (number : ℕ) (row : Row) (new : Course) → Books options entries (past_of new) →
        Leaves options entries (keeps_row keep folder place number row) new
    leaves_kept true folder place number row new now = record { bounded = now.bounded; blames = now.blames; not_lost = λ lost. cc; goes = λ drains. cc }
    leaves_kept false folder place number row new now = leaves_put_next place number row new now

    pub leaves_store : (old : Course) (number : ℕ) (row : Row) (kept : Past) (turn : Turn) (new : Course) → Books options entries kept → PutsRow old number row kept turn new →
        Leaves options entries turn new
    leaves_store old number row kept turn new books after =
        subst (λ (t : Turn). Leaves options entries t new) (sym after.is)
        (leaves_put_next (place_at (known_in old.known) number) number row new (books_at (past_of new) kept after.past books))

    -- a job's outputs are there
    leaves_given : (place : JobPlace) (folder : ℕ) (over : Course) (number : ℕ) (row : Option Row) (turn : Turn) (new : Course) → FewKnown turn new → Books options entries (past_of over) →
        PutsOrPicks given place folder over number row turn new → Leaves options entries turn new
    leaves_given place folder over number None turn new few books picks = picks_leave over turn new few books picks
    leaves_given place folder over number (Some row) turn new few books put =
        subst (λ (t : Turn). Leaves options entries t new) (sym put.is)
        (leaves_kept given.options.keep (out_folder given.options.work folder) place number row new (books_course new over put.past books))

    -- what a job that gives nothing settles blames nobody
    failure_settles : (row : Option Row) (place : JobPlace) (cause : Cause) → SettlesRightly entries (failure_by row place cause)
    failure_settles None place cause = tt
    failure_settles (Some row) place cause = tt

    -- A job goes on

    pub turns_leave : (old : Course) (number : ℕ) (next : JobNext) (turn : Turn) (new : Course) → FewKnown turn new → (old.end ≡ None → KnowsSome old) →
        Books options entries (past_of old) → Turns given old number next turn new → Leaves options entries turn new
    turns_leave old number next turn new few knows books (asks call phase its_new same known) =
        let now : Books options entries (past_of new) = books_course new old same books in
        record { bounded = now.bounded; blames = now.blames; not_lost = λ lost. cc; goes = λ drains. cc }
    turns_leave old number next turn new few knows books (fails cause failed its_turn its_new is known picks) =
        picks_leave failed turn new few (books_at (past_of failed) _ is (books_end options entries (past_of old) _
        (failure_settles (row_in old.rows number) (place_at (known_in old.known) number) cause) books)) picks
    turns_leave old number next turn new few knows books (gives outputs row learned its_turn its_new given_it picks) =
        leaves_given (place_at (known_in old.known) number) (state_at old.jobs number).folder learned number row turn new few
        (unless_over_books given_it.there learned _ (known_still old given_it.there (ap (λ (p : Past). p.end) given_it.past) given_it.known knows) given_it.learns
        (books_at (past_of given_it.there) _ given_it.past (books_brought options entries (past_of old) number books))) picks
    turns_leave old number next turn new few knows books (repeats row there its_turn its_new past known put) =
        leaves_given (place_at (known_in old.known) number) (state_at old.jobs number).folder there number (Some row) turn new few
        (books_at (past_of there) _ past (books_brought options entries (past_of old) number books)) put
    turns_leave old number next turn new few knows books (mismatches outputs failed its_turn its_new is known picks) =
        picks_leave failed turn new few (books_at (past_of failed) _ is (books_end options entries (past_of old) _ tt books)) picks
