-- What the machine's callers learn of an answer taken.
use Rattle.std.specs.Prelude.{◌≢◌}
use Rattle.std.proofs.Common.{◌≡◌, ◌∙◌, inl, inr, ℕ, ◌+◌, ◌<◌, ◌≤◌, List, [], ◌∷◌, ◌++◌, length, Result, refl, sym, ap, subst, arith}
use Rattle.std.proofs.lemmas.List.Elements.{Contains-push_cases, filter_map-append}
use Rattle.proc_host.specs.declared.call.HostRequest.{HostRequest}
use Rattle.run_rules.specs.Answers.{AreAnswers, MayAnswer, flying_after}
use Rattle.run_rules.specs.Blame.{WereStarted}
use Rattle.run_rules.specs.Reports.{entries_of, entry_of}
use Rattle.run_rules.specs.Scene.{scene_of}
use Rattle.run_rules.specs.declared.outcome.RunFault.{RunFault}
use Rattle.run_rules.specs.declared.request.Answer.{Answer}
use Rattle.run_rules.specs.declared.request.Pair.{Pair}
use Rattle.run_rules.specs.declared.request.Request.{Request}
use Rattle.run_core.specs.declared.runner.RunCore.TheInside.{Inside}
use Rattle.run_core.specs.declared.state.Course.{Course}
use Rattle.run_core.specs.declared.state.Phase.{Phase}
use Rattle.run_core.specs.declared.state.Turn.{Turn}
use Rattle.run_core.specs.Core.{IsDraining, Took}
use Rattle.run_core.specs.Machine.{Machine}
use Rattle.run_core.specs.inner.Inside.{Goes, Stands, mode_of, off_run, on_run, seen, setting_in}
use Rattle.run_core.specs.inner.Anyway.{CanGoOn, job_in}
use Rattle.run_core.specs.inner.Course.{Past, past_of}
use Rattle.run_core.specs.inner.Follows.{HasPairs, MakesRoom, Moves, has_room, no_room, told_of}
use Rattle.run_core.specs.declared.transcript.Transcript.{Transcript}
use Rattle.run_core.specs.inner.Answered.{most_answers}
use Rattle.run_core.specs.inner.Asked.{pairs_in}
use Rattle.run_core.specs.inner.Standing.{Blames, HasRoom, RanOut, Runs, pairs_ahead}
use Rattle.run_core.specs.inner.Turn.{lost_after, waits}
use Rattle.run_core.proofs.standing.Lost.{lost_room}
use Rattle.run_core.proofs.standing.Modes.{Tells, draining_phase, tells, tells_lost, tells_ok}
use Rattle.run_core.proofs.standing.Stepped.{leaves_room, taken}
use Rattle.run_core.proofs.standing.Taken.{IsGoing, RunsOn, Taken, asks_some, off, on, started_after, taken_same}

-- The machine as a whole

abbrev pub noted : Request → Answer → Pair
noted request answer = record { request = request; answer = answer }

-- with so many answers taken
abbrev pub counted : Inside → ℕ → Inside
counted core answers = record core { given = record core.given { answers = answers } }

goes_counted : (core : Inside) (answers : ℕ) → Goes core → Goes (counted core answers)
goes_counted core answers (on_run r) = on_run r
goes_counted core answers (off_run out) = off_run out

pub stands_counted : (core : Inside) (answers : ℕ) → Stands core → Stands (counted core answers)
stands_counted core answers stands = record {
  limits = stands.limits;
  rates = stands.rates;
  accepted = stands.accepted;
  ids = stands.ids;
  going = goes_counted core answers stands.going;
  answered = stands.answered;
  bounded = stands.bounded;
  blames = stands.blames;
  started = stands.started;
  room = stands.room;
  pairs_room = stands.pairs_room;
}

abbrev pub core_with : Inside → Transcript → Course → Turn → Inside
core_with core pairs course turn = record { alloc = core.alloc; given = core.given; pairs = pairs; course = course; turn = turn }

pub going_of : (core : Inside) → Goes core → IsGoing (scene_of (setting_in core.given)) (pairs_in core.pairs) core.course core.turn
going_of core (on_run r) = on r
going_of core (off_run out) = off out

goes_so : (core : Inside) (t : List Pair) → (pairs_in core.pairs) ≡ t → IsGoing (scene_of (setting_in core.given)) t core.course core.turn → Goes core
goes_so core t same (on r) = on_run (subst (λ (all : List Pair). Runs (scene_of (setting_in core.given)) all core.course core.turn) (sym same) r)
goes_so core t same (off out) = off_run (subst (λ (all : List Pair). RanOut (scene_of (setting_in core.given)) all (past_of core.course) core.turn) (sym same) out)

pairs_fit : (pairs room : ℕ) (past last : Past) (old new : Turn) → last ≡ past → MakesRoom pairs room past old new → pairs + pairs_ahead last new.phase ≤ room
pairs_fit pairs room past last old new same (has_room fits) = subst (λ (p : Past). pairs + pairs_ahead p new.phase ≤ room) (sym same) fits
pairs_fit pairs room past last old new same (no_room fits) =
    subst (λ (p : Past). pairs + pairs_ahead p new.phase ≤ room) (sym same) (smaller pairs room (pairs_ahead past (lost_after past).phase) (length past.tickets) fits (lost_room past))
  where
    smaller : (n m a b : ℕ) → n + b ≤ m → a ≤ b → n + a ≤ m
    smaller n m a b fits less = omega (arith, fits, less)

-- each answer was one that its call can give
one_more_answered : (flying : List ℕ) (t : List Pair) (request : Request) (answer : Answer) → AreAnswers t → MayAnswer flying request answer → AreAnswers (t ++ noted request answer ∷ [])
one_more_answered flying t request answer before may pair there = elim (Contains-push_cases t (noted request answer) pair there) [
  | inl earlier ↦ before pair earlier
  | inr same ↦ subst (λ (p : Pair). (running : List ℕ) × MayAnswer running p.request p.answer) same (flying, may)
]

module _ (core : Inside) (answer : Answer) (pairs : Transcript) (course : Course) (turn : Turn) (stands : Stands core)
    (may : MayAnswer core.course.tickets.items core.turn.asks answer) (longer : (pairs_in pairs) ≡ (pairs_in core.pairs) ++ noted core.turn.asks answer ∷ []) (room : HasRoom course turn.phase)
    (fits : pairs.count + pairs_ahead (past_of course) turn.phase ≤ most_answers)
    (it : Taken core.given (pairs_in core.pairs) core.course core.turn answer turn course)
    (began : WereStarted (entries_of ((pairs_in core.pairs) ++ noted core.turn.asks answer ∷ [])) (flying_after core.course.tickets.items answer)) where
  stands_then : Stands (core_with core pairs course turn)
  stands_then = record {
    limits = stands.limits;
    rates = stands.rates;
    accepted = stands.accepted;
    ids = stands.ids;
    going = goes_so (core_with core pairs course turn) ((pairs_in core.pairs) ++ noted core.turn.asks answer ∷ []) longer it.going;
    answered = subst AreAnswers (sym longer) (one_more_answered core.course.tickets.items (pairs_in core.pairs) core.turn.asks answer stands.answered may);
    bounded = it.bounded;
    blames = subst (λ (t : List Pair). Blames (entries_of t) (past_of course) turn.phase) (sym longer) it.blames;
    started = λ asks. subst (λ (ns : List ℕ). WereStarted (entries_of (pairs_in pairs)) ns) (sym (it.flying asks))
        (subst (λ (t : List Pair). WereStarted (entries_of t) (flying_after core.course.tickets.items answer)) (sym longer) began);
    room = room;
    pairs_room = fits;
  }

  more_entries : entries_of (pairs_in pairs) ≡ entries_of (pairs_in core.pairs) ++ entries_of (noted core.turn.asks answer ∷ [])
  more_entries = ap entries_of longer ∙ filter_map-append entry_of (pairs_in core.pairs) (noted core.turn.asks answer ∷ [])

  abbrev new : Machine
  new = seen (core_with core pairs course turn)

  drains_then : IsDraining (seen core) → turn.asks ≢ Request.Finished → IsDraining new
  drains_then was asks =
      let is : turn ≡ waits HostRequest.Collect Phase.Draining = it.drains (draining_phase core.turn.phase was.mode) asks in
      record { mode = ap (λ (t : Turn). mode_of t.phase) is; asks = ap (λ (t : Turn). t.asks) is }

  took_by : Tells turn.phase → Took (seen core) answer (told_of turn.phase) new
  took_by (tells_ok is not_lost) =
      subst (λ (r : Result (Unit {0}) RunFault). Took (seen core) answer r new) (sym is) (record {
        setting = refl;
        pair = longer;
        entries = more_entries;
        landed = tt;
        flying = it.flying;
        drains = drains_then;
        steps = it.fewer;
        ok = not_lost;
        err = tt;
        lost = tt;
        finished = tt;
      })
  took_by (tells_lost is) =
      subst (λ (r : Result (Unit {0}) RunFault). Took (seen core) answer r new) (sym (ap told_of is)) (record {
        setting = refl;
        pair = longer;
        entries = more_entries;
        landed = it.landed is;
        flying = tt;
        drains = drains_then;
        steps = it.fewer;
        ok = tt;
        err = refl;
        lost = ap mode_of is;
        finished = it.finished is;
      })

  took_told : (result : Result (Unit {0}) RunFault) → result ≡ told_of turn.phase → Stands (core_with core pairs course turn) × Took (seen core) answer result new
  took_told result is = (stands_then, subst (λ (r : Result (Unit {0}) RunFault). Took (seen core) answer r new) (sym is) (took_by (tells turn.phase)))

module _ (core : Inside) (answer : Answer) (runs_on : RunsOn core.given (pairs_in core.pairs)) (stands : Stands core) (may : MayAnswer core.course.tickets.items core.turn.asks answer) where
  pub took : (pairs : Transcript) (new course : Course) (next turn : Turn) (result : Result (Unit {0}) RunFault) → CanGoOn core.course (job_in core.turn.phase) answer →
      (pairs_in pairs) ≡ (pairs_in core.pairs) ++ noted core.turn.asks answer ∷ [] → Moves core.given core.course core.turn answer next new →
      MakesRoom pairs.count most_answers (past_of new) next turn → past_of course ≡ past_of new → course.known ≡ new.known → HasRoom course turn.phase →
      result ≡ told_of turn.phase → Stands (core_with core pairs course turn) × Took (seen core) answer result (seen (core_with core pairs course turn))
  took pairs new course next turn result can longer moved made same known room is =
      took_told core answer pairs course turn stands may longer room (pairs_fit pairs.count most_answers (past_of new) (past_of course) next turn same made)
      (taken_same core.given (pairs_in core.pairs) core.course core.turn answer turn new course same known
      (taken core.given (pairs_in core.pairs) runs_on core.course core.turn answer next turn new pairs.count most_answers (going_of core stands.going) may can
      stands.bounded stands.blames (stands.started (asks_some may)) moved made)) (started_after (pairs_in core.pairs) may (stands.started (asks_some may))) result is

  -- the end of each child in flight has room once the pair is noted
  pub keeps_pairs : (new : Course) (next : Turn) (pairs : ℕ) → Moves core.given core.course core.turn answer next new → pairs ≡ core.pairs.count + 1 →
      HasPairs pairs most_answers (past_of new) next
  keeps_pairs new next pairs moved one =
      let left : length new.tickets.items + 1 ≤ pairs_ahead (past_of core.course) core.turn.phase =
      leaves_room core.given (pairs_in core.pairs) runs_on core.course core.turn answer next new (going_of core stands.going) may moved in
      still_fit pairs most_answers core.pairs.count (length new.tickets.items) (pairs_ahead (past_of core.course) core.turn.phase) left one stands.pairs_room
    where
      still_fit : (pairs room n a b : ℕ) → a + 1 ≤ b → pairs ≡ n + 1 → n + b ≤ room → pairs + a ≤ room
      still_fit pairs room n a b left one fits = omega (arith, left, one, fits)

pub one_fits : (pairs room ahead : ℕ) → 0 < ahead → pairs + ahead ≤ room → pairs < room
one_fits pairs room ahead some fits = omega (arith, some, fits)
