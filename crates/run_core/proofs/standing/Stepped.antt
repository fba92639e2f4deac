-- Where the machine is after each answer, whether memory was there or not.
use Rattle.std.specs.Prelude.{◌-◌, ◌*◌}
use Rattle.std.proofs.Common.{◌≡◌, ◌∙◌, ℕ, ◌+◌, ◌<◌, ◌≤◌, List, [], ◌∷◌, ◌++◌, length, refl, sym, ap, subst, arith}
use Rattle.proc_host.specs.declared.call.HostRequest.{HostRequest}
use Rattle.run_rules.specs.Answers.{MayAnswer}
use Rattle.run_rules.specs.Blame.{WereStarted}
use Rattle.run_rules.specs.Reports.{entries_of}
use Rattle.run_rules.specs.Scene.{Scene, scene_of}
use Rattle.run_rules.specs.declared.request.Answer.{Answer}
use Rattle.run_rules.specs.declared.request.Pair.{Pair}
use Rattle.run_rules.specs.declared.request.Request.{Request}
use Rattle.plan_checker.specs.declared.graph.TheConstants.{MOST_VERTICES}
use Rattle.run_core.specs.declared.state.Course.{Course}
use Rattle.run_core.specs.declared.state.Given.{Given}
use Rattle.run_core.specs.declared.state.Phase.{Phase}
use Rattle.run_core.specs.declared.state.Turn.{Turn}
use Rattle.run_core.specs.inner.Inside.{setting_in}
use Rattle.run_core.specs.inner.Anyway.{CanGoOn, job_in}
use Rattle.run_core.specs.inner.Attempts.{StaysBounded, answers_left, many_items, most_stagings, weight_of, weight_of_past}
use Rattle.run_core.specs.inner.Course.{Past, past_of}
use Rattle.run_core.specs.inner.Follows.{AsksIn, FollowsFrom, IsLeftAfter, MakesRoom, Moves, gives_up, has_room, moves, no_room}
use Rattle.run_core.specs.inner.Standing.{Blames, IsLostAt, RanOut, Runs, draining, lost, pairs_ahead}
use Rattle.run_core.specs.inner.Turn.{lost_after}
use Rattle.run_core.proofs.standing.Answered.{step_leaves, IsLogged}
use Rattle.run_core.proofs.going.Asked.{asks_in}
use Rattle.run_core.proofs.standing.Anyway.{GoesOn, goes_anyway}
use Rattle.run_core.proofs.standing.Facts.{few_known, knows_some, looks_at_some, never_drains, tickets_apart}
use Rattle.run_core.proofs.standing.Fewer.{step_fewer}
use Rattle.run_core.proofs.standing.Flown.{FliesAfter, flies_on, left_flies, step_flies}
use Rattle.run_core.proofs.standing.Leaving.{FewKnown, Leaves, MayKnow}
use Rattle.run_core.proofs.standing.Lost.{Drained, flies_lost, landed_when_none, lost_at, lost_blames, lost_bounded, lost_drains, lost_few, lost_more, lost_now, none_when_lost, step_drains}
use Rattle.run_core.proofs.standing.Taken.{IsGoing, RunsOn, Taken, ahead_now, asks_some, flies_if, flown_few, left_now, lost_below, lost_ends, not_ended, off, on, rise, rise_at_most, rise_below, began_still, blames_after, is_logged}

-- what each step leaves of room for the pairs that come next
abbrev pub LeavesRoom : Past → Phase → Course → Type 0
LeavesRoom past phase new = length new.tickets.items + 1 ≤ pairs_ahead past phase

-- On the run

module _ (given : Given) (t : List Pair) (runs_on : RunsOn given t) (old : Course) (before : Turn) (answer : Answer)
    (r : Runs (scene_of (setting_in given)) t old before) (may : MayAnswer old.tickets.items before.asks answer) where
  abbrev s : Scene
  s = scene_of (setting_in given)

  abbrev longer : List Pair
  longer = t ++ record { request = before.asks; answer = answer } ∷ []

  fits : AsksIn old before
  fits = asks_in s t old before r

  goes : before.phase ≡ Phase.Draining → ⊥
  goes = never_drains s t old before r

  knows : MayKnow old before.phase
  knows = knows_some s t old before r (asks_some may)

  told : IsLogged (entries_of longer) answer
  told = is_logged t may

  now_left : answers_left given.options (past_of old) before.phase ≡ weight_of_past given.options (past_of old) + weight_of before.phase
  now_left = left_now given.options (past_of old) before.phase goes (not_ended old before.phase may fits)

  -- who flies after what follows
  next_flies : (turn : Turn) (new : Course) → FollowsFrom given old before answer turn new → FliesAfter old.tickets.items turn.asks answer new.tickets.items
  next_flies turn new follows = step_flies given old turn new (tickets_apart s t old before r (asks_some may)) before.asks before.phase answer may fits goes knows follows

  room_by : (next : Request) (new : Course) → FliesAfter old.tickets.items next answer new.tickets.items → LeavesRoom (past_of old) before.phase new
  room_by next new flies =
      let few : length new.tickets.items ≤ length old.tickets.items + rise answer = flown_few old.tickets.items next answer new.tickets.items flies in
      let most : rise answer ≤ 1 = rise_at_most answer in
      subst (λ ahead. length new.tickets.items + 1 ≤ ahead) (sym (ahead_now (past_of old) before.phase goes (not_ended old before.phase may fits)))
      (omega (arith, few, most))

  module _ (bounded : StaysBounded given.options (past_of old) before.phase) where
    module _ (blames : Blames (entries_of t) (past_of old) before.phase) (began : WereStarted (entries_of t) old.tickets.items) where
      -- memory was there
      taken_on : (turn : Turn) (new : Course) → FollowsFrom given old before answer turn new → Taken given t old before answer turn new
      taken_on turn new follows =
          let runs : Runs s longer new turn = runs_on.follows_on old before answer turn new r may follows in
          let few : FewKnown turn new = few_known s longer new turn runs in
          let leaves : Leaves given.options (entries_of longer) turn new =
          step_leaves given old (entries_of longer) turn new few
          (began_still t may old.tickets.items began) before.asks before.phase answer may fits goes knows told bounded (blames_after t may (past_of old) before.phase blames) follows in
          record {
            going = on runs;
            bounded = leaves.bounded;
            blames = leaves.blames;
            fewer = subst (λ w. answers_left given.options (past_of new) turn.phase < w) (sym now_left)
                (step_fewer given old turn new before.asks before.phase answer may fits goes knows bounded (looks_at_some s t old before r) follows);
            landed = λ ended. absurd (leaves.not_lost ended);
            finished = λ ended. absurd (leaves.not_lost ended);
            flying = flies_if old.tickets.items turn.asks answer new.tickets.items (next_flies turn new follows);
            drains = λ drains asks. absurd (goes drains);
          }

    -- memory ran out
    taken_off : (next : Request) (new : Course) → GoesOn s longer → FliesAfter old.tickets.items next answer new.tickets.items →
        Taken given t old before answer (lost_after (past_of new)) new
    taken_off next new still flies = record {
      going = off (lost_now s longer still.happened still.plans (past_of new) still.goes);
      bounded = lost_bounded given.options (past_of new);
      blames = lost_blames (entries_of longer) (past_of new);
      fewer = subst (λ w. answers_left given.options (past_of new) (lost_after (past_of new)).phase < w) (sym now_left)
          (lost_below (answers_left given.options (past_of new) (lost_after (past_of new)).phase) (length new.tickets.items) (length old.tickets.items) (rise answer)
          ((MOST_VERTICES - old.looked_up) * 2) ((most_stagings given.options - old.folders) * (3 * many_items + 8)) (weight_of before.phase) (lost_few given.options (past_of new))
          (flown_few old.tickets.items next answer new.tickets.items flies) (rise_below old old.tickets.items before.asks before.phase answer may fits));
      landed = λ ended. landed_when_none old.tickets.items next answer new.tickets.items (none_when_lost (past_of new) ended) flies;
      finished = lost_ends (past_of new);
      flying = flies_if old.tickets.items (lost_after (past_of new)).asks answer new.tickets.items (flies_lost old.tickets.items next answer (past_of new) flies);
      drains = λ drains asks. absurd (goes drains);
    }

  still_goes : (turn : Turn) (new : Course) → FollowsFrom given old before answer turn new → GoesOn s longer
  still_goes turn new follows =
      let runs : Runs s longer new turn = runs_on.follows_on old before answer turn new r may follows in
      record { happened = runs.happened; plans = runs.plans; goes = runs.goes }

  left_after : (new : Course) → IsLeftAfter old.tickets.items answer new.tickets.items → FliesAfter old.tickets.items before.asks answer new.tickets.items
  left_after new left =
      flies_on answer new.tickets.items (left_flies given old.tickets.items new.tickets.items answer (tickets_apart s t old before r (asks_some may)) left)

  goes_so : CanGoOn old (job_in before.phase) answer → GoesOn s longer
  goes_so can = goes_anyway s t old before answer can r fits may (runs_on.allows old before r (asks_some may))

-- the turn that comes next, and room for what comes after it
on_taken : (given : Given) (t : List Pair) → RunsOn given t → (old : Course) (before : Turn) (answer : Answer) (next turn : Turn) (new : Course) (pairs room : ℕ) →
    Runs (scene_of (setting_in given)) t old before → MayAnswer old.tickets.items before.asks answer → CanGoOn old (job_in before.phase) answer →
    StaysBounded given.options (past_of old) before.phase → Blames (entries_of t) (past_of old) before.phase → WereStarted (entries_of t) old.tickets.items →
    Moves given old before answer next new → MakesRoom pairs room (past_of new) next turn → Taken given t old before answer turn new
on_taken given t runs_on old before answer next turn new pairs room r may can bounded blames began (moves its its_new follows) (has_room enough) =
    taken_on given t runs_on old before answer r may bounded blames began next new follows
on_taken given t runs_on old before answer next turn new pairs room r may can bounded blames began (moves its its_new follows) (no_room enough) =
    taken_off given t runs_on old before answer r may bounded next.asks new (still_goes given t runs_on old before answer r may next new follows)
    (next_flies given t runs_on old before answer r may next new follows)
on_taken given t runs_on old before answer next turn new pairs room r may can bounded blames began (gives_up its_new goes left) (has_room enough) =
    taken_off given t runs_on old before answer r may bounded before.asks new (goes_so given t runs_on old before answer r may can)
    (left_after given t runs_on old before answer r may new left)
on_taken given t runs_on old before answer next turn new pairs room r may can bounded blames began (gives_up its_new goes left) (no_room enough) =
    taken_off given t runs_on old before answer r may bounded before.asks new (goes_so given t runs_on old before answer r may can)
    (left_after given t runs_on old before answer r may new left)

on_room : (given : Given) (t : List Pair) → RunsOn given t → (old : Course) (before : Turn) (answer : Answer) (next : Turn) (new : Course) →
    Runs (scene_of (setting_in given)) t old before → MayAnswer old.tickets.items before.asks answer → Moves given old before answer next new →
    LeavesRoom (past_of old) before.phase new
on_room given t runs_on old before answer next new r may (moves its its_new follows) =
    room_by given t runs_on old before answer r may next.asks new (next_flies given t runs_on old before answer r may next new follows)
on_room given t runs_on old before answer next new r may (gives_up its_new goes left) =
    room_by given t runs_on old before answer r may before.asks new (left_after given t runs_on old before answer r may new left)

-- Off it

lower : (a b c : ℕ) → a ≤ b → b < c → a < c
lower a b c one two = omega (arith, one, two)

module _ (given : Given) (t : List Pair) (old : Course) (answer : Answer) where
  abbrev waiting : Turn
  waiting = record { asks = Request.Host [] HostRequest.Collect; phase = Phase.Draining }

  drained_taken : (turn : Turn) (new : Course) → RanOut (scene_of (setting_in given)) t (past_of old) waiting → Drained old answer turn new → Taken given t old waiting answer turn new
  drained_taken turn new out d = record {
    going = off (lost_more (scene_of (setting_in given)) t _ (past_of old) (past_of new) waiting turn out refl
        (subst (λ (its : Turn). IsLostAt (past_of new) its) (sym d.is) (lost_at (past_of new))));
    bounded = subst (λ (its : Turn). StaysBounded given.options (past_of new) its.phase) (sym d.is) (lost_bounded given.options (past_of new));
    blames = subst (λ (its : Turn). Blames (entries_of (t ++ record { request = Request.Host [] HostRequest.Collect; answer = answer } ∷ [])) (past_of new) its.phase) (sym d.is)
        (lost_blames (entries_of (t ++ record { request = Request.Host [] HostRequest.Collect; answer = answer } ∷ [])) (past_of new));
    fewer = subst (λ (its : Turn). answers_left given.options (past_of new) its.phase < length old.tickets.items) (sym d.is)
        (lower (answers_left given.options (past_of new) (lost_after (past_of new)).phase) (length new.tickets.items) (length old.tickets.items)
        (lost_few given.options (past_of new)) d.fewer);
    landed = λ ended. landed_when_none old.tickets.items turn.asks answer new.tickets.items (none_when_lost (past_of new) (sym (ap (λ (its : Turn). its.phase) d.is) ∙ ended)) d.flies;
    finished = λ ended. ap (λ (its : Turn). its.asks) d.is ∙ lost_ends (past_of new) (sym (ap (λ (its : Turn). its.phase) d.is) ∙ ended);
    flying = flies_if old.tickets.items turn.asks answer new.tickets.items d.flies;
    drains = λ was asks. d.is ∙ lost_drains (past_of new) (λ none. asks (ap (λ (its : Turn). its.asks) d.is ∙ none));
  }

same_turn : (old : Course) (answer : Answer) (one other : Turn) (new : Course) → one ≡ other → Drained old answer other new → Drained old answer one new
same_turn old answer one other new is d = subst (λ (its : Turn). Drained old answer its new) (sym is) d

off_taken : (given : Given) (t : List Pair) (old : Course) (before : Turn) (answer : Answer) (next turn : Turn) (new : Course) (pairs room : ℕ) →
    RanOut (scene_of (setting_in given)) t (past_of old) before → IsLostAt (past_of old) before → MayAnswer old.tickets.items before.asks answer →
    Moves given old before answer next new → MakesRoom pairs room (past_of new) next turn → Taken given t old before answer turn new
off_taken given t old before answer next turn new pairs room out lost may moved made = elim may [ ]
off_taken given t old before answer next turn new pairs room out (draining some) may (moves its its_new follows) (has_room enough) =
    drained_taken given t old answer next new out (step_drains given old next new (Request.Host [] HostRequest.Collect) answer may tt some follows)
off_taken given t old before answer next turn new pairs room out (draining some) may (moves its its_new follows) (no_room enough) =
    let d : Drained old answer next new = step_drains given old next new (Request.Host [] HostRequest.Collect) answer may tt some follows in
    drained_taken given t old answer (lost_after (past_of new)) new out (same_turn old answer (lost_after (past_of new)) next new (sym d.is) d)
off_taken given t old before answer next turn new pairs room out (draining some) may (gives_up its_new goes left) made = absurd (goes refl)

off_room : (given : Given) (old : Course) (before : Turn) (answer : Answer) (next : Turn) (new : Course) → IsLostAt (past_of old) before →
    MayAnswer old.tickets.items before.asks answer → Moves given old before answer next new → LeavesRoom (past_of old) before.phase new
off_room given old before answer next new lost may moved = elim may [ ]
off_room given old before answer next new (draining some) may (moves its its_new follows) =
    let d : Drained old answer next new = step_drains given old next new (Request.Host [] HostRequest.Collect) answer may tt some follows in omega (arith, d.fewer)
off_room given old before answer next new (draining some) may (gives_up its_new goes left) = absurd (goes refl)

-- Either way

pub taken : (given : Given) (t : List Pair) → RunsOn given t → (old : Course) (before : Turn) (answer : Answer) (next turn : Turn) (new : Course) (pairs room : ℕ) →
    IsGoing (scene_of (setting_in given)) t old before → MayAnswer old.tickets.items before.asks answer → CanGoOn old (job_in before.phase) answer →
    StaysBounded given.options (past_of old) before.phase → Blames (entries_of t) (past_of old) before.phase → WereStarted (entries_of t) old.tickets.items →
    Moves given old before answer next new → MakesRoom pairs room (past_of new) next turn → Taken given t old before answer turn new
taken given t runs_on old before answer next turn new pairs room (on r) may can bounded blames began moved made =
    on_taken given t runs_on old before answer next turn new pairs room r may can bounded blames began moved made
taken given t runs_on old before answer next turn new pairs room (off out) may can bounded blames began moved made =
    off_taken given t old before answer next turn new pairs room out out.at may moved made

pub leaves_room : (given : Given) (t : List Pair) → RunsOn given t → (old : Course) (before : Turn) (answer : Answer) (next : Turn) (new : Course) →
    IsGoing (scene_of (setting_in given)) t old before → MayAnswer old.tickets.items before.asks answer → Moves given old before answer next new →
    LeavesRoom (past_of old) before.phase new
leaves_room given t runs_on old before answer next new (on r) may moved = on_room given t runs_on old before answer next new r may moved
leaves_room given t runs_on old before answer next new (off out) may moved = off_room given old before answer next new out.at may moved
