-- What a run so far tells of its course.
use Rattle.std.specs.Prelude.{nat_eq}
use Rattle.std.specs.List.{IsDistinct}
use Rattle.std.specs.Map.{keys_of}
use Rattle.std.proofs.Common.{◌≡◌, ◌≢◌, ◌∙◌, ℕ, ◌≤◌, List, [], ◌∷◌, length, reverse, Option, Some, None, refl, sym, ap, subst, arith}
use Rattle.std.proofs.lemmas.List.{reverse-append, reverse-reverse}
use Rattle.plan_checker.specs.declared.plan.Mark.{Mark}
use Rattle.plan_checker.specs.declared.graph.TheConstants.{MOST_VERTICES}
use Rattle.proc_host.specs.declared.call.HostRequest.{HostRequest}
use Rattle.job_graph.specs.declared.unfolding.Unfolding.{Unfolding}
use Rattle.job_graph.specs.Jobs.{Job, Walker}
use Rattle.job_graph.specs.Unfold.{Resolved}
use Rattle.job_graph.specs.Words.{Name}
use Rattle.run_rules.specs.Events.{Event, Progress, measures, resolved}
use Rattle.run_rules.specs.Scene.{Scene}
use Rattle.run_rules.specs.declared.request.Pair.{Pair}
use Rattle.run_rules.specs.declared.request.Request.{Request}
use Rattle.run_rules.specs.declared.setting.Options.{Options}
use Rattle.run_rules.proofs.events.Flights.{Flight}
use Rattle.run_core.specs.declared.state.Course.{Course}
use Rattle.run_core.specs.declared.state.JobPhase.{JobPhase}
use Rattle.run_core.specs.declared.state.Phase.{Phase}
use Rattle.run_core.specs.declared.state.Turn.{Turn}
use Rattle.run_core.specs.inner.Course.{Past, known_in, past_of}
use Rattle.run_core.specs.inner.Due.{call_for, work_of}
use Rattle.run_core.specs.inner.Keeps.{Reflects}
use Rattle.run_core.specs.inner.Knows.{IsKnown}
use Rattle.run_core.specs.inner.Standing.{IsAt, Runs, collecting, delivering, ended, measuring, staging, working, finding, putting, storing, discarding, dropping, touching, fetching}
use Rattle.run_core.proofs.standing.Anyway.{IsNext, input_next, output_next}
use Rattle.run_core.proofs.standing.Few.{few_unfolded}
use Rattle.run_core.proofs.standing.Fewer.{HasLast, LooksAtSome}
use Rattle.run_core.proofs.standing.Leaving.{FewKnown, IsUntried, KnowsSome, MayKnow}

last_of : (left : List Name) → IsNext (reverse left) → HasLast left
last_of left next = record {
  rest = reverse next.rest;
  name = next.name;
  is = sym (reverse-reverse left) ∙ ap reverse next.is ∙ reverse-append (next.name ∷ []) next.rest;
}

known_few : (walks : Walker) (learned : List Resolved) (known : Option Unfolding) → IsKnown walks learned known → length (known_in known) ≤ MOST_VERTICES
known_few walks learned None is = absurd is
known_few walks learned (Some kept) is =
    subst (λ (jobs : List Job). length jobs ≤ MOST_VERTICES) (sym is.jobs) (few_unfolded walks learned is.fault)

nothing_apart : IsDistinct nat_eq []
unfolding IsDistinct
nothing_apart = tt

module _ (s : Scene) where
  knows_by : (es : List Event) (course : Course) (at_work : Option ℕ) → Reflects s es course at_work → course.end ≡ None → KnowsSome course
  knows_by es course at_work r going = record { walks = s.walker (measures es); learned = resolved es; is = r.knows going }

  apart_by : (es : List Event) (course : Course) (at_work : Option ℕ) → Reflects s es course at_work → IsDistinct nat_eq course.tickets.items
  apart_by es course at_work r = subst (λ (ns : List ℕ). IsDistinct nat_eq ns) r.keeps.books.flights.their_tickets r.keeps.books.alone.tickets

  works_on_some : (options : Options) (folder : ℕ) (past : Past) (number : ℕ) (call : HostRequest) (phase : JobPhase) →
      call_for options folder (work_of [] call phase) ≡ Some call → LooksAtSome past (Phase.Working number phase)
  works_on_some options folder past number call (JobPhase.Filling filling) due =
      last_of filling.left (input_next options folder call filling.staged filling.heads (reverse filling.left) due).0
  works_on_some options folder past number call (JobPhase.Starting kept) due = tt
  works_on_some options folder past number call (JobPhase.Scanning kept millis) due = tt
  works_on_some options folder past number call (JobPhase.Reading kept reading) due =
      last_of reading.left (output_next options folder call reading.millis reading.found reading.heads (reverse reading.left) due)

  module _ (f : Progress) (course : Course) where
    looks_at : {marks : List Mark} {turn : Turn} → IsAt s f marks course turn → LooksAtSome (past_of course) turn.phase
    looks_at (measuring found which rest path m is f_is none past) = record { rest = rest; name = path; is = is }
    looks_at (finding number job reflects next) =
        let few : length (known_in course.known) ≤ MOST_VERTICES =
        known_few (s.walker (measures f.events)) (resolved f.events) course.known (reflects.knows next.going) in
        (next.left, omega (arith, next.it.within, few))
    looks_at (putting number job row reflects it due) = tt
    looks_at (fetching number job row reflects next) = tt
    looks_at (touching number job its_key reflects it due) = tt
    looks_at (dropping number job its_key reflects it due own) = tt
    looks_at (discarding number job its_key left reflects it due) = tt
    looks_at (storing number job row reflects it due) = tt
    looks_at (staging number job plan reflects is_staging) = tt
    looks_at (working number job call phase reflects w) = works_on_some s.options _ (past_of course) number call phase w.calls.due
    looks_at (collecting reflects may) = tt
    looks_at (delivering plan reflects may going) =
        sym reflects.keeps.books.flights.their_tickets ∙ ap (λ (flying : List Flight). keys_of flying) may.landed
    looks_at (ended end so noted knows) = tt

    knows_at : {marks : List Mark} {turn : Turn} → IsAt s f marks course turn → turn.asks ≢ Request.Finished → MayKnow course turn.phase
    knows_at (measuring found which rest path m is f_is none past) asks = tt
    knows_at (finding number job reflects next) asks = knows_by f.events course None reflects
    knows_at (putting number job row reflects it due) asks = knows_by f.events course None reflects
    knows_at (fetching number job row reflects next) asks = knows_by f.events course None reflects
    knows_at (touching number job its_key reflects it due) asks = knows_by f.events course None reflects
    knows_at (dropping number job its_key reflects it due own) asks = knows_by f.events course None reflects
    knows_at (discarding number job its_key left reflects it due) asks = knows_by f.events course None reflects
    knows_at (storing number job row reflects it due) asks = knows_by f.events course None reflects
    knows_at (staging number job plan reflects is_staging) asks = knows_by f.events course None reflects
    knows_at (working number job call phase reflects w) asks = knows_by f.events course (Some number) reflects
    knows_at (collecting reflects may) asks = knows_by f.events course None reflects
    knows_at (delivering plan reflects may going) asks = knows_by f.events course None reflects
    knows_at (ended end so noted knows) asks = absurd (asks refl)

    apart_at : {marks : List Mark} {turn : Turn} → IsAt s f marks course turn → turn.asks ≢ Request.Finished → IsDistinct nat_eq course.tickets.items
    apart_at (measuring found which rest path m is f_is none past) asks =
        subst (λ (p : Past). IsDistinct nat_eq p.tickets) (sym past) nothing_apart
    apart_at (finding number job reflects next) asks = apart_by f.events course None reflects
    apart_at (putting number job row reflects it due) asks = apart_by f.events course None reflects
    apart_at (fetching number job row reflects next) asks = apart_by f.events course None reflects
    apart_at (touching number job its_key reflects it due) asks = apart_by f.events course None reflects
    apart_at (dropping number job its_key reflects it due own) asks = apart_by f.events course None reflects
    apart_at (discarding number job its_key left reflects it due) asks = apart_by f.events course None reflects
    apart_at (storing number job row reflects it due) asks = apart_by f.events course None reflects
    apart_at (staging number job plan reflects is_staging) asks = apart_by f.events course None reflects
    apart_at (working number job call phase reflects w) asks = apart_by f.events course (Some number) reflects
    apart_at (collecting reflects may) asks = apart_by f.events course None reflects
    apart_at (delivering plan reflects may going) asks = apart_by f.events course None reflects
    apart_at (ended end so noted knows) asks = absurd (asks refl)

    going_at : {marks : List Mark} {turn : Turn} → IsAt s f marks course turn → turn.phase ≡ Phase.Draining → ⊥
    going_at (measuring found which rest path m is f_is none past) drains = cc
    going_at (finding number job reflects next) drains = cc
    going_at (putting number job row reflects it due) drains = cc
    going_at (fetching number job row reflects next) drains = cc
    going_at (touching number job its_key reflects it due) drains = cc
    going_at (dropping number job its_key reflects it due own) drains = cc
    going_at (discarding number job its_key left reflects it due) drains = cc
    going_at (storing number job row reflects it due) drains = cc
    going_at (staging number job plan reflects is_staging) drains = cc
    going_at (working number job call phase reflects w) drains = cc
    going_at (collecting reflects may) drains = cc
    going_at (delivering plan reflects may going) drains = cc
    going_at (ended end so noted knows) drains = cc

    stages_few : {marks : List Mark} {turn : Turn} → IsAt s f marks course turn → (number : ℕ) → turn.phase ≡ Phase.Staging number → length (known_in course.known) ≤ MOST_VERTICES
    stages_few (measuring found which rest path m is f_is none past) number at = absurd cc
    stages_few (finding its_number job reflects next) number at = absurd cc
    stages_few (putting its_number job row reflects it due) number at = absurd cc
    stages_few (storing its_number job row reflects it due) number at = absurd cc
    stages_few (fetching its_number job row reflects next) number at = absurd cc
    stages_few (touching its_number job its_key reflects it due) number at = absurd cc
    stages_few (dropping its_number job its_key reflects it due own) number at = absurd cc
    stages_few (discarding its_number job its_key left reflects it due) number at = absurd cc
    stages_few (staging its_number job plan reflects is_staging) number at =
        known_few (s.walker (measures f.events)) (resolved f.events) course.known (reflects.knows is_staging.going)
    stages_few (working its_number job call phase reflects w) number at = absurd cc
    stages_few (collecting reflects may) number at = absurd cc
    stages_few (delivering plan reflects may going) number at = absurd cc
    stages_few (ended end so noted knows) number at = absurd cc

    fetches_untried : {marks : List Mark} {turn : Turn} → IsAt s f marks course turn → (number : ℕ) → turn.phase ≡ Phase.Fetching number → IsUntried course number
    fetches_untried (measuring found which rest path m is f_is none past) number at = absurd cc
    fetches_untried (finding its_number job reflects next) number at = absurd cc
    fetches_untried (putting its_number job row reflects it due) number at = absurd cc
    fetches_untried (fetching its_number job row reflects next) number at =
        let same : its_number ≡ number = (let both : Phase.Fetching its_number ≡ Phase.Fetching number = at in cc) in
        subst (IsUntried course) same (record {
          untried = next.untried;
          within = next.it.within;
          few = known_few (s.walker (measures f.events)) (resolved f.events) course.known (reflects.knows next.going);
        })
    fetches_untried (storing its_number job row reflects it due) number at = absurd cc
    fetches_untried (touching its_number job its_key reflects it due) number at = absurd cc
    fetches_untried (dropping its_number job its_key reflects it due own) number at = absurd cc
    fetches_untried (discarding its_number job its_key left reflects it due) number at = absurd cc
    fetches_untried (staging its_number job plan reflects is_staging) number at = absurd cc
    fetches_untried (working its_number job call phase reflects w) number at = absurd cc
    fetches_untried (collecting reflects may) number at = absurd cc
    fetches_untried (delivering plan reflects may going) number at = absurd cc
    fetches_untried (ended end so noted knows) number at = absurd cc

module _ (s : Scene) (t : List Pair) (course : Course) (turn : Turn) (r : Runs s t course turn) where
  pub looks_at_some : LooksAtSome (past_of course) turn.phase
  looks_at_some = looks_at s r.happened course r.at

  pub knows_some : turn.asks ≢ Request.Finished → MayKnow course turn.phase
  knows_some asks = knows_at s r.happened course r.at asks

  pub few_known : FewKnown turn course
  few_known = record { staged = stages_few s r.happened course r.at; fetched = fetches_untried s r.happened course r.at }

  pub tickets_apart : turn.asks ≢ Request.Finished → IsDistinct nat_eq course.tickets.items
  tickets_apart asks = apart_at s r.happened course r.at asks

  pub never_drains : turn.phase ≡ Phase.Draining → ⊥
  never_drains drains = going_at s r.happened course r.at drains
