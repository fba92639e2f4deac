-- A new machine stands before any answer.
use Rattle.std.proofs.Common.{◌≡◌, ◌∙◌, ℕ, ◌+◌, ◌≤◌, true, List, [], length, None, refl, sym, ap, subst, arith}
use Rattle.proc_host.specs.declared.call.Entry.{Entry}
use Rattle.workflow_check.specs.Checked.{fault_in}
use Rattle.job_graph.specs.Apart.{ids_differ}
use Rattle.run_rules.specs.Answers.{AreAnswers}
use Rattle.run_rules.specs.Blame.{WereStarted}
use Rattle.run_rules.specs.Reports.{entries_of}
use Rattle.run_rules.specs.Scene.{scene_of}
use Rattle.run_rules.specs.declared.request.Pair.{Pair}
use Rattle.run_rules.specs.declared.setting.Options.{Options}
use Rattle.run_rules.proofs.Rising.{none_started}
use Rattle.run_rules.proofs.TranscriptTells.{none_in}
use Rattle.run_core.specs.Core.{Begins}
use Rattle.run_core.specs.inner.Inside.{rates_of, Stands, on_run, seen, setting_in}
use Rattle.run_rules.specs.Limits.{IsWithinLimits}
use Rattle.run_core.specs.declared.runner.RunCore.TheInside.{Inside}
use Rattle.run_core.specs.declared.state.Course.{Course}
use Rattle.run_core.specs.declared.state.Phase.{Phase}
use Rattle.run_core.specs.inner.Course.{Past, nothing_past, past_of}
use Rattle.run_core.specs.inner.Measures.{Begins as BeginsAt}
use Rattle.run_core.specs.inner.Answered.{most_answers}
use Rattle.run_core.specs.inner.Asked.{pairs_in}
use Rattle.run_core.specs.inner.Standing.{HasRoom, Runs, pairs_ahead}
use Rattle.run_core.proofs.going.Given.{begins_run, laws_of}
use Rattle.run_core.proofs.standing.Answered.{after_measure}
use Rattle.run_core.proofs.standing.Books.{Books}
use Rattle.run_core.proofs.standing.Facts.{few_known}
use Rattle.run_core.proofs.standing.Flown.{measures_fly}
use Rattle.run_core.proofs.standing.Leaving.{Leaves}
use Rattle.run_core.proofs.standing.Modes.{lost_phase}

nothing_booked : (options : Options) (entries : List Entry) → Books options entries nothing_past
nothing_booked options entries = record {
  bounded = record { jobs = omega arith; retries = tt; folders = omega arith };
  blames = record { settled = λ end is. absurd cc };
}

two_at_most : (past : Past) (phase : Phase) → pairs_ahead past phase ≤ length past.tickets + 2
two_at_most past (Phase.Ended outcome) = omega arith
two_at_most past Phase.Draining = omega arith
two_at_most past phase = omega arith

module _ (core : Inside) (limits : IsWithinLimits core.given.options) (rated : core.given.rates ≡ rates_of core.given.options) (unanswered : core.given.answers ≡ 0) (accepted : fault_in core.given.process.now ≡ None) (ids : ids_differ core.given.process.now ≡ true)
    (empty : (pairs_in core.pairs) ≡ []) (none_counted : core.pairs.count ≡ 0) (old : Course) (nothing : past_of old ≡ nothing_past) (none : old.known ≡ None)
    (begins : BeginsAt core.given old core.turn core.course) (room : HasRoom core.course core.turn.phase) where
  runs : Runs (scene_of (setting_in core.given)) [] core.course core.turn
  runs = begins_run core.given rated (laws_of core.given accepted ids) limits.least_slots unanswered old nothing none core.turn core.course begins

  leaves : Leaves core.given.options (entries_of (pairs_in core.pairs)) core.turn core.course
  leaves =
      after_measure core.given old (entries_of (pairs_in core.pairs)) core.turn core.course (few_known (scene_of (setting_in core.given)) [] core.course core.turn runs) begins.measuring
      (subst (λ (p : Past). Books core.given.options (entries_of (pairs_in core.pairs)) p) (sym nothing) (nothing_booked core.given.options (entries_of (pairs_in core.pairs)))) begins.on

  none_flies : core.course.tickets.items ≡ []
  none_flies = measures_fly core.given old begins.measuring core.turn core.course begins.on ∙ ap (λ (p : Past). p.tickets) nothing

  pairs_fit : core.pairs.count + pairs_ahead (past_of core.course) core.turn.phase ≤ most_answers
  pairs_fit =
      let none_long : length core.course.tickets.items ≡ 0 = ap length none_flies in
      let two : pairs_ahead (past_of core.course) core.turn.phase ≤ length core.course.tickets.items + 2 = two_at_most (past_of core.course) core.turn.phase in
      both_fit core.pairs.count (pairs_ahead (past_of core.course) core.turn.phase) (length core.course.tickets.items) none_counted none_long two
    where
      both_fit : (n a k : ℕ) → n ≡ 0 → k ≡ 0 → a ≤ k + 2 → n + a ≤ most_answers
      both_fit n a k zero none two = omega (arith, zero, none, two)

  pub stands_first : Stands core
  stands_first = record {
    limits = limits;
    rates = rated;
    accepted = accepted;
    ids = ids;
    going = on_run (subst (λ (t : List Pair). Runs (scene_of (setting_in core.given)) t core.course core.turn) (sym empty) runs);
    answered = subst AreAnswers (sym empty) (λ pair there. absurd (none_in pair there));
    bounded = leaves.bounded;
    blames = leaves.blames;
    started = λ asks. subst (λ (ns : List ℕ). WereStarted (entries_of (pairs_in core.pairs)) ns) (sym none_flies) (none_started (entries_of (pairs_in core.pairs)));
    room = room;
    pairs_room = pairs_fit;
  }

  pub begins_at : Begins core.given.process.now core.given.inputs.now core.given.options (seen core)
  begins_at = record {
    setting = refl;
    nothing_asked = empty;
    none_in_flight = none_flies;
    not_lost = λ lost. leaves.not_lost (lost_phase core.turn.phase lost);
  }
