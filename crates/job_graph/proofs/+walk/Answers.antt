use Rattle.std.proofs.Common.{◌≡◌, ◌∙◌, ℕ, ◌+◌, ◌<◌, List, Ok, Option, Some, None, Bool, true, false, ap, arith, length, map, refl, replicate, set, subst, sym}
use Rattle.std.specs.Prelude.{slice_get}
use Rattle.std.specs.Map.{keys_of}
use Rattle.std.proofs.lemmas.List.{length_push, length-set, map-append}
use Rattle.std.proofs.lemmas.Option.{slice_get_read}
use Rattle.document_links.specs.declared.process.Step.{Step}
use Rattle.job_graph.specs.Equations.{instance, step_meaning_of, step_place, step_walk, StepMeaning}
use Rattle.job_graph.specs.Links.{Env}
use Rattle.job_graph.specs.Scatter.{at_tuple}
use Rattle.job_graph.specs.Words.{Name}
use Rattle.job_graph.specs.inner.Levels.{step_of, steps_of}
use Rattle.job_graph.specs.inner.Rounds.{AllMeet, Holds, MeetsBy, SettlesMore, count, walk_at}
use Rattle.job_graph.specs.inner.Views.{made_from, met_of, walk_of}
use Rattle.job_graph.specs.declared.walk.Met.{Met as KeptMet}
use Rattle.job_graph.proofs.SettledWalk.{settled_walk}
use Rattle.job_graph.proofs.Settling.{goes_on, goes_past, slot_met, slots_left}
use Rattle.job_graph.proofs.laws_of_walks.Places.{names_differ}
use Rattle.job_graph.proofs.laws_of_walks.Settled.{as_many, count_within, nothing_held}
use Rattle.job_graph.proofs.Walks.{each_push, met_push, whole_walk}
use Rattle.job_graph.proofs.+walk.Goals.{workflow::steps_met-in-Some, workflow::steps_met-in-None+in_ok-more-in-None, rounds::settle_more-then-not-is_stuck+in_ok-met, rounds::settle_more-else-not-is_stuck}
use Rattle.job_graph.proofs.+walk.Goals as goal

pub step::instances-loop-tuple-preserved : goal.step::instances-loop-tuple-preserved
step::instances-loop-tuple-preserved t c = record {
  one_each = ap length c.in_ok-push.ensures.items ∙ length_push c.loop-tuple.walks.items c.in_ok-instance_at.field-0 ∙ ap (λ (n : ℕ). n + 1) c.loop-tuple.invariant.one_each;
  walks = each_push walk_of
      (λ (tuple : List ℕ). instance (step_of c.args.facts.now c.args.step.now) (step_place c.args.place.now c.args.id.now tuple)
      (at_tuple (step_of c.args.facts.now c.args.step.now).scatter tuple c.args.values.now))
      c.loop-tuple.walks.items c.push.new.self.items c.in_ok-instance_at.field-0 c.args.tuples.now c.loop-tuple.tuple-index c.tuple-item.result
      c.in_ok-push.ensures.items c.loop-tuple.invariant.walks c.in_ok-instance_at.ensures c.loop-tuple-test.true c.tuple-item.is;
}

pub workflow::steps_met-loop-number-init : goal.workflow::steps_met-loop-number-init
workflow::steps_met-loop-number-init t c = record {
  met = ap (map met_of) c.new-met.ensures;
  known = subst (λ (entries : List (Name × Step)). AllMeet c.args.facts.now c.args.place.now c.args.inputs.now c.args.env.now entries c.args.known.items) (sym c.as_slice-entries.ensures.entries) c.requires;
  as_many = as_many c.args.facts.now c.args.place.now c.args.inputs.now c.args.steps.now c.args.env.now c.args.steps.now c.args.known.items c.requires ∙ ap length (sym c.as_slice-entries.ensures.entries);
}

pub workflow::steps_met-loop-number-preserved : goal.workflow::steps_met-loop-number-preserved
workflow::steps_met-loop-number-preserved t c =
    let entries : List (Name × Step) = c.as_slice-entries.result.now in
    let step : Name × Step = c.index-entries-number.result in
    let known : List (Option (List KeptMet)) = c.loop-number.known.items in
    let slot : Option (List KeptMet) = c.index_mut.result.now in
    let within : c.loop-number.number < length known = omega (arith, c.loop-number.invariant.as_many, c.loop-number-test.true) in
    let there : slice_get known c.loop-number.number ≡ Some slot = slice_get_read known (length known) c.loop-number.number slot refl within c.index_mut.ensures.value in
    let kept : MeetsBy c.args.facts.now c.args.place.now c.args.inputs.now c.args.env.now step slot =
    (slot_met c.args.facts.now c.args.place.now c.args.inputs.now entries c.args.env.now entries known c.loop-number.number step slot c.loop-number-test.true c.index-entries-number.is there c.loop-number.invariant.known).0 in
    let last : map met_of c.match-replace.more ≡ (walk_at c.args.facts.now c.args.place.now c.args.inputs.now c.args.env.now step).met =
    elim c.match-replace.branch [
      | workflow::steps_met-in-Some w ↦
          rw w.more-is (subst (MeetsBy c.args.facts.now c.args.place.now c.args.inputs.now c.args.env.now step) (sym c.replace.ensures.value ∙ w.in-Some.is) kept).1
      | workflow::steps_met-in-None+in_ok-more-in-None w ↦ rw w.more-is w.in_ok-more-in-None.ensures
    ] in
    record {
      met = met_push (λ (s : Name × StepMeaning). (step_walk c.args.place.now c.args.inputs.now c.args.env.now s).met)
          (λ (s : Name × Step). (s.0, step_meaning_of c.args.facts.now.measures (made_from c.args.facts.now) s.1))
          (map met_of c.loop-number.met) (map met_of c.push_met.new.met) (map met_of c.match-replace.more)
          entries c.loop-number.number step
          (ap (map met_of) c.in_ok-push_met.ensures ∙ map-append met_of c.loop-number.met c.match-replace.more)
          c.loop-number.invariant.met last c.loop-number-test.true c.index-entries-number.is;
      known = slots_left c.args.facts.now c.args.place.now c.args.inputs.now entries c.args.env.now known c.loop-number.number step slot c.loop-number-test.true c.index-entries-number.is there
          c.loop-number.invariant.known (set known c.loop-number.number c.replace.new.dest) (ap (λ (o : Option (List KeptMet)). set known c.loop-number.number o) c.replace.ensures.after);
      as_many = length-set known c.loop-number.number c.replace.new.dest ∙ c.loop-number.invariant.as_many;
    }

pub rounds::settle_more-index_mut-requires : goal.rounds::settle_more-index_mut-requires
rounds::settle_more-index_mut-requires t c =
    let entries : List (Name × Step) = c.as_slice-entries.result.now in
    let many : length c.loop-number.settled.met.items ≡ length entries =
    as_many c.args.facts.now c.args.place.now c.args.inputs.now entries c.loop-number.settled.outs entries c.loop-number.settled.met.items c.loop-number.invariant.holds.met in
    omega (arith, many, c.loop-number-test.true)

pub rounds::settle_more-loop-number-preserved : goal.rounds::settle_more-loop-number-preserved
rounds::settle_more-loop-number-preserved t c =
    let entries : List (Name × Step) = c.as_slice-entries.result.now in
    elim c.if-not-is_stuck.branch [
      | rounds::settle_more-then-not-is_stuck+in_ok-met w ↦
          rw (w.settled-is, w.more-is)
          (goes_on c.args.facts.now c.args.place.now c.args.inputs.now entries c.args.settled.now.outs c.loop-number.settled.outs c.loop-number.settled.met.items c.loop-number.number
          c.index-entries-number.result c.loop-number-test.true c.index-entries-number.is (names_differ (keys_of entries) c.as_slice-entries.ensures.ids) c.loop-number.more
          w.settle.new.env w.in_ok-met.met _ c.loop-number.invariant (sym c.is_stuck.ensures ∙ w.if-not-is_stuck.true)
          w.in_ok-met.ensures.met w.in_ok-met.ensures.outs refl)
      | rounds::settle_more-else-not-is_stuck w ↦
          rw (w.settled-is, w.more-is)
          (goes_past c.args.facts.now c.args.place.now c.args.inputs.now entries c.args.settled.now.outs c.loop-number.settled.outs c.loop-number.settled.met.items c.loop-number.number
          c.index-entries-number.result c.loop-number-test.true c.index-entries-number.is c.loop-number.more c.loop-number.invariant
          (sym c.is_stuck.ensures ∙ w.if-not-is_stuck.false))
    ]

pub rounds::settle_steps-loop-settled-init : goal.rounds::settle_steps-loop-settled-init
rounds::settle_steps-loop-settled-init t c =
    let none : c.in_ok-met.met.items ≡ replicate (length c.args.steps.now) None = c.in_ok-met.ensures ∙ ap (λ (n : ℕ). replicate n None) c.len.ensures in
    subst (λ (outs : Env). Holds c.args.facts.now c.args.place.now c.args.inputs.now c.args.steps.now outs c.in_ok-met.met.items) (sym c.new.ensures)
    (nothing_held c.args.facts.now c.args.place.now c.args.inputs.now c.args.steps.now c.in_ok-met.met.items none)

pub rounds::settle_steps-loop-settled-smaller : goal.rounds::settle_steps-loop-settled-smaller
rounds::settle_steps-loop-settled-smaller t c =
    let steps : List (Name × Step) = c.args.steps.now in
    let new : Env = c.settle_more.new.settled.outs in
    let settles : SettlesMore c.args.facts.now c.args.place.now c.args.inputs.now steps c.loop-settled.settled.outs true new c.settle_more.new.settled.met.items =
    subst (λ (more : Bool). SettlesMore c.args.facts.now c.args.place.now c.args.inputs.now steps c.loop-settled.settled.outs more new c.settle_more.new.settled.met.items) c.if-branch.true c.in_ok-settle_more.ensures in
    let grown : count c.loop-settled.settled.outs steps < count new steps = settles.goes_on in
    omega (arith, grown, count_within new steps)

pub rounds::settle_steps-returns-clause-outs : goal.rounds::settle_steps-returns-clause-outs
rounds::settle_steps-returns-clause-outs t c =
    let steps : List (Name × Step) = c.args.steps.now in
    let env : Env = c.settle_more.new.settled.outs in
    let settles : SettlesMore c.args.facts.now c.args.place.now c.args.inputs.now steps c.loop-settled.settled.outs false env c.settle_more.new.settled.met.items =
    subst (λ (more : Bool). SettlesMore c.args.facts.now c.args.place.now c.args.inputs.now steps c.loop-settled.settled.outs more env c.settle_more.new.settled.met.items) c.if-branch.false c.in_ok-settle_more.ensures in
    record { keeps = settles.holds.keeps; stuck = settles.goes_on }

pub workflow::walk_keeping-returns-clause-walk : goal.workflow::walk_keeping-returns-clause-walk
workflow::walk_keeping-returns-clause-walk t c =
    whole_walk {E = Unit {0}} c.args.outputs.now (steps_of c.args.facts.now c.args.steps.now) c.args.place.now c.args.inputs.now c.in_ok-env.field-0.outs c.in_ok-met.met (Ok c.in_ok-walk.walk)
    (settled_walk c.args.facts.now c.args.place.now c.args.inputs.now c.args.steps.now c.in_ok-env.field-0.outs c.in_ok-env.ensures.outs c.args.outputs.now)
    c.in_ok-met.ensures c.in_ok-walk.ensures.met c.in_ok-walk.ensures.outs
