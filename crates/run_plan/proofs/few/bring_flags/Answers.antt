use Rattle.std.specs.Prelude.{IsTrue, slice_index_or}
use Rattle.std.proofs.Common.{rules, ◌≡◌, ◌∙◌, ◌+◌, ◌<◌, ◌≤◌, ℕ, arith, false, length, refl, sym, true≢false}
use Rattle.plan_checker.specs.Graph.{vertex}
use Rattle.run_plan.specs.Touched.{costs_in}
use Rattle.run_plan.specs.inner.Again.{IsBrought, vertex_of}
use Rattle.run_plan.specs.inner.Flagged.{HaveParents, parents_at}
use Rattle.run_plan.proofs.FewBrought.{AreFlagsBelow, costs_same, flagged_more, flagged_on, flags_more, flags_on, no_flags, not_flagged, parents_brought}
use Rattle.run_plan.proofs.few.bring_flags.Goals as goal

pub loop-number-init : goal.loop-number-init
loop-number-init c =
    let graph = c.args.made.now.graph in
    let number : ℕ = c.first_other-number.result in
    let within : number ≤ length graph = omega (arith, c.first_other-number.ensures.within.1, c.requires.before) in
    let none : AreFlagsBelow c.args.needed.now graph graph 0 = no_flags c.args.needed.now graph in
    record {
      within = c.first_other-number.ensures.within.1;
      kept = c.requires.kept;
      count = refl;
      parents = c.requires.parents;
      costs = refl;
      flagged = flagged_on c.args.known.now c.args.before.now c.args.needed.now graph graph 0 number c.requires.either c.requires.parents refl none c.first_other-number.ensures.same (omega arith)
          within (λ n below. absurd (omega (arith, below)));
      flags = flags_on c.args.known.now c.args.before.now c.args.needed.now graph graph 0 number c.requires.either c.requires.parents refl none c.first_other-number.ensures.same (omega arith)
          within;
    }

pub loop-number-preserved : goal.loop-number-preserved
loop-number-preserved c =
    let initial = c.args.made.now.graph in
    let old = c.loop-number.made.graph in
    let new = c.bring_flag.new.made.graph in
    let number : ℕ = c.loop-number.number in
    let following : ℕ = c.first_other-number-in-loop-number.result in
    let below : number < length c.args.before.now = search rules in
    let there : number < length old = omega (arith, below, c.requires.before, c.loop-number.invariant.count) in
    let now : IsBrought old new number (vertex_of (parents_at c.args.known.now number) (costs_in (vertex old number)) (slice_index_or c.args.needed.now number false)) = search rules in
    let yes : IsTrue c.bring_flag.result = search rules in
    let within : following ≤ length initial = omega (arith, c.first_other-number-in-loop-number.ensures.within.1, c.requires.before) in
    let count : length new ≡ length initial = c.bring_flag.ensures.count ∙ c.loop-number.invariant.count in
    let parents : HaveParents c.args.known.now new = parents_brought c.args.known.now old new number _ _ c.bring_flag.ensures.count c.loop-number.invariant.parents now in
    let flags : AreFlagsBelow c.args.needed.now initial new (number + 1) =
    flags_more c.args.needed.now initial old new number _ c.loop-number.invariant.flags now (c.bring_flag.ensures.exact.0 yes) in
    record {
      within = c.first_other-number-in-loop-number.ensures.within.1;
      kept = c.bring_flag.ensures.kept;
      count = count;
      parents = parents;
      costs = costs_same old new number _ _ there c.bring_flag.ensures.count now ∙ c.loop-number.invariant.costs;
      flagged = flagged_on c.args.known.now c.args.before.now c.args.needed.now initial new (number + 1) following c.requires.either parents count flags
          c.first_other-number-in-loop-number.ensures.same c.first_other-number-in-loop-number.ensures.within.0 within
          (flagged_more c.args.known.now c.args.needed.now old new number c.loop-number.invariant.flagged now);
      flags = flags_on c.args.known.now c.args.before.now c.args.needed.now initial new (number + 1) following c.requires.either parents count flags
          c.first_other-number-in-loop-number.ensures.same c.first_other-number-in-loop-number.ensures.within.0 within;
    }

pub returns-then-not-bring_flag-clause-exact : goal.returns-then-not-bring_flag-clause-exact
returns-then-not-bring_flag-clause-exact c =
    let below : c.loop-number.number < length c.args.before.now = search rules in
    let there : c.loop-number.number < length c.args.made.now.graph = omega (arith, below, c.requires.before) in (
      (λ never. absurd cc),
      (λ all.
          absurd
          (not_flagged c.args.needed.now c.args.made.now.graph c.loop-number.made.graph c.loop-number.number c.loop-number.invariant.flags
          (λ now. true≢false (sym (c.bring_flag.ensures.exact.1 now) ∙ c.if-not-bring_flag.true))
          (all c.loop-number.number there))),
    )

pub returns-clause-exact : goal.returns-clause-exact
returns-clause-exact c =
    let past : length c.args.before.now ≤ c.loop-number.number = search rules in (
      (λ yes. λ n within. c.loop-number.invariant.flags.each n (omega (arith, within, past, c.requires.before))),
      (λ all. refl),
    )

pub returns-clause-flagged : goal.returns-clause-flagged
returns-clause-flagged c =
    let past : length c.args.before.now ≤ c.loop-number.number = search rules in
    λ yes. λ n within. c.loop-number.invariant.flagged n (omega (arith, within, past, c.requires.before))
