use Rattle.std.specs.Prelude.{IsTrue, drop, slice_index_or, slice_set}
use Rattle.std.proofs.Common.{rules, ◌≡◌, ◌⊎◌, ◌∙◌, ◌+◌, ◌<◌, ◌≤◌, ℕ, List, None, ap, length, map, refl, sym, true≢false}
use Rattle.std.proofs.lemmas.List.{get_or_default}
use Rattle.job_graph.specs.declared.costs.Costs.{Costs}
use Rattle.run_plan.specs.Brought.{AreFree}
use Rattle.run_plan.specs.Touched.{costs_in}
use Rattle.run_plan.proofs.FewBrought.{drop_one, freed_on, freeing_done, freeing_more, not_freeing, patched_more}
use Rattle.run_plan.proofs.few.bring_changed.Goals as goal

pub loop-one-preserved : goal.loop-one-preserved
loop-one-preserved c =
    let i : ℕ = c.loop-one.one-index in
    let within : i < length c.args.changed.now = search rules in
    let one : ℕ × Costs = slice_index_or c.args.changed.now i (0, record { load = None; compute = 0 }) in
    let step : map costs_in c.bring_costs.new.made.graph ≡ slice_set (map costs_in c.loop-one.made.graph) one.0 one.1 = search rules in
    let yes : IsTrue c.bring_costs.result = search rules in
    let read = get_or_default c.args.changed.now i (0, record { load = None; compute = 0 }) one within in
    let takes : AreFree one.1 ⊎ (slice_index_or (map costs_in c.loop-one.made.graph) one.0 one.1 ≡ one.1) = c.bring_costs.ensures.exact.0 yes in
    record {
      kept = c.bring_costs.ensures.kept;
      count = c.bring_costs.ensures.count ∙ c.loop-one.invariant.count;
      parents = c.bring_costs.ensures.parents yes;
      costs = step
          ∙ ap (λ (list : List Costs). slice_set list one.0 one.1) c.loop-one.invariant.costs
          ∙ sym (patched_more (map costs_in c.args.made.now.graph) c.args.changed.now i one within read);
      still = freeing_more (map costs_in c.args.made.now.graph) (map costs_in c.loop-one.made.graph) (map costs_in c.bring_costs.new.made.graph) c.args.changed.now (drop i c.args.changed.now)
          (drop (i + 1) c.args.changed.now) one c.loop-one.invariant.still (drop_one c.args.changed.now i one within read) takes step;
      freed = λ n.
          freed_on c.args.needed.now c.args.made.now.graph c.loop-one.made.graph c.bring_costs.new.made.graph n (c.loop-one.invariant.freed n) (c.bring_costs.ensures.freed yes n);
    }

pub returns-then-not-bring_costs-clause-exact : goal.returns-then-not-bring_costs-clause-exact
returns-then-not-bring_costs-clause-exact c =
    let i : ℕ = c.loop-one.one-index in
    let within : i < length c.args.changed.now = search rules in
    let one : ℕ × Costs = slice_index_or c.args.changed.now i (0, record { load = None; compute = 0 }) in (
      (λ never. absurd cc),
      (λ all.
          absurd
          (not_freeing (map costs_in c.args.made.now.graph) (map costs_in c.loop-one.made.graph) c.args.changed.now (drop i c.args.changed.now) (drop (i + 1) c.args.changed.now) one
          c.loop-one.invariant.still (drop_one c.args.changed.now i one within (get_or_default c.args.changed.now i (0, record { load = None; compute = 0 }) one within))
          (λ takes. true≢false (sym (c.bring_costs.ensures.exact.1 takes) ∙ c.if-not-bring_costs.true)) all)),
    )

pub returns-clause-exact : goal.returns-clause-exact
returns-clause-exact c =
    let past : length c.args.changed.now ≤ c.loop-one.one-index = search rules in (
      (λ yes. freeing_done (map costs_in c.args.made.now.graph) (map costs_in c.loop-one.made.graph) c.args.changed.now c.loop-one.one-index c.loop-one.invariant.still past),
      (λ all. refl),
    )
