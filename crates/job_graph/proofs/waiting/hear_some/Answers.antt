use Rattle.std.proofs.Common.{◌≡◌, ◌∙◌, ◌+◌, ◌<◌, List, ap, drop, get_or, length, rules, subst, sym, ℕ}
use Rattle.document_links.specs.declared.process.Step.{Step}
use Rattle.job_graph.specs.Words.{Name}
use Rattle.job_graph.specs.inner.Elements.{stands_in}
use Rattle.job_graph.proofs.GoingOn.{drop_next, stands_at}
use Rattle.job_graph.proofs.Hearing.{Hearing, hearing_one}
use Rattle.job_graph.proofs.waiting.hear_some.Goals as goal

pub bounds-entries-number : goal.bounds-entries-number
bounds-entries-number c =
    subst (λ (some : List (Name × Step)). get_or c.args.row.now c.loop-number.number-index 0 < length some) (sym c.as_slice-entries.ensures.entries)
    (c.requires.row (get_or c.args.row.now c.loop-number.number-index 0) (stands_at c.args.row.now c.loop-number.number-index c.loop-number-test.true))

pub offset_bounds-entries-number : goal.offset_bounds-entries-number
offset_bounds-entries-number c =
    let within : get_or c.args.row.now c.loop-number.number-index 0 < length c.as_slice-entries.result.now =
    subst (λ (some : List (Name × Step)). get_or c.args.row.now c.loop-number.number-index 0 < length some) (sym c.as_slice-entries.ensures.entries)
    (c.requires.row (get_or c.args.row.now c.loop-number.number-index 0) (stands_at c.args.row.now c.loop-number.number-index c.loop-number-test.true)) in
    search (rules, within)

pub loop-number-preserved : goal.loop-number-preserved
loop-number-preserved c =
    let steps : List (Name × Step) = c.args.steps.now in
    let n : ℕ = get_or c.args.row.now c.loop-number.number-index 0 in
    let rest : List ℕ = drop (c.loop-number.number-index + 1) c.args.row.now in
    let within : n < length steps = c.requires.row n (stands_at c.args.row.now c.loop-number.number-index c.loop-number-test.true) in
    let k : Name × Step = c.index-entries-number.result in
    let here_is : k ≡ get_or steps n k = c.index-entries-number.is ∙ ap (λ (some : List (Name × Step)). get_or some n k) c.as_slice-entries.ensures.entries in
    hearing_one c.args.facts.now c.args.place.now c.args.inputs.now steps c.args.env.now (λ m s. stands_in m c.args.row.now) c.args.met.now c.loop-number.met c.hear.new.met n k within here_is c.in_ok-hear.ensures rest
    (subst (λ (left : List ℕ). Hearing c.args.facts.now c.args.place.now c.args.inputs.now steps c.args.env.now (λ m s. stands_in m c.args.row.now) (λ m s. stands_in m left) c.args.met.now c.loop-number.met)
    (drop_next c.args.row.now c.loop-number.number-index 0 c.loop-number-test.true) c.loop-number.invariant)
