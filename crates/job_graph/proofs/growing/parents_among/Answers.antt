use Rattle.std.proofs.Common.{◌≡◌, ◌∙◌, ◌++◌, ◌<◌, List, ℕ, ap, append-nil, get_or, length, rules, subst, subst₂, sym}
use Rattle.job_graph.specs.KnownJobs.{jobs_in}
use Rattle.job_graph.specs.Made.{any_made}
use Rattle.job_graph.specs.Unfold.{parents_from}
use Rattle.job_graph.specs.Words.{Fields}
use Rattle.job_graph.specs.declared.growth.KnownJob.{KnownJob}
use Rattle.job_graph.specs.inner.Makers.{Gathers}
use Rattle.job_graph.proofs.Gathering.{ParentsTo, chosen, made_at, next_within, parents_first, parents_one, parents_past}
use Rattle.job_graph.proofs.growing.parents_among.Goals as goal

pub loop-number-init : goal.loop-number-init
loop-number-init c =
    subst₂ (ParentsTo c.args.known.now c.args.inputs.now) (sym c.into_iter-number-iterator.ensures.into_iter_gives.0) (sym c.new-parents.ensures)
    (parents_first c.args.known.now c.args.inputs.now c.in_ok-number-items.number-items c.into_iter-number-iterator.ensures.into_iter_gives.4
    (subst (λ (fields : Fields). Gathers (λ job. any_made job fields) c.args.known.now c.in_ok-number-items.number-items) (c.in_ok-makers.ensures ∙ c.as_slice.ensures.entries) c.in_ok-number-items.ensures))

pub bounds-jobs-number : goal.bounds-jobs-number
bounds-jobs-number c =
    subst (λ (jobs : List KnownJob). c.in-Some.number < length jobs) (sym c.as_slice-jobs.ensures)
    (next_within c.args.known.now c.args.inputs.now c.in-Some.number c.next.new.self c.loop-number.parents
    (subst (λ (left : List ℕ). ParentsTo c.args.known.now c.args.inputs.now left c.loop-number.parents) c.in-Some.ensures.steps c.loop-number.invariant))

pub offset_bounds-jobs-number : goal.offset_bounds-jobs-number
offset_bounds-jobs-number c =
    let within : c.in-Some.number < length c.as_slice-jobs.result.now =
    subst (λ (jobs : List KnownJob). c.in-Some.number < length jobs) (sym c.as_slice-jobs.ensures)
    (next_within c.args.known.now c.args.inputs.now c.in-Some.number c.next.new.self c.loop-number.parents
    (subst (λ (left : List ℕ). ParentsTo c.args.known.now c.args.inputs.now left c.loop-number.parents) c.in-Some.ensures.steps c.loop-number.invariant)) in
    search (rules, within)

pub loop-number-preserved-in-Continue-branch-3 : goal.loop-number-preserved-in-Continue-branch-3
loop-number-preserved-in-Continue-branch-3 c =
    subst (ParentsTo c.args.known.now c.args.inputs.now c.next.new.self) (sym c.in_ok-push.ensures.ok)
    (parents_one c.args.known.now c.args.inputs.now c.in-Some.number c.next.new.self c.loop-number.parents
    (subst (λ (left : List ℕ). ParentsTo c.args.known.now c.args.inputs.now left c.loop-number.parents) c.in-Some.ensures.steps c.loop-number.invariant)
    c.index-jobs-number.result (c.index-jobs-number.is ∙ ap (λ (jobs : List KnownJob). get_or jobs c.in-Some.number c.index-jobs-number.result) c.as_slice-jobs.ensures)
    (sym (c.has.ensures ∙ ap (any_made c.index-jobs-number.result.job.place) (c.in_ok-makers.ensures ∙ c.as_slice.ensures.entries)) ∙ c.if-has.true))

pub loop-number-preserved : goal.loop-number-preserved
loop-number-preserved c =
    parents_past c.args.known.now c.args.inputs.now c.in-Some.number c.next.new.self c.loop-number.parents
    (subst (λ (left : List ℕ). ParentsTo c.args.known.now c.args.inputs.now left c.loop-number.parents) c.in-Some.ensures.steps c.loop-number.invariant)
    c.index-jobs-number.result (c.index-jobs-number.is ∙ ap (λ (jobs : List KnownJob). get_or jobs c.in-Some.number c.index-jobs-number.result) c.as_slice-jobs.ensures)
    (sym (c.has.ensures ∙ ap (any_made c.index-jobs-number.result.job.place) (c.in_ok-makers.ensures ∙ c.as_slice.ensures.entries)) ∙ c.if-has.false)

pub returns : goal.returns
returns c =
    sym (append-nil c.loop-number.parents)
    ∙ subst (λ (left : List ℕ). c.loop-number.parents ++ chosen (made_at c.args.known.now c.args.inputs.now) left ≡ parents_from 0 (jobs_in c.args.known.now) c.args.inputs.now)
    c.in-None.ensures.steps.0 c.loop-number.invariant.so_far
