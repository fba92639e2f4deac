use Rattle.std.proofs.Common.{◌≡◌, ◌∙◌, ◌+◌, ◌<◌, ℕ, List, ap, arith, length, subst, sym, true}
use Rattle.std.specs.Prelude.{reverse}
use Rattle.std.specs.Map.{keys_of}
use Rattle.std.proofs.lemmas.List.{length_push}
use Rattle.document_links.specs.declared.process.Process.{out-Process}
use Rattle.document_links.specs.declared.process.Step.{Step, out-Step}
use Rattle.document_links.specs.declared.process.Workflow.{out-Workflow}
use Rattle.job_graph.specs.Apart.{differ, step_ids_differ}
use Rattle.job_graph.specs.Equations.{step_place}
use Rattle.job_graph.specs.Words.{JobPlace, Name}
use Rattle.job_graph.specs.inner.Going.{EndedBelow, facts_before}
use Rattle.job_graph.specs.inner.Nested.{GoesOnIn, HasInner, KeepsAlong, MayKeep}
use Rattle.job_graph.specs.inner.Counts.{IsCounted}
use Rattle.job_graph.specs.inner.Readers.{IsTableOf}
use Rattle.job_graph.specs.inner.Rounds.{IsSettled}
use Rattle.job_graph.proofs.Inward.{IsStepAbove, ended_step, form_is, nested_ok, reverse_push, settled_at, step_is_above, went_on}
use Rattle.job_graph.proofs.Loops.{if_found}
use Rattle.job_graph.proofs.Nesting.{gone_inner, may_keep, settled_in}
use Rattle.job_graph.proofs.RootWalk.{inside_workflow, root_apart}
use Rattle.job_graph.proofs.laws_of_walks.Places.{names_differ, step_is}
use Rattle.job_graph.proofs.laws_of_walks.Settled.{each_of, is_element}
use Rattle.job_graph.proofs.nested.+nested.Goals as goal

pub walk_deeper-met_deeper-requires : goal.walk_deeper-met_deeper-requires
walk_deeper-met_deeper-requires t c = (omega arith, (c.requires.before, (c.requires.along, (c.requires.table, (c.requires.ended, c.requires.apart)))))

pub met_deeper-inner_at-requires : goal.met_deeper-inner_at-requires
met_deeper-inner_at-requires t c =
    let above : IsStepAbove c.args.ended.now c.args.env.now c.args.steps.now c.in-Some.number c.index-entries-number.result =
    step_is_above c.args.ended.now c.args.env.now c.args.steps.now c.step_above.result (c.step_above.ensures c.args.steps.now c.requires.table) c.in-Some.number c.in-Some.is
    c.as_slice-entries.result.now c.as_slice-entries.ensures.entries c.index-entries-number.result c.index-entries-number.is in
    let some : 0 < length c.args.ended.now = omega (arith, c.in-len1-up.len_at_least) in (
      omega arith,
      (
        may_keep (facts_before c.args.facts.now) c.args.place.now c.args.inputs.now c.args.steps.now c.args.env.now c.in-Some.number c.index-entries-number.result above.within above.is (reverse c.args.nested) c.requires.along,
        (
          subst (λ (tuple : List ℕ). EndedBelow c.args.facts.now (step_place c.args.place.now c.index-entries-number.result.0 tuple) c.after_first-rest.result.now) (sym c.as_slice-tuple.ensures)
              (ended_step c.args.facts.now c.args.place.now c.args.ended.now c.requires.ended c.segment-item.result some c.segment-item.is c.after_first-rest.result.now c.after_first-rest.ensures
              c.index-entries-number.result.0 above.through),
          each_of (λ (s : Name × Step). step_ids_differ s.1) c.args.steps.now c.requires.apart c.index-entries-number.result
              (is_element c.args.steps.now c.in-Some.number c.index-entries-number.result above.within above.is),
        ),
      ),
    )

pub met_deeper-returns-in_ok-inner-in-len1-up : goal.met_deeper-returns-in_ok-inner-in-len1-up
met_deeper-returns-in_ok-inner-in-len1-up t c =
    let above : IsStepAbove c.args.ended.now c.args.env.now c.args.steps.now c.in-Some.number c.index-entries-number.result =
    step_is_above c.args.ended.now c.args.env.now c.args.steps.now c.step_above.result (c.step_above.ensures c.args.steps.now c.requires.table) c.in-Some.number c.in-Some.is
    c.as_slice-entries.result.now c.as_slice-entries.ensures.entries c.index-entries-number.result c.index-entries-number.is in
    let some : 0 < length c.args.ended.now = omega (arith, c.in-len1-up.len_at_least) in
    let below : EndedBelow c.args.facts.now (step_place c.args.place.now c.index-entries-number.result.0 c.as_slice-tuple.result.now) c.after_first-rest.result.now =
    subst (λ (tuple : List ℕ). EndedBelow c.args.facts.now (step_place c.args.place.now c.index-entries-number.result.0 tuple) c.after_first-rest.result.now) (sym c.as_slice-tuple.ensures)
    (ended_step c.args.facts.now c.args.place.now c.args.ended.now c.requires.ended c.segment-item.result some c.segment-item.is c.after_first-rest.result.now c.after_first-rest.ensures
    c.index-entries-number.result.0 above.through) in
    let apart : differ (keys_of c.args.steps.now) ≡ true =
    subst (λ (some : List (Name × Step)). differ (keys_of some) ≡ true) c.as_slice-entries.ensures.entries (names_differ (keys_of c.as_slice-entries.result.now) c.as_slice-entries.ensures.ids) in
    nested_ok c.args.facts.now c.args.place.now c.args.ended.now c.requires.ended c.args.inputs.now c.args.steps.now apart c.requires.apart c.args.env.now c.requires.before c.in-Some.number
    c.index-entries-number.result above c.as_slice-tuple.result.now c.after_first-rest.result.now below c.in_ok-inner-in-len1-up.inner c.in_ok-inner-in-len1-up.ensures c.with_stay.result c.with_stay.ensures

pub inner_at-go_on-requires : goal.inner_at-go_on-requires
inner_at-go_on-requires t c =
    let one_more : length c.args.nested ≡ length c.pop.new.self + 1 = ap length c.in-Some.ensures ∙ length_push c.pop.new.self c.in-Some.one in (
      omega (arith, one_more),
      (
        settled_in c.args.facts.now c.args.place.now c.args.inputs.now c.args.env.now c.args.step.now c.in-Some.one (reverse c.pop.new.self)
            (subst (MayKeep (facts_before c.args.facts.now) c.args.place.now c.args.inputs.now c.args.env.now c.args.step.now c.args.number)
            (reverse_push c.pop.new.self c.in-Some.one c.args.nested c.in-Some.ensures) c.requires.along (c.is_of.ensures c.if-not-is_of.false).0),
        (
          subst (λ (tuple : List ℕ). EndedBelow c.args.facts.now (step_place c.args.place.now c.args.step.now.0 tuple) c.args.rest.now) (sym (c.is_of.ensures c.if-not-is_of.false).1) c.requires.ended,
          sym (step_is c.args.step.now.1) ∙ c.requires.apart,
        ),
      ),
    )

pub inner_at-returns : goal.inner_at-returns
inner_at-returns t c =
    if_found
    (GoesOnIn c.args.facts.now (step_place c.args.place.now c.args.step.now.0 c.in-Some.one.tuple) (out-Process (out-Step c.args.step.now.1).process) c.in-Some.one)
    (HasInner c.args.facts.now c.args.place.now c.args.inputs.now c.args.env.now c.args.step.now c.args.number c.args.tuple.now)
    (λ inner goes.
    gone_inner c.args.facts.now c.args.place.now c.args.inputs.now c.args.env.now c.args.step.now c.in-Some.one (reverse c.pop.new.self) c.args.number c.args.tuple.now inner
    (c.is_of.ensures c.if-not-is_of.false).0 (c.is_of.ensures c.if-not-is_of.false).1
    (subst (MayKeep (facts_before c.args.facts.now) c.args.place.now c.args.inputs.now c.args.env.now c.args.step.now c.args.number)
    (reverse_push c.pop.new.self c.in-Some.one c.args.nested c.in-Some.ensures) c.requires.along (c.is_of.ensures c.if-not-is_of.false).0)
    goes)
    c.go_on.result c.go_on.ensures

pub go_on-walk_deeper-requires : goal.go_on-walk_deeper-requires
go_on-walk_deeper-requires t c =
    let settled : IsSettled (facts_before c.args.facts.now) c.in_ok-own-in-Workflow.own c.args.one.inputs (out-Workflow c.in-Workflow.workflow).steps c.args.one.env
    × KeepsAlong (facts_before c.args.facts.now) c.in_ok-own-in-Workflow.own c.args.one.inputs (out-Workflow c.in-Workflow.workflow).steps c.args.one.env (reverse c.args.nested)
    × IsTableOf c.args.one.readers (out-Workflow c.in-Workflow.workflow).steps
    × IsCounted c.args.one.env (out-Workflow c.in-Workflow.workflow).steps c.args.one.counts.items =
    settled_at (facts_before c.args.facts.now) c.in_ok-own-in-Workflow.own (step_place c.args.place.now c.args.id.now c.args.one.tuple) c.in_ok-own-in-Workflow.ensures
    c.args.process.now c.in-Workflow.workflow c.in-Workflow.is c.args.one (reverse c.args.nested) c.requires.settled in (
      omega arith,
      (
        settled.0,
        (
          settled.1,
          (
            settled.2,
            (
              settled.3,
              (
                subst (λ (own : JobPlace). EndedBelow c.args.facts.now own c.args.rest.now) (sym c.in_ok-own-in-Workflow.ensures) c.requires.ended,
                inside_workflow c.in-Workflow.workflow
                    (root_apart c.args.process.now c.in-Workflow.workflow (form_is c.args.process.now c.in-Workflow.workflow c.in-Workflow.is) c.requires.apart),
              ),
            ),
          ),
        ),
      ),
    )

pub go_on-returns-in_ok-with_inner-in-Workflow : goal.go_on-returns-in_ok-with_inner-in-Workflow
go_on-returns-in_ok-with_inner-in-Workflow t c =
    went_on c.args.facts.now c.in_ok-own-in-Workflow.own (step_place c.args.place.now c.args.id.now c.args.one.tuple) c.in_ok-own-in-Workflow.ensures
    c.args.process.now c.in-Workflow.workflow c.in-Workflow.is c.as_slice-outputs.result.now c.as_slice-outputs.ensures.entries c.args.one
    c.in_ok-deeper-in-Workflow.deeper c.in_ok-deeper-in-Workflow.ensures _ c.in_ok-with_inner-in-Workflow.ensures.walk c.in_ok-with_inner-in-Workflow.ensures.nested
