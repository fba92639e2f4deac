use Rattle.std.specs.Prelude.{◌≢◌}
use Rattle.std.proofs.Common.{◌≡◌, ◌∙◌, ◌<◌, [], length, sym, subst}
use Rattle.run_core.specs.declared.state.Course.{Course}
use Rattle.run_core.specs.declared.state.Turn.{Turn}
use Rattle.run_core.specs.inner.Course.{known_in}
use Rattle.run_core.specs.inner.Picks.{Chooses, Delivers, Stages, fetches, has_result, stages, waits_for_one}
use Rattle.run_core.proofs.Choosing.{known_within, loads_loaded}
use Rattle.run_core.proofs.Lists.{counted, if_ok, uncounted}
use Rattle.run_core.proofs.choice.choose.Goals as goal

pub returns-in-Some-clause-is : goal.returns-in-Some-clause-is
returns-in-Some-clause-is c = if_ok c.fetching.result (λ turn f. fetches c.in-Some.number turn c.in-Some.ensures f) c.fetching.ensures

pub fetching-requires-clause-loads : goal.fetching-requires-clause-loads
fetching-requires-clause-loads c = loads_loaded c.args.given.now c.args.course.now c.in-Some.number c.in-Some.ensures

pub returns-in-Some-next_to_stage-clause-is : goal.returns-in-Some-next_to_stage-clause-is
returns-in-Some-next_to_stage-clause-is c =
    if_ok c.staging.result
    (λ turn st.
    stages c.in-Some-next_to_stage.number turn c.in_default.ensures c.in-Some-next_to_stage.ensures.found
    (subst (λ (looked : Course). Stages c.args.given.now looked c.in-Some-next_to_stage.number turn) c.next_to_stage.ensures.same st))
    c.staging.ensures

pub staging-requires-clause-number : goal.staging-requires-clause-number
staging-requires-clause-number c =
    subst (λ (looked : Course). c.in-Some-next_to_stage.number < length (known_in looked.known)) (sym c.next_to_stage.ensures.same)
    (known_within c.args.course.now c.in-Some-next_to_stage.number c.in-Some-next_to_stage.ensures.found.lowest)

pub returns-then-is_empty-clause-is : goal.returns-then-is_empty-clause-is
returns-then-is_empty-clause-is c =
    let none : c.next_to_stage.new.course.tickets.items ≡ [] =
    counted c.next_to_stage.new.course.tickets.items c.next_to_stage.new.course.tickets.len c.next_to_stage.new.course.tickets.ok.0 (sym c.is_empty.ensures ∙ c.if-is_empty.true) in
    if_ok c.delivery.result
    (λ turn d.
    has_result turn c.in_default.ensures c.in_default-next_to_stage.ensures.found
    (subst (λ (looked : Course). looked.tickets.items ≡ []) c.next_to_stage.ensures.same none)
    (subst (λ (looked : Course). Delivers c.args.given.now looked turn) c.next_to_stage.ensures.same d))
    c.delivery.ensures

pub returns-clause-is : goal.returns-clause-is
returns-clause-is c =
    let some : c.next_to_stage.new.course.tickets.items ≢ [] =
    uncounted c.next_to_stage.new.course.tickets.items c.next_to_stage.new.course.tickets.len c.next_to_stage.new.course.tickets.ok.0 (sym c.is_empty.ensures ∙ c.if-is_empty.false) in
    subst (λ (turn : Turn). Chooses c.args.given.now c.args.course.now turn) (sym c.collecting.ensures)
    (waits_for_one c.in_default.ensures c.in_default-next_to_stage.ensures.found
    (subst (λ (looked : Course). looked.tickets.items ≢ []) c.next_to_stage.ensures.same some))
