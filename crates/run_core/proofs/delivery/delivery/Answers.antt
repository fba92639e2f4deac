use Rattle.std.proofs.Common.{◌∙◌, sym, ap, subst}
use Rattle.cwl_value.specs.declared.value.Value.{Value}
use Rattle.job_graph.specs.Words.{Fields, last_by_name}
use Rattle.run_rules.specs.Delivered.{any_file, located}
use Rattle.run_core.specs.declared.state.Turn.{Turn}
use Rattle.run_core.specs.inner.Picks.{Delivers, DeliversFiles, delivers, succeeds_at_once}
use Rattle.run_core.specs.inner.Turn.{succeeds}
use Rattle.run_core.proofs.Lists.{if_ok}
use Rattle.run_core.proofs.delivery.delivery.Goals as goal

pub returns-then-has_file : goal.returns-then-has_file
returns-then-has_file c =
    if_ok c.delivering.result (λ turn files.
    delivers turn (ap (λ (outputs : Fields). any_file outputs) (sym c.result_in.ensures) ∙ sym c.in_ok-outputs.ensures.has_file ∙ c.if-has_file.true)
    (subst (λ (outputs : Fields). DeliversFiles c.args.given.now c.args.course.now outputs turn)
    (c.in_ok-outputs.ensures.values ∙ ap (λ (outputs : Fields). last_by_name outputs) c.result_in.ensures) files))
    c.delivering.ensures

pub returns : goal.returns
returns c =
    subst (λ (turn : Turn). Delivers c.args.given.now c.args.course.now turn)
    (sym (c.succeeded.ensures ∙ ap (λ (value : Value). succeeds value) (c.in_ok-located.ensures
    ∙ ap (λ (outputs : Fields). located outputs) (c.in_ok-outputs.ensures.values ∙ ap (λ (outputs : Fields). last_by_name outputs) c.result_in.ensures))))
    (succeeds_at_once (ap (λ (outputs : Fields). any_file outputs) (sym c.result_in.ensures) ∙ sym c.in_ok-outputs.ensures.has_file ∙ c.if-has_file.false))
