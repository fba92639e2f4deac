use Rattle.std.proofs.Common.{◌↔◌, true, false, IsTrue, refl, sym, subst, ◌∙◌}
use Rattle.collected_outputs.specs.Laws.{AreDeclared}
use Rattle.job_reuse.proofs.Declared.{declared_by}
use Rattle.job_reuse.proofs.sound.are_declared.Goals as goal

pub returns-then-all_declared : goal.returns-then-all_declared
returns-then-all_declared c =
    declared_by c.args.outputs.now c.args.values.now true c.all_have_values.result (sym c.if-all_declared.true ∙ c.all_declared.ensures.tests) c.all_have_values.ensures c.all_declared.ensures.order

pub returns-else-all_declared : goal.returns-else-all_declared
returns-else-all_declared c =
    subst (λ b. IsTrue b ↔ AreDeclared c.args.outputs.now c.args.values.now) (sym c.if-all_declared.false)
    (declared_by c.args.outputs.now c.args.values.now false _ (sym c.if-all_declared.false ∙ c.all_declared.ensures.tests) refl c.all_declared.ensures.order)
