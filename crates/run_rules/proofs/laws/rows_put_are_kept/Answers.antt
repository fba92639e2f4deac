use Rattle.run_rules.specs.Scene.{scene_of}
use Rattle.run_rules.specs.declared.request.Answer.TheVariants as answer
use Rattle.run_rules.proofs.Kept.{kept_by, next_collected, put_collected}
use Rattle.run_rules.proofs.laws.rows_put_are_kept.Goals as goal

pub returns-clause-put : goal.returns-clause-put
returns-clause-put c = λ setting t f plans place row told goes answers there.
    kept_by c.collected_outputs_are_kept.ensures.kept row.outputs (put_collected (scene_of setting) _ goes answers place row (answer.Record told) there)

pub returns-clause-next : goal.returns-clause-next
returns-clause-next c = λ setting t f plans place row goes answers may.
    kept_by c.collected_outputs_are_kept.ensures.kept row.outputs (next_collected (scene_of setting) _ goes answers plans.marks place row may)
