use Rattle.std.proofs.Common.{◌∙◌, ◌<◌, ap, arith, length, subst, sym}
use Rattle.std.specs.Prelude.{is_some}
use Rattle.plain_data.specs.ByName.{value_at}
use Rattle.job_graph.specs.Words.{Name}
use Rattle.job_graph.proofs.Above.{IsNumbered, above_by, none_above}
use Rattle.job_graph.proofs.waiting.step_above.Goals as goal

pub returns-then-not-is_walked : goal.returns-then-not-is_walked
returns-then-not-is_walked c = λ steps table.
    let below : 0 < length c.args.ended.now = omega (arith, c.in-len1-up.len_at_least) in
    none_above c.args.ended.now c.segment-item.result below c.segment-item.is c.args.env.now steps
    (ap (λ (id : Name). is_some (value_at id c.args.env.now)) (sym c.as_str.ensures.bytes) ∙ sym c.is_walked.ensures ∙ c.if-not-is_walked.true)

pub returns-else-not-is_walked : goal.returns-else-not-is_walked
returns-else-not-is_walked c = λ steps table.
    let below : 0 < length c.args.ended.now = omega (arith, c.in-len1-up.len_at_least) in
    above_by c.args.ended.now c.segment-item.result below c.segment-item.is c.args.env.now steps c.as_str-in-len1-up.result.now c.as_str-in-len1-up.ensures.bytes
    (ap (λ (id : Name). is_some (value_at id c.args.env.now)) (sym c.as_str.ensures.bytes) ∙ sym c.is_walked.ensures ∙ c.if-not-is_walked.false)
    c.number_of.result (subst (IsNumbered c.as_str-in-len1-up.result.now steps) (sym c.number_of.ensures) (table.numbers c.as_str-in-len1-up.result.now))
