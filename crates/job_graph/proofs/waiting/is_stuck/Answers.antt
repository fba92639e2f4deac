use Rattle.std.proofs.Common.{◌≡◌, ◌∙◌, Bool, List, true, false, not, ap, get_or, sym, ℕ}
use Rattle.std.specs.Prelude.{◌||◌, ◌==◌, is_some}
use Rattle.plain_data.specs.ByName.{value_at}
use Rattle.job_graph.specs.Words.{Name}
use Rattle.job_graph.proofs.waiting.is_stuck.Goals as goal

pub returns-then-is_walked : goal.returns-then-is_walked
returns-then-is_walked c =
    let walked : is_some (value_at c.args.step.now.0 c.args.going.now.env) ≡ true =
    ap (λ (id : Name). is_some (value_at id c.args.going.now.env)) (sym c.as_str.ensures.bytes) ∙ sym c.is_walked.ensures ∙ c.if-is_walked.true in
    c.if-is_walked.true ∙ sym (ap (λ (b : Bool). b || not (get_or c.args.going.now.waits.counts.items c.args.number 0 == 0)) walked)

pub returns-else-is_walked : goal.returns-else-is_walked
returns-else-is_walked c =
    let walked : is_some (value_at c.args.step.now.0 c.args.going.now.env) ≡ false =
    ap (λ (id : Name). is_some (value_at id c.args.going.now.env)) (sym c.as_str.ensures.bytes) ∙ sym c.is_walked.ensures ∙ c.if-is_walked.false in
    ap (λ (counts : List ℕ). not (get_or counts c.args.number 0 == 0)) c.as_slice-counts.ensures.value
    ∙ sym (ap (λ (b : Bool). b || not (get_or c.args.going.now.waits.counts.items c.args.number 0 == 0)) walked)
