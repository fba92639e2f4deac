use Rattle.std.proofs.Common.{◌∙◌, ◌≡◌, Bool, true, false, not, ap, sym}
use Rattle.std.specs.Prelude.{◌||◌, is_some}
use Rattle.plain_data.specs.ByName.{value_at}
use Rattle.job_graph.specs.Words.{Name}
use Rattle.job_graph.specs.inner.Rounds.{is_ready}
use Rattle.job_graph.proofs.rounds.is_stuck.Goals as goal

pub returns-then-is_walked : goal.returns-then-is_walked
returns-then-is_walked c =
    let walked : is_some (value_at c.args.step.now.0 c.args.env.now) ≡ true =
    ap (λ (id : Name). is_some (value_at id c.args.env.now)) (sym c.as_str.ensures.bytes) ∙ sym c.is_walked.ensures ∙ c.if-is_walked.true in
    c.if-is_walked.true ∙ sym (ap (λ (b : Bool). b || not (is_ready c.args.env.now c.args.step.now.1)) walked)

pub returns-else-is_walked : goal.returns-else-is_walked
returns-else-is_walked c =
    let walked : is_some (value_at c.args.step.now.0 c.args.env.now) ≡ false =
    ap (λ (id : Name). is_some (value_at id c.args.env.now)) (sym c.as_str.ensures.bytes) ∙ sym c.is_walked.ensures ∙ c.if-is_walked.false in
    ap not c.is_ready.ensures ∙ sym (ap (λ (b : Bool). b || not (is_ready c.args.env.now c.args.step.now.1)) walked)
