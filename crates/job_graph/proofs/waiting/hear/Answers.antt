use Rattle.std.proofs.Common.{◌∙◌, ap, inl, inr, sym}
use Rattle.std.specs.Prelude.{is_some}
use Rattle.plain_data.specs.ByName.{value_at}
use Rattle.job_graph.specs.Words.{Name}
use Rattle.job_graph.proofs.waiting.hear.Goals.{then-is_walked-via-then-is_walked, then-is_walked-via-else-is_walked+then-contains_key}
use Rattle.job_graph.proofs.waiting.hear.Goals as goal

pub returns-then-is_walked : goal.returns-then-is_walked
returns-then-is_walked c = record {
  right = λ n one is. inl is;
  stays = λ n some. some;
  heard = elim c.then-is_walked.branch [
    | then-is_walked-via-then-is_walked w ↦ inl (ap (λ (id : Name). is_some (value_at id c.args.env.now)) (sym c.as_str.ensures.bytes) ∙ sym c.is_walked.ensures ∙ w.if-is_walked.true)
    | then-is_walked-via-else-is_walked+then-contains_key w ↦ inr (sym w.contains_key.ensures ∙ w.if-contains_key.true)
  ];
}
