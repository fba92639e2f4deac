use Rattle.std.proofs.lemmas.Result.{on_ok_weaker}
use Rattle.plan_words.proofs.Texts.{pruned_from}
use Rattle.plan_words.proofs.reasons.push_pruned.Goals as goal

pub returns : goal.returns
returns c =
    on_ok_weaker c.push_readers.result
    (λ last. pruned_from _ _ _ c.args.loaded c.args.pruned c.has_no_readers.result c.in_ok-push_str.ensures.bytes c.has_no_readers.ensures last)
    c.push_readers.ensures
