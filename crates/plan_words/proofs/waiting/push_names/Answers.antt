use Rattle.std.proofs.Common.{string_bytes}
use Rattle.plan_words.specs.Waiting.{name_words}
use Rattle.plan_words.proofs.Texts.{text_more}
use Rattle.plan_words.proofs.waiting.push_names.Goals as goal

pub loop-number-preserved : goal.loop-number-preserved
loop-number-preserved c =
    text_more (string_bytes c.args.text.now) _ _ (name_words c.args.names.now) c.loop-number.number c.loop-number.invariant c.in_ok-push_name.ensures
