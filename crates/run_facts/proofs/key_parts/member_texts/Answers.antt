use Rattle.std.proofs.Common.{◌∙◌}
use Rattle.run_facts.proofs.KeyLemmas.{texts_ended, texts_more}
use Rattle.run_facts.proofs.key_parts.member_texts.Goals as goal

pub loop-name-preserved : goal.loop-name-preserved
loop-name-preserved c =
    texts_more _ c.loop-name.name-iterator c.next.new.self (c.in-Some.name.now, c.in-Some.value.now) c.loop-name.texts.items _ _ c.in_ok-text_of.field-0
    c.loop-name.invariant c.in-Some.ensures.steps (c.in_ok-key.ensures ∙ c.as_str.ensures.value) c.in_ok-text_of.ensures c.in_ok-push.ensures.items

pub returns : goal.returns
returns c = texts_ended _ c.loop-name.name-iterator _ c.loop-name.invariant c.in-None.ensures.steps.0
