use Rattle.std.proofs.Common.{◌≡◌, map, take}
use Rattle.program_words.specs.Visible.{visible}
use Rattle.plan_call.proofs.plan_texts.visible_texts.Given as goal

abbrev pub invariant-loop-text : goal.invariant-loop-text
invariant-loop-text l = l.shown.items ≡ map visible (take l.text-index l.texts)
