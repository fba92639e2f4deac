use Rattle.std.proofs.Common.{arith}
use Rattle.std.specs.Str.Iter.{chars_rest}
use Rattle.param_refs.proofs.Characters.{counting-next, counting-past}
use Rattle.param_refs.proofs.index.char_at.Goals as goal

pub loop-character-preserved : goal.loop-character-preserved
loop-character-preserved c =
    counting-next c.args.text.now c.args.index (chars_rest c.loop-character.character-iterator) c.loop-character.left c.in-Some.character (chars_rest c.next.new.self) c.loop-character.invariant
    c.in-Some.ensures.steps.0 (omega arith)

pub returns : goal.returns
returns c = counting-past c.args.text.now c.args.index (chars_rest c.loop-character.character-iterator) c.loop-character.left c.loop-character.invariant c.in-None.ensures.steps.0.0
