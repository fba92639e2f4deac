use Rattle.std.specs.Str.Iter.{chars_rest}
use Rattle.param_refs.proofs.Characters.{Counting}
use Rattle.param_refs.proofs.index.char_at.Given as goal

abbrev pub invariant-loop-character : goal.invariant-loop-character
invariant-loop-character l = Counting l.fn.text l.fn.index (chars_rest l.character-iterator) l.left
