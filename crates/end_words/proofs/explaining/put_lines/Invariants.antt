use Rattle.end_words.specs.Told.{HasLines}
use Rattle.end_words.proofs.explaining.put_lines.Given as goal

abbrev pub invariant-loop-line : goal.invariant-loop-line
invariant-loop-line g l = HasLines (g.E.Write.contents l.fn.err) (g.E.Write.contents l.err)
