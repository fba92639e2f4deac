use Rattle.end_words.specs.Told.{HasLines}
use Rattle.end_words.proofs.explaining.put_lines.Goals as goal

pub loop-line-init : goal.loop-line-init
loop-line-init g c = HasLines.none

pub loop-line-preserved : goal.loop-line-preserved
loop-line-preserved g c = HasLines.more c.loop-line.invariant (c.as_str.result.now, c.in_ok-put_line.ensures)
