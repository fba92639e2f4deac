use Rattle.std.proofs.Common.{◌≡◌, drop, map}
use Rattle.cwl_types.specs.Named.{named_at, row_seen}
use Rattle.cwl_types.proofs.named.named_at.Given as goal

abbrev pub invariant-loop-row : goal.invariant-loop-row
invariant-loop-row l = named_at l.text (map row_seen (drop l.row-index l.rows)) ≡ named_at l.text (map row_seen l.rows)
