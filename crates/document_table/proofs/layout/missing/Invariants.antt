use Rattle.std.proofs.Common.{◌≡◌, drop, map}
use Rattle.serde_json.specs.View.{view}
use Rattle.document_table.specs.Layouts.{missing}
use Rattle.document_table.specs.Table.{row_seen}
use Rattle.document_table.proofs.layout.missing.Given as goal

abbrev pub invariant-loop-row : goal.invariant-loop-row
invariant-loop-row l = missing l.given (view l.object) (map row_seen (drop l.row-index l.rows)) ≡ missing l.given (view l.object) (map row_seen l.rows)
