use Rattle.std.proofs.Common.{◌≡◌, drop, map}
use Rattle.document_table.specs.Table.{form_named, row_seen}
use Rattle.document_table.proofs.table.form_named.Given as goal

abbrev pub invariant-loop-row : goal.invariant-loop-row
invariant-loop-row l = form_named l.name (map row_seen (drop l.row-index l.rows)) ≡ form_named l.name (map row_seen l.rows)
