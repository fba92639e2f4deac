use Rattle.std.proofs.Common.{◌≡◌, ◌++◌, drop}
use Rattle.document_table.proofs.fault.copied_ways.Given as goal

abbrev pub invariant-loop-way : goal.invariant-loop-way
invariant-loop-way l = l.copies ++ drop l.way-index l.ways ≡ l.ways
