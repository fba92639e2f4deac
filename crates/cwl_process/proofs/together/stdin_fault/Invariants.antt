use Rattle.std.proofs.Common.{◌≡◌, drop, map}
use Rattle.document_table.specs.Entries.{entry_seen}
use Rattle.cwl_process.specs.Together.{stdin_fault}
use Rattle.cwl_process.proofs.together.stdin_fault.Given as goal

abbrev pub invariant-loop-entry : goal.invariant-loop-entry
invariant-loop-entry l = stdin_fault l.is_taken (map entry_seen (drop l.entry-index l.all)) ≡ stdin_fault l.taken (map entry_seen l.all)
