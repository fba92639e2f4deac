use Rattle.std.proofs.Common.{◌≡◌, drop, map}
use Rattle.document_table.specs.Entries.{entry_seen}
use Rattle.cwl_process.specs.FirstFaults.{first_in}
use Rattle.cwl_process.specs.Together.{step_source_fault}
use Rattle.cwl_process.proofs.link_faults.first_step_source_fault.Given as goal

abbrev pub invariant-loop-entry : goal.invariant-loop-entry
invariant-loop-entry l = first_in (step_source_fault l.id) (map entry_seen (drop l.entry-index l.all)) ≡ first_in (step_source_fault l.id) (map entry_seen l.all)
