use Rattle.std.proofs.Common.{◌≡◌, drop, map}
use Rattle.document_table.specs.Entries.{entry_seen}
use Rattle.cwl_process.specs.FirstFaults.{first_in}
use Rattle.document_links.specs.Defaults.{default_fault}
use Rattle.document_links.proofs.defaults.first_default_fault.Given as goal

abbrev pub invariant-loop-entry : goal.invariant-loop-entry
invariant-loop-entry l = first_in (default_fault l.base) (map entry_seen (drop l.entry-index l.all)) ≡ first_in (default_fault l.base) (map entry_seen l.all)
