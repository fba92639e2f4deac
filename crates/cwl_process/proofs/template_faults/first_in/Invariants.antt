use Rattle.std.proofs.Common.{◌≡◌, drop, map}
use Rattle.document_table.specs.Entries.{entry_seen}
use Rattle.cwl_process.specs.FirstFaults.{first_in}
use Rattle.cwl_process.proofs.template_faults.first_in.Given as goal

abbrev pub invariant-loop-entry : goal.invariant-loop-entry
invariant-loop-entry g l = first_in g.T.HasTexts.text_fault (map entry_seen (drop l.entry-index l.all)) ≡ first_in g.T.HasTexts.text_fault (map entry_seen l.all)
