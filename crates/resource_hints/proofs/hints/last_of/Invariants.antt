use Rattle.std.proofs.Common.{◌≡◌, None, drop, map, option_map}
use Rattle.document_table.specs.Entries.{entry_seen}
use Rattle.cwl_process.specs.Acting.{last_of}
use Rattle.cwl_process.specs.Simple.{value_seen}
use Rattle.resource_hints.proofs.hints.last_of.Given as goal

abbrev pub invariant-loop-entry : goal.invariant-loop-entry
invariant-loop-entry l = last_of l.class (option_map value_seen l.last) (map entry_seen (drop l.entry-index l.all)) ≡ last_of l.class None (map entry_seen l.all)
