use Rattle.std.proofs.Common.{◌≡◌, ◌++◌, drop, map}
use Rattle.document_table.specs.Entries.{entry_seen}
use Rattle.cwl_process.proofs.from_entry.read_entries.Given as goal

abbrev pub invariant-loop-entry : goal.invariant-loop-entry
invariant-loop-entry g l = l.made.items ++ map (λ e. (e.0, g.T.FromEntry.meaning l.id e.1)) (map entry_seen (drop l.entry-index l.entry-items)) ≡ map (λ e. (e.0, g.T.FromEntry.meaning l.id e.1)) (map entry_seen l.entry-items)
