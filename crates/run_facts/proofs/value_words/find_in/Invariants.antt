use Rattle.std.proofs.Common.{◌≡◌, drop}
use Rattle.run_facts.specs.Entries.{entry_of}
use Rattle.run_facts.proofs.value_words.find_in.Given as goal

abbrev pub invariant-loop-other : goal.invariant-loop-other
invariant-loop-other g l = entry_of l.name (drop l.other-index l.entries) ≡ entry_of l.name l.entries
