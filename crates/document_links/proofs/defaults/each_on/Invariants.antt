use Rattle.std.proofs.Common.{◌≡◌, ◌++◌}
use Rattle.std.specs.Vec.Iter.{into_iter_items}
use Rattle.document_links.specs.Defaults.{each_on}
use Rattle.document_links.proofs.defaults.each_on.Given as goal

abbrev pub invariant-loop-entry : goal.invariant-loop-entry
invariant-loop-entry g l = record {
  whole : l.fn.all ≡ l.yielded ++ into_iter_items l.entry-iterator;
  so_far : each_on g.T.OnBase.meaning l.base l.yielded ≡ l.made.items;
}
