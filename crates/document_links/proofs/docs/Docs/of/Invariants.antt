use Rattle.std.proofs.Common.{◌≡◌, ◌++◌}
use Rattle.std.specs.Vec.Iter.{into_iter_items}
use Rattle.document_links.proofs.Made.{AreMade}
use Rattle.document_links.proofs.docs.Docs.of.Given as goal

abbrev pub invariant-loop-url : goal.invariant-loop-url
invariant-loop-url l = record {
  whole : l.fn.documents ≡ l.yielded ++ into_iter_items l.url-iterator;
  kept : l.held.items ≡ l.yielded;
  made : AreMade l.yielded l.readings.items;
}
