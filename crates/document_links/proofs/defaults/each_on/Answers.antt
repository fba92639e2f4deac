use Rattle.std.proofs.Common.{subst, bytes_eq}
use Rattle.std.specs.List.{IsDistinct}
use Rattle.std.specs.Map.{keys_of}
use Rattle.std.specs.Vec.Iter.{into_iter_items}
use Rattle.document_links.proofs.Differ.{each_differ}
use Rattle.document_links.proofs.defaults.each_on.Goals as goal

pub from_distinct-requires : goal.from_distinct-requires
from_distinct-requires g c =
    each_differ g.T.OnBase.meaning c.args.base.now c.args.all c.loop-entry.yielded (into_iter_items c.loop-entry.entry-iterator) c.loop-entry.made.items c.loop-entry.invariant.whole c.loop-entry.invariant.so_far
    (subst (λ es. IsDistinct bytes_eq (keys_of es)) c.into_vec-entry-items.ensures.entries c.into_vec-entry-items.ensures.ids)
