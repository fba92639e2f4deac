use Rattle.std.proofs.Common.{sym, subst, ◌∙◌}
use Rattle.std.specs.Vec.Iter.{into_iter_items}
use Rattle.std.proofs.lemmas.List.{nil_from_length}
use Rattle.plain_data.specs.ByName.{IsByName}
use Rattle.input_files.proofs.Once.{loaded_by_name}
use Rattle.input_files.proofs.contents.all_loaded.Goals as goal

pub from_sorted-requires : goal.from_sorted-requires
from_sorted-requires c =
    loaded_by_name c.args.asked.now c.args.heads.now c.args.staged c.loop-name.yielded (into_iter_items c.loop-name.name-iterator) c.loop-name.named.items c.loop-name.invariant.whole
    (nil_from_length (into_iter_items c.loop-name.name-iterator) (sym c.loop-name.name-iterator.rest.ok.0 ∙ c.in-None.ensures.steps.0)) c.loop-name.invariant.so_far
    (subst IsByName c.into_entries-name-items.ensures.entries c.into_entries-name-items.ensures.order)
