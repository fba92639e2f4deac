use Rattle.std.proofs.Common.{◌≡◌, ℕ, List, drop}
use Rattle.std.specs.BTreeMap.{get_by_text}
use Rattle.std.specs.Option.{option_or}
use Rattle.serde_json.specs.View.{items_view}
use Rattle.document_table.specs.inner.Places.{place_from}
use Rattle.document_table.proofs.indexed.places_in.Given as goal

abbrev pub invariant-loop-item : goal.invariant-loop-item
invariant-loop-item l =
    record {
      count : l.index ≡ l.item-index;
      same : (id : List ℕ) → option_or (get_by_text l.places id) (place_from id l.index (items_view (drop l.item-index l.item-items))) ≡ place_from id 0 (items_view l.item-items);
    }
