use Rattle.std.proofs.Common.{◌≡◌, ◌++◌, drop, string_bytes}
use Rattle.serde_json.specs.View.{items_view}
use Rattle.program_words.specs.KeyWords.{item_words}
use Rattle.program_words.proofs.key_shown.add_items.Given as goal

abbrev pub invariant-loop-item : goal.invariant-loop-item
invariant-loop-item l = string_bytes l.words ++ item_words (items_view (drop l.item-index l.items)) ≡ string_bytes l.fn.words ++ item_words (items_view l.items)
