use Rattle.std.proofs.Common.{◌≡◌, drop, Some}
use Rattle.command_line.specs.Added.{adds, appended, gathered, item_style, item_types}
use Rattle.std.specs.Option.{option_copied, option_to_list}
use Rattle.command_line.specs.inner.View.{style_of}
use Rattle.command_line.proofs.added.+adding.Given as goal

abbrev pub invariant-each_words-loop-item : goal.invariant-each_words-loop-item
invariant-each_words-loop-item l = appended (Some l.words.items) (gathered (λ w. adds w (item_types (option_copied l.fn.array)) (item_style (option_copied l.fn.array))) (drop l.item-index l.fn.items))
    ≡ appended (Some (option_to_list (style_of l.fn.style).prefix)) (gathered (λ w. adds w (item_types (option_copied l.fn.array)) (item_style (option_copied l.fn.array))) l.fn.items)
