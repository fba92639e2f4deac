use Rattle.std.proofs.Common.{◌∙◌, ap, sym}
use Rattle.std.specs.Prelude.{◌||◌}
use Rattle.std.specs.List.{list_any}
use Rattle.type_check.specs.Depths.{items_of}
use Rattle.type_check.specs.Levels.{members_at}
use Rattle.type_check.specs.Overlaps.{members_overlap, overlaps}
use Rattle.type_check.specs.inner.Members.{has_symbol, is_held, some_has_texts}
use Rattle.type_check.proofs.Meets.{array_among, enum_among}
use Rattle.type_check.proofs.Tests.{any_alike}
use Rattle.type_check.proofs.levels.Level.+levels.Goals as goal

pub meets-returns-then-has_lists : goal.meets-returns-then-has_lists
meets-returns-then-has_lists t c =
    let ms = members_at c.args.self in
    let items = c.in-Array.array.items in
    sym (ap (λ m. list_any (members_overlap m) ms) c.in-Array.is ∙ array_among c.in-Array.array ms
    ∙ ap (λ b. b || overlaps items (items_of ms)) (sym c.in-Some.ensures.lists ∙ sym c.has_lists.ensures ∙ c.if-has_lists.true))

pub meets-returns-in-Enum : goal.meets-returns-in-Enum
meets-returns-in-Enum t c =
    let ms = members_at c.args.self in
    let found = c.in-Some.found.now in
    let symbols = c.in-Enum.symbols in
    c.meets_enum.ensures
    ∙ ap (λ b. b || list_any (λ text. is_held text found.symbols.items) symbols) c.in-Some.ensures.texts
    ∙ ap (λ b. some_has_texts ms || b) (any_alike (λ text. is_held text found.symbols.items) (λ text. list_any (has_symbol text) ms) symbols c.in-Some.ensures.symbols)
    ∙ sym (ap (λ m. list_any (members_overlap m) ms) c.in-Enum.is ∙ enum_among symbols ms)

pub meets-returns-else-has_lists : goal.meets-returns-else-has_lists
meets-returns-else-has_lists t c =
    let ms = members_at c.args.self in
    let items = c.in-Array.array.items in
    c.overlaps.ensures ∙ ap (λ next. overlaps items next) c.items.ensures
    ∙ sym (ap (λ m. list_any (members_overlap m) ms) c.in-Array.is ∙ array_among c.in-Array.array ms
    ∙ ap (λ b. b || overlaps items (items_of ms)) (sym c.in-Some.ensures.lists ∙ sym c.has_lists.ensures ∙ c.if-has_lists.false))
