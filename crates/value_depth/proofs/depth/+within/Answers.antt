use Rattle.std.proofs.Common.{◌≡◌, ◌≤◌, ℕ, List, map, take, leb, true≢false, refl, sym, ap, subst, ◌∙◌, arith}
use Rattle.std.proofs.lemmas.Bool.{leb-true, lt-leb, le-leb}
use Rattle.std.proofs.lemmas.List.{take_all}
use Rattle.serde_json.specs.Data.{Data, depth, members_depth}
use Rattle.cwl_value.specs.Json.{json_of, items_json, fields_json, file_data}
use Rattle.cwl_value.specs.declared.value.Value.{Value}
use Rattle.value_depth.proofs.Depths.{deepest, within_more, one_over, two_more}
use Rattle.value_depth.proofs.Parts.{fields_deepest, some_files_deep, listed_deep}
use Rattle.value_depth.proofs.depth.+within.Goals as goal

pub items_within-returns-then-not-nests_within : goal.items_within-returns-then-not-nests_within
items_within-returns-then-not-nests_within t c =
    one_over json_of c.args.items.now c.as_slice-item-items.result.now c.loop-item.item-index c.item-item.result c.args.levels c.as_slice-item-items.ensures c.loop-item-test.true c.item-item.is (sym c.nests_within.ensures ∙ c.if-not-nests_within.true)

pub items_within-loop-item-preserved : goal.items_within-loop-item-preserved
items_within-loop-item-preserved t c =
    within_more json_of c.as_slice-item-items.result.now c.loop-item.item-index c.item-item.result c.args.levels c.loop-item-test.true c.item-item.is c.loop-item.invariant
    (leb-true (depth (json_of c.item-item.result)) c.args.levels (sym c.nests_within.ensures ∙ c.if-not-nests_within.false))

abbrev field_json : List ℕ × Value → Data
field_json e = json_of e.1

pub fields_within-returns-then-not-nests_within : goal.fields_within-returns-then-not-nests_within
fields_within-returns-then-not-nests_within t c =
    let es = c.as_slice-field-items.result.now in
    one_over field_json es es c.loop-field.field-index c.field-item.result c.args.levels refl c.loop-field-test.true c.field-item.is (sym c.nests_within.ensures ∙ c.if-not-nests_within.true)
    ∙ ap (λ n. leb n c.args.levels) (sym (fields_deepest es c.as_slice-field-items.ensures.order) ∙ ap (λ l. members_depth (fields_json l)) c.as_slice-field-items.ensures.entries)

pub fields_within-loop-field-preserved : goal.fields_within-loop-field-preserved
fields_within-loop-field-preserved t c =
    within_more field_json c.as_slice-field-items.result.now c.loop-field.field-index c.field-item.result c.args.levels c.loop-field-test.true c.field-item.is c.loop-field.invariant
    (leb-true (depth (json_of c.field-item.result.1)) c.args.levels (sym c.nests_within.ensures ∙ c.if-not-nests_within.false))

pub fields_within-returns : goal.fields_within-returns
fields_within-returns t c =
    let es = c.as_slice-field-items.result.now in
    let all : take c.loop-field.field-index es ≡ es = take_all c.loop-field.field-index es c.loop-field-test.false in
    let below : deepest (map field_json es) ≤ c.args.levels = subst (λ l. deepest (map field_json l) ≤ c.args.levels) all c.loop-field.invariant in
    let is : members_depth (fields_json c.args.fields.now) ≡ deepest (map field_json es) = ap (λ l. members_depth (fields_json l)) (sym c.as_slice-field-items.ensures.entries) ∙ fields_deepest es c.as_slice-field-items.ensures.order in
    sym (le-leb (members_depth (fields_json c.args.fields.now)) c.args.levels (omega arith))

pub dir_within-returns-then-levels-gt1 : goal.dir_within-returns-then-levels-gt1
dir_within-returns-then-levels-gt1 t c =
    let vs = c.in-Some.entries in
    c.items_within.ensures ∙ two_more (deepest (items_json vs)) c.args.levels c.if-levels-gt1.true ∙ ap (λ n. leb n c.args.levels) (sym (listed_deep c.args.dir.now vs c.in-Some.is))

pub file_within-returns-else-levels-gt1 : goal.file_within-returns-else-levels-gt1
file_within-returns-else-levels-gt1 t c =
    let f = c.args.file.now in
    let deep = some_files_deep f (λ none. true≢false (sym (c.is_empty.ensures.1 none) ∙ c.if-is_empty.false)) in
    lt-leb 2 c.args.levels (omega arith) ∙ sym (lt-leb (depth (file_data f)) c.args.levels (omega arith))
