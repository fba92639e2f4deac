use Rattle.std.proofs.Common.{◌≡◌, ◌<◌, ◌-◌, length, take, drop, get_or, sym, subst, ◌∙◌, arith, rules}
use Rattle.std.specs.Vec.Iter.{into_iter_items}
use Rattle.scatter_shape.specs.Gathered.{IsNested}
use Rattle.scatter_shape.proofs.Nested.{one_is_there, one_value, row_has_all, shorter, so_far_all, so_far_more}
use Rattle.scatter_shape.proofs.nesting.+nested.Goals as goal

pub unreachable-requires : goal.unreachable-requires
unreachable-requires t c =
    one_is_there c.args.lengths.now (into_iter_items c.args.values.now) c.in-empty.len_below c.requires (sym c.args.values.now.rest.ok.0 ∙ c.in-None.ensures.cases.0)

pub returns-in-Some : goal.returns-in-Some
returns-in-Some t c =
    one_value c.args.lengths.now (into_iter_items c.args.values.now) (into_iter_items c.next.new.self) c.in-Some.value c.in-empty.len_below c.in-Some.ensures.cases.0

pub nested-requires : goal.nested-requires
nested-requires t c =
    let ls = c.args.lengths.now in
    let less : length (take (length ls - 1) (drop 1 ls)) < length ls = shorter ls c.in-len1-up.len_at_least in (
      first_of (search (rules, less), grind (arith, less), omega (arith, less)),
      row_has_all ls (into_iter_items c.args.values.now) c.loop.items (into_iter_items c.loop.values) c.loop.counter c.in-len1-up.len_at_least c.loop-test.true c.requires c.loop.invariant,
    )

pub loop-preserved : goal.loop-preserved
loop-preserved t c =
    let ls = c.args.lengths.now in
    so_far_more (take (length ls - 1) (drop 1 ls)) (into_iter_items c.args.values.now) (get_or ls 0 0) c.loop.counter c.loop.items (into_iter_items c.loop.values) (into_iter_items c.nested.new.values) c.in_ok-nested-in-len1-up.field-0 c.push.new.self c.loop-test.true
    c.loop.invariant c.in_ok-nested-in-len1-up.ensures c.in_ok-push-in-len1-up.ensures.ok

pub returns-after-loop : goal.returns-after-loop
returns-after-loop t c =
    let ls = c.args.lengths.now in
    let end : c.loop.counter ≡ get_or ls 0 0 = omega arith in
    subst (IsNested ls (into_iter_items c.args.values.now) (into_iter_items c.loop.values)) (sym c.of_items.ensures)
    (so_far_all ls (into_iter_items c.args.values.now) c.loop.items (into_iter_items c.loop.values) c.loop.counter c.in-len1-up.len_at_least end c.loop.invariant)
