use Rattle.std.proofs.Common.{◌∙◌}
use Rattle.std.specs.Vec.Iter.{into_iter_items}
use Rattle.scatter_shape.proofs.Nested.{flat_gathered, has_all, nested_gathered}
use Rattle.scatter_shape.proofs.nesting.gather.Goals as goal

pub nested-requires : goal.nested-requires
nested-requires c =
    has_all c.args.shape.now.method c.args.shape.now.lengths c.as_slice.result.now c.args.values.items (into_iter_items c.into_iter.result) c.in-NestedCrossproduct.is c.as_slice.ensures c.into_iter.ensures.rest c.requires.one_each

pub returns-in-Dotproduct-clause-in_place : goal.returns-in-Dotproduct-clause-in_place
returns-in-Dotproduct-clause-in_place c =
    c.of_items.ensures ∙ flat_gathered c.args.shape.now.method c.args.shape.now.lengths c.args.values.items c.from_vec.result c.in-Dotproduct.is c.from_vec.ensures c.requires.one_each

pub returns-in-NestedCrossproduct-clause-in_place : goal.returns-in-NestedCrossproduct-clause-in_place
returns-in-NestedCrossproduct-clause-in_place c =
    nested_gathered c.args.shape.now.method c.args.shape.now.lengths c.as_slice.result.now c.args.values.items (into_iter_items c.into_iter.result) (into_iter_items c.nested.new.values) c.nested.result c.in-NestedCrossproduct.is c.as_slice.ensures c.into_iter.ensures.rest c.requires.one_each c.nested.ensures
