-- What the code's rows stand for.
use Rattle.std.specs.Prelude.{Option, option_map, unwrap_or}
use Rattle.std.specs.Option.{option_copied}
use Rattle.cwl_value.specs.declared.value.Value.{Value}
use Rattle.cwl_value.specs.declared.value.Value as value
use Rattle.cwl_process.specs.declared.tool.Binding.{Binding}
use Rattle.command_line.specs.Added.{Style}
use Rattle.command_line.specs.Order.{Bound, Origin, Argument, Input, empty_binding, style_in}
use Rattle.command_line.specs.declared.added.StyleRef.{StyleRef}
use Rattle.command_line.specs.declared.order.BoundRow.{BoundRow}
use Rattle.command_line.specs.declared.order.Origin.{Origin as RowOrigin}
use Rattle.command_line.specs.declared.order.Origin.TheVariants as row_origin

abbrev pub style_of : StyleRef → Style
style_of style = record { prefix = option_copied style.prefix; separate = style.separate; separator = option_copied style.separator }

abbrev pub value_or_null : Option Value → Value
value_or_null v = unwrap_or v value.Null

abbrev pub origin_of : RowOrigin → Origin
origin_of (row_origin.Argument index) = Argument index
origin_of (row_origin.Input id) = Input id.now

abbrev pub binding_of : BoundRow → Binding
binding_of row = unwrap_or (option_copied row.binding) empty_binding

abbrev pub bound_of : BoundRow → Bound
bound_of row = record {
  position = row.key.position;
  origin = origin_of row.key.origin;
  style = style_in (binding_of row);
  value_from = (binding_of row).value_from;
  types = row.types.now;
  value = value_or_null (option_copied row.value);
}

abbrev pub bound_or_none : Option BoundRow → Option Bound
bound_or_none = option_map bound_of
