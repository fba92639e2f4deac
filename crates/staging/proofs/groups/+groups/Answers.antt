use Rattle.staging.proofs.Grouped.{list_groups, fields_groups, on_ok_map}
use Rattle.staging.proofs.groups.+groups.Goals as goal

pub push_groups-returns-in-List : goal.push_groups-returns-in-List
push_groups-returns-in-List t c =
    on_ok_map c.push_item_groups.result _ _ (list_groups c.args.value.now c.in-List.items c.args.groups.now.items c.push_item_groups.new.groups.items c.in-List.is) (rw c.as_items.ensures at c.push_item_groups.ensures)

pub push_groups-returns-in-Fields : goal.push_groups-returns-in-Fields
push_groups-returns-in-Fields t c =
    on_ok_map c.push_field_groups.result _ _ (fields_groups c.args.value.now c.in-Fields.fields c.args.groups.now.items c.push_field_groups.new.groups.items c.in-Fields.is) c.push_field_groups.ensures
