-- Lists and maps of objects whose defaults are seen to stand for values without Files and Directories, so that none of them has to be read to
-- say that nothing is wrong with it.
use Rattle.std.specs.Prelude.{Bool, true, ◌&&◌, codes}
use Rattle.std.specs.Option.{option_map_or}
use Rattle.serde_json.specs.Data.{Data, null, boolean, number, string, array, object, Items, no_items, item, Members, no_members, member}
use Rattle.serde_json.specs.Find.{get}
use Rattle.cwl_value.specs.Fileless.{stands_fileless}

abbrev pub has_fileless_default : Data → Bool
has_fileless_default d = option_map_or stands_fileless (get (codes "default") d) true

abbrev pub items_have_fileless_defaults : Items → Bool
items_have_fileless_defaults no_items = true
items_have_fileless_defaults (item d ds) = has_fileless_default d && items_have_fileless_defaults ds

abbrev pub members_have_fileless_defaults : Members → Bool
members_have_fileless_defaults no_members = true
members_have_fileless_defaults (member key d ms) = has_fileless_default d && members_have_fileless_defaults ms

abbrev pub have_fileless_defaults : Data → Bool
have_fileless_defaults null = true
have_fileless_defaults (boolean b) = true
have_fileless_defaults (number n) = true
have_fileless_defaults (string s) = true
have_fileless_defaults (array ds) = items_have_fileless_defaults ds
have_fileless_defaults (object ms) = members_have_fileless_defaults ms
