-- Long forms of types, as JSON (CWL v1.2, "CommandInputArraySchema"; Schema Salad v1.2, "Domain Specific Language for types").
use Rattle.std.specs.Prelude.{codes}
use Rattle.serde_json.specs.Data.{Data, string, array, object, no_items, item, no_members, member}

-- null, or a value of the type
abbrev pub null_or : Data → Data
null_or type = array (item (string (codes "null")) (item type no_items))

-- a list of values of the type
abbrev pub list_of : Data → Data
list_of type = object (member (codes "items") type (member (codes "type") (string (codes "array")) no_members))
