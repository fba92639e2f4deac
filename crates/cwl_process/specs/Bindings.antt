-- How values become words, and which files come with a File (CWL v1.2, Command Line Tool Description, "CommandLineBinding",
-- "SecondaryFileSchema").
use Rattle.std.specs.Prelude.{ℕ, ◌&&◌, List, map, nat_eq, Bool, true, not, option_and_then, option_map, codes}
use Rattle.std.specs.List.{ends_with}
use Rattle.std.specs.Option.{option_map_or}
use Rattle.serde_json.specs.Data.{Data}
use Rattle.serde_json.specs.Find.{as_str}
use Rattle.document_table.specs.Entries.{main_field}
use Rattle.cwl_process.specs.Simple.{flag_at, int_at, list_at, text_at, text_in}
use Rattle.cwl_process.specs.Templates.{template_of}
use Rattle.cwl_process.specs.declared.tool.Binding.{Binding}
use Rattle.cwl_process.specs.declared.tool.SecondaryFile.{SecondaryFile}

-- A text in place of an argument is its `valueFrom`.
abbrev pub binding_in : Data → Binding
binding_in d = record {
  position = int_at (codes "position") d;
  prefix = text_at (codes "prefix") d;
  separate = flag_at (codes "separate") true d;
  item_separator = text_at (codes "itemSeparator") d;
  value_from = option_map template_of (option_and_then as_str (main_field (codes "valueFrom") d));
}

abbrev pub bindings_at : List ℕ → Data → List Binding
bindings_at name d = map binding_in (list_at name d)

-- A text in place of a secondary file is its pattern. A pattern that ends with `?` is of a file that need not be there.
abbrev pub secondary_in : Bool → Data → SecondaryFile
secondary_in absent d = record {
  pattern = option_map_or text_in (main_field (codes "pattern") d) (codes "");
  required = not (ends_with nat_eq (option_map_or text_in (main_field (codes "pattern") d) (codes "")) (codes "?")) && flag_at (codes "required") absent d;
}

abbrev pub secondaries_at : Bool → Data → List SecondaryFile
secondaries_at absent d = map (secondary_in absent) (list_at (codes "secondaryFiles") d)
