-- What a run tells of its jobs in lines of JSON (RFC 8259), each line one object. A place is JSON text already.
use Rattle.std.specs.Prelude.{ℕ, ℤ, List, ◌++◌, Option, Some, None, codes, decimal, map}
use Rattle.std.specs.Fmt.{signed_decimal}
use Rattle.serde_json.specs.Written.{compact_text}
use Rattle.command_line.specs.declared.launch.Launch.{Launch}
use Rattle.cwl_value.specs.Json.{json_of}
use Rattle.cwl_value.specs.declared.value.Value.TheVariants as values
use Rattle.proc_host.specs.declared.child.ChildEnd.{ChildEnd}
use Rattle.program_words.specs.Visible.{visible}

-- the words of a command as JSON text, with the code of each character that a terminal would hide
abbrev pub command_json : Launch → List ℕ
command_json launch = visible (compact_text (json_of (values.List (map values.Text launch.words))))

-- the words that were kept, or that there was no room for them
abbrev pub words_json : Option (List ℕ) → List ℕ
words_json None = codes "null"
words_json (Some words) = words

-- `{"event":"start","place":PLACE,"number":N,"command":[..]}`
abbrev pub start_object : (place : List ℕ) (number : ℕ) (command : List ℕ) → List ℕ
start_object place number command =
    codes "{\"event\":\"start\",\"place\":" ++ place ++ codes ",\"number\":" ++ decimal number ++ codes ",\"command\":" ++ command ++ codes "}"

-- no code where a signal ended it
abbrev pub code_json : Option ℤ → List ℕ
code_json (Some code) = signed_decimal code
code_json None = codes "null"

-- `{"event":"end","place":PLACE,"number":N,"code":CODE,"milliseconds":MILLIS}`
abbrev pub end_object : (place : List ℕ) → ChildEnd → List ℕ
end_object place end =
    codes "{\"event\":\"end\",\"place\":" ++ place ++ codes ",\"number\":" ++ decimal end.ticket ++ codes ",\"code\":" ++ code_json end.code
    ++ codes ",\"milliseconds\":" ++ decimal end.millis ++ codes "}"

-- `{"event":"load","place":PLACE}`
abbrev pub load_object : (place : List ℕ) → List ℕ
load_object place = codes "{\"event\":\"load\",\"place\":" ++ place ++ codes "}"

-- `{"event":"omit","place":PLACE}`
abbrev pub omit_object : (place : List ℕ) → List ℕ
omit_object place = codes "{\"event\":\"omit\",\"place\":" ++ place ++ codes "}"
