-- What acts on a job: variables of the environment, and whether an earlier result may be used (CWL v1.2, Command Line Tool
-- Description, "Requirements and hints", "EnvVarRequirement", "WorkReuse").
use Rattle.std.specs.Prelude.{ℕ, List, [], ◌∷◌, map, Bool, true, Option, Some, None, option_map, option_and_then, unwrap_or, if◌then◌else◌, codes}
use Rattle.std.specs.Option.{option_map_or}
use Rattle.std.specs.Str.{bytes_eq}
use Rattle.serde_json.specs.Data.{Data}
use Rattle.serde_json.specs.Find.{get}
use Rattle.document_table.specs.Entries.{entries, main_field}
use Rattle.document_table.specs.declared.form.Kind.TheVariants as kind
use Rattle.cwl_process.specs.Simple.{flag_at, text_in}
use Rattle.cwl_process.specs.Templates.{template_of}
use Rattle.cwl_process.specs.declared.tool.Acting.{Acting}
use Rattle.cwl_process.specs.declared.tool.Asked.{Asked}
use Rattle.cwl_process.specs.declared.tool.Variable.{Variable}

-- the first one that says something
abbrev pub nearer : {A : Type 0} → Option A → Option A → Option A
nearer None other = other
nearer (Some x) other = Some x

-- Of several of one class the last counts; `last` is the one so far.
abbrev pub last_of : List ℕ → Option Data → List (List ℕ × Data) → Option Data
last_of class last [] = last
last_of class last (e ∷ es) = last_of class (if bytes_eq e.0 class then Some e.1 else last) es

-- the requirement of that class, of those in the field
abbrev pub requirement_at : List ℕ → List ℕ → Data → Option Data
requirement_at field class d = option_and_then (λ v. last_of class None (entries kind.PlainRequirement v)) (get field d)

-- The text may stand in the variable's place.
abbrev pub variable_text : Data → List ℕ
variable_text d = option_map_or text_in (main_field (codes "envValue") d) []

abbrev pub variable_in : Data → Variable
variable_in d = record { written = variable_text d; value = template_of (variable_text d) }

abbrev pub variables_in : Data → List (List ℕ × Variable)
variables_in d = option_map_or (λ v. map (λ e. (e.0, variable_in e.1)) (entries kind.Variable v)) (get (codes "envDef") d) []

abbrev pub acting_at : List ℕ → Data → Acting
acting_at field d = record {
  environment = option_map variables_in (requirement_at field (codes "EnvVarRequirement") d);
  reuse = option_map (flag_at (codes "enableReuse") true) (requirement_at field (codes "WorkReuse") d);
}

-- Each of them is inherited whole.
abbrev pub inside : Acting → Acting → Acting
inside around own = record { environment = nearer own.environment around.environment; reuse = nearer own.reuse around.reuse }

-- what a process or step asks, inside of what is asked around it
abbrev pub asked_in : Asked → Data → Asked
asked_in around d = record {
  requirements = inside around.requirements (acting_at (codes "requirements") d);
  hints = inside around.hints (acting_at (codes "hints") d);
}

abbrev pub nothing : Acting
nothing = record { environment = None; reuse = None }

abbrev pub nothing_asked : Asked
nothing_asked = record { requirements = nothing; hints = nothing }

-- ---- in force: any requirement comes before any hint

abbrev pub environment_of : Asked → Option (List (List ℕ × Variable))
environment_of asked = nearer asked.requirements.environment asked.hints.environment

-- An earlier result may be used where nothing says otherwise.
abbrev pub reuse_of : Asked → Bool
reuse_of asked = unwrap_or (nearer asked.requirements.reuse asked.hints.reuse) true
