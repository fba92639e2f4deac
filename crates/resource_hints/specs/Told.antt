-- What a launcher is told of a job: variables (own).
use Rattle.std.specs.Prelude.{ℕ, List, [], ◌∷◌, ◌++◌, Option, codes, decimal}
use Rattle.std.specs.List.{flat_map}
use Rattle.std.specs.Option.{option_map_or}
use Rattle.plain_data.specs.ByName.{value_at}
use Rattle.cwl_value.specs.Places.{job_text}
use Rattle.cwl_value.specs.declared.place.Segment.{Segment}
use Rattle.command_line.specs.declared.launch.Variable.{Variable}
use Rattle.resource_hints.specs.Hints.{Asked, place_in}
use Rattle.resource_hints.specs.declared.amounts.Resources.{Resources}

-- The place of the job's tool: the jobs of a scattered step have one.
abbrev pub tool_place : List Segment → List ℕ
tool_place job = codes "main" ++ flat_map (λ s. 47 ∷ s.step) job

abbrev pub variable : List ℕ → List ℕ → Variable
variable name text = record { name = name; text = text }

abbrev pub amount_told : List ℕ → Option ℕ → List Variable
amount_told name amount = option_map_or (λ n. variable name (decimal n) ∷ []) amount []

abbrev pub resources_told : Resources → List Variable
resources_told r =
    amount_told (codes "DEPAROHI_CORES") r.cores ++ amount_told (codes "DEPAROHI_RAM_MB") r.ram ++ amount_told (codes "DEPAROHI_TMPDIR_MB") r.tmpdir

-- Where a hint counts, the place, and each amount that it asks for.
abbrev pub told_by : List Segment → Resources → List Variable
told_by job resources = variable (codes "DEPAROHI_PLACE") (job_text job) ∷ resources_told resources

abbrev pub told_of : Asked → List Segment → List Variable
told_of asked job = option_map_or (told_by job) (value_at (tool_place job) asked) []
