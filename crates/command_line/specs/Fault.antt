-- The short names of refusals, and what is answered where a reference is refused.
use Rattle.std.specs.Prelude.{ℕ, List, codes}
use Rattle.param_refs.specs.declared.fault.RefError.{RefError}
use Rattle.param_refs.specs.declared.fault.RefError.TheVariants as ref_error
use Rattle.command_line.specs.declared.fault.BuildError.{BuildError}
use Rattle.command_line.specs.declared.fault.BuildError.TheVariants as build_error
use Rattle.command_line.specs.declared.fault.BuildFault.{BuildFault}
use Rattle.command_line.specs.declared.fault.BuildFault.TheVariants.{Reference, NoValueFrom, NotText, EmptyCommand}

-- each refusal has one name, and no two share one
abbrev pub code_of : BuildFault → List ℕ
code_of (Reference fault) = codes "B1"
code_of NoValueFrom = codes "B2"
code_of (NotText place) = codes "B3"
code_of EmptyCommand = codes "B4"

abbrev pub error_of : RefError → BuildError
error_of (ref_error.Refused fault) = build_error.Refused (Reference fault)
error_of ref_error.OutOfMemory = build_error.OutOfMemory
