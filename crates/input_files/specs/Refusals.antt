-- Why a call refuses: for a cause that holds, and for no other; out of memory may come at any time.
use Rattle.std.specs.Prelude.{◌≡◌, Option, Some, Result, Err}
use Rattle.input_files.specs.Given.{Fields}
use Rattle.input_files.specs.declared.fault.InputFault.{InputFault}
use Rattle.input_files.specs.declared.fault.InputError.{InputError}
use Rattle.input_files.specs.declared.fault.InputError.TheVariants as input
use Rattle.input_files.specs.declared.fault.ContentsFault.{ContentsFault}
use Rattle.input_files.specs.declared.fault.ContentsError.{ContentsError}
use Rattle.input_files.specs.declared.fault.ContentsError.TheVariants as contents

abbrev pub RefusesInputs : Result Fields InputFault → InputError → Type 0
RefusesInputs found (input.Refused fault) = found ≡ Err fault
RefusesInputs found input.OutOfMemory = Unit {0}

abbrev pub RefusesInput : Option InputFault → InputError → Type 0
RefusesInput found (input.Refused fault) = found ≡ Some fault
RefusesInput found input.OutOfMemory = Unit {0}

abbrev pub RefusesContents : Result Fields ContentsFault → ContentsError → Type 0
RefusesContents found (contents.Refused fault) = found ≡ Err fault
RefusesContents found contents.OutOfMemory = Unit {0}
