-- What an error says of what was asked for.
use Rattle.std.specs.Prelude.{◌≡◌, Result, Err}
use Rattle.param_refs.specs.declared.fault.RefFault.{RefFault}
use Rattle.param_refs.specs.declared.fault.RefError.{RefError}
use Rattle.param_refs.specs.declared.fault.RefError.TheVariants.{Refused}

-- the fault that it names is what was found; out of memory says nothing
abbrev pub IsError : {T : Type 0} → Result T RefFault → RefError → Type 0
IsError found e = (fault : RefFault) → e ≡ Refused fault → found ≡ Err fault
