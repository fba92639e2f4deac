-- What has a value or a fault, and what an error says of it.
use Rattle.std.specs.Prelude.{◌≡◌, Result, Ok, Err}
use Rattle.link_values.specs.declared.fault.LinkError.{LinkError}
use Rattle.link_values.specs.declared.fault.LinkError.TheVariants.{Refused, OutOfMemory}
use Rattle.link_values.specs.declared.fault.LinkFault.{LinkFault}
use Rattle.link_values.specs.declared.fault.LinkFault.TheVariants.{Reference}
use Rattle.param_refs.specs.declared.fault.RefError.{RefError}
use Rattle.param_refs.specs.declared.fault.RefError.TheVariants as ref_error

-- a value, or the cause why there is none
abbrev pub Gives : Type 0 → Type 0
Gives T = Result T LinkFault

abbrev pub and_then : {S T : Type 0} → Gives S → (S → Gives T) → Gives T
and_then (Ok x) f = f x
and_then (Err fault) f = Err fault

abbrev pub and_map : {S T : Type 0} → (S → T) → Gives S → Gives T
and_map f (Ok x) = Ok (f x)
and_map f (Err fault) = Err fault

-- the fault that it names is what was found; out of memory says nothing
abbrev pub IsError : {T : Type 0} → Gives T → LinkError → Type 0
IsError found e = (fault : LinkFault) → e ≡ Refused fault → found ≡ Err fault

-- a reference's error, as a link's
abbrev pub of_reference : RefError → LinkError
of_reference (ref_error.Refused fault) = Refused (Reference fault)
of_reference ref_error.OutOfMemory = OutOfMemory
