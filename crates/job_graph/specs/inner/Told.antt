-- What a call over a link's or an input's call answers.
use Rattle.std.specs.Prelude.{◌≡◌, Result, Ok, Err}
use Rattle.link_values.specs.declared.fault.LinkError.{LinkError}
use Rattle.link_values.specs.declared.fault.LinkError.TheVariants.{Refused, OutOfMemory}
use Rattle.input_files.specs.declared.fault.InputError.{InputError}
use Rattle.input_files.specs.declared.fault.InputError.TheVariants as input
use Rattle.job_graph.specs.declared.cause.Cause.{Cause}
use Rattle.job_graph.specs.Inputs.{input_cause}
use Rattle.job_graph.specs.Links.{cause_of}

-- the value, or the fault's cause; no more where there was no memory
abbrev pub IsOfLink : {T E : Type 0} → Result T LinkError → Result (Result T Cause) E → Type 0
IsOfLink (Ok value) result = result ≡ Ok (Ok value)
IsOfLink (Err (Refused fault)) result = result ≡ Ok (Err (cause_of fault))
IsOfLink (Err OutOfMemory) (Ok found) = ⊥
IsOfLink (Err OutOfMemory) (Err error) = Unit {0}

abbrev pub IsOfInput : {T E : Type 0} → Result T InputError → Result (Result T Cause) E → Type 0
IsOfInput (Ok inputs) result = result ≡ Ok (Ok inputs)
IsOfInput (Err (input.Refused fault)) result = result ≡ Ok (Err (input_cause fault))
IsOfInput (Err input.OutOfMemory) (Ok found) = ⊥
IsOfInput (Err input.OutOfMemory) (Err error) = Unit {0}
