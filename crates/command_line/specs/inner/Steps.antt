-- What the steps of `build` answer in place of a part of the launch.
use Rattle.std.specs.Prelude.{◌≡◌, ℕ, Bool, true, false, ◌&&◌, if◌then◌else◌, [], List, Option, Result, Ok, Err, Contains}
use Rattle.std.specs.List.{list_all}
use Rattle.cwl_value.specs.declared.value.Value.{Value}
use Rattle.cwl_value.specs.declared.value.Value as value
use Rattle.command_line.specs.Added.{adds}
use Rattle.command_line.specs.Order.{Bound, Origin, Argument, Input}
use Rattle.command_line.specs.Words.{is_null, place_of, plain_words, words_of}
use Rattle.command_line.specs.Texts.{is_plain, name_of, value_in}
use Rattle.command_line.specs.Results.{and_then}
use Rattle.param_refs.specs.declared.template.Part.{Part}
use Rattle.command_line.specs.declared.fault.BuildFault.{BuildFault}
use Rattle.command_line.specs.declared.fault.BuildFault.TheVariants.{NotText, NoValueFrom}
use Rattle.command_line.specs.declared.fault.LaunchText.TheVariants.{BaseCommand}
use Rattle.command_line.specs.declared.fault.BuildError.{BuildError}
use Rattle.command_line.specs.declared.fault.BuildError.TheVariants.{Refused, OutOfMemory}

-- out of memory, or the cause that was found in place of a value
abbrev pub FaultOf : {T : Type 0} → Result T BuildFault → BuildError → Type 0
FaultOf found (Refused fault) = found ≡ Err fault
FaultOf found OutOfMemory = Unit {0}

-- out of memory, or that a word of the base command is none that an operating system takes
abbrev pub BaseError : List (List ℕ) → BuildError → Type 0
BaseError base (Refused fault) = (fault ≡ NotText BaseCommand) × (list_all is_plain base ≡ false)
BaseError base OutOfMemory = Unit {0}

-- out of memory, or the cause that one of the bindings has no words
abbrev pub BindingError : List (List ℕ × Value) → Value → List Bound → BuildError → Type 0
BindingError inputs around bound (Refused fault) = (b : Bound) × Contains bound b × (words_of inputs around b ≡ Err fault)
BindingError inputs around bound OutOfMemory = Unit {0}

-- what the text of a template is, where it is one
abbrev pub text_or_none : List (List ℕ × Value) → Value → List Part → Result (Option (List ℕ)) BuildFault
text_or_none inputs around template = and_then (value_in inputs around value.Null template) (λ v. Ok (name_of v))

abbrev pub is_input : Origin → Bool
is_input (Argument index) = false
is_input (Input id) = true

-- the words of a binding without valueFrom, whose value is v
abbrev pub own_words_of : Bound → Value → Result (List (List ℕ)) BuildFault
own_words_of b v = if is_input b.origin then plain_words (place_of b.origin) (adds v b.types b.style) else Err NoValueFrom

-- the words of a binding with valueFrom, whose value is v
abbrev pub referred_words_of : List (List ℕ × Value) → Value → Bound → Value → List Part → Result (List (List ℕ)) BuildFault
referred_words_of inputs around b v template =
    and_then (if is_input b.origin && is_null v then Ok v else value_in inputs around v template) (λ w. plain_words (place_of b.origin) (adds w [] b.style))
