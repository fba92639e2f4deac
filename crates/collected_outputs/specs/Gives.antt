-- A value, or the fault that is in its way.
use Rattle.std.specs.Prelude.{◌≡◌, List, [], ◌∷◌, Result, Ok, Err}
use Rattle.collected_outputs.specs.declared.fault.CollectFault.{CollectFault}
use Rattle.collected_outputs.specs.declared.fault.Stop.{Stop}
use Rattle.collected_outputs.specs.declared.fault.Stop.TheVariants.{Refused, OutOfMemory}

abbrev pub Gives : Type 0 → Type 0
Gives T = Result T CollectFault

abbrev pub and_map : {S T : Type 0} → (S → T) → Gives S → Gives T
and_map f (Ok x) = Ok (f x)
and_map f (Err e) = Err e

abbrev pub and_then : {S T : Type 0} → Gives S → (S → Gives T) → Gives T
and_then (Ok x) f = f x
and_then (Err e) f = Err e

-- each of them, or the first fault
abbrev pub all_given : {T : Type 0} → List (Gives T) → Gives (List T)
all_given [] = Ok []
all_given (r ∷ rs) = and_then r (λ x. and_map (λ xs. x ∷ xs) (all_given rs))

-- a fault comes where the definition gives it; out of memory may come at any time
abbrev pub Refuses : {T : Type 0} → Gives T → Stop → Type 0
Refuses given (Refused fault) = given ≡ Err fault
Refuses given OutOfMemory = Unit {0}
