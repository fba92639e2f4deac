-- What is found wrong first, where it is, and what an error says of it.
use Rattle.std.specs.Prelude.{◌≡◌, ⊤, ℕ, List, [], ◌∷◌, Bool, Option, Some, None, option_map, if◌then◌else◌}
use Rattle.workflow_check.specs.declared.fault.AcceptError.{AcceptError}
use Rattle.workflow_check.specs.declared.fault.AcceptError.TheVariants.{Refused, OutOfMemory}
use Rattle.workflow_check.specs.declared.fault.LinkCheckFault.{LinkCheckFault}
use Rattle.workflow_check.specs.declared.fault.LinkRule.{LinkRule}

-- the first fault, if there is one
abbrev pub Found : Type 0
Found = Option LinkCheckFault

abbrev pub or_next : Found → Found → Found
or_next None next = next
or_next (Some fault) next = Some fault

-- the first that is found, in the order of the list
abbrev pub first_of : {X : Type 0} → (X → Found) → List X → Found
first_of f [] = None
first_of f (x ∷ xs) = or_next (f x) (first_of f xs)

-- a fault of what is looked at itself
abbrev pub itself : LinkRule → Found
itself rule = Some (record { rule = rule; place = [] })

abbrev pub found_if : Bool → LinkRule → Found
found_if b rule = if b then itself rule else None

abbrev pub put_first : List ℕ → LinkCheckFault → LinkCheckFault
put_first id fault = record { rule = fault.rule; place = id ∷ fault.place }

-- a fault of what is inside the step, input or output of that id
abbrev pub inside : List ℕ → Found → Found
inside id found = option_map (put_first id) found

-- An error says what is found; of out of memory nothing.
abbrev pub IsErrorOf : Found → AcceptError → Type 0
IsErrorOf found (Refused fault) = found ≡ Some fault
IsErrorOf found OutOfMemory = ⊤

-- An error, and the same of what is inside the step, input or output of that id.
abbrev pub IsInside : List ℕ → AcceptError → AcceptError → Type 0
IsInside id (Refused fault) (Refused put) = put ≡ put_first id fault
IsInside id OutOfMemory (Refused put) = ⊥
IsInside id error OutOfMemory = ⊤
