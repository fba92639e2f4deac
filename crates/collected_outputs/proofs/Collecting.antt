-- What each output that is added keeps holds of all that are collected, by their bindings or by `cwl.output.json`.
use Rattle.std.proofs.Common.{◌≡◌, Bool, true, false, List, [], ◌∷◌, ◌++◌, append-nil, append_assoc, Option, None, Result, Ok, Err, IfOk, refl, sym, subst}
use Rattle.std.specs.Prelude.{if◌then◌else◌}
use Rattle.plain_data.specs.ByName.{value_at, with_value}
use Rattle.cwl_process.specs.declared.tool.OutputType.{OutputType}
use Rattle.cwl_process.specs.declared.tool.ToolOutput.{ToolOutput}
use Rattle.cwl_value.specs.declared.value.Value.{Value}
use Rattle.collected_outputs.specs.Checked.{is_typed, all_found, bare}
use Rattle.collected_outputs.specs.Collected.{Collected, IsCollected, AreGathered, fault_of, readable, then_collected, by_object, written_after, with_output, written_value}
use Rattle.collected_outputs.specs.Gives.{Gives, and_then}
use Rattle.collected_outputs.specs.Matched.{Name}
use Rattle.collected_outputs.specs.Object.{Named, object_of, written}
use Rattle.collected_outputs.specs.Outputs.{Left, has_object, AreOutputs, HasValue, checked, output_value, value_beside}
use Rattle.collected_outputs.specs.Readable.{is_readable}
use Rattle.collected_outputs.specs.declared.fault.CollectFault.{CollectFault}
use Rattle.collected_outputs.specs.declared.fault.CollectFault.TheVariants.{NotTyped, NameOutside}

-- a value that is an output's: of its type, with nothing but what was found, without contents; and what is known of it before that
pub record IsKept (left : Left) (Known : Value → Type 0) (kind : OutputType) (v : Value) : Type 0 where
  pub before : Value
  pub known : Known before
  pub typed : is_typed kind before ≡ true
  pub found : all_found left.listing before ≡ true
  pub bare : v ≡ bare before

-- Known is what holds of an output's value before it is checked, and Keeps what holds of the outputs so far and their values
module _ (left : Left) (Known : Name × ToolOutput → Value → Type 0) (Keeps : List (Name × ToolOutput) → Named → Type 0) (none : Keeps [] [])
    (more : (done : List (Name × ToolOutput)) (values : Named) (output : Name × ToolOutput) (v : Value) → Keeps done values → IsKept left (Known output) output.1.kind v → Keeps (done ++ output ∷ []) (with_value output.0 v values))
    (bound : has_object left.listing ≡ false → (output : Name × ToolOutput) (names : List Name) → IfOk (value_beside left output.1 names) (Known output))
    (told : (output : Name × ToolOutput) (o : Option Value) → IfOk (written left.listing o) (Known output)) where
  of_checked : (output : Name × ToolOutput) (v : Value) → Known output v → IfOk (checked left.listing output.1.kind v) (IsKept left (Known output) output.1.kind)
  of_checked output v known = by (is_typed output.1.kind v) (all_found left.listing v) refl refl where
    by : (typed found : Bool) → is_typed output.1.kind v ≡ typed → all_found left.listing v ≡ found
        → IfOk (if typed then (if found then Ok (bare v) else Err NameOutside) else Err NotTyped) (IsKept left (Known output) output.1.kind)
    by true true typed found = record { before = v; known = known; typed = typed; found = found; bare = refl }
    by true false typed found = tt
    by false found typed apart = tt

  then_checked : (output : Name × ToolOutput) (given : Gives Value) → IfOk given (Known output) → IfOk (and_then given (checked left.listing output.1.kind)) (IsKept left (Known output) output.1.kind)
  then_checked output (Ok v) known = of_checked output v known
  then_checked output (Err fault) known = tt

  -- by the bindings

  module _ (apart : has_object left.listing ≡ false) where
    of_names : (output : Name × ToolOutput) (names : Gives (List Name)) → IfOk (and_then names (output_value left output.1)) (IsKept left (Known output) output.1.kind)
    of_names output (Ok names) = then_checked output (value_beside left output.1 names) (bound apart output names)
    of_names output (Err fault) = tt

    of_value : (output : Name × ToolOutput) (v : Value) → HasValue left output.1 (Ok v) → IsKept left (Known output) output.1.kind v
    of_value output v has = subst (λ (given : Gives Value). IfOk given (IsKept left (Known output) output.1.kind)) (sym has.value) (of_names output has.names)

    of_outputs : (outputs : List (Name × ToolOutput)) (r : Result Named (Name × CollectFault)) → AreOutputs left outputs r → IfOk r (Keeps outputs)
    of_outputs _ _ AreOutputs.none = none
    of_outputs _ _ (AreOutputs.one_more outputs values output v h has) = more outputs values output v (of_outputs outputs (Ok values) h) (of_value output v has)
    of_outputs _ _ (AreOutputs.refused outputs rest values output fault h has) = tt

  -- by the object

  one_more : (done : List (Name × ToolOutput)) (output : Name × ToolOutput) (given : Gives Value) (values : Named) (on : Named → Collected) (all : List (Name × ToolOutput))
      → ((next : Named) → Keeps (done ++ output ∷ []) next → IfOk (on next) (Keeps all)) → Keeps done values → IfOk given (IsKept left (Known output) output.1.kind)
      → IfOk (then_collected (with_output output.0 given values) on) (Keeps all)
  one_more done output (Ok v) values on all rest before now = rest (with_value output.0 v values) (more done values output v before now)
  one_more done output (Err fault) values on all rest before now = tt

  of_object : (object values : Named) (done outputs : List (Name × ToolOutput)) → Keeps done values → IfOk (written_after left.listing object values outputs) (Keeps (done ++ outputs))
  of_object object values done [] before = subst (λ (l : List (Name × ToolOutput)). Keeps l values) (sym (append-nil done)) before
  of_object object values done (output ∷ outputs) before =
      one_more done output (written_value left.listing object output) values (λ next. written_after left.listing object next outputs) (done ++ output ∷ outputs)
      (λ next h. subst (λ (l : List (Name × ToolOutput)). IfOk (written_after left.listing object next outputs) (Keeps l)) (append_assoc done (output ∷ []) outputs) (of_object object next (done ++ output ∷ []) outputs h))
      before (then_checked output (written left.listing (value_at output.0 object)) (told output (value_at output.0 object)))

  of_file : (outputs : List (Name × ToolOutput)) (object : Gives Named) → IfOk (by_object left.listing outputs object) (Keeps outputs)
  of_file outputs (Ok object) = of_object object [] [] outputs none
  of_file outputs (Err fault) = tt

  of_gathered : (outputs : List (Name × ToolOutput)) (gathered : Collected) → AreGathered left outputs gathered → IfOk gathered (Keeps outputs)
  of_gathered outputs _ (AreGathered.bound values apart h) = of_outputs apart outputs (Ok values) h
  of_gathered outputs _ (AreGathered.unbound id fault apart h) = tt
  of_gathered outputs _ (AreGathered.by_file e is) = of_file outputs (object_of e left.heads)

  if_readable : (outputs : List (Name × ToolOutput)) (values : Named) → Keeps outputs values → IfOk (readable values) (Keeps outputs)
  if_readable outputs values h = by (is_readable values) where
    by : (b : Bool) → IfOk (if b then Ok values else Err (fault_of None NotTyped)) (Keeps outputs)
    by true = h
    by false = tt

  then_readable : (outputs : List (Name × ToolOutput)) (gathered : Collected) → IfOk gathered (Keeps outputs) → IfOk (then_collected gathered readable) (Keeps outputs)
  then_readable outputs (Ok values) h = if_readable outputs values h
  then_readable outputs (Err fault) h = tt

  pub of_all : (outputs : List (Name × ToolOutput)) (values : Named) → IsCollected left outputs (Ok values) → Keeps outputs values
  of_all outputs values is = subst (λ (c : Collected). IfOk c (Keeps outputs)) (sym is.is) (then_readable outputs is.gathered (of_gathered outputs is.gathered is.are_gathered))

-- where nothing has to be known before
pub nothing_known : (r : Gives Value) → IfOk r (λ v. Unit {0})
nothing_known (Ok v) = tt
nothing_known (Err fault) = tt
