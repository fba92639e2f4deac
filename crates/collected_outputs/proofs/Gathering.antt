-- Outputs that are gathered by their bindings, or by the object.
use Rattle.std.proofs.Common.{◌≡◌, false, List, Some, Result, Ok, Err, IfOk, IfErr, sym, ap, subst}
use Rattle.cwl_process.specs.declared.tool.ToolOutput.{ToolOutput}
use Rattle.collected_outputs.specs.declared.fault.CollectError.{CollectError}
use Rattle.collected_outputs.specs.declared.fault.CollectError.TheVariants as error
use Rattle.collected_outputs.specs.declared.fault.OutputFault.{OutputFault}
use Rattle.collected_outputs.specs.declared.listing.Entry.{Entry}
use Rattle.collected_outputs.specs.Collected.{AreGathered, object_entry, by_object, fault_of}
use Rattle.collected_outputs.specs.Matched.{Name}
use Rattle.collected_outputs.specs.Object.{Named, object_of}
use Rattle.collected_outputs.specs.Outputs.{Left, has_object, AreOutputs}
use Rattle.collected_outputs.specs.inner.Steps.{NoOutputs}
use Rattle.collected_outputs.specs.inner.Written.{Faults, GathersNone}

module _ (left : Left) (outputs : List (Name × ToolOutput)) where
  pub by_bindings : (r : Result Named CollectError) → has_object left.listing ≡ false → IfOk r (λ values. AreOutputs left outputs (Ok values)) → IfOk r (λ values. AreGathered left outputs (Ok values))
  by_bindings (Ok values) is h = AreGathered.bound values is h
  by_bindings (Err e) is h = tt

  no_binding : (e : CollectError) → has_object left.listing ≡ false → NoOutputs left outputs e → GathersNone left outputs e
  no_binding error.OutOfMemory is h = tt
  no_binding (error.Refused refused) is h =
      let whole : fault_of (Some h.0) refused.fault ≡ refused = ap (λ id. fault_of id refused.fault) (sym h.1) in
      subst (λ (fault : OutputFault). AreGathered left outputs (Err fault)) whole (AreGathered.unbound h.0 refused.fault is h.2)

  pub none_bound : (r : Result Named CollectError) → has_object left.listing ≡ false → IfErr r (NoOutputs left outputs) → IfErr r (GathersNone left outputs)
  none_bound (Ok values) is h = tt
  none_bound (Err e) is h = no_binding e is h

  pub by_file : (r : Result Named CollectError) (e : Entry) → object_entry left.listing ≡ Some e → IfOk r (λ values. by_object left.listing outputs (object_of e left.heads) ≡ Ok values) → IfOk r (λ values. AreGathered left outputs (Ok values))
  by_file (Ok values) e is h = subst (AreGathered left outputs) h (AreGathered.by_file e is)
  by_file (Err stop) e is h = tt

  no_file : (stop : CollectError) (e : Entry) → object_entry left.listing ≡ Some e → Faults (by_object left.listing outputs (object_of e left.heads)) stop → GathersNone left outputs stop
  no_file error.OutOfMemory e is h = tt
  no_file (error.Refused fault) e is h = subst (AreGathered left outputs) h (AreGathered.by_file e is)

  pub none_in_file : (r : Result Named CollectError) (e : Entry) → object_entry left.listing ≡ Some e → IfErr r (Faults (by_object left.listing outputs (object_of e left.heads))) → IfErr r (GathersNone left outputs)
  none_in_file (Ok values) e is h = tt
  none_in_file (Err stop) e is h = no_file stop e is h
