-- Wanted heads, one output after another.
use Rattle.std.proofs.Common.{◌≡◌, ℕ, ◌+◌, ◌<◌, List, [], ◌∷◌, ◌++◌, length, get_or, take, drop, false, Result, Ok, Err, IfOk, IfErr, sym, ap, subst, ◌∙◌}
use Rattle.std.proofs.lemmas.List.{take_more}
use Rattle.cwl_process.specs.declared.tool.ToolOutput.{ToolOutput}
use Rattle.cwl_value.specs.declared.value.Value.{Value}
use Rattle.collected_outputs.specs.HeadsWanted.{AreWantedBy, AreHeadsWanted}
use Rattle.collected_outputs.specs.Listing.{Listing}
use Rattle.collected_outputs.specs.Matched.{Name}
use Rattle.collected_outputs.specs.Object.{Named}
use Rattle.collected_outputs.specs.Outputs.{globs_of, has_object}
use Rattle.collected_outputs.specs.Patterns.{pattern_texts, runtime as job_runtime}
use Rattle.collected_outputs.specs.inner.Steps.{NoNames}
use Rattle.collected_outputs.specs.inner.Wanted.{AddsWanted, IsOnceOf, NoneWanted}
use Rattle.collected_outputs.specs.declared.fault.CollectError.{CollectError}
use Rattle.collected_outputs.specs.declared.fault.Stop.{Stop}
use Rattle.collected_outputs.specs.declared.fault.Stop.TheVariants.{Refused, OutOfMemory}
use Rattle.collected_outputs.proofs.Giving.{whole}

module _ (listing : Listing) (inputs : Named) (runtime : Value) where
  pub wanted_more : (outputs : List (Name × ToolOutput)) (k : ℕ) (o : Name × ToolOutput) (before after : List Name) → k < length outputs → o ≡ get_or outputs k o
      → AddsWanted listing o.1 (pattern_texts inputs runtime (globs_of o.1.kind o.1.binding)) before after → AreWantedBy listing inputs runtime (take k outputs) (Ok before) → AreWantedBy listing inputs runtime (take (k + 1) outputs) (Ok after)
  wanted_more outputs k o before after within is adds h =
      subst (λ (l : List (Name × ToolOutput)). AreWantedBy listing inputs runtime l (Ok after)) (sym (take_more outputs k o within ∙ ap (λ z. take k outputs ++ z ∷ []) (sym is)))
      (subst (λ (names : List Name). AreWantedBy listing inputs runtime (take k outputs ++ o ∷ []) (Ok names)) (sym adds.added) (AreWantedBy.one_more (take k outputs) before o adds.names h adds.are_names))

  pub wanted_stop : (outputs : List (Name × ToolOutput)) (k : ℕ) (o : Name × ToolOutput) (before : List Name) (e : Stop) → k < length outputs → o ≡ get_or outputs k o
      → NoNames listing (pattern_texts inputs runtime (globs_of o.1.kind o.1.binding)) e → AreWantedBy listing inputs runtime (take k outputs) (Ok before) → NoneWanted listing inputs runtime outputs e
  wanted_stop outputs k o before OutOfMemory within is none h = tt
  wanted_stop outputs k o before (Refused fault) within is none h =
      subst (λ (l : List (Name × ToolOutput)). AreWantedBy listing inputs runtime l (Err fault)) (sym (whole outputs k o within is)) (AreWantedBy.refused (take k outputs) (drop (k + 1) outputs) before o fault h none)

module _ (listing : Listing) (inputs : Named) (outputs : List (Name × ToolOutput)) where
  by_once : (wanted : Result (List Name) Stop) (once : List Name) → has_object listing ≡ false → IfOk wanted (λ names. AreWantedBy listing inputs job_runtime outputs (Ok names)) → IfErr wanted (NoneWanted listing inputs job_runtime outputs)
      → IsOnceOf wanted once → AreHeadsWanted listing inputs outputs once
  by_once (Ok names) once none ok err is = subst (AreHeadsWanted listing inputs outputs) (sym is) (AreHeadsWanted.of_outputs names none ok)
  by_once (Err (Refused fault)) once none ok err is = subst (AreHeadsWanted listing inputs outputs) (sym is) (AreHeadsWanted.unread fault none err)
  by_once (Err OutOfMemory) once none ok err is = absurd is

  at_runtime : (wanted : Result (List Name) Stop) (r : Result (List Name) CollectError) → has_object listing ≡ false → IfOk wanted (λ names. AreWantedBy listing inputs job_runtime outputs (Ok names)) → IfErr wanted (NoneWanted listing inputs job_runtime outputs)
      → IfOk r (IsOnceOf wanted) → IfOk r (AreHeadsWanted listing inputs outputs)
  at_runtime wanted (Ok once) none ok err is = by_once wanted once none ok err is
  at_runtime wanted (Err e) none ok err is = tt

  pub wanted_once : (runtime : Value) (wanted : Result (List Name) Stop) (r : Result (List Name) CollectError) → runtime ≡ job_runtime → has_object listing ≡ false → IfOk wanted (λ names. AreWantedBy listing inputs runtime outputs (Ok names)) → IfErr wanted (NoneWanted listing inputs runtime outputs)
      → IfOk r (IsOnceOf wanted) → IfOk r (AreHeadsWanted listing inputs outputs)
  wanted_once runtime wanted r same none ok err is =
      at_runtime wanted r none (subst (λ (v : Value). IfOk wanted (λ names. AreWantedBy listing inputs v outputs (Ok names))) same ok) (subst (λ (v : Value). IfErr wanted (NoneWanted listing inputs v outputs)) same err) is
