-- Outputs that are bound one after another.
use Rattle.std.proofs.Common.{◌≡◌, ℕ, ◌+◌, ◌<◌, List, [], ◌∷◌, ◌++◌, length, get_or, take, drop, Option, Ok, Err, sym, ap, subst, ◌∙◌}
use Rattle.std.proofs.lemmas.List.{take_more}
use Rattle.cwl_process.specs.declared.tool.OutputBinding.{OutputBinding}
use Rattle.cwl_process.specs.declared.tool.OutputType.{OutputType}
use Rattle.cwl_process.specs.declared.tool.ToolOutput.{ToolOutput}
use Rattle.param_refs.specs.declared.template.Part.{Part}
use Rattle.cwl_value.specs.declared.value.Value.{Value}
use Rattle.staging.specs.declared.item.PatternItem.{PatternItem}
use Rattle.collected_outputs.specs.Gives.{Gives, Refuses}
use Rattle.collected_outputs.specs.Listing.{Listing}
use Rattle.collected_outputs.specs.Matched.{Name, AreMatched, AreOfAll}
use Rattle.collected_outputs.specs.Outputs.{Left, globs_of, AreNames, AreOutputs}
use Rattle.collected_outputs.specs.Patterns.{AreRead, pattern_texts}
use Rattle.collected_outputs.specs.inner.Steps.{NoNames, BindsOutput, BindsNone, NoOutputs}
use Rattle.collected_outputs.specs.inner.Readings.{NoneRead}
use Rattle.collected_outputs.specs.declared.fault.CollectFault.{CollectFault}
use Rattle.collected_outputs.specs.declared.fault.CollectError.{CollectError}
use Rattle.collected_outputs.specs.declared.fault.CollectError.TheVariants as error
use Rattle.collected_outputs.specs.declared.fault.Stop.{Stop}
use Rattle.collected_outputs.specs.declared.fault.Stop.TheVariants.{Refused, OutOfMemory}
use Rattle.collected_outputs.proofs.Giving.{whole}

-- no pattern matches nothing
pub nothing_matched : (listing : Listing) (names : List Name) → names ≡ [] → AreNames listing (Ok []) (Ok names)
nothing_matched listing names is = AreNames.matched [] [] names AreRead.none (record { names = []; of_all = AreOfAll.none; once = is })

pub no_texts_named : (listing : Listing) (texts : Gives (List Name)) (e : Stop) → Refuses texts e → NoNames listing texts e
no_texts_named listing texts OutOfMemory h = tt
no_texts_named listing texts (Refused fault) h = subst (λ (t : Gives (List Name)). AreNames listing t (Err fault)) (sym h) (AreNames.no_texts fault)

pub no_pattern_named : (listing : Listing) (given : Gives (List Name)) (texts slice : List Name) (e : Stop) → given ≡ Ok texts → slice ≡ texts → NoneRead slice e → NoNames listing given e
no_pattern_named listing given texts slice OutOfMemory is same h = tt
no_pattern_named listing given texts slice (Refused fault) is same h =
    subst (λ (t : Gives (List Name)). AreNames listing t (Err fault)) (sym (is ∙ ap Ok (sym same)))
    (subst (λ (f : CollectFault). AreNames listing (Ok slice) (Err f)) (sym h.1) (AreNames.no_pattern slice h.0 h.2))

pub nothing_named : (listing : Listing) (inputs : List (List ℕ × Value)) (runtime : Value) (names : List Name) → names ≡ [] → AreNames listing (pattern_texts inputs runtime []) (Ok names)
nothing_named listing inputs runtime names is = nothing_matched listing names is

pub named_by_kind : (listing : Listing) (inputs : List (List ℕ × Value)) (runtime : Value) (kind : OutputType) (binding : Option OutputBinding) (names : List Name) → globs_of kind binding ≡ [] → names ≡ []
    → AreNames listing (pattern_texts inputs runtime (globs_of kind binding)) (Ok names)
named_by_kind listing inputs runtime kind binding names none is =
    subst (λ (ts : List (List Part)). AreNames listing (pattern_texts inputs runtime ts) (Ok names)) (sym none) (nothing_matched listing names is)

pub names_matched : (listing : Listing) (given : Gives (List Name)) (texts slice : List Name) (patterns others : List (List PatternItem)) (names : List Name) → given ≡ Ok texts → slice ≡ texts → AreRead slice (Ok patterns) → others ≡ patterns
    → AreMatched listing others names → AreNames listing given (Ok names)
names_matched listing given texts slice patterns others names is same read those found =
    subst (λ (t : Gives (List Name)). AreNames listing t (Ok names)) (sym (is ∙ ap Ok (sym same)))
    (AreNames.matched slice patterns names read (subst (λ (ps : List (List PatternItem)). AreMatched listing ps names) those found))

pub outputs_more : (left : Left) (outputs : List (Name × ToolOutput)) (k : ℕ) (o : Name × ToolOutput) (before after : List (Name × Value)) → k < length outputs → o ≡ get_or outputs k o → BindsOutput left o.0 o.1 before after → AreOutputs left (take k outputs) (Ok before)
    → AreOutputs left (take (k + 1) outputs) (Ok after)
outputs_more left outputs k o before after within is binds h =
    let longer : take (k + 1) outputs ≡ take k outputs ++ o ∷ [] = take_more outputs k o within ∙ ap (λ z. take k outputs ++ z ∷ []) (sym is) in
    subst (λ (l : List (Name × ToolOutput)). AreOutputs left l (Ok after)) (sym longer)
    (subst (λ (vs : List (Name × Value)). AreOutputs left (take k outputs ++ o ∷ []) (Ok vs)) (sym binds.put) (AreOutputs.one_more (take k outputs) before o binds.value h binds.has))

pub outputs_stop : (left : Left) (outputs : List (Name × ToolOutput)) (k : ℕ) (o : Name × ToolOutput) (before : List (Name × Value)) (e : CollectError) → k < length outputs → o ≡ get_or outputs k o → BindsNone left o.0 o.1 e → AreOutputs left (take k outputs) (Ok before)
    → NoOutputs left outputs e
outputs_stop left outputs k o before error.OutOfMemory within is binds h = tt
outputs_stop left outputs k o before (error.Refused refused) within is binds h = (
  o.0,
  binds.0,
  subst (λ (l : List (Name × ToolOutput)). AreOutputs left l (Err (o.0, refused.fault))) (sym (whole outputs k o within is)) (AreOutputs.refused (take k outputs) (drop (k + 1) outputs) before o refused.fault h binds.1),
)
