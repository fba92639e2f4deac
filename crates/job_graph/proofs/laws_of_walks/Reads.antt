-- Where the outputs of some steps change, a step that reads none of them has the same inputs.
use Rattle.std.proofs.Common.{◌≡◌, ◌∙◌, inl, inr, List, [], ◌∷◌, Bool, false, cond, Option, Some, None, unwrap_or, bytes_eq, refl, ap, ap₂}
use Rattle.std.specs.Prelude.{◌||◌}
use Rattle.std.specs.List.{list_any}
use Rattle.std.specs.Option.{option_map_or}
use Rattle.cwl_value.specs.declared.value.Value.{Value}
use Rattle.cwl_process.specs.declared.links.Source.{Source}
use Rattle.cwl_process.specs.declared.workflow.StepInput.{StepInput}
use Rattle.document_links.specs.declared.process.Step.{Step, out-Step}
use Rattle.input_files.specs.Measured.{Measures}
use Rattle.link_values.specs.Merged.{merged}
use Rattle.link_values.specs.StepInputs.{step_input}
use Rattle.plain_data.specs.ByName.{value_at, with_value}
use Rattle.plain_data.proofs.Lookup.{value_at-with_value}
use Rattle.job_graph.specs.inner.Elements.{IsIn}
use Rattle.job_graph.specs.declared.partly.Partly.{Partly}
use Rattle.job_graph.specs.Words.{Name, Fields}
use Rattle.job_graph.specs.Jobs.{Outs, with_first}
use Rattle.job_graph.specs.Links.{Env, by_link, linked_values, measured, once_known, out_under, value_from}
use Rattle.job_graph.specs.inner.Going.{SameBut, is_from, reads, reads_one}
use Rattle.job_graph.proofs.laws_of_walks.Part.{neither_one, neither_other}
use Rattle.job_graph.proofs.laws_of_walks.Steps.{entries_of}

pub none_in : {X : Type 0} (p : X → Bool) (xs : List X) → list_any p xs ≡ false → (x : X) → IsIn x xs → p x ≡ false
none_in p [] none x at = absurd at
none_in p (y ∷ ys) none x (inl here) = ap p here ∙ neither_one (p y) (list_any p ys) none
none_in p (y ∷ ys) none x (inr later) = none_in p ys (neither_other (p y) (list_any p ys) none) x later

abbrev pub sources_in : StepInput → List Source
sources_in input = unwrap_or input.links.sources []

-- no source of an input is of these steps
abbrev AreFree : List Name → List Source → Type 0
AreFree ids sources = (source : Source) → IsIn source sources → list_any (λ id. is_from id source) ids ≡ false

free : (ids : List Name) (s : Step) → reads_one ids s ≡ false → (i : Name × StepInput) → IsIn i (out-Step s).inputs → AreFree ids (sources_in i.1)
free [] s none i at source among = refl
free (id ∷ ids) s none i at source among =
    let one : list_any (is_from id) (sources_in i.1) ≡ false =
    none_in (λ (i : Name × StepInput). list_any (is_from id) (sources_in i.1)) (out-Step s).inputs (neither_one (reads id s) (reads_one ids s) none) i at in
    ap₂ (λ (a b : Bool). a || b) (none_in (is_from id) (sources_in i.1) one source among) (free ids s (neither_other (reads id s) (reads_one ids s) none) i at source among)

module _ (ids : List Name) (env later : Env) (same : SameBut ids env later) where
  from_same : (inputs : Fields) (step : Option Name) (name : Name) → list_any (λ id. option_map_or (λ step. bytes_eq step id) step false) ids ≡ false → value_from step name inputs later ≡ value_from step name inputs env
  from_same inputs None name apart = refl
  from_same inputs (Some step) name apart = ap (out_under name) (same step apart)

  linked_same : (inputs : Fields) (sources : List Source) → AreFree ids sources → linked_values inputs later sources ≡ linked_values inputs env sources
  linked_same inputs [] apart = refl
  linked_same inputs (s ∷ ss) apart =
      ap₂ (λ (v : Option Value) (rest : Option (List Value)). with_first v rest) (from_same inputs s.step s.name (apart s (inl refl)))
      (linked_same inputs ss (λ source at. apart source (inr at)))

  abbrev entry_from : Measures → StepInput → Option (List Value) → Partly
  entry_from measures input found = once_known (λ values. by_link (step_input (measured measures input) (merged input.links.merge values))) found

  inputs_same : (measures : Measures) (inputs : Fields) (ins : List (Name × StepInput)) → ((i : Name × StepInput) → IsIn i ins → AreFree ids (sources_in i.1))
      → entries_of measures ins inputs later ≡ entries_of measures ins inputs env
  inputs_same measures inputs [] apart = refl
  inputs_same measures inputs (i ∷ is) apart =
      ap₂ (λ (p : Partly) (rest : List (Name × Partly)). (i.0, p) ∷ rest)
      (ap (entry_from measures i.1) (linked_same inputs (sources_in i.1) (apart i (inl refl))))
      (inputs_same measures inputs is (λ j at. apart j (inr at)))

  module _ (s : Step) (none : reads_one ids s ≡ false) where
    pub entries_same : (measures : Measures) (inputs : Fields) → entries_of measures (out-Step s).inputs inputs later ≡ entries_of measures (out-Step s).inputs inputs env
    entries_same measures inputs = inputs_same measures inputs (out-Step s).inputs (free ids s none)

-- ---- where the outputs of one step are put

pub same_but_one : (id : Name) (outs : Outs) (env : Env) → SameBut (id ∷ []) env (with_value id outs env)
same_but_one id outs env = λ other apart.
    value_at-with_value other id outs env ∙ ap (λ (b : Bool). cond b (Some outs) (value_at other env)) (neither_one (bytes_eq other id) false apart)
