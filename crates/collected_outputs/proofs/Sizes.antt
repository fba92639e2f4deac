-- The sizes and the checksums of outputs are those that were found.
use Rattle.std.proofs.Common.{◌≡◌, Bool, true, false, true≢false, not, ◌||◌, List, [], ◌∷◌, ◌++◌, Option, Some, None, is_some, Ok, Err, IfOk, refl, sym, ap, subst, ◌∙◌}
use Rattle.std.specs.Prelude.{if◌then◌else◌}
use Rattle.std.specs.List.{All, list_any}
use Rattle.std.specs.Map.{values_of}
use Rattle.std.specs.Option.{option_map_or, option_to_list}
use Rattle.std.proofs.lemmas.List.Elements.{All-nil}
use Rattle.std.proofs.lemmas.List.Folds.{list_any-append}
use Rattle.std.proofs.lemmas.Map.Views.{All-values-insert_entry}
use Rattle.plain_data.specs.ByName.{name_cmp, with_value}
use Rattle.cwl_process.specs.declared.tool.OutputBinding.{OutputBinding}
use Rattle.cwl_process.specs.declared.tool.OutputType.{OutputType}
use Rattle.cwl_process.specs.declared.tool.OutputType.TheVariants.{Stdout, Stderr, Members}
use Rattle.cwl_process.specs.declared.tool.ToolOutput.{ToolOutput}
use Rattle.cwl_types.specs.declared.types.MemberType.{MemberType}
use Rattle.cwl_types.specs.declared.types.MemberType as member
use Rattle.cwl_types.specs.declared.types.PlainType.TheVariants as plain
use Rattle.cwl_value.specs.declared.value.Value.{Value}
use Rattle.cwl_value.specs.declared.value.Value as value
use Rattle.param_refs.specs.declared.template.Part.{Part}
use Rattle.collected_outputs.specs.Beside.{all_beside}
use Rattle.collected_outputs.specs.Checked.{bare}
use Rattle.collected_outputs.specs.Collected.{IsCollected}
use Rattle.collected_outputs.specs.Gives.{Gives, and_then}
use Rattle.collected_outputs.specs.Laws.{evaluates, SizesAreThoseFound}
use Rattle.collected_outputs.specs.Matched.{Name}
use Rattle.collected_outputs.specs.Object.{Named, written}
use Rattle.collected_outputs.specs.Outputs.{Left, has_object, matched_values, evaluated, value_of_binding, stream_value, unchecked, value_beside}
use Rattle.collected_outputs.specs.Values.{value_under, values_of as values_found}
use Rattle.collected_outputs.proofs.Collecting.{IsKept, of_all}
use Rattle.collected_outputs.proofs.Scanned.{T, Ts, file, dir, of_null, under, as_list, of_names, all_read, by_type}
use Rattle.collected_outputs.proofs.ScannedBeside.{all_more, of_written}
use Rattle.collected_outputs.proofs.Throughout.{without_contents}

if_known : (H : Type 0) (P : Value → Type 0) (r : Gives Value) → (H → IfOk r P) → IfOk r (λ v. H → P v)
if_known H P (Ok v) f = f
if_known H P (Err fault) f = tt

both_none : (has some one : Bool) → (has || not (some || (one || false))) ≡ true → ((has || not some) ≡ true) × ((has || not one) ≡ true)
both_none true some one h = (refl, refl)
both_none false true one h = absurd (true≢false (sym h))
both_none false false true h = absurd (true≢false (sym h))
both_none false false false h = (refl, refl)

none_then : (has one : Bool) → has ≡ false → (has || not one) ≡ true → one ≡ false
none_then true one apart h = absurd (true≢false apart)
none_then false true apart h = absurd (true≢false (sym h))
none_then false false apart h = refl

module _ (left : Left) where
  abbrev Passes : Value → Type 0
  Passes = T left.listing

  of_matched : (load : Bool) (names : List Name) → IfOk (matched_values left load names) (Ts left.listing)
  of_matched true names = all_read left.listing left.heads (values_found left.listing names) (of_names left.listing names)
  of_matched false names = of_names left.listing names

  unless_evaluated : (members : List MemberType) (o : Option (List Part)) → is_some o ≡ false → (r : Gives (List Value)) → IfOk r (Ts left.listing) → IfOk (and_then r (evaluated left members o)) Passes
  unless_evaluated members None none (Ok vs) h = by_type left.listing members vs h
  unless_evaluated members None none (Err fault) h = tt
  unless_evaluated members (Some template) none r h = absurd (true≢false none)

  of_binding : (members : List MemberType) (binding : Option OutputBinding) (names : List Name) → option_map_or (λ (b : OutputBinding). is_some b.output_eval) binding false ≡ false
      → IfOk (value_of_binding left members binding names) Passes
  of_binding members None names none = of_null left.listing
  of_binding members (Some binding) names none = by (is_some binding.glob || is_some binding.output_eval) where
    by : (b : Bool) → IfOk (if b then and_then (matched_values left binding.load_contents names) (evaluated left members binding.output_eval) else Ok value.Null) Passes
    by true = unless_evaluated members binding.output_eval none (matched_values left binding.load_contents names) (of_matched binding.load_contents names)
    by false = of_null left.listing

  of_stream : (name : Name) → IfOk (stream_value left name) Passes
  of_stream name = by_type left.listing (member.Plain plain.File ∷ []) (option_to_list (value_under left.listing name)) (as_list left.listing (value_under left.listing name) (under left.listing name))

  of_kind : (kind : OutputType) (binding : Option OutputBinding) (names : List Name) → option_map_or (λ (b : OutputBinding). is_some b.output_eval) binding false ≡ false
      → IfOk (unchecked left kind binding names) Passes
  of_kind Stdout binding names none = of_stream left.stdout
  of_kind Stderr binding names none = of_stream left.stderr
  of_kind (Members members) binding names none = of_binding members binding names none

  of_output : (output : Name × ToolOutput) (names : List Name) → evaluates output ≡ false → IfOk (value_beside left output.1 names) Passes
  of_output output names none = by (unchecked left output.1.kind output.1.binding names) (of_kind output.1.kind output.1.binding names none) where
    by : (r : Gives Value) → IfOk r Passes → IfOk (and_then r (all_beside left.listing output.1.secondary_files)) Passes
    by (Ok v) h = all_more left.listing output.1.secondary_files v h
    by (Err fault) h = tt

  abbrev Plain : Name × ToolOutput → Type 0
  Plain output = (has_object left.listing || not (evaluates output)) ≡ true

  abbrev Known : Name × ToolOutput → Value → Type 0
  Known output v = Plain output → Passes v

  abbrev Keeps : List (Name × ToolOutput) → Named → Type 0
  Keeps done values = (has_object left.listing || not (list_any evaluates done)) ≡ true → All Passes (values_of values)

  more : (done : List (Name × ToolOutput)) (values : Named) (output : Name × ToolOutput) (v : Value) → Keeps done values → IsKept left (Known output) output.1.kind v → Keeps (done ++ output ∷ []) (with_value output.0 v values)
  more done values output v before kept h =
      let parts = both_none (has_object left.listing) (list_any evaluates done) (evaluates output) (ap (λ b. has_object left.listing || not b) (sym (list_any-append evaluates done (output ∷ []))) ∙ h) in
      let now : Passes (bare kept.before) = without_contents (file left.listing) (file left.listing) (dir left.listing) (dir left.listing) (λ f flags is. is) (λ d flags is. is) kept.before (kept.known parts.1) in
      All-values-insert_entry name_cmp output.0 v Passes values (before parts.0) (subst Passes (sym kept.bare) now)

  pub sizes : (outputs : List (Name × ToolOutput)) (values : Named) → IsCollected left outputs (Ok values) → Keeps outputs values
  sizes = of_all left Known Keeps (λ h. All-nil Passes) more
      (λ apart output names. if_known (Plain output) Passes (value_beside left output.1 names) (λ h. of_output output names (none_then (has_object left.listing) (evaluates output) apart h)))
      (λ output o. if_known (Plain output) Passes (written left.listing o) (λ h. of_written left.listing o))

pub those_found : SizesAreThoseFound
those_found left = sizes left
