-- The outputs that are collected are those that the tool declares, each of its type.
use Rattle.std.proofs.Common.{◌≡◌, ◌⊎◌, inl, inr, Bool, true, false, true≢false, List, [], ◌∷◌, ◌++◌, Some, is_some, cond, refl, sym, ap, subst, ◌∙◌}
use Rattle.std.specs.Prelude.{bytes_eq}
use Rattle.std.specs.List.{Contains}
use Rattle.std.proofs.lemmas.List.Elements.{Contains-append_left, Contains-push, Contains-push_cases}
use Rattle.std.proofs.lemmas.Slice.Eq.{bytes_eq-Decides}
use Rattle.plain_data.proofs.Lookup.{name_itself, some_one, value_at-with_value}
use Rattle.plain_data.specs.ByName.{value_at, with_value}
use Rattle.cwl_process.specs.declared.tool.ToolOutput.{ToolOutput}
use Rattle.cwl_value.specs.declared.value.Value.{Value}
use Rattle.staging.proofs.Together.{nothing_in}
use Rattle.collected_outputs.specs.Checked.{is_typed}
use Rattle.collected_outputs.specs.Laws.{IsDeclared, AreDeclared, OutputsAreThoseDeclared}
use Rattle.collected_outputs.specs.Matched.{Name}
use Rattle.collected_outputs.specs.Object.{Named, written}
use Rattle.collected_outputs.specs.Outputs.{Left, value_beside}
use Rattle.collected_outputs.proofs.Collecting.{IsKept, of_all, nothing_known}
use Rattle.collected_outputs.proofs.Typed.{typed_bare}

none_declared : AreDeclared [] []
none_declared = record { each = λ id v is. absurd (true≢false (sym (ap is_some is))); all = λ output one. absurd (nothing_in output one) }

kept_typed : (left : Left) (output : ToolOutput) (v : Value) → IsKept left (λ v. Unit {0}) output.kind v → is_typed output.kind v ≡ true
kept_typed left output v kept = ap (is_typed output.kind) kept.bare ∙ typed_bare output.kind kept.before ∙ kept.typed

module _ (done : List (Name × ToolOutput)) (values : Named) (output : Name × ToolOutput) (v : Value) (before : AreDeclared done values) (typed : is_typed output.1.kind v ≡ true) where
  abbrev now : Named
  now = with_value output.0 v values

  found : (id : Name) → value_at id now ≡ cond (bytes_eq id output.0) (Some v) (value_at id values)
  found id = value_at-with_value id output.0 v values

  here : (id : Name) (w : Value) → bytes_eq id output.0 ≡ true → Some v ≡ Some w → IsDeclared (done ++ output ∷ []) id w
  here id w same is = record {
    output = output.1;
    one = subst (λ (n : Name). Contains (done ++ output ∷ []) (n, output.1)) (sym ((bytes_eq-Decides id output.0).0 same)) (Contains-push done output);
    typed = subst (λ (x : Value). is_typed output.1.kind x ≡ true) (some_one v w is) typed;
  }

  there : (id : Name) (w : Value) → value_at id values ≡ Some w → IsDeclared (done ++ output ∷ []) id w
  there id w is =
      let was = before.each id w is in
      record { output = was.output; one = Contains-append_left done (output ∷ []) (id, was.output) was.one; typed = was.typed }

  each_more : (id : Name) (w : Value) → value_at id now ≡ Some w → IsDeclared (done ++ output ∷ []) id w
  each_more id w is = by (bytes_eq id output.0) refl (sym (found id) ∙ is) where
    by : (b : Bool) → bytes_eq id output.0 ≡ b → cond b (Some v) (value_at id values) ≡ Some w → IsDeclared (done ++ output ∷ []) id w
    by true same is = here id w same is
    by false apart is = there id w is

  all_more : (other : Name × ToolOutput) → Contains (done ++ output ∷ []) other → is_some (value_at other.0 now) ≡ true
  all_more other one = ap is_some (found other.0) ∙ by (bytes_eq other.0 output.0) refl (Contains-push_cases done output other one) where
    by : (b : Bool) → bytes_eq other.0 output.0 ≡ b → Contains done other ⊎ (output ≡ other) → is_some (cond b (Some v) (value_at other.0 values)) ≡ true
    by true is any = refl
    by false is (inl was) = before.all other was
    by false is (inr same) = absurd (true≢false (sym (name_itself output.0) ∙ ap (λ (o : Name × ToolOutput). bytes_eq o.0 output.0) same ∙ is))

  one_declared : AreDeclared (done ++ output ∷ []) now
  one_declared = record { each = each_more; all = all_more }

pub those_declared : OutputsAreThoseDeclared
those_declared left = of_all left (λ output v. Unit {0}) AreDeclared none_declared (λ done values output v before kept. one_declared done values output v before (kept_typed left output.1 v kept))
    (λ apart output names. nothing_known (value_beside left output.1 names)) (λ output o. nothing_known (written left.listing o))
