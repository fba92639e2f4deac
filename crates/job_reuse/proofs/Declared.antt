-- Whether values are those that outputs declare, by tests of each.
use Rattle.std.proofs.Common.{◌≡◌, ◌↔◌, Bool, true, false, true≢false, ◌&&◌, ◌||◌, cond, IsTrue, List, [], ◌∷◌, get_or, Some, arith, refl, sym, ap, subst, ◌∙◌}
use Rattle.std.specs.Prelude.{bytes_eq, is_some}
use Rattle.std.specs.List.{All, Contains, list_all, list_any}
use Rattle.std.proofs.lemmas.List.Elements.{All-nil, All-cons, All-head, All-tail, All-contains, Contains-append_right, Contains-get_or}
use Rattle.std.proofs.lemmas.Slice.Eq.{bytes_eq-Decides}
use Rattle.plain_data.specs.ByName.{IsByName, value_at}
use Rattle.plain_data.proofs.ByName.{by_name_first, by_name_rest}
use Rattle.plain_data.proofs.Lookup.{some_one, name_itself, value_at_first, value_at_below}
use Rattle.staging.proofs.Greedy.{both, both_first, both_second}
use Rattle.staging.proofs.Together.{any_of}
use Rattle.cwl_process.specs.declared.tool.ToolOutput.{ToolOutput}
use Rattle.cwl_value.specs.declared.value.Value.{Value}
use Rattle.collected_outputs.specs.Checked.{is_typed}
use Rattle.collected_outputs.specs.Laws.{IsDeclared, AreDeclared}
use Rattle.collected_outputs.specs.Matched.{Name}
use Rattle.collected_outputs.specs.Object.{Named}
use Rattle.job_reuse.specs.inner.Declared.{is_output, is_declared}

pub test_all : {X : Type 0} (p : X → Bool) (xs : List X) → list_all p xs ≡ true → All (λ x. p x ≡ true) xs
test_all p [] h = All-nil (λ x. p x ≡ true)
test_all p (x ∷ xs) h = All-cons (λ x. p x ≡ true) x xs (both_first (p x) (list_all p xs) h) (test_all p xs (both_second (p x) (list_all p xs) h))

pub all_test : {X : Type 0} (p : X → Bool) (xs : List X) → All (λ x. p x ≡ true) xs → list_all p xs ≡ true
all_test p [] h = refl
all_test p (x ∷ xs) h = both (p x) (list_all p xs) (All-head (λ x. p x ≡ true) x xs h) (all_test p xs (All-tail (λ x. p x ≡ true) x xs h))

some_of : {X : Type 0} (p : X → Bool) (xs : List X) → list_any p xs ≡ true → (x : X) × Contains xs x × (p x ≡ true)
some_of p [] h = absurd (true≢false (sym h))
some_of {X} p (x ∷ xs) h = by (λ is. some_of p xs (sym (ap (λ b. b || list_any p xs) is) ∙ h)) (p x) refl where
  later : (y : X) × Contains xs y × (p y ≡ true) → (y : X) × Contains (x ∷ xs) y × (p y ≡ true)
  later found = (found.0, Contains-append_right (x ∷ []) xs found.0 found.1, found.2)

  by : (p x ≡ false → (y : X) × Contains xs y × (p y ≡ true)) → (b : Bool) → p x ≡ b → (y : X) × Contains (x ∷ xs) y × (p y ≡ true)
  by rest true is = (x, (0, omega arith, refl), is)
  by rest false is = later (rest is)

-- ---- a value

declared_one : (outputs : List (Name × ToolOutput)) (e : Name × Value) → is_declared outputs e ≡ true → IsDeclared outputs e.0 e.1
declared_one outputs e h =
    let found = some_of (is_output e) outputs h in
    let o : Name × ToolOutput = found.0 in
    let same : o.0 ≡ e.0 = (bytes_eq-Decides o.0 e.0).0 (both_first (bytes_eq o.0 e.0) (is_typed o.1.kind e.1) found.2) in
    record {
      output = o.1;
      one = subst (λ (n : Name). Contains outputs (n, o.1)) same found.1;
      typed = both_second (bytes_eq o.0 e.0) (is_typed o.1.kind e.1) found.2;
    }

one_declared : (outputs : List (Name × ToolOutput)) (e : Name × Value) → IsDeclared outputs e.0 e.1 → is_declared outputs e ≡ true
one_declared outputs e h =
    any_of (is_output e) outputs (e.0, h.output) h.one (both (bytes_eq e.0 e.0) (is_typed h.output.kind e.1) (name_itself e.0) h.typed)

-- ---- all of them

each_declared : (outputs : List (Name × ToolOutput)) (values : Named) → list_all (is_declared outputs) values ≡ true → (id : Name) (v : Value) → value_at id values ≡ Some v → IsDeclared outputs id v
each_declared outputs [] h id v is = absurd (true≢false (sym (ap is_some is)))
each_declared outputs (e ∷ es) h id v is = by (each_declared outputs es (both_second (is_declared outputs e) (list_all (is_declared outputs) es) h) id v) (bytes_eq id e.0) refl is where
  by : (value_at id es ≡ Some v → IsDeclared outputs id v) → (b : Bool) → bytes_eq id e.0 ≡ b → cond b (Some e.1) (value_at id es) ≡ Some v → IsDeclared outputs id v
  by rest true same at =
      let here : IsDeclared outputs e.0 e.1 = declared_one outputs e (both_first (is_declared outputs e) (list_all (is_declared outputs) es) h) in
      subst (IsDeclared outputs id) (some_one e.1 v at) (subst (λ (n : Name). IsDeclared outputs n e.1) (sym ((bytes_eq-Decides id e.0).0 same)) here)
  by rest false other at = rest at

-- a name that comes later isn't the first
later_at : (e : Name × Value) (es : Named) (id : Name) (v : Value) → IsByName (e ∷ es) → value_at id es ≡ Some v → value_at id (e ∷ es) ≡ Some v
later_at e es id v order is = by (bytes_eq id e.0) refl where
  by : (b : Bool) → bytes_eq id e.0 ≡ b → cond b (Some e.1) (value_at id es) ≡ Some v
  by true same =
      let here : id ≡ e.0 = (bytes_eq-Decides id e.0).0 same in
      absurd (true≢false (sym (ap is_some (sym (ap (λ (n : Name). value_at n es) here) ∙ is)) ∙ ap is_some (value_at_below e.0 es (by_name_first e es order))))
  by false other = is

declared_each : (outputs : List (Name × ToolOutput)) (values : Named) → IsByName values → ((id : Name) (v : Value) → value_at id values ≡ Some v → IsDeclared outputs id v) → list_all (is_declared outputs) values ≡ true
declared_each outputs [] order h = refl
declared_each outputs (e ∷ es) order h =
    both (is_declared outputs e) (list_all (is_declared outputs) es)
    (one_declared outputs e (h e.0 e.1 (value_at_first e es)))
    (declared_each outputs es (by_name_rest e es order) (λ id v is. h id v (later_at e es id v order is)))

abbrev has_value : Named → Name × ToolOutput → Bool
has_value values output = is_some (value_at output.0 values)

pub declared_by : (outputs : List (Name × ToolOutput)) (values : Named) (each all : Bool) → each ≡ list_all (is_declared outputs) values → all ≡ list_all (λ (output : Name × ToolOutput). is_some (value_at output.0 values)) outputs → IsByName values
    → IsTrue (each && all) ↔ AreDeclared outputs values
declared_by outputs values each all tested valued order = (
  λ h. record {
    each = each_declared outputs values (sym tested ∙ both_first each all h);
    all = λ output one. All-contains (λ (o : Name × ToolOutput). has_value values o ≡ true) outputs output (test_all (has_value values) outputs (sym valued ∙ both_second each all h)) one;
  },
  λ h. both each all (tested ∙ declared_each outputs values order h.each)
      (valued ∙ all_test (has_value values) outputs (λ k d within. h.all (get_or outputs k d) (Contains-get_or outputs k d within))),
)
