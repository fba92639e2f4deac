-- Answers in place of a launch, from one step to the next.
use Rattle.std.proofs.Common.{◌≡◌, ℕ, ◌<◌, Bool, true, false, List, [], ◌∷◌, map, length, get_or, subst, sym, ap, ◌∙◌, refl, Contains, suc, ◌&&◌, arith}
use Rattle.std.specs.List.{list_all}
use Rattle.std.proofs.lemmas.List.{get_or-map, length-map}
use Rattle.std.proofs.lemmas.List.Elements.{Contains-get_or}
use Rattle.cwl_value.specs.declared.value.Value.{Value}
use Rattle.cwl_process.specs.declared.tool.Tool.{Tool}
use Rattle.command_line.specs.declared.fault.BuildFault.{BuildFault}
use Rattle.command_line.specs.declared.fault.BuildError.{BuildError}
use Rattle.command_line.specs.declared.fault.BuildError.TheVariants.{Refused, OutOfMemory}
use Rattle.command_line.specs.declared.runtime.Runtime.{Runtime}
use Rattle.command_line.specs.Environment.{environment_of}
use Rattle.command_line.specs.Launch.{IsError, IsRefused}
use Rattle.command_line.specs.Order.{Bound, AreInOrder}
use Rattle.command_line.specs.Streams.{stderr_of, stdin_of, stdout_of}
use Rattle.command_line.specs.Texts.{is_plain, runtime_value}
use Rattle.command_line.specs.Words.{words_of}
use Rattle.command_line.specs.inner.Steps.{BaseError, BindingError, FaultOf}

pub Contains-map : {X Y : Type 0} (f : X → Y) (xs : List X) (i : ℕ) (x : X) → i < length xs → x ≡ get_or xs i x → Contains (map f xs) (f x)
Contains-map {Y = Y} f xs i x within is =
    subst (λ (y : Y). Contains (map f xs) y) (get_or-map f xs i x (f x) within ∙ ap f (sym is))
    (Contains-get_or (map f xs) i (f x) (subst (λ n. i < n) (sym (length-map xs f)) within))

failing_first : {X : Type 0} (p : X → Bool) (x : X) (xs : List X) (t : Bool) → p x ≡ t → (t && list_all p xs) ≡ false → (list_all p xs ≡ false → (y : X) × Contains xs y × (p y ≡ false)) → (y : X) × Contains (x ∷ xs) y × (p y ≡ false)
failing_first p x xs true is fails later = (let found = later fails in (found.0, (suc found.1.0, omega (arith, found.1.1), found.1.2), found.2))
failing_first p x xs false is fails later = (x, (0, omega arith, refl), is)

-- a list that fails a test has an element that does
pub failing_element : {X : Type 0} (p : X → Bool) (xs : List X) → list_all p xs ≡ false → (x : X) × Contains xs x × (p x ≡ false)
failing_element p [] fails = cc
failing_element p (x ∷ xs) fails = failing_first p x xs (p x) refl fails (failing_element p xs)

-- the cause that one of the bindings has
pub binding_error_at : (inputs : List (List ℕ × Value)) (around : Value) (bound : List Bound) (b : Bound) (e : BuildError) → Contains bound b → FaultOf (words_of inputs around b) e → BindingError inputs around bound e
binding_error_at inputs around bound b (Refused fault) member is = (b, member, is)
binding_error_at inputs around bound b OutOfMemory member is = tt

module _ (tool : Tool) (inputs : List (List ℕ × Value)) (runtime : Runtime) (around : Value) (same : around ≡ runtime_value runtime) where
  pub error_from_binding : (bound : List Bound) (e : BuildError) → AreInOrder tool inputs bound → BindingError inputs around bound e → IsError tool inputs runtime e
  error_from_binding bound (Refused fault) order found =
      IsRefused.in_binding found.0 fault ((order.members found.0).0 found.1) (ap (λ v. words_of inputs v found.0) (sym same) ∙ found.2)
  error_from_binding bound OutOfMemory order found = tt

  pub error_from_base : (e : BuildError) → BaseError tool.base_command e → IsError tool inputs runtime e
  error_from_base (Refused fault) refused =
      let found = failing_element is_plain tool.base_command refused.1 in
      subst (λ (f : BuildFault). IsRefused tool inputs runtime f) (sym refused.0) (IsRefused.in_base_command found.0 found.1 found.2)
  error_from_base OutOfMemory refused = tt

  pub error_from_env : (e : BuildError) → FaultOf (environment_of inputs around runtime tool) e → IsError tool inputs runtime e
  error_from_env (Refused fault) is = IsRefused.in_env fault (ap (λ v. environment_of inputs v runtime tool) (sym same) ∙ is)
  error_from_env OutOfMemory is = tt

  pub error_from_stdin : (e : BuildError) → FaultOf (stdin_of inputs around tool) e → IsError tool inputs runtime e
  error_from_stdin (Refused fault) is = IsRefused.in_stdin fault (ap (λ v. stdin_of inputs v tool) (sym same) ∙ is)
  error_from_stdin OutOfMemory is = tt

  pub error_from_stdout : (e : BuildError) → FaultOf (stdout_of inputs around tool) e → IsError tool inputs runtime e
  error_from_stdout (Refused fault) is = IsRefused.in_stdout fault (ap (λ v. stdout_of inputs v tool) (sym same) ∙ is)
  error_from_stdout OutOfMemory is = tt

  pub error_from_stderr : (e : BuildError) → FaultOf (stderr_of inputs around tool) e → IsError tool inputs runtime e
  error_from_stderr (Refused fault) is = IsRefused.in_stderr fault (ap (λ v. stderr_of inputs v tool) (sym same) ∙ is)
  error_from_stderr OutOfMemory is = tt
