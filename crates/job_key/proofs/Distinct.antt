-- Variables whose names differ: no name is there twice.
use Rattle.std.proofs.Common.{◌≡◌, ℕ, ◌+◌, ◌<◌, ◌≤◌, Bool, true, false, cond, List, [], ◌∷◌, bytes_eq, refl, sym, ap, subst, ◌∙◌, arith}
use Rattle.std.specs.List.{AllByRecursion, IsDistinct}
use Rattle.std.specs.Map.{keys_of}
use Rattle.std.proofs.lemmas.Map.Keys.{IsDistinct-head, IsDistinct-tail}
use Rattle.std.proofs.lemmas.Slice.Eq.{bytes_eq-Decides}
use Rattle.plain_data.specs.ByName.{times, names}
use Rattle.plain_data.proofs.ByName.{names_mapped}
use Rattle.plain_data.proofs.Once.{times-cons}
use Rattle.cwl_process.specs.declared.tool.Variable.{Variable}
use Rattle.job_key.specs.Key.{texts_of}

module _ {X : Type 0} where
  not_there : (name : List ℕ) (es : List (List ℕ × X)) → AllByRecursion (λ other. bytes_eq name other ≡ false) (names es) → times name es ≡ 0
  not_there name [] all = refl
  not_there name (e ∷ es) all =
      let here : times name (e ∷ es) ≡ 0 + times name es = times-cons name e es ∙ ap (λ b. cond b 1 0 + times name es) all.0 in
      omega (arith, here, not_there name es all.1)

  once_by : (name : List ℕ) (e : List ℕ × X) (es : List (List ℕ × X)) (test : Bool) → bytes_eq name e.0 ≡ test
      → AllByRecursion (λ other. bytes_eq e.0 other ≡ false) (names es) → times name es ≤ 1 → times name (e ∷ es) ≤ 1
  once_by name e es true is apart later =
      let same : name ≡ e.0 = (bytes_eq-Decides name e.0).0 is in
      let none : times name es ≡ 0 = ap (λ n. times n es) same ∙ not_there e.0 es apart in
      let here : times name (e ∷ es) ≡ 1 + times name es = times-cons name e es ∙ ap (λ b. cond b 1 0 + times name es) is in
      omega (arith, none, here)
  once_by name e es false is apart later =
      let here : times name (e ∷ es) ≡ 0 + times name es = times-cons name e es ∙ ap (λ b. cond b 1 0 + times name es) is in
      omega (arith, later, here)

  once : (name : List ℕ) (es : List (List ℕ × X)) → IsDistinct bytes_eq (names es) → times name es ≤ 1
  once name [] distinct = omega arith
  once name (e ∷ es) distinct =
      once_by name e es (bytes_eq name e.0) refl (IsDistinct-head bytes_eq e.0 (names es) distinct) (once name es (IsDistinct-tail bytes_eq e.0 (names es) distinct))

pub never_twice : (variables : List (List ℕ × Variable)) (entries : List (List ℕ × List ℕ)) (name : List ℕ)
    → entries ≡ texts_of variables → IsDistinct bytes_eq (keys_of variables) → 1 < times name entries → ⊥
never_twice variables entries name are distinct twice =
    let apart : IsDistinct bytes_eq (names (texts_of variables)) = subst (IsDistinct bytes_eq) (sym (names_mapped (λ (v : Variable). v.written) variables)) distinct in
    let most : times name entries ≤ 1 = subst (λ es. times name es ≤ 1) (sym are) (once name (texts_of variables) apart) in
    omega (arith, most, twice)
