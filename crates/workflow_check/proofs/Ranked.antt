-- Ranks by which no step is late are an order of the steps.
use Rattle.std.proofs.Common.{◌≡◌, ◌∙◌, ◌<◌, ◌≤◌, ℕ, true, false, List, sym, subst, arith}
use Rattle.std.specs.Prelude.{Option, Some, None}
use Rattle.std.proofs.lemmas.Bool.{true≢false}
use Rattle.std.proofs.lemmas.Slice.Eq.{bytes_eq-Decides}
use borrow.Author.Tests.{le-leb}
use Rattle.cwl_process.specs.declared.links.Source.{Source}
use Rattle.document_links.specs.declared.process.Step.{Step, out-Step}
use Rattle.workflow_check.specs.Order.{is_cyclic}
use Rattle.workflow_check.specs.Scope.{Named}
use Rattle.workflow_check.specs.Sound.{HasOrder, IsIn, is_fed_by, is_named, one_named}
use Rattle.workflow_check.specs.inner.Ranks.{is_late, some_late, sources_late, step_late}
use Rattle.workflow_check.proofs.Circle.{not_cyclic, passing}
use Rattle.workflow_check.proofs.Ordered.{more}

-- a step that a source names, and whose rank is not below
module _ (rank : List ℕ → ℕ) (own : ℕ) (id : List ℕ) (late : own ≤ rank id) where
  by_step : (step : Option (List ℕ)) → is_named id step ≡ true → is_late rank own step ≡ true
  by_step None is = is
  by_step (Some other) is = le-leb own (rank other) (subst (λ x. own ≤ rank x) ((bytes_eq-Decides id other).0 is) late)

  by_sources : (sources : Option (List Source)) → one_named id sources ≡ true → sources_late rank own sources ≡ true
  by_sources None is = is
  by_sources (Some sources) is = more (λ s. is_named id s.step) (λ s. is_late rank own s.step) (λ s. by_step s.step) sources is

below_if : (a b : ℕ) → (b ≤ a → ⊥) → a < b
below_if a b never = omega arith

module _ (rank : List ℕ → ℕ) (steps : Named Step) (none : some_late rank steps ≡ false) where
  never_late : (e : List ℕ × Step) (id : List ℕ) → IsIn e steps → is_fed_by id e ≡ true → rank e.0 ≤ rank id → ⊥
  never_late e id at fed late =
      let here : step_late rank e ≡ true = more (λ i. one_named id i.1.links.sources) (λ i. sources_late rank (rank e.0) i.1.links.sources) (λ i. by_sources rank (rank e.0) id late i.1.links.sources) (out-Step e.1).inputs fed in
      true≢false (sym (passing (step_late rank) e steps at here) ∙ none)

  ordered : HasOrder steps
  ordered = (rank, λ e id at there fed. below_if (rank id) (rank e.0) (never_late e id at fed))

  pub not_cyclic_by : is_cyclic steps ≡ false
  not_cyclic_by = not_cyclic steps ordered
