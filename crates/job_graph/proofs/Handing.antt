-- What is handed to the process of a step, by the code's own words.
use Rattle.std.proofs.Common.{◌≡◌, ◌≢◌, List, ℕ, [], ◌∷◌, length, Ok, refl, sym, ap, subst, arith}
use Rattle.document_links.specs.declared.process.Step.{Step, out-Step}
use Rattle.job_graph.specs.Equations.{StepOf, over_lengths, scattered}
use Rattle.job_graph.specs.Scatter.{lengths_under}
use Rattle.job_graph.specs.Words.{Name, Fields, JobPlace}
use Rattle.job_graph.specs.inner.Nested.{HandsBy, HasAtOne}

pub no_elements : (xs : List ℕ) → length xs ≡ 0 → xs ≡ []
no_elements [] none = refl
no_elements (x ∷ xs) none = absurd (omega (arith, none))

module _ (step : Step) (values : Fields) (tuple : List ℕ) where
  among_by : (names : List Name) → names ≢ [] → (fields : Fields) → HasAtOne step values tuple fields → HandsBy step values tuple fields names
  among_by [] some fields at = absurd (some refl)
  among_by (name ∷ names) some fields at = at

  -- of a step that is not scattered, and of one that is
  pub hands_alone : (out-Step step).scatter ≡ [] → tuple ≡ [] → HandsBy step values tuple values (out-Step step).scatter
  hands_alone none single = subst (HandsBy step values tuple values) (sym none) (single, refl)

  pub hands_among : (out-Step step).scatter ≢ [] → (fields : Fields) → HasAtOne step values tuple fields → HandsBy step values tuple fields (out-Step step).scatter
  hands_among some fields at = among_by (out-Step step).scatter some fields at

-- of one that is scattered, over its lengths
pub scattered_by : (s : StepOf) (id : Name) (place : JobPlace) (values : Fields) (names : List Name) → names ≢ [] → (lengths : List ℕ) → lengths_under names values ≡ Ok lengths
    → over_lengths s id place values (Ok lengths) ≡ scattered s id place values names
scattered_by s id place values [] some lengths is = absurd (some refl)
scattered_by s id place values (name ∷ names) some lengths is = ap (over_lengths s id place values) (sym is)
