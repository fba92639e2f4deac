-- The step that a place goes through, and what is kept of the steps that are left.
use Rattle.std.proofs.Common.{◌≡◌, ◌∙◌, ℕ, ◌<◌, List, [], ◌∷◌, get_or, length, true, false, Option, Some, None, bytes_eq, refl, sym, ap, arith}
use Rattle.std.specs.Prelude.{MatchOption, is_some}
use Rattle.std.specs.List.{list_any}
use Rattle.std.proofs.lemmas.Slice.Eq.{bytes_eq-Decides}
use Rattle.cwl_value.specs.declared.place.Segment.{Segment}
use Rattle.document_links.specs.declared.process.Step.{Step}
use Rattle.plain_data.specs.ByName.{value_at}
use Rattle.job_graph.specs.Words.{Name, JobPlace}
use Rattle.job_graph.specs.Links.{Env}
use Rattle.job_graph.specs.inner.Going.{HasAbove, IsAbove, goes_through}
use Rattle.job_graph.proofs.laws_of_walks.Reads.{none_in}

pub through_first : (ended : JobPlace) (g : Segment) (id : Name) → 0 < length ended → g ≡ get_or ended 0 g → goes_through ended id ≡ bytes_eq g.step id
through_first [] g id below is = absurd (omega (arith, below))
through_first (t ∷ rest) g id below is = ap (λ (s : Segment). bytes_eq s.step id) (sym is)

-- the number of the step of an id
abbrev pub IsNumbered : Name → List (Name × Step) → Option ℕ → Type 0
IsNumbered id steps found = MatchOption found (list_any (λ s. bytes_eq id s.0) steps ≡ false) (λ n. (n < length steps) × ((s : Name × Step) → s ≡ get_or steps n s → bytes_eq id s.0 ≡ true))

module _ (ended : JobPlace) (g : Segment) (below : 0 < length ended) (is : g ≡ get_or ended 0 g) (env : Env) where
  pub none_above : (steps : List (Name × Step)) → is_some (value_at g.step env) ≡ false → HasAbove ended env steps []
  none_above steps none = λ s among goes some.
      let same : g.step ≡ s.0 = (bytes_eq-Decides g.step s.0).0 (sym (through_first ended g s.0 below is) ∙ goes) in
      sym none ∙ ap (λ (id : Name). is_some (value_at id env)) same ∙ some

  pub above_by : (steps : List (Name × Step)) (id : Name) → id ≡ g.step → is_some (value_at g.step env) ≡ true → (found : Option ℕ)
      → MatchOption found (list_any (λ s. bytes_eq id s.0) steps ≡ false) (λ n. (n < length steps) × ((s : Name × Step) → s ≡ get_or steps n s → bytes_eq id s.0 ≡ true))
      → IsAbove ended env steps found
  above_by steps id is_id walked None none = λ s among goes some.
      sym (none_in (λ (s : Name × Step). bytes_eq id s.0) steps none s among)
      ∙ ap (λ (i : Name). bytes_eq i s.0) is_id ∙ sym (through_first ended g s.0 below is) ∙ goes
  above_by steps id is_id walked (Some n) found = (
    found.0,
    λ s at.
        let same : bytes_eq g.step s.0 ≡ true = ap (λ (i : Name). bytes_eq i s.0) (sym is_id) ∙ found.1 s at in (
          through_first ended g s.0 below is ∙ same,
          ap (λ (i : Name). is_some (value_at i env)) (sym ((bytes_eq-Decides g.step s.0).0 same)) ∙ walked,
        ),
  )

pub nothing_above : (ended : JobPlace) (env : Env) (steps : List (Name × Step)) (found : Option ℕ) → ((n : ℕ) → found ≡ Some n → ⊥) → IsAbove ended env steps found → HasAbove ended env steps []
nothing_above ended env steps None other above = above
nothing_above ended env steps (Some n) other above = absurd (other n refl)

-- where none was popped
pub none_popped : {X A : Type 0} (found : Option X) (P : X → Type 0) → ((x : X) → found ≡ Some x → ⊥) → MatchOption found A P → A
none_popped None P other match = match
none_popped (Some x) P other match = absurd (other x refl)
