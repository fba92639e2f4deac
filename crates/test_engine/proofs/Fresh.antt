-- A ticket that differs from each child's in flight is fresh.
use Rattle.std.proofs.Common.{◌≡◌, ◌∙◌, ℕ, ◌==◌, List, [], ◌∷◌, ◌++◌, ap, arith}
use Rattle.std.proofs.lemmas.Bool.Decides.{nat_tests}
use Rattle.std.proofs.lemmas.List.Elements.{filter-append}
use Rattle.std.specs.Prelude.{not}
use Rattle.proc_host.specs.Tickets.{without}

one_kept : (ticket other : ℕ) → (other ≡ ticket → ⊥) → without ticket (other ∷ []) ≡ other ∷ []
one_kept ticket other differs = grind (arith, nat_tests)

pub other_kept : (ticket other : ℕ) (before : List ℕ) → without ticket before ≡ before → (other ≡ ticket → ⊥) → without ticket (before ++ other ∷ []) ≡ before ++ other ∷ []
other_kept ticket other before kept differs =
    filter-append (λ n. not (n == ticket)) before (other ∷ [])
    ∙ ap (λ (ns : List ℕ). ns ++ without ticket (other ∷ [])) kept ∙ ap (λ (ns : List ℕ). before ++ ns) (one_kept ticket other differs)
