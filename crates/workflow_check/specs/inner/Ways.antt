-- For private clauses: links and ways between steps that are named by their places.
use Rattle.std.specs.Prelude.{ℕ, Option, Some, None, slice_get}
use Rattle.document_links.specs.declared.process.Step.{Step}
use Rattle.workflow_check.specs.Scope.{Named}
use Rattle.workflow_check.specs.Sound.{IsLink, IsWay}

-- both are there, and so related
abbrev pub Between : {X : Type 0} → (X → X → Type 0) → Option X → Option X → Type 0
Between R None b = ⊥
Between R (Some a) None = ⊥
Between R (Some a) (Some b) = R a b

abbrev pub IsLinkAt : Named Step → ℕ → ℕ → Type 0
IsLinkAt steps i j = Between (IsLink steps) (slice_get steps i) (slice_get steps j)

abbrev pub IsWayAt : Named Step → ℕ → ℕ → Type 0
IsWayAt steps i j = Between (IsWay steps) (slice_get steps i) (slice_get steps j)
