-- What was taken under the names of some entries, as far as it can be told what there is.
use Rattle.std.specs.Prelude.{◌≡◌, ℕ, List, [], ◌∷◌, ◌++◌, Option, Some, None, IfSome}
use Rattle.staging.specs.declared.found.Found.{Found}

-- nothing, or an entry of this name, and what there is under it
pub record IsTaken (there : List ℕ → Option (Option Found)) (name : List ℕ) (found : Option Found) : Type 0 where
  pub named : IfSome found (λ entry. entry.name ≡ name)
  pub told : IfSome (there name) (λ known. found ≡ known)

-- what was taken under each name, in the order of the names
pub data AreTaken (there : List ℕ → Option (Option Found)) : List Found → List Found → Type 0 where
  of_none : AreTaken there [] []
  was_there : (files found : List Found) (file entry : Found) → AreTaken there files found → IsTaken there file.name (Some entry) →
      AreTaken there (files ++ file ∷ []) (found ++ entry ∷ [])
  was_absent : (files found : List Found) (file : Found) → AreTaken there files found → IsTaken there file.name None →
      AreTaken there (files ++ file ∷ []) found
