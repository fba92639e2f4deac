-- Texts as they are shown, made piece by piece.
use Rattle.std.proofs.Common.{◌≡◌, ℕ, List, [], ◌∷◌, ◌++◌, codes, append_assoc}

pub code_pushed : (old s₀ s₁ s₂ s₃ s₄ : List ℕ) (a b c d : ℕ) → s₀ ≡ old ++ codes "\\u" → s₁ ≡ s₀ ++ a ∷ [] → s₂ ≡ s₁ ++ b ∷ [] → s₃ ≡ s₂ ++ c ∷ []
    → s₄ ≡ s₃ ++ d ∷ [] → s₄ ≡ old ++ (codes "\\u" ++ a ∷ b ∷ c ∷ d ∷ [])
code_pushed old s₀ s₁ s₂ s₃ s₄ a b c d o p q r t = rw (t, r, q, p, o) (simp append_assoc)
