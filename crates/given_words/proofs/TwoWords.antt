-- The words behind which `--prefer-kept` stands.
use Rattle.std.proofs.Common.{◌≡◌, ◌∙◌, ℕ, List, [], ◌∷◌, ◌++◌, ◌&&◌, Bool, true, ap, bytes_eq, codes, if◌then◌else◌, refl, sym}
use Rattle.given_words.specs.Preference.{cheapest, with_word}
use Rattle.given_words.specs.Slots.{has_options}

both : (a b : Bool) → a ≡ true → b ≡ true → (a && b) ≡ true
both a b p q = rw (p, q) refl

pub two_more : (before : List (List ℕ)) (word first second : List ℕ) → first ≡ codes "--base=0" → second ≡ codes "--rate=1000000000000" →
    bytes_eq word (codes "--prefer-kept") ≡ true → has_options before ≡ true → before ++ first ∷ second ∷ [] ≡ with_word before word
two_more before word first second e f p q =
    ap (λ x. before ++ x ∷ second ∷ []) e
    ∙ ap (λ x. before ++ codes "--base=0" ∷ x ∷ []) f
    ∙ ap (λ t. before ++ (if t then cheapest else word ∷ [])) (sym (both (bytes_eq word (codes "--prefer-kept")) (has_options before) p q))
