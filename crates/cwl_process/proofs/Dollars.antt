-- Nothing is wrong with a text without `$`.
use Rattle.std.proofs.Common.{◌≡◌, ℕ, ◌==◌, List, [], ◌∷◌, false, ◌&&◌, ◌||◌, None, refl, ap, ◌∙◌}
use Rattle.std.specs.List.{list_any}
use Rattle.std.proofs.lemmas.Bool.{or_parts}
use Rattle.param_refs.specs.Grammar.{has_opening}
use Rattle.param_refs.specs.Parsed.{parsed}
use Rattle.param_refs.proofs.Kept.{plain_kept}
use Rattle.cwl_process.specs.Templates.{refused_as}

no_opening : (text : List ℕ) → list_any (λ b. b == 36) text ≡ false → has_opening text ≡ false
no_opening [] none = refl
no_opening (b ∷ []) none = refl
no_opening (b ∷ c ∷ rest) none =
    let parts = or_parts (b == 36) (list_any (λ b. b == 36) (c ∷ rest)) none in
    ap (λ is. (is && (c == 40 || c == 123)) || has_opening (c ∷ rest)) parts.0 ∙ no_opening (c ∷ rest) parts.1

pub no_fault : (text : List ℕ) → list_any (λ b. b == 36) text ≡ false → refused_as (parsed text) ≡ None
no_fault text none = ap refused_as (plain_kept text (no_opening text none)).read
