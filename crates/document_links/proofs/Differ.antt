-- Ids that differ, of entries whose defaults are resolved one by one.
use Rattle.std.proofs.Common.{◌≡◌, ℕ, List, ◌++◌, sym, ap, ◌∙◌, bytes_eq}
use Rattle.std.specs.List.{IsDistinct}
use Rattle.std.specs.Map.{keys_of}
use Rattle.std.proofs.lemmas.List.{map-append}
use Rattle.cwl_process.proofs.Forms.{made_differ}
use Rattle.document_links.specs.Defaults.{each_on}
use Rattle.url.specs.Parts.{Parts}

pub each_differ : {T : Type 0} (on : Parts → T → T) (base : Parts) (all yielded rest made : List (List ℕ × T)) → all ≡ yielded ++ rest → each_on on base yielded ≡ made
    → IsDistinct bytes_eq (keys_of all) → IsDistinct bytes_eq (keys_of made)
each_differ on base all yielded rest made whole so_far distinct =
    made_differ (on base) all made (each_on on base rest)
    (sym (ap (each_on on base) whole ∙ map-append (λ e. (e.0, on base e.1)) yielded rest ∙ ap (λ front. front ++ each_on on base rest) so_far))
    distinct
