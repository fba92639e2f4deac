-- Parts joined to a text, one after another.
use Rattle.std.proofs.Common.{◌≡◌, ℕ, suc, ◌+◌, ◌<◌, add-one, List, ◌∷◌, ◌++◌, length, drop, drop-cons, get_or, Option, Ok, Err, sym, ap, ◌∙◌}
use Rattle.cwl_value.specs.declared.value.Value.{Value}
use Rattle.param_refs.specs.Descent.{Gives, and_then, and_map}
use Rattle.param_refs.specs.Evaluation.{part_text, joined}
use Rattle.param_refs.specs.declared.fault.RefFault.{RefFault}
use Rattle.param_refs.specs.declared.template.Part.{Part}
use Rattle.param_refs.proofs.Descents.{join_more}

module _ (inputs : List (List ℕ × Value)) (runtime : Option Value) (own : Value) where
  cut_here : (ps : List Part) (i : ℕ) (p : Part) → i < length ps → p ≡ get_or ps i p → drop i ps ≡ p ∷ drop (i + 1) ps
  cut_here ps i p within is = drop-cons ps i p within ∙ ap (λ q. q ∷ drop (suc i) ps) (sym is) ∙ ap (λ n. p ∷ drop n ps) (sym (add-one i))

  pub joined_more : (ps : List Part) (i : ℕ) (p : Part) (front text after : List ℕ) (all : Gives (List ℕ)) → i < length ps → p ≡ get_or ps i p → part_text inputs runtime own p ≡ Ok text → after ≡ front ++ text
      → all ≡ and_map (λ rest. front ++ rest) (joined inputs runtime own (drop i ps)) → all ≡ and_map (λ rest. after ++ rest) (joined inputs runtime own (drop (i + 1) ps))
  joined_more ps i p front text after all within is now more before =
      before ∙ ap (λ xs. and_map (λ rest. front ++ rest) (joined inputs runtime own xs)) (cut_here ps i p within is)
      ∙ ap (λ r. and_map (λ rest. front ++ rest) (and_then r (λ t. and_map (λ rest. t ++ rest) (joined inputs runtime own (drop (i + 1) ps))))) now
      ∙ join_more front text (joined inputs runtime own (drop (i + 1) ps))
      ∙ ap (λ t. and_map (λ rest. t ++ rest) (joined inputs runtime own (drop (i + 1) ps))) (sym more)

  pub joined_stop : (ps : List Part) (i : ℕ) (p : Part) (front : List ℕ) (e : RefFault) (all : Gives (List ℕ)) → i < length ps → p ≡ get_or ps i p → part_text inputs runtime own p ≡ Err e
      → all ≡ and_map (λ rest. front ++ rest) (joined inputs runtime own (drop i ps)) → all ≡ Err e
  joined_stop ps i p front e all within is now before =
      before ∙ ap (λ xs. and_map (λ rest. front ++ rest) (joined inputs runtime own xs)) (cut_here ps i p within is)
      ∙ ap (λ r. and_map (λ rest. front ++ rest) (and_then r (λ t. and_map (λ rest. t ++ rest) (joined inputs runtime own (drop (i + 1) ps))))) now
