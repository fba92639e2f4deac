-- A text without `$(` and `${` stands for itself.
use Rattle.std.proofs.Common.{◌≡◌, ℕ, ◌==◌, Bool, true, false, not, ◌&&◌, inl, inr, List, [], ◌∷◌, ◌++◌, append-nil, Option, Ok, refl, ap, subst, ◌∙◌}
use Rattle.std.specs.List.{list_any}
use Rattle.cwl_value.specs.declared.value.Value.{Value}
use Rattle.cwl_value.specs.declared.value.Value as value
use Rattle.param_refs.specs.Evaluation.{is_blank, template_value}
use Rattle.param_refs.specs.Grammar.{opens, has_opening, is_plain, is_escaped, Reads, IsReading}
use Rattle.param_refs.specs.Laws.{IsKept}
use Rattle.param_refs.specs.Parsed.{parsed}
use Rattle.param_refs.specs.declared.template.Part.TheVariants.{Plain}
use Rattle.param_refs.proofs.Cut.{neither_part, both}
use Rattle.param_refs.proofs.Parses.{tells, parsed-is}
use Rattle.param_refs.proofs.Settled.{reading_same}

all_plain : (t : List ℕ) → has_opening t ≡ false → is_plain t [] ≡ true
all_plain [] h = refl
all_plain (b ∷ t) h =
    let parts = neither_part (opens (b ∷ t)) (has_opening t) h in
    both (not (opens (b ∷ (t ++ [])))) (is_plain t []) (ap not (ap (λ (x : List ℕ). opens (b ∷ x)) (append-nil t) ∙ parts.0)) (all_plain t parts.1)

not_escaped : (t : List ℕ) → has_opening t ≡ false → is_escaped t ≡ false
not_escaped t h = ap (λ (b : Bool). b && list_any (λ c. c == 92) t) h

plain_reading : (b : ℕ) (t : List ℕ) → has_opening (b ∷ t) ≡ false → IsReading (b ∷ t) (Ok (Plain (b ∷ t) ∷ []))
plain_reading b t h =
    IsReading.unescaped (Ok (Plain (b ∷ t) ∷ [])) (not_escaped (b ∷ t) h)
    (subst (λ (x : List ℕ). Reads (b ∷ x) (Ok (Plain (b ∷ t) ∷ []))) (append-nil t) (Reads.plain b t [] (Ok []) (all_plain (b ∷ t) h) refl Reads.nothing))

text_stays : (text : List ℕ) (inputs : List (List ℕ × Value)) (runtime : Option Value) (own : Value) → template_value inputs runtime own (Plain text ∷ []) ≡ Ok (value.Text text)
text_stays text inputs runtime own =
    elim (tells (is_blank (Plain text))) [
      | inl h ↦ rw h (ap (λ (x : List ℕ). Ok (value.Text x)) (append-nil text))
      | inr h ↦ rw h (ap (λ (x : List ℕ). Ok (value.Text x)) (append-nil text))
    ]

nothing_reads : IsReading [] (Ok [])
nothing_reads = IsReading.unescaped (Ok []) refl Reads.nothing

pub plain_kept : (text : List ℕ) → has_opening text ≡ false → IsKept text
plain_kept [] h = record { parts = []; read = reading_same [] (parsed []) (Ok []) (parsed-is []) nothing_reads; stays = λ inputs runtime own. refl }
plain_kept (b ∷ t) h = record {
  parts = Plain (b ∷ t) ∷ [];
  read = reading_same (b ∷ t) (parsed (b ∷ t)) (Ok (Plain (b ∷ t) ∷ [])) (parsed-is (b ∷ t)) (plain_reading b t h);
  stays = text_stays (b ∷ t);
}
