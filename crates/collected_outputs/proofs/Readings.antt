-- Patterns that are read one after another.
use Rattle.std.proofs.Common.{◌≡◌, ℕ, ◌+◌, ◌<◌, List, [], ◌∷◌, ◌++◌, append_assoc, append-nil, length, get_or, take, drop, Ok, Err, refl, sym, ap, subst, ◌∙◌}
use Rattle.std.specs.Str.{chars}
use Rattle.std.proofs.lemmas.List.{take_more}
use Rattle.cwl_value.specs.declared.value.Value.{Value}
use Rattle.param_refs.specs.declared.template.Part.{Part}
use Rattle.staging.specs.Reading.{IsReading}
use Rattle.staging.specs.declared.item.PatternItem.{PatternItem}
use Rattle.collected_outputs.specs.Gives.{Gives, and_map, and_then, Refuses}
use Rattle.collected_outputs.specs.Matched.{Name}
use Rattle.collected_outputs.specs.Patterns.{pattern_texts, texts_at, AreRead}
use Rattle.collected_outputs.specs.inner.Readings.{IsRead, NotRead, NoneRead}
use Rattle.collected_outputs.specs.declared.fault.CollectFault.{CollectFault}
use Rattle.collected_outputs.specs.declared.fault.Stop.{Stop}
use Rattle.collected_outputs.specs.declared.fault.Stop.TheVariants.{Refused, OutOfMemory}
use Rattle.collected_outputs.proofs.Giving.{whole}

alone : (s : Gives (List Name)) → s ≡ and_map (λ ys. [] ++ ys) s
alone (Ok ys) = refl
alone (Err e) = refl

joins : (these : List Name) (r s : Gives (List Name)) → and_map (λ rest. these ++ rest) (and_then r (λ a. and_map (λ b. a ++ b) s)) ≡ and_then (and_map (λ rest. these ++ rest) r) (λ a. and_map (λ b. a ++ b) s)
joins these (Ok a) (Ok b) = ap Ok (sym (append_assoc these a b))
joins these (Ok a) (Err e) = refl
joins these (Err e) s = refl

onward : (t r s u : Gives (List Name)) → u ≡ and_then r (λ a. and_map (λ b. a ++ b) s)
    → and_then t (λ these. and_map (λ rest. these ++ rest) u) ≡ and_then (and_then t (λ these. and_map (λ rest. these ++ rest) r)) (λ a. and_map (λ b. a ++ b) s)
onward (Ok these) r s u is = ap (and_map (λ rest. these ++ rest)) is ∙ joins these r s
onward (Err e) r s u is = refl

module _ (inputs : List (List ℕ × Value)) (runtime : Value) where
  texts : List (List Part) → Gives (List Name)
  texts = pattern_texts inputs runtime

  texts-append : (ts us : List (List Part)) → pattern_texts inputs runtime (ts ++ us) ≡ and_then (pattern_texts inputs runtime ts) (λ a. and_map (λ b. a ++ b) (pattern_texts inputs runtime us))
  texts-append [] us = alone (pattern_texts inputs runtime us)
  texts-append (t ∷ ts) us =
      onward (texts_at inputs runtime t) (pattern_texts inputs runtime ts) (pattern_texts inputs runtime us) (pattern_texts inputs runtime (ts ++ us)) (texts-append ts us)

  texts_one : (t : List Part) (these : List Name) → texts_at inputs runtime t ≡ Ok these → pattern_texts inputs runtime (t ∷ []) ≡ Ok these
  texts_one t these is = rw is (ap Ok (append-nil these))

  pub texts_more : (ts : List (List Part)) (k : ℕ) (t : List Part) (found these more : List Name) → k < length ts → t ≡ get_or ts k t → pattern_texts inputs runtime (take k ts) ≡ Ok found → texts_at inputs runtime t ≡ Ok these
      → more ≡ found ++ these → pattern_texts inputs runtime (take (k + 1) ts) ≡ Ok more
  texts_more ts k t found these more within is before now pushed =
      ap (pattern_texts inputs runtime) (take_more ts k t within ∙ ap (λ z. take k ts ++ z ∷ []) (sym is))
      ∙ texts-append (take k ts) (t ∷ [])
      ∙ rw (before, texts_one t these now) (ap Ok (sym pushed))

  fault_at : (t : List Part) (rest : List (List Part)) (e : CollectFault) → texts_at inputs runtime t ≡ Err e → pattern_texts inputs runtime (t ∷ rest) ≡ Err e
  fault_at t rest e is = rw is refl

  pub texts_stop : (ts : List (List Part)) (k : ℕ) (t : List Part) (found : List Name) (e : Stop) → k < length ts → t ≡ get_or ts k t → pattern_texts inputs runtime (take k ts) ≡ Ok found → Refuses (texts_at inputs runtime t) e
      → Refuses (pattern_texts inputs runtime ts) e
  texts_stop ts k t found OutOfMemory within is before h = tt
  texts_stop ts k t found (Refused fault) within is before h =
      ap (pattern_texts inputs runtime) (whole ts k t within is)
      ∙ texts-append (take k ts) (t ∷ drop (k + 1) ts)
      ∙ rw (before, fault_at t (drop (k + 1) ts) fault h) refl

-- patterns

pub read_more : (texts : List Name) (k : ℕ) (text read : Name) (before after : List (List PatternItem)) → k < length texts → text ≡ get_or texts k text → read ≡ text → IsRead read before after → AreRead (take k texts) (Ok before)
    → AreRead (take (k + 1) texts) (Ok after)
read_more texts k text read before after within is same one h =
    let longer : take (k + 1) texts ≡ take k texts ++ text ∷ [] = take_more texts k text within ∙ ap (λ z. take k texts ++ z ∷ []) (sym is) in
    let reads : IsReading (chars text) (Ok one.pattern) = subst (λ (n : Name). IsReading (chars n) (Ok one.pattern)) same one.reads in
    subst (λ (l : List Name). AreRead l (Ok after)) (sym longer)
    (subst (λ (ps : List (List PatternItem)). AreRead (take k texts ++ text ∷ []) (Ok ps)) (sym one.added) (AreRead.one_more (take k texts) before text one.pattern h reads))

pub none_read : (texts : List Name) (k : ℕ) (text read : Name) (before : List (List PatternItem)) (e : Stop) → k < length texts → text ≡ get_or texts k text → read ≡ text → NotRead read e → AreRead (take k texts) (Ok before) → NoneRead texts e
none_read texts k text read before OutOfMemory within is same no_pattern h = tt
none_read texts k text read before (Refused fault) within is same no_pattern h = (
  no_pattern.0,
  no_pattern.1,
  subst (λ (l : List Name). AreRead l (Err no_pattern.0)) (sym (whole texts k text within is))
      (AreRead.refused (take k texts) (drop (k + 1) texts) before text no_pattern.0 h (subst (λ (n : Name). IsReading (chars n) (Err no_pattern.0)) same no_pattern.2)),
)
