use Rattle.std.proofs.Common.{◌≡◌, ℕ, List, Bool, true, false, Some, Ok, sym, ap, ◌∙◌, refl}
use Rattle.std.specs.Str.{is_utf8, IsUtf8}
use Rattle.std.proofs.lemmas.Str.{IsUtf8-from_is_utf8, is_utf8-from_IsUtf8}
use Rattle.collected_outputs.proofs.contents.text_of.Goals as goal

no_text : (bs : List ℕ) → (IsUtf8 bs → ⊥) → is_utf8 bs ≡ false
no_text bs apart = by_test (is_utf8 bs) refl where
  by_test : (b : Bool) → is_utf8 bs ≡ b → is_utf8 bs ≡ false
  by_test true is = absurd (apart (IsUtf8-from_is_utf8 bs is))
  by_test false is = is

pub returns-in_ok-from_text-in-Ok-clause-ok : goal.returns-in_ok-from_text-in-Ok-clause-ok
returns-in_ok-from_text-in-Ok-clause-ok c =
    let valid : is_utf8 c.args.bytes.now ≡ true = is_utf8-from_IsUtf8 c.args.bytes.now c.in-Ok.ensures.cases.1 in
    rw valid (ap (λ (t : List ℕ). Ok (Some t)) (sym (c.in_ok-from_text-in-Ok.ensures ∙ c.in-Ok.ensures.cases.0)))

pub returns-in-Err-clause-err : goal.returns-in-Err-clause-err
returns-in-Err-clause-err c = rw (no_text c.args.bytes.now c.in-Err.ensures.cases.0) refl
