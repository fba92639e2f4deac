use Rattle.std.proofs.Common.{◌≡◌, List, ℕ, true, Some, ap, ◌∙◌, refl}
use Rattle.std.specs.Str.{is_utf8}
use Rattle.std.proofs.lemmas.Str.{is_utf8-from_IsUtf8}
use Rattle.input_files.proofs.Heads.{no_text}
use Rattle.input_files.proofs.contents.text_of.Goals as goal

pub returns-in_ok-from_text-in-Ok : goal.returns-in_ok-from_text-in-Ok
returns-in_ok-from_text-in-Ok c =
    let valid : is_utf8 c.args.bytes.now ≡ true = is_utf8-from_IsUtf8 c.args.bytes.now c.in-Ok.ensures.cases.1 in
    rw valid (ap (λ (t : List ℕ). Some t) (c.in_ok-from_text-in-Ok.ensures ∙ c.in-Ok.ensures.cases.0))

pub returns-in-Err : goal.returns-in-Err
returns-in-Err c = rw (no_text c.args.bytes.now c.in-Err.ensures.cases.0) refl
