use Rattle.std.proofs.Common.{◌≡◌, ◌++◌, ◌∙◌, sym, ap, length, length-append, arith}
use Rattle.std.specs.Char.{encode_utf8}
use Rattle.std.proofs.lemmas.Str.{chars_past_char, length-encode, len_utf8_bounds}
use Rattle.staging.proofs.characters.first_char.Goals as goal

pub returns : goal.returns
returns c =
    let parts : c.args.text.now ≡ encode_utf8 c.in_ok-first.first ++ c.as_str.result.now = sym c.chars-characters.ensures.rest ∙ c.in_ok-first.ensures.steps.0 ∙ ap (λ t. encode_utf8 c.in_ok-first.first ++ t) (sym c.as_str.ensures) in (
      chars_past_char c.args.text.now c.as_str.result.now c.in_ok-first.first c.utf8.text parts,
      omega (arith, ap length parts, length-append (encode_utf8 c.in_ok-first.first) c.as_str.result.now, length-encode c.in_ok-first.first, (len_utf8_bounds c.in_ok-first.first).0),
    )
