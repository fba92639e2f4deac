use Rattle.std.proofs.Common.{Some, None, lit<, sym, ◌∙◌}
use Rattle.std.proofs.lemmas.Str.Pattern.{split_parts}
use Rattle.param_refs.proofs.Scanned.{unbracketed, no_digits}
use Rattle.param_refs.proofs.scanner.number.Goals as goal

pub returns-in_err-digits : goal.returns-in_err-digits
returns-in_err-digits c = rw c.from_residual.ensures (unbracketed c.args.text.now (split_parts 93 c.args.text.now None c.in_err-digits.ensures.cases (lit< tt)))

pub returns-then-not-is_number : goal.returns-then-not-is_number
returns-then-not-is_number c =
    let parts = split_parts 93 c.args.text.now (Some (c.in_ok-digits.digits, c.in_ok-digits.rest)) c.in_ok-digits.ensures.cases (lit< tt) in
    no_digits c.args.text.now c.in_ok-digits.digits.now c.in_ok-digits.rest.now parts.0 parts.1 (sym c.is_number.ensures ∙ c.if-not-is_number.true)

pub returns : goal.returns
returns c =
    let parts = split_parts 93 c.args.text.now (Some (c.in_ok-digits.digits, c.in_ok-digits.rest)) c.in_ok-digits.ensures.cases (lit< tt) in
    record { parts = parts.0; is = sym c.is_number.ensures ∙ c.if-not-is_number.false }
