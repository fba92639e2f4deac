use Rattle.std.proofs.Common.{Some, None, sym, ◌∙◌}
use Rattle.std.proofs.lemmas.Str.Pattern.{split_parts}
use Rattle.param_refs.proofs.Scanned.{unquoted, unclosed, escaped_key, quoted_then}
use Rattle.param_refs.proofs.scanner.quoted.Goals as goal

pub returns-in_err-key : goal.returns-in_err-key
returns-in_err-key c = rw c.from_residual.ensures (unquoted c.args.quote c.args.text.now (split_parts c.args.quote c.args.text.now None c.in_err-key.ensures.cases c.requires))

pub returns-in_err-rest : goal.returns-in_err-rest
returns-in_err-rest c =
    let key = c.in_ok-key.key in
    let after = c.in_ok-key.after in
    let parts = split_parts c.args.quote c.args.text.now (Some (key, after)) c.in_ok-key.ensures.cases c.requires in
    rw c.from_residual-in_err-rest.ensures (unclosed c.args.quote c.args.text.now key.now after.now parts.0 parts.1 c.in_err-rest.ensures)

pub returns-then-has_backslash : goal.returns-then-has_backslash
returns-then-has_backslash c =
    let key = c.in_ok-key.key in
    let after = c.in_ok-key.after in
    let parts = split_parts c.args.quote c.args.text.now (Some (key, after)) c.in_ok-key.ensures.cases c.requires in
    escaped_key c.args.quote c.args.text.now key.now after.now parts.0 parts.1 (sym c.has_backslash.ensures ∙ c.if-has_backslash.true)

pub returns : goal.returns
returns c =
    let key = c.in_ok-key.key in
    let after = c.in_ok-key.after in
    let parts = split_parts c.args.quote c.args.text.now (Some (key, after)) c.in_ok-key.ensures.cases c.requires in
    quoted_then c.args.quote c.args.text.now key.now after.now c.in_ok-rest.rest.now parts.0 parts.1 c.in_ok-rest.ensures (sym c.has_backslash.ensures ∙ c.if-has_backslash.false)
