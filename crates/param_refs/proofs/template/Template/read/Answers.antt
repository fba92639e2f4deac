use Rattle.std.proofs.Common.{◌≡◌, Ok, Err, sym, ap, ◌∙◌}
use Rattle.std.proofs.lemmas.Result.{err_from_is_err_and}
use Rattle.param_refs.specs.Grammar.{IsReading}
use Rattle.param_refs.specs.declared.fault.RefFault.TheVariants.{BackslashOut}
use Rattle.param_refs.proofs.Parses.{parsed-settled}
use Rattle.param_refs.proofs.template.Template.read.Goals as goal

pub returns-then-is_escaped-clause-err : goal.returns-then-is_escaped-clause-err
returns-then-is_escaped-clause-err c =
    λ fault same. let is : BackslashOut ≡ fault = cc in parsed-settled c.args.text.now (Err BackslashOut) (IsReading.escaped (sym c.is_escaped.ensures ∙ c.if-is_escaped.true)) ∙ ap Err is

pub returns-in_err-parts-clause-err : goal.returns-in_err-parts-clause-err
returns-in_err-parts-clause-err c =
    let p = err_from_is_err_and c.from_residual.result c.from_residual.ensures.1 in
    rw (p.1, p.2) (λ fault same. parsed-settled c.args.text.now (Err fault) (IsReading.unescaped (Err fault) (sym c.is_escaped.ensures ∙ c.if-is_escaped.false) (c.in_err-parts.ensures.err fault same)))

pub returns-clause-ok : goal.returns-clause-ok
returns-clause-ok c = parsed-settled c.args.text.now (Ok c.in_ok-parts.parts) (IsReading.unescaped (Ok c.in_ok-parts.parts) (sym c.is_escaped.ensures ∙ c.if-is_escaped.false) c.in_ok-parts.ensures.ok)
