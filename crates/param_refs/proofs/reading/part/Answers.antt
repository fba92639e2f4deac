use Rattle.std.proofs.Common.{◌≡◌, Err, sym, subst, ◌∙◌}
use Rattle.std.proofs.lemmas.Result.{err_from_is_err_and}
use Rattle.param_refs.specs.Grammar.{Reads}
use Rattle.param_refs.specs.declared.fault.RefFault.{RefFault}
use Rattle.param_refs.specs.declared.fault.RefFault.TheVariants.{NotAReference}
use Rattle.param_refs.proofs.Readings.{plain_found, opened, opening_boundary, expression_reads, no_reference_reads, referred_part}
use Rattle.param_refs.proofs.reading.part.Goals as goal

pub split_at-requires : goal.split_at-requires
split_at-requires c = opening_boundary c.args.text.now c.opening.result c.opening.ensures

pub returns-then-not-is_empty-clause-ok : goal.returns-then-not-is_empty-clause-ok
returns-then-not-is_empty-clause-ok c =
    plain_found c.args.text.now c.split_at.result.0.now c.split_at.result.1.now c.in_ok-copy.copy c.opening.result c.opening.ensures c.split_at.ensures.front c.split_at.ensures.back
    (sym c.is_empty.ensures ∙ c.if-not-is_empty.true) c.in_ok-copy.ensures

pub returns-in_default-clause-err : goal.returns-in_default-clause-err
returns-in_default-clause-err c = λ fault same.
    let is : NotAReference ≡ fault = cc in
    subst (λ (f : RefFault). Reads c.args.text.now (Err f)) is
    (expression_reads c.args.text.now (opened c.args.text.now c.split_at.result.0.now c.opening.result c.opening.ensures c.split_at.ensures.front (sym c.is_empty.ensures ∙ c.if-not-is_empty.false) c.requires) c.in_default.ensures)

pub returns-in_err-reference-clause-err : goal.returns-in_err-reference-clause-err
returns-in_err-reference-clause-err c =
    let p = err_from_is_err_and c.from_residual-in_err-reference.result c.from_residual-in_err-reference.ensures.1 in
    rw (p.1, p.2)
    (λ fault same.
    let why = c.in_err-reference.ensures.err fault same in
    subst (λ (f : RefFault). Reads c.args.text.now (Err f)) (sym why.0) (no_reference_reads c.args.text.now c.in-Some.inside.now c.in-Some.ensures why.1))

pub returns-clause-ok : goal.returns-clause-ok
returns-clause-ok c = referred_part c.args.text.now c.in-Some.inside.now c.in_ok-reference.rest.now c.in_ok-reference.reference c.in-Some.ensures c.in_ok-reference.ensures.ok
