use Rattle.std.proofs.Common.{List, length, sym, subst, ◌∙◌, eqb-true, rules}
use Rattle.std.proofs.lemmas.Result.{err_from_is_err_and}
use Rattle.param_refs.specs.declared.template.Part.{Part}
use Rattle.param_refs.proofs.Readings.{PartsSoFar, nonzero, parts_begin, parts_pushed, parts_end, parts_stop}
use Rattle.param_refs.proofs.reading.parts.Goals as goal

pub loop-rest-init : goal.loop-rest-init
loop-rest-init c = (search rules, subst (λ (ps : List Part). PartsSoFar c.args.text.now ps c.args.text.now) (sym c.new-found.ensures) (parts_begin c.args.text.now))

pub part-requires : goal.part-requires
part-requires c = nonzero (length c.loop-rest.rest.now) (sym c.is_empty.ensures ∙ c.loop-rest-test.true)

pub loop-rest-preserved : goal.loop-rest-preserved
loop-rest-preserved c =
    (search rules, parts_pushed c.args.text.now c.loop-rest.rest.now c.in_ok-part.after.now c.loop-rest.found c.push.new.self c.in_ok-part.part c.loop-rest.invariant.1 c.in_ok-part.ensures.ok c.in_ok-push.ensures.ok)

pub returns-in_err-part-clause-err : goal.returns-in_err-part-clause-err
returns-in_err-part-clause-err c =
    let p = err_from_is_err_and c.from_residual.result c.from_residual.ensures.1 in
    rw (p.1, p.2) (λ fault same. parts_stop c.args.text.now c.loop-rest.rest.now c.loop-rest.found fault c.loop-rest.invariant.1 (c.in_err-part.ensures.err fault same))

pub returns-clause-ok : goal.returns-clause-ok
returns-clause-ok c = parts_end c.args.text.now c.loop-rest.rest.now c.loop-rest.found c.loop-rest.invariant.1 (eqb-true (length c.loop-rest.rest.now) 0 (sym c.is_empty.ensures ∙ c.loop-rest-test.false))
