use Rattle.std.proofs.lemmas.Result.{err_from_is_err_and}
use Rattle.serde_json.specs.View.{view}
use Rattle.document_links.proofs.Named.{not_needing}
use Rattle.document_links.proofs.reading.needed_docs.Goals as goal

pub returns-in_err-check_alone-clause-err : goal.returns-in_err-check_alone-clause-err
returns-in_err-check_alone-clause-err c =
    let p = err_from_is_err_and c.from_residual-in_err-check_alone.result c.from_residual-in_err-check_alone.ensures.1 in
    rw (p.1, p.2) (not_needing c.args.document.now c.args.base.now (view c.in_ok-found.found.now.json) _ c.in_ok-found.ensures.ok c.in_err-check_alone.ensures.err)
