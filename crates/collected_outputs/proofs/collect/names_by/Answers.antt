use Rattle.std.proofs.lemmas.Result.{err_from_is_err_and}
use Rattle.collected_outputs.specs.inner.Steps.{texts_in}
use Rattle.collected_outputs.proofs.Bound.{no_texts_named, no_pattern_named, names_matched}
use Rattle.collected_outputs.proofs.collect.names_by.Goals as goal

pub returns-in_err-texts-clause-err : goal.returns-in_err-texts-clause-err
returns-in_err-texts-clause-err c =
    let p = err_from_is_err_and c.from_residual.result c.from_residual.ensures.1 in
    let none = no_texts_named c.args.folder.listing.now (texts_in c.args.folder c.args.templates.now) c.in_err-texts.field-0.0 c.in_err-texts.ensures.err in
    rw (p.1, p.2) none

pub returns-in_err-patterns-clause-err : goal.returns-in_err-patterns-clause-err
returns-in_err-patterns-clause-err c =
    let p = err_from_is_err_and c.from_residual-in_err-patterns.result c.from_residual-in_err-patterns.ensures.1 in
    let none = no_pattern_named c.args.folder.listing.now (texts_in c.args.folder c.args.templates.now) c.in_ok-texts.texts c.as_slice.result.now c.in_err-patterns.field-0.0 c.in_ok-texts.ensures.ok c.as_slice.ensures c.in_err-patterns.ensures.err in
    rw (p.1, p.2) none

pub returns-clause-ok : goal.returns-clause-ok
returns-clause-ok c =
    names_matched c.args.folder.listing.now (texts_in c.args.folder c.args.templates.now) c.in_ok-texts.texts c.as_slice.result.now _ _ c.in_ok-matched_names.field-0 c.in_ok-texts.ensures.ok c.as_slice.ensures c.in_ok-patterns.ensures.ok c.as_slice-2.ensures.value c.in_ok-matched_names.ensures
