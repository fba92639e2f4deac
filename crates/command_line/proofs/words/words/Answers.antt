use Rattle.std.proofs.Common.{ℕ, List, map, subst, ◌∙◌}
use Rattle.std.proofs.lemmas.Result.{err_from_is_err_and}
use Rattle.command_line.specs.inner.Steps.{BaseError}
use Rattle.command_line.specs.inner.View.{bound_of}
use Rattle.command_line.proofs.Answered.{error_from_base, error_from_binding}
use Rattle.command_line.proofs.Joined.{words_from_rows}
use Rattle.command_line.proofs.words.words.Goals as goal

pub returns-in_err-base-clause-refused : goal.returns-in_err-base-clause-refused
returns-in_err-base-clause-refused c =
    let p = err_from_is_err_and c.from_residual-in_err-base.result c.from_residual-in_err-base.ensures.1 in
    rw (p.1, p.2) (λ runtime same. error_from_base c.args.tool.now c.args.scope.inputs.now runtime c.args.scope.runtime.now same c.in_err-base.field-0.0
    (subst (λ (base : List (List ℕ)). BaseError base c.in_err-base.field-0.0) c.as_slice.ensures c.in_err-base.ensures.refused))

pub returns-in_err-words-clause-refused : goal.returns-in_err-words-clause-refused
returns-in_err-words-clause-refused c =
    let p = err_from_is_err_and c.from_residual-in_err-words.result c.from_residual-in_err-words.ensures.1 in
    rw (p.1, p.2) (λ runtime same. error_from_binding c.args.tool.now c.args.scope.inputs.now runtime c.args.scope.runtime.now same (map bound_of c.in_ok-rows.rows.items) c.in_err-words.field-0.0 c.in_ok-rows.ensures
    (rw c.as_slice-2.ensures.value at c.in_err-words.ensures.refused))

pub returns-clause-words : goal.returns-clause-words
returns-clause-words c =
    rw c.from_vec.ensures (words_from_rows c.args.tool.now c.args.scope.inputs.now c.args.scope.runtime.now c.in_ok-rows.rows.items c.in_ok-base.base.items c.in_ok-words.words.items c.in_ok-rows.ensures
    (c.in_ok-base.ensures.words ∙ c.as_slice.ensures)
    (rw c.as_slice-2.ensures.value at c.in_ok-words.ensures.words)
    (rw c.as_slice-2.ensures.value at c.in_ok-words.ensures.all_there))
