use Rattle.std.proofs.lemmas.Result.{err_from_is_err_and}
use Rattle.std.proofs.Common.{map}
use Rattle.command_line.specs.inner.View.{bound_of}
use Rattle.command_line.specs.Words.{words_of}
use Rattle.command_line.proofs.Answered.{Contains-map, binding_error_at}
use Rattle.command_line.proofs.Joined.{joined_more, ok_more}
use Rattle.command_line.proofs.words.append_all.Goals as goal

pub returns-in_err-added-clause-refused : goal.returns-in_err-added-clause-refused
returns-in_err-added-clause-refused c =
    let p = err_from_is_err_and c.from_residual.result c.from_residual.ensures.1 in
    rw (p.1, p.2) (binding_error_at c.args.scope.inputs.now c.args.scope.runtime.now (map bound_of c.args.rows.now) (bound_of c.row-item.result) c.in_err-added.field-0.0
    (Contains-map bound_of c.args.rows.now c.loop-row.row-index c.row-item.result c.loop-row-test.true c.row-item.is) c.in_err-added.ensures.err)

pub loop-row-preserved : goal.loop-row-preserved
loop-row-preserved c = record {
  words = joined_more (λ row. words_of c.args.scope.inputs.now c.args.scope.runtime.now (bound_of row)) c.args.words.items c.loop-row.words.items c.append.new.self.items c.in_ok-added.added.items c.args.rows.now c.loop-row.row-index c.row-item.result c.loop-row-test.true c.row-item.is c.loop-row.invariant.words c.in_ok-append.ensures.items c.in_ok-added.ensures.ok;
  all_there = ok_more (λ row. words_of c.args.scope.inputs.now c.args.scope.runtime.now (bound_of row)) c.in_ok-added.added.items c.args.rows.now c.loop-row.row-index c.row-item.result c.loop-row-test.true c.row-item.is c.loop-row.invariant.all_there c.in_ok-added.ensures.ok;
}
