use Rattle.std.proofs.Common.{◌++◌, Ok}
use Rattle.std.proofs.lemmas.Result.{err_from_is_err_and}
use Rattle.command_line.specs.Environment.{asked_variable, asked_variables, given_variable, given_variables}
use Rattle.command_line.specs.Results.{all_given, and_then}
use Rattle.command_line.proofs.Variables.{fault_after, fault_then}
use Rattle.command_line.proofs.environment.environment.Goals as goal

pub returns-in_err-env-clause-err : goal.returns-in_err-env-clause-err
returns-in_err-env-clause-err c =
    let p = err_from_is_err_and c.from_residual-in_err-env.result c.from_residual-in_err-env.ensures.1 in
    let asked = asked_variables c.args.tool.now in
    let own = all_given (asked_variable c.args.scope.inputs.now c.args.scope.runtime.now) asked in
    rw (p.1, p.2) (fault_after (all_given (given_variable asked) (given_variables c.args.runtime.now)) (λ given. and_then own (λ vs. Ok (given ++ vs))) c.in_ok-given.given.items c.in_err-env.field-0.0
    (rw c.asked_variables-asked.ensures at c.in_ok-given.ensures.ok)
    (fault_then own (λ vs. Ok (c.in_ok-given.given.items ++ vs)) c.in_err-env.field-0.0 (rw c.asked_variables-asked.ensures at c.in_err-env.ensures.err)))
