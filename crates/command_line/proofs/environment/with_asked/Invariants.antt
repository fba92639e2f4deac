use Rattle.std.proofs.Common.{◌≡◌, ◌++◌, drop, Ok}
use Rattle.command_line.specs.Environment.{asked_variable}
use Rattle.command_line.specs.Results.{all_given, and_then}
use Rattle.command_line.proofs.environment.with_asked.Given as goal

abbrev pub invariant-loop-entry : goal.invariant-loop-entry
invariant-loop-entry l = and_then (all_given (asked_variable l.scope.inputs.now l.scope.runtime.now) (drop l.entry-index l.asked)) (λ vs. Ok (l.env.items ++ vs))
    ≡ and_then (all_given (asked_variable l.scope.inputs.now l.scope.runtime.now) l.asked) (λ vs. Ok (l.initial.env.items ++ vs))
