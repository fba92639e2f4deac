use Rattle.std.proofs.Common.{◌≡◌, ℕ, List, [], ap, subst, sym, ◌∙◌}
use Rattle.std.proofs.lemmas.Result.{err_from_is_err_and}
use Rattle.cwl_value.specs.declared.value.Value.{Value}
use Rattle.command_line.specs.Launch.{IsRefused}
use Rattle.command_line.specs.Texts.{is_plain, runtime_value}
use Rattle.command_line.specs.Words.{AreWords}
use Rattle.command_line.proofs.Answered.{error_from_env, error_from_stderr, error_from_stdin, error_from_stdout}
use Rattle.command_line.proofs.builder.launch_in.Goals as goal

pub returns-then-is_empty-clause-refused : goal.returns-then-is_empty-clause-refused
returns-then-is_empty-clause-refused c =
    let none : c.in_ok-words.words ≡ [] = c.is_empty.ensures.0 c.if-is_empty.true in
    IsRefused.no_word (subst (λ (words : List (List ℕ)). AreWords c.args.tool.now c.args.scope.inputs.now (runtime_value c.args.runtime.now) words) none
    (subst (λ (around : Value). AreWords c.args.tool.now c.args.scope.inputs.now around c.in_ok-words.words) c.requires c.in_ok-words.ensures.words))

pub returns-in_err-env-clause-refused : goal.returns-in_err-env-clause-refused
returns-in_err-env-clause-refused c =
    let p = err_from_is_err_and c.from_residual-in_err-env.result c.from_residual-in_err-env.ensures.1 in
    rw (p.1, p.2) (error_from_env c.args.tool.now c.args.scope.inputs.now c.args.runtime.now c.args.scope.runtime.now c.requires c.in_err-env.field-0.0 c.in_err-env.ensures.err)

pub returns-then-not-is_plain-clause-refused : goal.returns-then-not-is_plain-clause-refused
returns-then-not-is_plain-clause-refused c =
    IsRefused.in_folder (ap is_plain (sym c.as_str.ensures.bytes) ∙ sym c.is_plain.ensures ∙ c.if-not-is_plain.true)

pub returns-in_err-stdin-clause-refused : goal.returns-in_err-stdin-clause-refused
returns-in_err-stdin-clause-refused c =
    let p = err_from_is_err_and c.from_residual-in_err-stdin.result c.from_residual-in_err-stdin.ensures.1 in
    rw (p.1, p.2) (error_from_stdin c.args.tool.now c.args.scope.inputs.now c.args.runtime.now c.args.scope.runtime.now c.requires c.in_err-stdin.field-0.0 c.in_err-stdin.ensures.err)

pub returns-in_err-stdout-clause-refused : goal.returns-in_err-stdout-clause-refused
returns-in_err-stdout-clause-refused c =
    let p = err_from_is_err_and c.from_residual-in_err-stdout.result c.from_residual-in_err-stdout.ensures.1 in
    rw (p.1, p.2) (error_from_stdout c.args.tool.now c.args.scope.inputs.now c.args.runtime.now c.args.scope.runtime.now c.requires c.in_err-stdout.field-0.0 c.in_err-stdout.ensures.err)

pub returns-in_err-stderr-clause-refused : goal.returns-in_err-stderr-clause-refused
returns-in_err-stderr-clause-refused c =
    let p = err_from_is_err_and c.from_residual-in_err-stderr.result c.from_residual-in_err-stderr.ensures.1 in
    rw (p.1, p.2) (error_from_stderr c.args.tool.now c.args.scope.inputs.now c.args.runtime.now c.args.scope.runtime.now c.requires c.in_err-stderr.field-0.0 c.in_err-stderr.ensures.err)
