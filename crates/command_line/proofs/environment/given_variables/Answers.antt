use Rattle.std.proofs.Common.{◌++◌, Ok, ap, ◌∙◌, codes, sym}
use Rattle.std.proofs.lemmas.Result.{err_from_is_err_and}
use Rattle.command_line.specs.Environment.{given_variable}
use Rattle.command_line.proofs.Variables.{second_fault, third_fault, three_ok}
use Rattle.command_line.proofs.environment.given_variables.Goals as goal

pub returns-in_err-scratch-clause-err : goal.returns-in_err-scratch-clause-err
returns-in_err-scratch-clause-err c =
    let p = err_from_is_err_and c.from_residual-in_err-scratch.result c.from_residual-in_err-scratch.ensures.1 in
    rw (p.1, p.2) (second_fault (given_variable c.args.asked.now)
    (record { name = codes "HOME"; text = c.args.runtime.now.outdir }) (record { name = codes "TMPDIR"; text = c.args.runtime.now.tmpdir }) (record { name = codes "PATH"; text = c.args.runtime.now.path_env })
    c.in_ok-home.home.items c.in_err-scratch.field-0.0 c.in_ok-home.ensures.ok c.in_err-scratch.ensures.err)

pub returns-in_err-programs-clause-err : goal.returns-in_err-programs-clause-err
returns-in_err-programs-clause-err c =
    let p = err_from_is_err_and c.from_residual-in_err-programs.result c.from_residual-in_err-programs.ensures.1 in
    rw (p.1, p.2) (third_fault (given_variable c.args.asked.now)
    (record { name = codes "HOME"; text = c.args.runtime.now.outdir }) (record { name = codes "TMPDIR"; text = c.args.runtime.now.tmpdir }) (record { name = codes "PATH"; text = c.args.runtime.now.path_env })
    c.in_ok-home.home.items c.in_ok-scratch.scratch.items c.in_err-programs.field-0.0 c.in_ok-home.ensures.ok c.in_ok-scratch.ensures.ok c.in_err-programs.ensures.err)

pub returns-clause-ok : goal.returns-clause-ok
returns-clause-ok c =
    three_ok (given_variable c.args.asked.now)
    (record { name = codes "HOME"; text = c.args.runtime.now.outdir }) (record { name = codes "TMPDIR"; text = c.args.runtime.now.tmpdir }) (record { name = codes "PATH"; text = c.args.runtime.now.path_env })
    c.in_ok-home.home.items c.in_ok-scratch.scratch.items c.in_ok-programs.programs.items c.in_ok-home.ensures.ok c.in_ok-scratch.ensures.ok c.in_ok-programs.ensures.ok
    ∙ ap Ok (sym (c.in_ok-append-2.ensures.items ∙ ap (λ vs. vs ++ c.in_ok-programs.programs.items) c.in_ok-append.ensures.items))
