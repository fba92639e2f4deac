use Rattle.std.proofs.Common.{inl}
use Rattle.std.proofs.lemmas.Result.{IfOk-weaker, IfErr-weaker, err_from_is_err_and}
use Rattle.record_program.proofs.AmongNames.{is_unknown, is_missing, refuses_folders, refuses_sums}
use Rattle.record_program.proofs.checking.compared.Goals as goal

pub returns-in_err-folders-clause-err : goal.returns-in_err-folders-clause-err
returns-in_err-folders-clause-err c =
    let p = err_from_is_err_and c.from_residual.result c.from_residual.ensures.1 in
    rw (p.1, p.2) (refuses_folders c.args.names.now c.args.archives.now _ c.in_err-folders.ensures.err)

pub returns-in_err-sums-clause-err : goal.returns-in_err-sums-clause-err
returns-in_err-sums-clause-err c =
    let p = err_from_is_err_and c.from_residual-in_err-sums.result c.from_residual-in_err-sums.ensures.1 in
    rw (p.1, p.2) (refuses_sums c.args.names.now c.args.archives.now _ c.in_err-sums.ensures.err)

pub returns-clause-unknown : goal.returns-clause-unknown
returns-clause-unknown c =
    IfOk-weaker c.differ.result _ _ (λ found is. is_unknown c.args.names.now c.args.archives.now found.unknown _ _ c.in_ok-folders.ensures.ok c.in_ok-sums.ensures.ok is) c.differ.ensures.unknown

pub returns-clause-missing : goal.returns-clause-missing
returns-clause-missing c =
    IfOk-weaker c.differ.result _ _ (λ found is. is_missing c.args.names.now c.args.archives.now found.missing _ _ c.in_ok-folders.ensures.ok c.in_ok-sums.ensures.ok is) c.differ.ensures.missing

pub returns-clause-err : goal.returns-clause-err
returns-clause-err c = IfErr-weaker c.differ.result _ _ (λ fault is. inl is) c.differ.ensures.err
