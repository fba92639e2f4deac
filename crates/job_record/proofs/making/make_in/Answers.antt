use Rattle.std.proofs.Common.{[], ◌∷◌}
use Rattle.std.proofs.lemmas.Result.{err_from_is_err_and}
use Rattle.job_record.specs.Statements.{make_meta, make_job, note_version}
use Rattle.job_record.specs.Archives.{make_archive}
use Rattle.job_record.proofs.Chain.{was_clean}
use Rattle.job_record.proofs.Undone.{refuses_now, then_refuses, then_runs, runs_last}
use Rattle.job_record.proofs.making.make_in.Goals as goal

pub returns-in_err-execute-clause-makes : goal.returns-in_err-execute-clause-makes
returns-in_err-execute-clause-makes g c clean going =
    let p = err_from_is_err_and c.from_residual.result c.from_residual.ensures.1 in
    rw (p.1, p.2) (refuses_now g.S.Store make_meta (make_job ∷ make_archive ∷ note_version ∷ []) c.args.making.now.conn.now c.execute.new.self.conn.now _ (c.in_err-execute.ensures.runs clean going))

pub returns-in_err-execute-2-clause-makes : goal.returns-in_err-execute-2-clause-makes
returns-in_err-execute-2-clause-makes g c clean going =
    let old = c.args.making.now.conn.now in
    let meta = c.execute.new.self.conn.now in
    let to = c.execute-2.new.self.conn.now in
    let one = c.in_ok-execute.ensures.runs (was_clean _ _ _ c.execute-2.ensures.survives clean) going in
    let ran = c.in_err-execute-2.ensures.runs clean one.1.mode in
    let p = err_from_is_err_and c.from_residual-in_err-execute-2.result c.from_residual-in_err-execute-2.ensures.1 in
    rw (p.1, p.2) (then_refuses g.S.Store make_meta old meta _ one (make_job ∷ make_archive ∷ note_version ∷ []) to _ (refuses_now g.S.Store make_job (make_archive ∷ note_version ∷ []) meta to _ ran))

pub returns-in_err-execute-3-clause-makes : goal.returns-in_err-execute-3-clause-makes
returns-in_err-execute-3-clause-makes g c clean going =
    let old = c.args.making.now.conn.now in
    let meta = c.execute.new.self.conn.now in
    let job = c.execute-2.new.self.conn.now in
    let to = c.execute-3.new.self.conn.now in
    let second = was_clean _ _ _ c.execute-3.ensures.survives clean in
    let one = c.in_ok-execute.ensures.runs (was_clean _ _ _ c.execute-2.ensures.survives second) going in
    let two = c.in_ok-execute-2.ensures.runs second one.1.mode in
    let ran = c.in_err-execute-3.ensures.runs clean two.1.mode in
    let p = err_from_is_err_and c.from_residual-in_err-execute-3.result c.from_residual-in_err-execute-3.ensures.1 in
    let rest = refuses_now g.S.Store make_archive (note_version ∷ []) job to _ ran in
    rw (p.1, p.2) (then_refuses g.S.Store make_meta old meta _ one (make_job ∷ make_archive ∷ note_version ∷ []) to _ (then_refuses g.S.Store make_job meta job _ two (make_archive ∷ note_version ∷ []) to _ rest))

pub returns-in_err-execute-4-clause-makes : goal.returns-in_err-execute-4-clause-makes
returns-in_err-execute-4-clause-makes g c clean going =
    let old = c.args.making.now.conn.now in
    let meta = c.execute.new.self.conn.now in
    let job = c.execute-2.new.self.conn.now in
    let archive = c.execute-3.new.self.conn.now in
    let to = c.execute-4.new.self.conn.now in
    let third = was_clean _ _ _ c.execute-4.ensures.survives clean in
    let second = was_clean _ _ _ c.execute-3.ensures.survives third in
    let one = c.in_ok-execute.ensures.runs (was_clean _ _ _ c.execute-2.ensures.survives second) going in
    let two = c.in_ok-execute-2.ensures.runs second one.1.mode in
    let three = c.in_ok-execute-3.ensures.runs third two.1.mode in
    let ran = c.in_err-execute-4.ensures.runs clean three.1.mode in
    let p = err_from_is_err_and c.from_residual-in_err-execute-4.result c.from_residual-in_err-execute-4.ensures.1 in
    let rest = then_refuses g.S.Store make_archive job archive _ three (note_version ∷ []) to _ (refuses_now g.S.Store note_version [] archive to _ ran) in
    rw (p.1, p.2) (then_refuses g.S.Store make_meta old meta _ one (make_job ∷ make_archive ∷ note_version ∷ []) to _ (then_refuses g.S.Store make_job meta job _ two (make_archive ∷ note_version ∷ []) to _ rest))

pub returns-clause-makes : goal.returns-clause-makes
returns-clause-makes g c clean going =
    let old = c.args.making.now.conn.now in
    let meta = c.execute.new.self.conn.now in
    let job = c.execute-2.new.self.conn.now in
    let archive = c.execute-3.new.self.conn.now in
    let last = c.execute-4.new.self.conn.now in
    let third = was_clean _ _ _ c.execute-4.ensures.survives clean in
    let second = was_clean _ _ _ c.execute-3.ensures.survives third in
    let one = c.in_ok-execute.ensures.runs (was_clean _ _ _ c.execute-2.ensures.survives second) going in
    let two = c.in_ok-execute-2.ensures.runs second one.1.mode in
    let three = c.in_ok-execute-3.ensures.runs third two.1.mode in
    let four = c.in_ok-execute-4.ensures.runs clean three.1.mode in
    let rest = then_runs g.S.Store make_archive job archive _ three (note_version ∷ []) last (runs_last g.S.Store note_version archive last _ four) in
    then_runs g.S.Store make_meta old meta _ one (make_job ∷ make_archive ∷ note_version ∷ []) last (then_runs g.S.Store make_job meta job _ two (make_archive ∷ note_version ∷ []) last rest)
