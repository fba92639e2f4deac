use Rattle.std.proofs.Common.{◌∙◌, sym, subst, take}
use Rattle.std.proofs.lemmas.Result.{err_from_is_err_and}
use Rattle.job_record.specs.Opening.{HasBytes}
use Rattle.job_record.proofs.Adding.{row_fails, add_fails, adds_one, taken_more}
use Rattle.job_record.proofs.RowsRead.{misreads_as}
use Rattle.job_record.proofs.migrating.add_all.Goals as goal

pub loop-columns-preserved : goal.loop-columns-preserved
loop-columns-preserved g c =
    let l = c.loop-columns in
    let old = c.args.change.now.conn.now in
    let now = l.change.conn.now in
    let next = c.add.new.change.conn.now in
    let row = c.columns-item.result in
    let key = c.as_str.result.now in
    let has = subst (λ k. HasBytes row k c.in_ok-key.bytes) (sym c.as_str.ensures.bytes) c.in_ok-key.ensures.ok in
    record {
      same = c.add.ensures.same_reference ∙ l.invariant.same;
      added = taken_more g.S.Store old next c.args.archived.now l.columns-index _ row c.loop-columns-test.true c.columns-item.is
          (adds_one g.S.Store old now next (take l.columns-index c.args.archived.now) l.used l.invariant.added key c.in_ok-key.bytes c.saturating_add-used.result c.add.ensures.survives row c.in_ok-add.field-0 has c.saturating_add-used.ensures c.in_ok-add.ensures.runs);
    }

pub returns-in_err-key-clause-adds : goal.returns-in_err-key-clause-adds
returns-in_err-key-clause-adds g c clean going open_now =
    let l = c.loop-columns in
    let now = l.change.conn.now in
    let unread = misreads_as (λ none. (l.columns-index, c.columns-item.result, c.loop-columns-test.true, sym c.columns-item.is, none)) c.in_err-key.field-0.0 c.in_err-key.ensures.err in
    let p = err_from_is_err_and c.from_residual.result c.from_residual.ensures.1 in
    rw (p.1, p.2) (row_fails g.S.Store c.args.change.now.conn.now now now (take l.columns-index c.args.archived.now) l.used l.invariant.added c.args.archived.now _ unread clean going open_now)

pub returns-in_err-add-clause-adds : goal.returns-in_err-add-clause-adds
returns-in_err-add-clause-adds g c clean going open_now =
    let l = c.loop-columns in
    let p = err_from_is_err_and c.from_residual-in_err-add.result c.from_residual-in_err-add.ensures.1 in
    rw (p.1, p.2)
    (add_fails g.S.Store c.args.change.now.conn.now l.change.conn.now c.add.new.change.conn.now (take l.columns-index c.args.archived.now) l.used l.invariant.added c.as_str.result.now c.in_ok-key.bytes c.saturating_add-used.result c.add.ensures.survives c.args.archived.now _ c.in_err-add.ensures.runs clean going open_now)
