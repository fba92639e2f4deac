use Rattle.record_program.proofs.Looked.{opens_first, rows_first}
use Rattle.record_program.proofs.tables.as_record.Goals as goal

pub returns-in-None-clause-map : goal.returns-in-None-clause-map
returns-in-None-clause-map g c =
    opens_first g.S.Store c.args.budget (λ kept. kept.conn) c.args.conn c.refusal_in.new.conn g.met.S.Store.shut_if_dirty (c.refusal_in.ensures.same c.in-None.is) c.open_record.result c.open_record.ensures.opens c.open_record.ensures.map

pub returns-in-None-clause-rows : goal.returns-in-None-clause-rows
returns-in-None-clause-rows g c =
    rows_first g.S.Store c.args.budget (λ kept. kept.conn) c.args.conn c.refusal_in.new.conn g.met.S.Store.shut_if_dirty (c.refusal_in.ensures.same c.in-None.is) c.open_record.result c.open_record.ensures.opens c.open_record.ensures.rows
