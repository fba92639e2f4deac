use Rattle.sqlite.specs.Values.{bound}
use Rattle.sqlite.specs.Held.{state}
use Rattle.job_record.proofs.QueriedInside.{row_inside}
use Rattle.job_record.proofs.inside.first_row.Goals as goal

pub returns-clause-row : goal.returns-clause-row
returns-clause-row g c clean going =
    row_inside c.args.text.now (bound c.args.params.now) (state g.S.Store c.args.change.now.conn.now) (state g.S.Store c.query_row.new.self.conn.now) c.query_row.result going (c.query_row.ensures.row clean)
