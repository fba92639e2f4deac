use Rattle.std.proofs.Common.{subst, sym}
use Rattle.std.specs.Prelude.{option_map}
use Rattle.record_program.specs.Opened.{EndsWith}
use Rattle.record_program.proofs.file.in_database.Goals as goal

pub returns-in-Some-clause-ends : goal.returns-in-Some-clause-ends
returns-in-Some-clause-ends g c =
    subst (λ forget. EndsWith g.D.Disk c.args.conn (option_map (λ sum. sum.now) forget) c.without_rows.result) (sym c.in-Some.is) c.without_rows.ensures.forgotten

pub returns-in-None-clause-ends : goal.returns-in-None-clause-ends
returns-in-None-clause-ends g c =
    subst (λ forget. EndsWith g.D.Disk c.args.conn (option_map (λ sum. sum.now) forget) c.only_shown.result) (sym c.in-None.is) c.only_shown.ensures.shown
