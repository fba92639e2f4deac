use Rattle.plan_checker.proofs.ReadRows.{no_row_start, no_row_costs, many_parents, no_row_pairs, row_read}
use Rattle.plan_checker.proofs.row.Row.read.Goals as goal

pub returns-in_default : goal.returns-in_default
returns-in_default c = no_row_start c.args.text.now c.args.most c.in_default.ensures

pub returns-in_default-read_costs : goal.returns-in_default-read_costs
returns-in_default-read_costs c = no_row_costs c.args.text.now c.args.most _ _ c.in-Some.ensures c.in_default-read_costs.ensures

pub returns-then-costs-most : goal.returns-then-costs-most
returns-then-costs-most c =
    many_parents c.args.text.now c.args.most _ _ c.in-Some-read_costs.costs _ c.in-Some.ensures c.in-Some-read_costs.ensures c.if-costs-most.true

pub returns-in_default-2 : goal.returns-in_default-2
returns-in_default-2 c =
    let none = rw c.in_default-2.is at c.in_ok-parents.ensures in
    no_row_pairs c.args.text.now c.args.most _ _ c.in-Some-read_costs.costs _ c.in-Some.ensures c.in-Some-read_costs.ensures none

pub returns : goal.returns
returns c =
    let last = rw c.in-Some-2.is at c.in_ok-parents.ensures in
    row_read c.args.text.now c.in-Some.start _ c.in-Some-read_costs.costs _ _ _ _ c.in-Some.ensures c.in-Some-read_costs.ensures last
