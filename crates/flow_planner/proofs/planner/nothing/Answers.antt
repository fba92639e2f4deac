use Rattle.flow_planner.proofs.Begin.{nothing_flows}
use Rattle.flow_planner.proofs.planner.nothing.Goals as goal

pub returns : goal.returns
returns c graph = nothing_flows graph _ c.new.ensures c.new-2.ensures c.new-3.ensures c.new-4.ensures
