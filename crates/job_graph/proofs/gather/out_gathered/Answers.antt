use Rattle.std.proofs.Common.{◌∙◌, Some, ap, option_map}
use Rattle.scatter_shape.specs.Gathered.{gathered}
use Rattle.job_graph.proofs.gather.out_gathered.Goals as goal

pub gather-requires-clause-one_each : goal.gather-requires-clause-one_each
gather-requires-clause-one_each c = (rw c.in-Some.is at c.in_ok-all_under.ensures.one_each) ∙ c.requires.one_each

pub returns-in-None : goal.returns-in-None
returns-in-None c = ap (option_map (gathered c.args.shape.now.method c.args.shape.now.lengths)) (rw c.in-None.is at c.in_ok-all_under.ensures.values)

pub returns-in_ok-shared-in-Some : goal.returns-in_ok-shared-in-Some
returns-in_ok-shared-in-Some c =
    ap Some (c.in_ok-shared-in-Some.ensures ∙ c.in_ok-gather-in-Some.ensures.in_place)
    ∙ ap (option_map (gathered c.args.shape.now.method c.args.shape.now.lengths)) (rw c.in-Some.is at c.in_ok-all_under.ensures.values)
