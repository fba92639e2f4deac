use Rattle.std.proofs.Common.{◌∙◌, sym, rules}
use Rattle.job_graph.proofs.Outs.{made_none, made_some}
use Rattle.job_graph.proofs.made.value_under.Goals as goal

pub returns-in-None : goal.returns-in-None
returns-in-None c = c.nothing.ensures ∙ made_none c.args.place.now c.args.name.now c.args.outputs.now (search rules)

pub returns-in-Some : goal.returns-in-Some
returns-in-Some c = rw (sym (made_some c.args.place.now c.args.name.now c.args.outputs.now c.in-Some.value.now (search rules))) c.placed.ensures
