use Rattle.cwl_program.proofs.Ends.{chosen_or_fault}
use Rattle.cwl_program.proofs.entry.end_of.Goals as goal

pub returns-in-Ok-clause-ok : goal.returns-in-Ok-clause-ok
returns-in-Ok-clause-ok g c =
    chosen_or_fault g.R.Records g.R.Kept.Record c.args.rt.now _ _ c.in-Ok.choice c.end_of_choice.result c.end_or_fault.result c.asks_why.result c.telling_of.result
    c.in-Ok.ensures.ok c.end_of_choice.ensures.end c.end_or_fault.ensures.ok c.end_or_fault.ensures.err c.end_or_fault.ensures.bare
    c.asks_why.ensures c.telling_of.ensures
