use Rattle.test_engine.proofs.giving_up.end_of_one.Goals as goal

pub returns-in-Collect : goal.returns-in-Collect
returns-in-Collect c = rw c.in-Collect.is c.ended.ensures
