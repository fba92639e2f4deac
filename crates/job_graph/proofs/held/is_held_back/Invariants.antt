use Rattle.job_graph.proofs.held.is_held_back.Given as goal

abbrev pub invariant-loop-back : goal.invariant-loop-back
invariant-loop-back l = Unit {0}
