use Rattle.test_engine.proofs.counted.counts_after.Given as goal

abbrev pub decreases-loop-keeps : goal.decreases-loop-keeps
decreases-loop-keeps l = l.core.steps_left
