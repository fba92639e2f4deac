use Rattle.test_engine.proofs.alone.drive_for.Given as goal

abbrev pub decreases-loop-core : goal.decreases-loop-core
decreases-loop-core l = l.core.steps_left
