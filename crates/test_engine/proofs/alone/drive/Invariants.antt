use Rattle.test_engine.proofs.alone.drive.Given as goal

abbrev pub decreases-loop-alloc : goal.decreases-loop-alloc
decreases-loop-alloc l = l.core.steps_left
