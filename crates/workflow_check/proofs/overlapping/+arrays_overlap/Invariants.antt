use Rattle.workflow_check.proofs.overlapping.+arrays_overlap.Given as goal

abbrev pub decreases-arrays_overlap : goal.decreases-arrays_overlap
decreases-arrays_overlap l = l.arrays
