-- Marks that are the same.
use Rattle.std.specs.Prelude.{Bool, true, false}
use Rattle.plan_checker.specs.declared.plan.Mark.{Mark}
use Rattle.plan_checker.specs.declared.plan.Mark.TheVariants.{Load, Compute, Prune}

abbrev pub is_same : Mark → Mark → Bool
is_same Load Load = true
is_same Load Compute = false
is_same Load Prune = false
is_same Compute Load = false
is_same Compute Compute = true
is_same Compute Prune = false
is_same Prune Load = false
is_same Prune Compute = false
is_same Prune Prune = true
