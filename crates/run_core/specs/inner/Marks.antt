-- What the plan in force does with a job.
use Rattle.std.specs.Prelude.{Bool, true, false, List, [], Option, Some, None}
use Rattle.plan_checker.specs.declared.plan.Mark.{Mark}
use Rattle.plan_checker.specs.declared.plan.Mark.TheVariants.{Load, Compute}
use Rattle.plan_keeper.specs.declared.planned.Planned.{Planned}

-- its marks; none before the first planning point
abbrev pub marks_in : Option Planned → List Mark
marks_in None = []
marks_in (Some made) = made.plan.marks

abbrev pub is_load : Mark → Bool
is_load Load = true
is_load _ = false

abbrev pub is_compute : Mark → Bool
is_compute Compute = true
is_compute _ = false
