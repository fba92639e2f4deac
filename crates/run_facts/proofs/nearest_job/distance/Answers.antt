use Rattle.std.proofs.Common.{ℕ, IfNone, subst, sym}
use Rattle.run_facts.specs.NearestJob.{Differ}
use Rattle.run_facts.specs.declared.nearest_job.Alike.{Alike}
use Rattle.run_facts.proofs.nearest_job.distance.Goals as goal

pub returns-in-ToolAndEnvironment-clause-none : goal.returns-in-ToolAndEnvironment-clause-none
returns-in-ToolAndEnvironment-clause-none c =
    subst (λ (alike : Alike). IfNone c.inputs_distance.result ((n : ℕ) → Differ alike c.args.own.now c.args.row.now n → ⊥)) (sym c.in-ToolAndEnvironment.is) c.inputs_distance.ensures.none

pub returns-in-Inputs-clause-none : goal.returns-in-Inputs-clause-none
returns-in-Inputs-clause-none c =
    subst (λ (alike : Alike). IfNone c.tool_distance.result ((n : ℕ) → Differ alike c.args.own.now c.args.row.now n → ⊥)) (sym c.in-Inputs.is) c.tool_distance.ensures.none
