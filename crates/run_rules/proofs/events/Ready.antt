-- Which jobs may be staged, by their numbers: those that wait, that the plan in force computes, and whose parents are at hand.
use Rattle.std.specs.Prelude.{◌<◌}
use Rattle.std.proofs.Common.{◌≡◌, ℕ, true, List}
use Rattle.job_graph.specs.Jobs.{Job}
use Rattle.job_graph.specs.Made.{any_made}
use Rattle.plan_checker.specs.Plan.{mark}
use Rattle.plan_checker.specs.declared.plan.Mark.{Mark}
use Rattle.plan_checker.specs.declared.plan.Mark.TheVariants.{Compute, Load}
use Rattle.run_rules.proofs.events.Course.{Course}
use Rattle.run_rules.proofs.events.Places.{IsJob}

-- the parents of the job of a number are at hand
abbrev pub AreParentsThere : List Job → Course → ℕ → Job → Type 0
AreParentsThere jobs c n job = (p : ℕ) (parent : Job) → IsJob jobs p parent → p < n → any_made parent.place job.inputs ≡ true → c.at_hand p ≡ true

-- none of the first so many jobs waits and is computed, with its parents at hand
abbrev pub NoneIsReady : List Job → List Mark → Course → ℕ → Type 0
NoneIsReady jobs marks c below =
    (m : ℕ) (job : Job) → m < below → IsJob jobs m job → c.waits m ≡ true → mark marks m ≡ Compute → AreParentsThere jobs c m job → ⊥

-- none of them waits and is loaded
abbrev pub NoneIsLoaded : List Job → List Mark → Course → ℕ → Type 0
NoneIsLoaded jobs marks c below = (m : ℕ) (job : Job) → m < below → IsJob jobs m job → c.waits m ≡ true → mark marks m ≡ Load → ⊥
