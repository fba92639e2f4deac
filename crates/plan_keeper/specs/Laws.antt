-- What holds of all kept plans; the law is the contract of a function in src/laws.rt.
use Rattle.plan_checker.specs.Least.{IsLeast}
use Rattle.plan_checker.specs.Certificate.{IsCertificate}
use Rattle.plan_keeper.specs.declared.planned.Planned.{Planned}
use Rattle.plan_keeper.specs.Kept.{IsKeptApart}

-- a plan that is kept of vertices that stand apart is the Least plan, and its charges certify it
abbrev pub KeptIsPlanned : Type 0
KeptIsPlanned =
    (planned : Planned) → IsKeptApart planned →
    IsLeast planned.graph planned.plan.marks × IsCertificate planned.graph planned.plan.marks planned.charges
