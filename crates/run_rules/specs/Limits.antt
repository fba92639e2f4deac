-- What a run's options may be.
use Rattle.std.specs.Prelude.{◌≤◌, ◌^◌}
use Rattle.run_rules.specs.declared.setting.Options.{Options}

pub record IsWithinLimits (options : Options) : Type 0 where
  pub least_slots : 1 ≤ options.slots
  pub slots : options.slots ≤ 64
  pub retries : options.retries ≤ 10
  pub base : options.base ≤ 10 ^ 12
  pub least_rate : 1 ≤ options.rate
  pub rate : options.rate ≤ 10 ^ 12
