-- Whether a row is sound is told by tests.
use Rattle.std.proofs.Common.{◌≡◌, ◌⊎◌, inl, inr, Bool, true, false, ◌&&◌, refl}
use Rattle.std.specs.Prelude.{is_some, map}
use Rattle.std.specs.List.{list_all}
use Rattle.plain_data.specs.ByName.{IsByName, map_values, value_at}
use Rattle.cwl_process.specs.declared.tool.Tool.{Tool}
use Rattle.collected_outputs.specs.Checked.{every}
use Rattle.collected_outputs.specs.Listing.{listing_of}
use Rattle.collected_outputs.specs.Matched.{Name}
use Rattle.job_rows.specs.declared.row.Row.{Row}
use Rattle.job_reuse.specs.Sound.{IsSound, all_stand}
use Rattle.job_reuse.specs.inner.Declared.{is_declared}
use Rattle.job_reuse.proofs.Declared.{declared_by}
use Rattle.job_reuse.proofs.Sounding.{every_value, value_every}

yes_and_no : (b : Bool) → b ≡ true → b ≡ false → ⊥
yes_and_no true is is_not = cc
yes_and_no false is is_not = cc

module _ (tool : Tool) (row : Row) (order : IsByName row.outputs) where
  abbrev declares : Bool
  declares = list_all (is_declared tool.outputs) row.outputs && list_all (λ output. is_some (value_at output.0 row.outputs)) tool.outputs

  abbrev stands : Bool
  stands = every (map (λ (e : Name × Bool). e.1) (map_values (all_stand (listing_of row.files)) row.outputs))

  by_tests : (declared there : Bool) → declares ≡ declared → stands ≡ there → IsSound tool row ⊎ (IsSound tool row → ⊥)
  by_tests true true declared there =
      inl (record { declared = (declared_by tool.outputs row.outputs _ _ refl refl order).0 declared; there = every_value (all_stand (listing_of row.files)) row.outputs there })
  by_tests true false declared there = inr (λ sound. yes_and_no stands (value_every (all_stand (listing_of row.files)) row.outputs sound.there) there)
  by_tests false stand declared there = inr (λ sound. yes_and_no declares ((declared_by tool.outputs row.outputs _ _ refl refl order).1 sound.declared) declared)

  pub sound_or_not : IsSound tool row ⊎ (IsSound tool row → ⊥)
  sound_or_not = by_tests declares stands refl refl
