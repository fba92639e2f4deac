-- How many bytes the archives of a record have together, as far as that was counted.
use Rattle.std.specs.Prelude.{◌≡◌, ℕ, List, Option, IfSome}
use Rattle.job_rows.specs.declared.archive.Archive.{Archive}
use Rattle.job_rows.specs.Map.{total_bytes}
use Rattle.job_record.specs.declared.changes.Space.{Space}
use Rattle.job_record.specs.Map.{KeyMap}

abbrev pub IsCount : Option ℕ → List Archive → Type 0
IsCount counted archives = IfSome counted (λ bytes. bytes ≡ total_bytes archives)

-- the map has the budget of the record, and as many bytes as were counted
pub record FitsSpace (space : Space) (map : KeyMap) : Type 0 where
  pub budget_is : map.budget ≡ space.budget
  pub count : IsCount space.counted map.archives
