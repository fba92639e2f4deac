use Rattle.std.proofs.Common.{subst}
use Rattle.sqlite.specs.State.{HasCleanDisk}
use Rattle.sqlite.specs.Files.{over_files, file_state}
use Rattle.job_record.specs.Map.{KeyMap, IsRecordOf}
use Rattle.record_program.specs.Listing.{Lists}
use Rattle.record_program.proofs.listing.listed_in.Goals as goal

pub returns-in-Ok-clause-ok : goal.returns-in-Ok-clause-ok
returns-in-Ok-clause-ok g c =
    let kept = c.args.kept.conn in
    let last = c.listed-listing.new.kept.conn in
    record {
      last = last;
      was_clean = c.listed-listing.ensures.clean;
      lists =
          subst (λ answer. HasCleanDisk (file_state last) → (map : KeyMap) → IsRecordOf (file_state kept) map → Lists over_files map kept last answer)
          c.in-Ok.is c.listed-listing.ensures.lists;
    }
