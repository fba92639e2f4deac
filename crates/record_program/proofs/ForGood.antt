-- What is forgotten in an open record is forgotten in its file.
use Rattle.std.proofs.Common.{List, ℕ, Option, Some, None, sym, subst}
use Rattle.sqlite_disk.specs.declared.Disk.{Ghosts}
use Rattle.sqlite_disk.specs.declared.Files.{Files}
use Rattle.sqlite_store.specs.declared.store.FileStore.{FileStore}
use Rattle.sqlite.specs.State.{HasCleanDisk}
use Rattle.sqlite.specs.Held.{Held}
use Rattle.sqlite.specs.Files.{over_files, file_state}
use Rattle.job_record.specs.declared.changes.Space.{Space}
use Rattle.job_record.specs.Counted.{FitsSpace}
use Rattle.job_record.specs.Map.{KeyMap, IsRecordOf}
use Rattle.record_program.specs.declared.ending.Ending.{Ending}
use Rattle.record_program.specs.Forgetting.{ForgetsFirst}
use Rattle.record_program.specs.Closing.{ForgetsForGood, ClosesAs}

pub for_good : {D : Type 0} (g : Ghosts D) (sum : List ℕ) (space : Space) (old last : Held (FileStore D g)) (before after : Ending) (files : Option (Files D))
    → (HasCleanDisk (file_state last) → HasCleanDisk (file_state old)) → (HasCleanDisk (file_state last) → (map : KeyMap) → FitsSpace space map → IsRecordOf (file_state old) map → ForgetsFirst over_files map last sum before)
    → ClosesAs g last before after files → ForgetsForGood g sum space old after files
for_good g sum space old last before after (Some files) was_clean forgets closes =
    λ clean. let copied = closes.1 clean in (was_clean copied.was_clean, λ map fits it. (last, subst (λ e. ForgetsFirst over_files map last sum e) (sym closes.0) (forgets copied.was_clean map fits it), copied))
for_good g sum space old last before after None was_clean forgets closes = closes
