-- What a budget lets go of an open record is gone in its file.
use Rattle.std.proofs.Common.{List, [], ℕ, Some, None, refl, sym, subst}
use Rattle.sqlite_disk.specs.declared.Disk.{Ghosts}
use Rattle.sqlite_disk.specs.declared.Files.{Files}
use Rattle.sqlite_store.specs.declared.store.FileStore.{FileStore}
use Rattle.sqlite.specs.State.{HasCleanDisk}
use Rattle.sqlite.specs.Held.{Held}
use Rattle.sqlite.specs.Files.{over_files, file_state}
use Rattle.job_record.specs.declared.changes.Space.{Space}
use Rattle.job_record.specs.Counted.{FitsSpace}
use Rattle.job_record.specs.Map.{KeyMap, IsRecordOf}
use Rattle.record_program.specs.declared.ending.Ending.{Ending}
use Rattle.record_program.specs.Trimming.{TrimsFirst}
use Rattle.record_program.specs.Closing.{TrimsForGood, ClosesAs}

module _ {D : Type 0} (g : Ghosts D) (budget : ℕ) (space : Space) (old last : Held (FileStore D g)) (before after : Ending) (lost : List (List ℕ))
    (was_clean : HasCleanDisk (file_state last) → HasCleanDisk (file_state old))
    (trims : HasCleanDisk (file_state last) → (map : KeyMap) → FitsSpace space map → IsRecordOf (file_state old) map → TrimsFirst over_files map last budget before lost) where
  pub trims_for_good : (files : Files D) → ClosesAs g last before after (Some files) → TrimsForGood g budget space old after lost (Some files)
  trims_for_good files closes =
      λ clean. let copied = closes.1 clean in (was_clean copied.was_clean, λ map fits it. (last, subst (λ e. TrimsFirst over_files map last budget e lost) (sym closes.0) (trims copied.was_clean map fits it), copied))

  pub trims_unclosed : ClosesAs g last before after None → TrimsForGood g budget space old after [] None
  trims_unclosed closes = (closes, refl)
