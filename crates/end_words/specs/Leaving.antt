-- Where a run leaves its work folder.
use Rattle.std.specs.Prelude.{ℕ, List, Bool, true, false, ◌&&◌, ◌||◌, Option, Some, None, if◌then◌else◌}
use Rattle.proc_host.specs.declared.call.HostFault.TheVariants.{Deliver}
use Rattle.program_words.specs.RunWords.{RunWish}
use Rattle.end_words.specs.declared.exit.Exit.{Exit}
use Rattle.end_words.specs.declared.exit.Exit.TheVariants.{Output, Fault}
use Rattle.end_words.specs.declared.exit.Fault.TheVariants.{Host}

abbrev pub is_failure : Exit → Bool
is_failure (Output line) = false
is_failure exit = true

-- results could not be delivered
abbrev pub is_undelivered : Exit → Bool
is_undelivered (Fault (Host Deliver name)) = true
is_undelivered exit = false

-- by `--keep` after any end, by `--keep-failed` after a failure, and without a word where results could not be delivered
abbrev pub stays : RunWish → Exit → Bool
stays words exit = words.keep || (words.keep_failed && is_failure exit) || is_undelivered exit

-- the work folder, where it stays
abbrev pub left_of : RunWish → Exit → (work : List ℕ) → Option (List ℕ)
left_of words exit work = if stays words exit then Some work else None
