-- Why a run computes a job, in place of loading the files that an earlier one kept.
use Rattle.std.specs.Prelude.{ℕ, Bool, List, codes, Option, Some, None, if◌then◌else◌}
use Rattle.program_words.specs.declared.reuse.Recalled.{Recalled}
use Rattle.program_words.specs.declared.reuse.Why.{Why}
use Rattle.program_words.specs.declared.reuse.Why.TheVariants.{NotReusable, NotRecorded, NotArchived, NoArchive, Altered, Dearer}

-- a row that says that its files are archived, where the run keeps an archive, and whose files were not found altered in this run, can be
-- loaded: the plan computes the job since that costs less
abbrev pub reason_by_row : (is_archived keeps is_altered : Bool) → Why
reason_by_row is_archived keeps is_altered =
    if is_archived then (if keeps then (if is_altered then Altered else Dearer) else NoArchive) else NotArchived

abbrev pub reason_of : Recalled → (keeps is_altered : Bool) → Why
reason_of recalled keeps is_altered = if recalled.has_row then reason_by_row recalled.is_archived keeps is_altered else NotRecorded

-- the record is asked for each job whose tool allows reuse
abbrev pub reason_for : Option Recalled → (keeps is_altered : Bool) → Why
reason_for None keeps is_altered = NotReusable
reason_for (Some recalled) keeps is_altered = reason_of recalled keeps is_altered

abbrev pub why_words : Why → List ℕ
why_words NotReusable = codes "its tool does not allow reuse"
why_words NotRecorded = codes "nothing is recorded of it"
why_words NotArchived = codes "its files are not archived"
why_words NoArchive = codes "its files are archived, but this run has no archive"
why_words Altered = codes "its archived files are not what they were"
why_words Dearer = codes "computing it costs less than fetching its files"
