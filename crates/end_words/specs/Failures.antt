-- Which jobs of a run are said to have failed, and the lines between what is said of them.
use Rattle.std.specs.Prelude.{ℕ, ℤ, Bool, true, false, ◌==◌, ◌&&◌, not, List, ◌++◌, Option, Some, None, codes, decimal, filter, map}
use Rattle.plain_data.specs.ByName.{value_at}
use Rattle.cwl_process.specs.declared.tool.Tool.{Tool}
use Rattle.document_links.specs.declared.process.Process.{Process}
use Rattle.proc_host.specs.ExitClass.{class_of}
use Rattle.proc_host.specs.declared.child.ExitClass.{ExitClass}
use Rattle.proc_host.specs.declared.child.ExitClass.TheVariants.{Success, Temporary, Permanent}
use Rattle.run_facts.specs.ToolAt.{tool_at}
use Rattle.end_words.specs.declared.failures.Ended.{Ended}

-- the ticket of the last child of each job, under its place
abbrev pub Last : Type 0
Last = List (List ℕ × ℕ)

abbrev pub is_failure : ExitClass → Bool
is_failure Success = false
is_failure Temporary = true
is_failure Permanent = true

abbrev pub fails_by : Option ℤ → Option Tool → Bool
fails_by code (Some tool) = is_failure (class_of tool.exit_codes code)
fails_by code None = false

-- the end is a failure by the exit codes of the job's tool
abbrev pub fails : Process → Ended → Bool
fails process ended = fails_by ended.code (tool_at process ended.job)

abbrev pub is_ticket : ℕ → Option ℕ → Bool
is_ticket ticket (Some last) = last == ticket
is_ticket ticket None = false

-- the child was not started again
abbrev pub is_last : Last → Ended → Bool
is_last last ended = is_ticket ended.ticket (value_at ended.place last)

abbrev pub is_failed : Process → Last → Ended → Bool
is_failed process last ended = is_last last ended && fails process ended

-- the jobs whose command failed and was not started again, and no others, in the order of their ends
abbrev pub failed_jobs : Process → Last → List Ended → List ℕ
failed_jobs process last ends = map (λ ended. ended.ticket) (filter (λ ended. is_failed process last ended) ends)

-- another ticket than that of the job that the end of the run names
abbrev pub is_other : Option ℕ → ℕ → Bool
is_other named ticket = not (is_ticket ticket named)

abbrev pub failed_too : (place : List ℕ) → List ℕ
failed_too place = codes "the command of " ++ place ++ codes " failed too"

abbrev pub more_words : ℕ → List ℕ
more_words more = codes ".. and " ++ decimal more ++ codes " more"
