-- Why a plan treats each job as it does, in words: a line for each job, with costs in milliseconds.
use Rattle.std.specs.Prelude.{ℕ, ◌==◌, ◌&&◌, nat_lt, Bool, true, false, List, ◌++◌, length, codes, Option, Some, None, unwrap_or, slice_index_or}
use Rattle.std.specs.Fmt.{decimal}
use Rattle.plan_checker.specs.declared.vertex.Vertex.{Vertex}
use Rattle.plan_checker.specs.declared.plan.Mark.{Mark}
use Rattle.plan_checker.specs.declared.plan.Mark.TheVariants.{Load, Compute, Prune}
use Rattle.plan_checker.specs.Graph.{vertex}
use Rattle.plan_checker.specs.Plan.{mark}
use Rattle.plan_words.specs.Lines.{place, texts_below}
use Rattle.plan_words.specs.Readers.{readers}
use Rattle.plan_words.specs.declared.reasons.Known.{Known}
use Rattle.plan_words.specs.declared.reasons.Known.TheVariants.{NotReusable, NotRecorded, NotArchived, Archived}

-- what is known of job i
abbrev pub known_of : List Known → ℕ → Known
known_of known i = slice_index_or known i NotRecorded

-- what is done with a job, and what that costs
abbrev pub costing : List ℕ → ℕ → List ℕ
costing what cost = what ++ codes " (" ++ decimal cost ++ codes " ms): "

-- what a job costs that could be computed; where that is less than to load it, what it reads makes the difference
abbrev pub rest_of : Bool → List ℕ
rest_of true = codes ", and needs the files that it reads\n"
rest_of false = codes "\n"

abbrev pub alternative : ℕ → Bool → List ℕ
alternative compute is_less = codes "computing it takes " ++ decimal compute ++ codes " ms" ++ rest_of is_less

abbrev pub loaded_words : Vertex → List ℕ
loaded_words job =
    let fetch = unwrap_or job.load 0 in
    costing (codes "loaded") fetch ++ alternative job.compute (nat_lt job.compute fetch)

abbrev pub why_computed : Known → List ℕ
why_computed NotReusable = codes "its tool does not allow reuse\n"
why_computed NotRecorded = codes "nothing is recorded of it\n"
why_computed NotArchived = codes "its files are not archived\n"
why_computed Archived = codes "its files are archived, but this run has no archive\n"

-- where it could be loaded, what that takes; else why it can't be
abbrev pub why_not_loaded : Option ℕ → Known → List ℕ
why_not_loaded (Some fetch) known = codes "fetching its files takes " ++ decimal fetch ++ codes " ms\n"
why_not_loaded None known = why_computed known

-- with the lines on what is near to it
abbrev pub computed_words : Vertex → Known → (near : List ℕ) → List ℕ
computed_words job known near = costing (codes "computed") job.compute ++ why_not_loaded job.load known ++ near

-- how many of the jobs that read its files are loaded, and how many are not needed
abbrev pub has_no_readers : (loaded pruned : ℕ) → Bool
has_no_readers loaded pruned = loaded == 0 && pruned == 0

abbrev pub readers_words : (loaded pruned : ℕ) → Bool → List ℕ
readers_words loaded pruned true = codes "no job reads them\n"
readers_words loaded pruned false =
    codes "each job that reads them is loaded (" ++ decimal loaded ++ codes ") or not needed (" ++ decimal pruned ++ codes ")\n"

abbrev pub pruned_words : (loaded pruned : ℕ) → List ℕ
pruned_words loaded pruned =
    codes "not needed: no output has its files, and " ++ readers_words loaded pruned (has_no_readers loaded pruned)

abbrev pub reason : Vertex → Mark → Known → (near : List ℕ) → ℕ → ℕ → List ℕ
reason job Load known near loaded pruned = loaded_words job
reason job Compute known near loaded pruned = computed_words job known near
reason job Prune known near loaded pruned = pruned_words loaded pruned

-- `NUMBER PLACE is `, of job i
abbrev pub job_start : List (List ℕ) → ℕ → List ℕ
job_start places i = decimal i ++ codes " " ++ place places i ++ codes " is "

abbrev pub reason_line : List Vertex → List Mark → List Known → (near places : List (List ℕ)) → ℕ → List ℕ
reason_line graph marks known near places i =
    job_start places i
    ++ reason (vertex graph i) (mark marks i) (known_of known i) (place near i) (readers graph marks Load i) (readers graph marks Prune i)

abbrev pub reasons : List Vertex → List Mark → List Known → (near places : List (List ℕ)) → List ℕ
reasons graph marks known near places = texts_below (length graph) (reason_line graph marks known near places)
