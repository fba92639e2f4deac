-- The lines of a plan: what it costs, and what is done with each job.
use Rattle.std.specs.Prelude.{ℕ, zero, suc, List, [], ◌∷◌, ◌++◌, length, codes, slice_index_or}
use Rattle.std.specs.Fmt.{decimal}
use Rattle.plan_checker.specs.declared.plan.Mark.{Mark}
use Rattle.plan_checker.specs.Format.{letter}
use Rattle.plan_checker.specs.Plan.{mark}

-- the texts of the numbers below n, one after another
abbrev pub texts_below : ℕ → (ℕ → List ℕ) → List ℕ
texts_below zero text = []
texts_below (suc n) text = texts_below n text ++ text n

-- the place of job i, as it is written
abbrev pub place : List (List ℕ) → ℕ → List ℕ
place places i = slice_index_or places i []

-- `cost N`
abbrev pub cost_line : ℕ → List ℕ
cost_line cost = codes "cost " ++ decimal cost ++ codes "\n"

-- `NUMBER MARK PLACE`, of job i
abbrev pub job_line : List Mark → List (List ℕ) → ℕ → List ℕ
job_line marks places i =
    decimal i ++ codes " " ++ letter (mark marks i) ∷ codes " " ++ place places i ++ codes "\n"

-- what the plan costs, and a line for each job
abbrev pub plan_lines : ℕ → List Mark → List (List ℕ) → List ℕ
plan_lines cost marks places = cost_line cost ++ texts_below (length marks) (job_line marks places)
