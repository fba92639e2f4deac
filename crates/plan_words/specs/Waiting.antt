-- The lines on the steps that wait for jobs of a plan.
use Rattle.std.specs.Prelude.{ℕ, ◌==◌, nat_lt, List, [], ◌∷◌, ◌++◌, length, take, codes, if◌then◌else◌}
use Rattle.std.specs.Fmt.{decimal}
use Rattle.plan_words.specs.Lines.{place, texts_below}
use Rattle.plan_words.specs.declared.waiting.TheConstants.{MOST_NAMED}

abbrev pub count_words : ℕ → List ℕ
count_words count = if count == 1 then codes "1 step waits for these" else decimal count ++ codes " steps wait for these"

-- how many are named
abbrev pub few : ℕ → ℕ
few count = if nat_lt MOST_NAMED count then MOST_NAMED else count

abbrev pub separator : ℕ → List ℕ
separator i = if i == 0 then codes ": " else codes ", "

abbrev pub name_words : (names : List (List ℕ)) → ℕ → List ℕ
name_words names i = separator i ++ place names i

abbrev pub end_words : ℕ → List ℕ
end_words count = if nat_lt MOST_NAMED count then codes ", ..\n" else codes "\n"

-- `2 steps wait for these: sort, merge`
abbrev pub line_of : List (List ℕ) → List ℕ
line_of names =
    let count = length names in
    count_words count ++ texts_below (few count) (name_words names) ++ end_words count

-- nothing if none waits
abbrev pub waiting_line : List (List ℕ) → List ℕ
waiting_line [] = []
waiting_line (name ∷ names) = line_of (name ∷ names)

-- those of the steps that are named
abbrev pub first_named : List (List ℕ) → List (List ℕ)
first_named names = take (few (length names)) names

abbrev pub one_words : (took : ℕ) → List ℕ
one_words took = codes "1 earlier job of this tool took " ++ decimal took ++ codes " ms\n"

abbrev pub jobs_words : ℕ → List ℕ
jobs_words jobs = decimal jobs ++ codes " earlier jobs of this tool took "

abbrev pub mean_words : ℕ → List ℕ
mean_words mean = decimal mean ++ codes " ms on average\n"

abbrev pub average_words : (jobs mean : ℕ) → List ℕ
average_words jobs mean = jobs_words jobs ++ mean_words mean

abbrev pub took_words : (jobs mean : ℕ) → List ℕ
took_words jobs mean = if jobs == 1 then one_words mean else average_words jobs mean

abbrev pub step_words : (name : List ℕ) → List ℕ
step_words name = codes "  " ++ name ++ codes ": "

-- `  sort: 3 earlier jobs of this tool took 1200 ms on average`
abbrev pub earlier_line : (name : List ℕ) (jobs mean : ℕ) → List ℕ
earlier_line name jobs mean = step_words name ++ took_words jobs mean
