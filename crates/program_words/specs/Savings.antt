-- What a run says at its end: how many jobs it loaded, computed and did not need, how long it took, what it saved, and how many files it delivered.
use Rattle.std.specs.Prelude.{ℕ, ◌+◌, ◌-◌, ◌/◌, ◌%◌, ◌==◌, nat_lt, List, ◌++◌, Option, Some, None, codes, decimal, if◌then◌else◌}
use Rattle.program_words.specs.declared.savings.Savings.{Savings}

-- what makes three digits of a number below 1000
abbrev pub zeros_before : ℕ → List ℕ
zeros_before n = if nat_lt n 10 then codes "00" else if nat_lt n 100 then codes "0" else codes ""

abbrev pub with_comma : ℕ → List ℕ
with_comma n = decimal (n / 1000) ++ codes "," ++ zeros_before (n % 1000) ++ decimal (n % 1000)

-- a number below a million, with a comma before its last three digits; a run has at most 16,384 jobs
abbrev pub grouped : ℕ → List ℕ
grouped n = if nat_lt n 1000 then decimal n else with_comma n

abbrev pub seconds_words : (millis : ℕ) → List ℕ
seconds_words millis = decimal (millis / 1000) ++ codes "." ++ decimal (millis % 1000 / 100) ++ codes " s"

abbrev pub minutes_words : (millis : ℕ) → List ℕ
minutes_words millis = decimal (millis / 60000) ++ codes " minutes"

abbrev pub hours_words : (millis : ℕ) → List ℕ
hours_words millis = decimal (millis / 3600000) ++ codes " hours"

-- tenths of a second below two minutes, minutes below two hours, else hours
abbrev pub time_words : (millis : ℕ) → List ℕ
time_words millis =
    if nat_lt millis 120000 then seconds_words millis else if nat_lt millis 7200000 then minutes_words millis else hours_words millis

abbrev pub gain_words : (millis : ℕ) → List ℕ
gain_words millis = if millis == 0 then codes "nothing saved" else codes "about " ++ time_words millis ++ codes " saved"

abbrev pub jobs_words : ℕ → List ℕ
jobs_words n = if n == 1 then codes "1 job" else grouped n ++ codes " jobs"

-- those that were neither loaded nor computed
abbrev pub not_needed : Savings → ℕ
not_needed savings = savings.jobs - (savings.loaded + savings.computed)

abbrev pub many_files : ℕ → List ℕ
many_files n = grouped n ++ codes " files delivered"

abbrev pub files_words : ℕ → List ℕ
files_words n = if n == 1 then codes "1 file delivered" else many_files n

-- `TIME, about TIME saved; FILES files delivered`
abbrev pub effect : (time gain files : List ℕ) → List ℕ
effect time gain files = time ++ codes ", " ++ gain ++ codes "; " ++ files

abbrev pub effect_words : Savings → List ℕ
effect_words savings = effect (time_words savings.millis) (gain_words savings.gained) (files_words savings.delivered)

abbrev pub only_computed : ℕ → List ℕ
only_computed n = grouped n ++ codes " computed"

abbrev pub computed_and_kept : (computed kept : ℕ) → List ℕ
computed_and_kept computed kept = only_computed computed ++ codes ", " ++ grouped kept ++ codes " kept"

-- how many were computed, and how many of them were kept if some couldn't be
abbrev pub computed_in : ℕ → Option ℕ → List ℕ
computed_in computed None = only_computed computed
computed_in computed (Some kept) = computed_and_kept computed kept

abbrev pub computed_words : Savings → List ℕ
computed_words savings = computed_in savings.computed savings.kept

abbrev pub line : (jobs loaded computed rest effect : List ℕ) → List ℕ
line jobs loaded computed rest effect =
    jobs ++ codes ": " ++ loaded ++ codes " loaded, " ++ computed ++ codes ", " ++ rest ++ codes " not needed; " ++ effect

-- `JOBS jobs: LOADED loaded, COMPUTED computed, REST not needed; EFFECT`
abbrev pub reuse_line : Savings → List ℕ
reuse_line savings =
    line (jobs_words savings.jobs) (grouped savings.loaded) (computed_words savings) (grouped (not_needed savings)) (effect_words savings)

-- `JOBS jobs: COMPUTED computed; TIME; FILES files delivered`
abbrev pub plain_line : Savings → List ℕ
plain_line savings =
    jobs_words savings.jobs ++ codes ": " ++ computed_words savings ++ codes "; " ++ time_words savings.millis ++ codes "; "
    ++ files_words savings.delivered

-- where no job could have been loaded nothing is said of loads, and of what they saved
abbrev pub savings_line : Savings → List ℕ
savings_line savings = if savings.could_load then reuse_line savings else plain_line savings
