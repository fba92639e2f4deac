-- The line of `--progress`.
use Rattle.std.specs.Prelude.{ℕ, ◌+◌, ◌-◌, nat_le, List, ◌∷◌, ◌++◌, Option, Some, None, codes, chars, decimal, drop, encode_utf8, flat_map, length, take, if◌then◌else◌}
use Rattle.program_words.specs.declared.progress.Counts.{Counts}
use Rattle.program_words.specs.declared.progress.Longest.{Longest}

-- takes a terminal back to the beginning of its line, and empties that: a carriage return, and `ESC [ K` (ECMA-48, EL)
abbrev pub erase : List ℕ
erase = 13 ∷ 27 ∷ codes "[K"

-- those that are neither done nor running; none where a job that is started again counts as both
abbrev pub left_of : Counts → ℕ
left_of counts = counts.known - (counts.done + counts.running)

-- `DONE of KNOWN jobs done, RUNNING running, LEFT left`
abbrev pub counted : Counts → List ℕ
counted counts =
    decimal counts.done ++ codes " of " ++ decimal counts.known ++ codes " jobs done, " ++ decimal counts.running ++ codes " running, "
    ++ decimal (left_of counts) ++ codes " left"

-- these characters as text
abbrev pub text_of : List ℕ → List ℕ
text_of = flat_map encode_utf8

-- the first nine and the last nine characters
abbrev pub ends_of : List ℕ → List ℕ
ends_of cs = text_of (take 9 cs) ++ codes "..." ++ text_of (drop (length cs - 9) cs)

-- at most 21 characters
abbrev pub in_short : List ℕ → List ℕ
in_short text = if nat_le (length (chars text)) 21 then text else ends_of (chars text)

-- and `; PLACE SECONDS s`
abbrev pub with_longest : Counts → Longest → List ℕ
with_longest counts longest = counted counts ++ codes "; " ++ in_short longest.place.now ++ codes " " ++ decimal longest.seconds ++ codes " s"

-- how many jobs there are of each kind, and where one runs the one that runs longest
abbrev pub progress_line : Counts → Option Longest → List ℕ
progress_line counts None = counted counts
progress_line counts (Some longest) = with_longest counts longest
