-- How many processors a process may use: those in the line `Cpus_allowed_list:` of its status (proc_pid_status(5)) that are in the list of
-- those online too. Both have the "List format" of cpuset(7): numbers, and ranges of them, with commas between.
use Rattle.std.specs.Prelude.{ℕ, zero, suc, Bool, false, ◌&&◌, ◌+◌, ◌^◌, ◌==◌, List, [], Option, Some, None, codes, drop, eqb, find, if◌then◌else◌, length, max, min, nat_le, nat_lt, option_map, unwrap_or}
use Rattle.std.specs.List.{after_first, before_first, list_any, position_or_len, slice_split, starts_with}
use Rattle.std.specs.Str.{all_ascii_digits, trim}
use Rattle.std.specs.Str.Lines.{lines}
use Rattle.std.specs.Str.Parse.{digits_value, without_leading_plus}

-- what stands behind the label in the first line that begins with it, or nothing
unfoldable pub allowed_in : List ℕ → List ℕ
allowed_in status =
    let label = codes "Cpus_allowed_list:" in
    unwrap_or (option_map (drop (length label)) (find (λ line. starts_with eqb line label) (lines status))) []

-- the number that digits write, if it is below 2 ^ 64; a plus may stand before them
unfoldable pub number_in : List ℕ → Option ℕ
number_in text =
    let digits = without_leading_plus text in
    if nat_lt 0 (length digits) && all_ascii_digits digits && nat_lt (digits_value 10 digits) (2 ^ 64) then Some (digits_value 10 digits) else None

-- from the first number to the last
unfoldable pub is_between : Option ℕ → Option ℕ → (number : ℕ) → Bool
is_between None last number = false
is_between (Some first) None number = false
is_between (Some first) (Some last) number = nat_le first number && nat_le number last

-- a part is one number, or two with a dash between them
unfoldable pub part_has : List ℕ → (number : ℕ) → Bool
part_has part =
    let dash : ℕ → Bool = λ b. b == 45 in
    let last = if nat_lt (position_or_len dash part) (length part) then after_first dash part else part in
    is_between (number_in (before_first dash part)) (number_in last)

unfoldable pub list_has : List ℕ → (number : ℕ) → Bool
list_has list number = list_any (λ part. part_has part number) (slice_split (λ b. b == 44) (trim list))

-- how many of the first numbers pass a test
unfoldable pub count_below : (ℕ → Bool) → ℕ → ℕ
count_below test zero = 0
count_below test (suc n) = count_below test n + (if test n then 1 else 0)

-- of the numbers below 4,096; at least 1, and at most 64
abbrev pub processors_in : (status online : List ℕ) → ℕ
processors_in status online =
    max (min (count_below (λ number. list_has (allowed_in status) number && list_has online number) 4096) 64) 1
