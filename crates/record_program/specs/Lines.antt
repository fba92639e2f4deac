-- The line that a row is shown as, and the keys that have a sum.
use Rattle.std.specs.Prelude.{ℕ, ◌-◌, ◌^◌, min, Bool, if◌then◌else◌, List, ◌++◌, codes, decimal, bytes_eq, sum_by, filter}
use Rattle.hex.specs.Hex.{encode_lower}
use Rattle.sha1.specs.Sha1.{sha1}
use Rattle.staging.specs.declared.found.Found.{Found}
use Rattle.job_rows.specs.declared.row.Row.{Row}

-- the SHA-1 of a key in lower case digits, which names its folder in the archive
abbrev pub key_sum : List ℕ → List ℕ
key_sum key = encode_lower (sha1 key)

-- the bytes of the files, held to the greatest number of 64 bits
abbrev pub bytes_of : List Found → ℕ
bytes_of files = min (sum_by (λ f. f.size) files) (2 ^ 64 - 1)

abbrev pub spaced : ℕ → List ℕ
spaced number = codes " " ++ decimal number

abbrev pub kept_word : Bool → List ℕ
kept_word archived = if archived then codes " yes" else codes " no"

-- `HEX COST BYTES yes`, or `no` where no archive is kept
abbrev pub facts_of : Row → List ℕ
facts_of row = key_sum row.key ++ spaced row.cost ++ spaced (bytes_of row.files) ++ kept_word row.archived

abbrev pub line_of : Row → List ℕ
line_of row = facts_of row ++ codes "\n"

-- the key has a SHA-1 of this text
abbrev pub has_sum : List ℕ → List ℕ → Bool
has_sum sum key = bytes_eq (key_sum key) sum

-- those of the keys that have it
abbrev pub keys_with : List ℕ → List (List ℕ) → List (List ℕ)
keys_with sum = filter (has_sum sum)
