-- The sum of what a reader gives (CWL v1.2, "File": checksum, size; FIPS 180-4).
use Rattle.std.specs.Prelude.{◌≡◌, ℕ, ◌-◌, ◌^◌, ◌≤◌, ◌++◌, Bool, true, ◌⊎◌, List, length, Option}
use Rattle.std.specs.Io.KnownBytes.{Consumes, IsAtEnd}
use Rattle.sha1.specs.Sha1.{sha1, Holds}
use Rattle.sha1.specs.declared.Sha1.{Sha1}
use Rattle.hex.specs.Hex.{encode_lower}
use Rattle.file_values.specs.declared.sum.FileSum.{FileSum}
use Rattle.file_values.specs.declared.refusal.FileError.{FileError}
use Rattle.file_values.specs.declared.refusal.FileError.TheVariants.{Refused, OutOfMemory}
use Rattle.file_values.specs.declared.refusal.FileFault.TheVariants.{Read}

-- SHA-1 in lower case digits, and the number of bytes
pub record IsSumOf (bytes : List ℕ) (found : FileSum) : Type 0 where
  pub sum : found.sum ≡ encode_lower (sha1 bytes)
  pub size : found.size ≡ length bytes

-- the sum of what a hasher holds, where that are so many bytes
abbrev pub SumsHeld : Sha1 → ℕ → FileSum → Type 0
SumsHeld hasher size found = (bytes : List ℕ) → Holds hasher bytes → length bytes ≡ size → IsSumOf bytes found

-- What was left to read before and after: everything was read, and this is its sum
abbrev pub SumsAll : Option (List ℕ) → Option (List ℕ) → FileSum → Type 0
SumsAll before after sum = (bytes : List ℕ) × Consumes before after bytes × IsAtEnd after × IsSumOf bytes sum

-- SHA-1 takes no message of 2^64 bits
abbrev pub most_bytes : ℕ
most_bytes = 2 ^ 61 - 1

-- as many bytes were read as SHA-1 takes
abbrev pub ReadsMost : Option (List ℕ) → Option (List ℕ) → Type 0
ReadsMost before after = (bytes : List ℕ) × Consumes before after bytes × (length bytes ≡ most_bytes)

-- why there is no sum: the reader failed, or it gave as many bytes as SHA-1 takes; out of memory may come at any time
abbrev pub SumRefuses : Option (List ℕ) → Option (List ℕ) → Bool → FileError → Type 0
SumRefuses before after failed e = (e ≡ OutOfMemory) ⊎ ((e ≡ Refused Read) × ((failed ≡ true) ⊎ ReadsMost before after))

-- a piece of this many bytes, at most as many as there is room for, was read and put behind what was hashed; none only at the end
pub record AddsPiece (before after : Option (List ℕ)) (hasher hashed : Sha1) (room count : ℕ) : Type 0 where
  pub piece : List ℕ
  pub counted : length piece ≡ count
  pub fits : count ≤ room
  pub consumed : Consumes before after piece
  pub hashes : (message : List ℕ) → Holds hasher message → Holds hashed (message ++ piece)
  pub ends : count ≡ 0 → IsAtEnd after
