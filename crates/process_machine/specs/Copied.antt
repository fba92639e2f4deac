-- What a copy that is summed on its way has read and written.
use Rattle.std.specs.Prelude.{ℕ, List, Option}
use Rattle.std.specs.Io.KnownBytes.{Appends, Consumes, IsAtEnd}
use Rattle.file_values.specs.Sum.{IsSumOf}
use Rattle.file_values.specs.declared.sum.FileSum.{FileSum}

-- all that was left to read was written behind what was held, and this is its sum
pub record IsCopied (before after held holds : Option (List ℕ)) (found : FileSum) : Type 0 where
  pub bytes : List ℕ
  pub read : Consumes before after bytes
  pub to_end : IsAtEnd after
  pub written : Appends held holds bytes
  pub sum : IsSumOf bytes found
