-- A piece of a copy that is summed on its way.
use Rattle.std.specs.Prelude.{◌≡◌, ℕ, ◌++◌, List, Option, length}
use Rattle.std.specs.Io.KnownBytes.{Appends, Consumes, IsAtEnd}
use Rattle.sha1.specs.Sha1.{Holds}
use Rattle.sha1.specs.declared.Sha1.{Sha1}

-- so many bytes were read, written and put behind what was hashed; none only at the end
pub record IsPiece (before after held holds : Option (List ℕ)) (hasher hashed : Sha1) (count : ℕ) : Type 0 where
  pub piece : List ℕ
  pub counted : length piece ≡ count
  pub read : Consumes before after piece
  pub written : Appends held holds piece
  pub hashes : (message : List ℕ) → Holds hasher message → Holds hashed (message ++ piece)
  pub ends : count ≡ 0 → IsAtEnd after
