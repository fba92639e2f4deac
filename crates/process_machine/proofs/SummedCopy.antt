-- A copy in the making, that is summed on its way.
use Rattle.std.proofs.Common.{◌≡◌, ℕ, ◌+◌, List, [], ◌++◌, length, Option, ap, ◌∙◌, refl, length-append, arith}
use Rattle.std.specs.Io.KnownBytes.{Appends, Consumes}
use Rattle.std.proofs.KnownBytes.{Appends-nil, Appends-trans, Consumes-nil, Consumes-trans}
use Rattle.sha1.specs.Sha1.{Holds}
use Rattle.sha1.specs.declared.Sha1.{Sha1}
use Rattle.file_values.specs.Sum.{SumsHeld}
use Rattle.file_values.specs.declared.sum.FileSum.{FileSum}
use Rattle.process_machine.specs.Copied.{IsCopied}
use Rattle.process_machine.specs.inner.Piece.{IsPiece}

-- what was read so far was written, and the hasher holds it
pub record IsSoFar (before after held holds : Option (List ℕ)) (hasher : Sha1) (size : ℕ) : Type 0 where
  pub bytes : List ℕ
  pub counted : length bytes ≡ size
  pub read : Consumes before after bytes
  pub written : Appends held holds bytes
  pub hashed : Holds hasher bytes

pub so_far_none : (a h : Option (List ℕ)) (hasher : Sha1) → Holds hasher [] → IsSoFar a a h h hasher 0
so_far_none a h hasher empty = record { bytes = []; counted = refl; read = Consumes-nil a; written = Appends-nil h; hashed = empty }

pub so_far_more : (a b c g h i : Option (List ℕ)) (hasher hashed : Sha1) (size count : ℕ) → IsSoFar a b g h hasher size → IsPiece b c h i hasher hashed count →
    IsSoFar a c g i hashed (size + count)
so_far_more a b c g h i hasher hashed size count s p = record {
  bytes = s.bytes ++ p.piece;
  counted = length-append s.bytes p.piece ∙ ap (λ n. n + length p.piece) s.counted ∙ ap (λ n. size + n) p.counted;
  read = Consumes-trans a b c s.bytes p.piece s.read p.read;
  written = Appends-trans g h i s.bytes p.piece s.written p.written;
  hashed = p.hashes s.bytes s.hashed;
}

-- the piece that was nothing ends it
pub copied_all : (a b c g h i : Option (List ℕ)) (hasher hashed : Sha1) (size count : ℕ) (found : FileSum) → IsSoFar a b g h hasher size →
    IsPiece b c h i hasher hashed count → count ≡ 0 → SumsHeld hashed size found → IsCopied a c g i found
copied_all a b c g h i hasher hashed size count found s p none sums =
    let all = so_far_more a b c g h i hasher hashed size count s p in
    let same : size + count ≡ size = omega arith in record {
      bytes = all.bytes;
      read = all.read;
      to_end = p.ends none;
      written = all.written;
      sum = sums all.bytes all.hashed (all.counted ∙ same);
    }
