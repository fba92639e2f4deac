-- A sum in the making.
use Rattle.std.proofs.Common.{◌≡◌, ℕ, ◌+◌, ◌-◌, ◌^◌, ◌≤◌, min, Bool, List, [], ◌++◌, length, Option, Result, Ok, Err, IfOk, IfErr, OnOk, inl, inr, refl, ap, ◌∙◌, length-append, arith}
use Rattle.std.specs.Io.KnownBytes.{Consumes}
use Rattle.std.proofs.KnownBytes.{Consumes-nil, Consumes-trans}
use Rattle.sha1.specs.Sha1.{Holds}
use Rattle.sha1.specs.declared.Sha1.{Sha1}
use Rattle.file_values.specs.Sum.{AddsPiece, SumsAll, SumsHeld, SumRefuses, most_bytes}
use Rattle.file_values.specs.declared.sum.FileSum.{FileSum}
use Rattle.file_values.specs.declared.refusal.FileError.{FileError}
use Rattle.file_values.specs.declared.refusal.FileError.TheVariants.{Refused, OutOfMemory}
use Rattle.file_values.specs.declared.refusal.FileFault.TheVariants.{Read}

-- the hasher holds what was read so far, and this is how much
pub record IsSoFar (before after : Option (List ℕ)) (hasher : Sha1) (size : ℕ) : Type 0 where
  pub bytes : List ℕ
  pub held : Holds hasher bytes
  pub counted : length bytes ≡ size
  pub consumed : Consumes before after bytes

pub so_far_none : (a : Option (List ℕ)) (hasher : Sha1) → Holds hasher [] → IsSoFar a a hasher 0
so_far_none a hasher empty = record { bytes = []; held = empty; counted = refl; consumed = Consumes-nil a }

pub so_far_more : (a b c : Option (List ℕ)) (hasher hashed : Sha1) (size room count : ℕ) → IsSoFar a b hasher size → AddsPiece b c hasher hashed room count → IsSoFar a c hashed (size + count)
so_far_more a b c hasher hashed size room count s p = record {
  bytes = s.bytes ++ p.piece;
  held = p.hashes s.bytes s.held;
  counted = length-append s.bytes p.piece ∙ ap (λ n. n + length p.piece) s.counted ∙ ap (λ n. size + n) p.counted;
  consumed = Consumes-trans a b c s.bytes p.piece s.consumed p.consumed;
}

-- the piece that was nothing ends it
pub sums_all : (a b c : Option (List ℕ)) (hasher hashed : Sha1) (size room count : ℕ) (r : Result FileSum FileError) → IsSoFar a b hasher size → AddsPiece b c hasher hashed room count → count ≡ 0
    → IfOk r (SumsHeld hashed size) → IfOk r (SumsAll a c)
sums_all a b c hasher hashed size room count (Ok found) s p none sums =
    let all = so_far_more a b c hasher hashed size room count s p in
    let same : size + count ≡ size = omega arith in
    (all.bytes, all.consumed, p.ends none, sums all.bytes all.held (all.counted ∙ same))
sums_all a b c hasher hashed size room count (Err e) s p none sums = tt

pub memory_wanting : (a c : Option (List ℕ)) (failed : Bool) (r : Result FileSum FileError) → IfErr r (λ e. e ≡ OutOfMemory) → IfErr r (SumRefuses a c failed)
memory_wanting a c failed (Ok found) h = tt
memory_wanting a c failed (Err e) h = inl h

pub on_ok : (r : Result FileSum FileError) (P : Type 0) → P → OnOk r P
on_ok (Ok found) P h = h
on_ok (Err e) P h = tt

-- a piece that there is room for keeps to the bound
pub fits_more : (size count len : ℕ) → count ≤ min len (2 ^ 61 - 1 - size) → size ≤ 2 ^ 61 - 1 → size + count ≤ 2 ^ 61 - 1
fits_more size count len fits within = omega arith

-- the reader gave as much as SHA-1 takes
pub bound_met : (a b : Option (List ℕ)) (hasher : Sha1) (size : ℕ) (failed : Bool) → IsSoFar a b hasher size → size ≤ 2 ^ 61 - 1 → 2 ^ 61 - 1 ≤ size → SumRefuses a b failed (Refused Read)
bound_met a b hasher size failed s low high =
    let is : size ≡ most_bytes = omega arith in
    inr (refl, inr (s.bytes, s.consumed, s.counted ∙ is))
