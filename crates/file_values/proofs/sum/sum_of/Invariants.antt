use Rattle.std.proofs.Common.{◌≡◌, ◌-◌, ◌^◌, ◌≤◌, vec_len}
use Rattle.file_values.proofs.Summing.{IsSoFar}
use Rattle.file_values.proofs.sum.sum_of.Given as goal

abbrev pub invariant-loop-size : goal.invariant-loop-size
invariant-loop-size g l =
    (vec_len l.block ≡ 65536) × (l.size ≤ 2 ^ 61 - 1) × IsSoFar (g.S.ByteReader.left l.initial.reader) (g.S.ByteReader.left l.reader) l.hasher l.size × (g.S.ByteReader.failed l.initial.reader ≡ g.S.ByteReader.failed l.reader)

abbrev pub decreases-loop-size : goal.decreases-loop-size
decreases-loop-size g l = 2 ^ 61 - 1 - l.size
