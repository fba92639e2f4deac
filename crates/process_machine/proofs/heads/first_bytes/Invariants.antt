use Rattle.std.proofs.Common.{◌≤◌, ◌-◌, vec_len}
use Rattle.process_machine.proofs.heads.first_bytes.Given as goal

-- no more than the limit is read
abbrev pub invariant-loop-bytes : goal.invariant-loop-bytes
invariant-loop-bytes g l = vec_len l.bytes ≤ l.limit

-- each read that is not the last takes a byte at least
abbrev pub decreases-loop-bytes : goal.decreases-loop-bytes
decreases-loop-bytes g l = l.limit - vec_len l.bytes
