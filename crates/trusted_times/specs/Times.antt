-- When a sum that was noted for a file stands for it without reading: the rule of this program's own, as that of git's index. The times of
-- a file are those of POSIX (`st_mtim`, `st_ctim`).
use Rattle.std.specs.Prelude.{ℕ, Bool, ◌&&◌, List, Option, Some, None, nat_eq, nat_lt, ◌+◌, if◌then◌else◌}
use Rattle.trusted_times.specs.declared.stamp.Moment.{Moment}
use Rattle.trusted_times.specs.declared.stamp.Stamp.{Stamp}
use Rattle.trusted_times.specs.declared.stamp.TheConstants.{SETTLED}
use Rattle.trusted_times.specs.declared.times.Seen.{Seen}

-- one moment
abbrev pub is_at : Moment → Moment → Bool
is_at a b = nat_eq a.seconds b.seconds && nat_eq a.nanos b.nanos

-- one file, of one size, that nothing has touched between the two
abbrev pub is_same : Stamp → Stamp → Bool
is_same a b = nat_eq a.device b.device && nat_eq a.number b.number && nat_eq a.size b.size && is_at a.modified b.modified && is_at a.changed b.changed

-- the file had been left alone for long enough at this second: what is written to it later gets another time
abbrev pub has_settled : Stamp → (now : ℕ) → Bool
has_settled stamp now = nat_lt (stamp.modified.seconds + SETTLED) now && nat_lt (stamp.changed.seconds + SETTLED) now

-- the sum that was noted, if the file is as it was then
abbrev pub sum_under : Option Seen → Stamp → Option (List ℕ)
sum_under None stamp = None
sum_under (Some seen) stamp = if is_same seen.stamp stamp then Some seen.sum else None
