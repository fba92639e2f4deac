use Rattle.std.proofs.Common.{All, Contains, take}
use Rattle.job_reuse.proofs.fetched.all_among.Given as goal

abbrev pub invariant-loop-index : goal.invariant-loop-index
invariant-loop-index l = All (Contains l.those) (take l.index l.these)
