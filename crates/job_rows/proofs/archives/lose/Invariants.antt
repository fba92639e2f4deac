use Rattle.std.proofs.Common.{◌≡◌, ◌+◌, ◌++◌, take, drop}
use Rattle.std.specs.Vec.{vec_len, vec_capacity}
use Rattle.job_rows.specs.Map.{keys_in}
use Rattle.job_rows.proofs.archives.lose.Given as goal

abbrev pub invariant-loop : goal.invariant-loop
invariant-loop l = record {
  left : l.archives.items ≡ drop l.counter l.initial.archives.items;
  gone : l.lost.items ≡ l.initial.lost.items ++ keys_in (take l.counter l.initial.archives.items);
  len : vec_len l.lost ≡ vec_len l.initial.lost + l.counter;
  capacity : vec_capacity l.lost ≡ vec_capacity l.initial.lost;
}
