use Rattle.std.proofs.Common.{◌≡◌, length}
use Rattle.plan_checker.specs.Format.{pairs}
use Rattle.plan_checker.specs.inner.Reading.{BeginsWithNumbers}
use Rattle.plan_checker.proofs.row.read_pairs.Given as goal

abbrev pub invariant-loop : goal.invariant-loop
invariant-loop l = record {
  counted : length l.parents ≡ l.counter;
  one_each : length l.amounts ≡ length l.parents;
  read : BeginsWithNumbers l.text (pairs l.parents l.amounts) l.rest;
}
