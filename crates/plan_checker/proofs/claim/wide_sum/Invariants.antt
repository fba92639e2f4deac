use Rattle.std.proofs.Common.{◌≡◌, ◌≤◌, ◌*◌, sum, take}
use Rattle.plan_checker.proofs.claim.wide_sum.Given as goal

abbrev pub invariant-loop-amount : goal.invariant-loop-amount
invariant-loop-amount l = record {
  so_far : l.sum ≡ sum (take l.amount-index l.amounts);
  small : l.sum ≤ 18446744073709551616 * l.amount-index;
}
