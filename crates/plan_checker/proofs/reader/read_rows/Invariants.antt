use Rattle.std.proofs.Common.{◌≡◌}
use Rattle.plan_checker.specs.Graph.{entries_below}
use Rattle.plan_checker.specs.inner.Reading.{BeginsWithLines}
use Rattle.plan_checker.proofs.reader.read_rows.Given as goal

abbrev pub invariant-loop-i : goal.invariant-loop-i
invariant-loop-i l = record {
  read : BeginsWithLines l.text l.i l.draft.vertices l.draft.plan.marks l.draft.charges l.rest;
  counted : l.entries ≡ entries_below l.draft.vertices l.i;
}
