use Rattle.std.proofs.Common.{◌≡◌, take}
use Rattle.proc_host.specs.Tickets.{without}
use Rattle.test_engine.proofs.alone.is_fresh.Given as goal

abbrev pub invariant-loop-other : goal.invariant-loop-other
invariant-loop-other l = without l.ticket (take l.other-index l.flying) ≡ take l.other-index l.flying
