use Rattle.std.proofs.Common.{refl}
use Rattle.proc_host.specs.Answers.{has_failed, is_started}
use Rattle.proc_host.specs.declared.call.HostRequest.{HostRequest as Call}
use Rattle.test_engine.proofs.alone.started.Goals as goal

pub returns-then-not-is_fresh : goal.returns-then-not-is_fresh
returns-then-not-is_fresh c = λ launch. has_failed (Call.Start launch)

pub returns : goal.returns
returns c = λ launch. is_started launch _ (c.if-not-is_fresh.ensures refl)
