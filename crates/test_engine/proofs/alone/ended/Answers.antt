use Rattle.std.proofs.Common.{◌%◌, length, arith}
use Rattle.std.proofs.lemmas.List.Elements.{Contains-get_or}
use Rattle.std.proofs.lemmas.Nat.{mod_below}
use Rattle.proc_host.specs.Answers.{has_ended, has_failed}
use Rattle.proc_host.specs.declared.call.HostRequest.{HostRequest as Call}
use Rattle.test_engine.proofs.alone.ended.Goals as goal

pub returns-then-count-eq0 : goal.returns-then-count-eq0
returns-then-count-eq0 c = has_failed Call.Collect

pub returns : goal.returns
returns c =
    has_ended _ (Contains-get_or c.args.flying.now (c.next.result % length c.args.flying.now) 0
    (mod_below c.next.result (length c.args.flying.now) (omega (arith, c.if-count-eq0.false))))
