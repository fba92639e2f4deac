-- Where a call failed, the failures rose.
use Rattle.std.specs.Prelude.{Contains}
use Rattle.std.proofs.Common.{◌≡◌, zero, suc, ◌+◌, ◌<◌, cond, List, [], ◌∷◌, ◌++◌, Result, Ok, Err, IfErr, ap, arith}
use Rattle.std.proofs.lemmas.List.Sums.{sum_by-append}
use Rattle.proc_host.specs.declared.call.Entry.{Entry}
use Rattle.proc_host.specs.declared.call.HostAnswer.{HostAnswer}
use Rattle.proc_host.specs.declared.call.HostFault.{HostFault}
use Rattle.proc_host.specs.Log.{failures, is_failure}
use Rattle.run_rules.specs.declared.outcome.Report.{Report}
use Rattle.run_rules.specs.declared.outcome.RunFault.{RunFault}
use Rattle.run_rules.specs.Blame.{Rise, given_tickets, logged_answers, BlamesRightly}
use Rattle.workflow_engine.specs.Blame.{HasRisingTickets, IsHostsFault}

failures-append : (before gained : List Entry) → failures (before ++ gained) ≡ failures before + failures gained
failures-append before gained = sum_by-append (λ (entry : Entry). cond (is_failure entry.answer) 1 0) before gained

it_counts : (entry : Entry) (fault : HostFault) → entry.answer ≡ HostAnswer.Failed fault → failures (entry ∷ []) ≡ 1
it_counts entry fault is = ap (λ (answer : HostAnswer). 0 + cond (is_failure answer) 1 0) is

some_failed : (gained : List Entry) (fault : HostFault) → Contains (logged_answers gained) (HostAnswer.Failed fault) → 0 < failures gained
some_failed [] fault (k, within, is) = absurd (omega arith)
some_failed (entry ∷ gained) fault (zero, within, is) =
    omega (arith, failures-append (entry ∷ []) gained, it_counts entry fault is)
some_failed (entry ∷ gained) fault (suc k, within, is) =
    let later : 0 < failures gained = some_failed gained fault (k, omega arith, is) in
    omega (arith, failures-append (entry ∷ []) gained)

pub hosts_fault : (before after gained : List Entry) (result : Result Report RunFault) → after ≡ before ++ gained →
    IfErr result (BlamesRightly gained) → IfErr result (IsHostsFault before after)
hosts_fault before after gained (Ok report) logged blames = tt
hosts_fault before after gained (Err (RunFault.Record refusal)) logged blames = tt
hosts_fault before after gained (Err (RunFault.Mismatch place)) logged blames = tt
hosts_fault before after gained (Err RunFault.TooManyJobs) logged blames = tt
hosts_fault before after gained (Err RunFault.OutOfMemory) logged blames = tt
hosts_fault before after gained (Err (RunFault.Host fault running)) logged blames = record {
  gained = gained;
  logged = logged;
  risen = omega (arith, ap failures logged, failures-append before gained, some_failed gained fault blames.failed);
  to_blame = blames;
}

-- and the tickets that it names rise, as those that were given do
pub named_rise : (gained : List Entry) (result : Result Report RunFault) → Rise (given_tickets gained) → IfErr result (BlamesRightly gained) → IfErr result HasRisingTickets
named_rise gained (Ok report) rising blames = tt
named_rise gained (Err (RunFault.Record refusal)) rising blames = tt
named_rise gained (Err (RunFault.Mismatch place)) rising blames = tt
named_rise gained (Err RunFault.TooManyJobs) rising blames = tt
named_rise gained (Err RunFault.OutOfMemory) rising blames = tt
named_rise gained (Err (RunFault.Host fault running)) rising blames = blames.started.rising rising
