use Rattle.std.proofs.Common.{◌≡◌, map}
use Rattle.std.specs.Prelude.{zip}
use Rattle.plan_words.specs.Waiting.{first_named, waiting_line}
use Rattle.program_words.specs.Visible.{visible}
use Rattle.run_facts.specs.EarlierJobs.{AreEarlier}
use Rattle.plan_call.proofs.WaitingLines.{are_waiting}
use Rattle.plan_call.proofs.plan_texts.lines_on.Goals as goal

pub returns : goal.returns
returns c =
    let process = c.args.process.now in
    let past = zip c.args.kept.now.parts c.args.kept.now.costs in
    let named : c.in_ok-line.line ≡ waiting_line (map visible c.args.ids.now) =
    rw (← c.in_ok-names.ensures, ← c.as_slice.ensures.value) c.in_ok-line.ensures in
    let are : AreEarlier process past (first_named c.args.ids.now) c.as_slice-4.result.now =
    rw (c.as_slice-4.ensures.value, ← c.first_named.ensures, ← c.as_slice-2.ensures, ← c.as_slice-3.ensures) c.in_ok-earlier.ensures in
    are_waiting process past c.args.ids.now c.in_ok-line.line _ c.with_earlier.result named are c.with_earlier.ensures
