-- The lines on steps that wait.
use Rattle.std.proofs.Common.{◌≡◌, ◌∙◌, List, ◌++◌, Result, Ok, Err, IfOk, ap, flat_map, map}
use Rattle.std.specs.declared.alloc.AllocError.{AllocError}
use Rattle.clap.specs.Words.{Text}
use Rattle.document_links.specs.declared.process.Process.{Process}
use Rattle.plan_words.specs.Waiting.{first_named, waiting_line}
use Rattle.program_words.specs.Visible.{visible}
use Rattle.run_facts.specs.EarlierJobs.{AreEarlier, Past}
use Rattle.run_facts.specs.declared.earlier_jobs.Earlier.{Earlier}
use Rattle.plan_call.specs.Plans.{AreWaiting, earlier_words}

-- the line on the steps, and behind it those on their tools
pub are_waiting : (process : Process) (past : Past) (steps : List Text) (line : Text) (earlier : List Earlier) (answer : Result Text AllocError)
    → line ≡ waiting_line (map visible steps) → AreEarlier process past (first_named steps) earlier
    → IfOk answer (λ text. text ≡ line ++ flat_map earlier_words earlier) → IfOk answer (AreWaiting process past steps)
are_waiting process past steps line earlier (Err error) named are is = tt
are_waiting process past steps line earlier (Ok text) named are is = record {
  earlier = earlier;
  are_earlier = are;
  told = is ∙ ap (λ (l : Text). l ++ flat_map earlier_words earlier) named;
}
