use Rattle.std.proofs.Common.{ap, sym, ◌∙◌}
use Rattle.collected_outputs.specs.Listing.{are_paths}
use Rattle.proc_host.specs.Answers.{has_failed, is_listed}
use Rattle.proc_host.specs.declared.call.HostRequest.{HostRequest as Call}
use Rattle.test_engine.proofs.alone.listed.Goals as goal

pub returns-then-are_paths : goal.returns-then-are_paths
returns-then-are_paths c = λ flying folder. is_listed folder c.args.found (ap are_paths (sym c.as_slice.ensures) ∙ sym c.are_paths.ensures ∙ c.if-are_paths.true)

pub returns-else-are_paths : goal.returns-else-are_paths
returns-else-are_paths c = λ flying folder. has_failed (Call.Scan folder)
