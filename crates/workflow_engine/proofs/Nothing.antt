-- A run of which nothing was asked, for want of memory.
use Rattle.std.proofs.Common.{◌≡◌, [], Result, Ok, Err, refl, ap}
use Rattle.std.specs.Result.{IsErrAnd}
use Rattle.run_rules.specs.declared.outcome.Report.{Report}
use Rattle.document_links.specs.declared.process.Process.{Process}
use Rattle.run_rules.specs.declared.outcome.RunFault.{RunFault}
use Rattle.run_rules.specs.declared.setting.Options.{Options}
use Rattle.job_graph.specs.Words.{Fields}
use Rattle.run_rules.specs.Events.{at_first}
use Rattle.plan_checker.specs.Laws.{EachHasLeast}
use Rattle.run_core.proofs.KnownGraphs.{known_make_graphs}
use Rattle.run_rules.proofs.events.Graphs.{are_graphs}
use Rattle.run_rules.proofs.events.Grows.{GoesSo, first_comes, goes_anyway}
use Rattle.run_rules.specs.Plans.{no_plans}
use Rattle.run_rules.specs.Scene.{Scene, scene_of}
use Rattle.run_rules.specs.Reports.{Concludes, lost}

pub nothing_asked : EachHasLeast → (process : Process) (inputs : Fields) (options : Options) →
    Concludes (record { process = process; inputs = inputs; options = options }) [] (Err RunFault.OutOfMemory)
nothing_asked least process inputs options =
    let s : Scene = scene_of (record { process = process; inputs = inputs; options = options }) in
    let first : GoesSo s [] at_first = goes_anyway s least (are_graphs s known_make_graphs) [] at_first no_plans (first_comes s) in
    lost [] [] at_first first.plans first.goes tt refl

pub err_is : (result : Result Report RunFault) (P : RunFault → Type 0) (fault : RunFault) → IsErrAnd result P →
    ((e : RunFault) → P e → e ≡ fault) → result ≡ Err fault
err_is (Ok report) P fault fails says = absurd fails
err_is (Err e) P fault fails says = ap Err (says e fails)
