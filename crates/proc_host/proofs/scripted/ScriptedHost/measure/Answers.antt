use Rattle.std.proofs.Common.{◌≡◌, Option, Some, IfSome, slice_get, subst}
use Rattle.std.proofs.lemmas.List.{drop-drop}
use Rattle.proc_host.specs.declared.reply.Reply.TheVariants as replies
use Rattle.proc_host.proofs.Told.{measure_told}
use Rattle.proc_host.proofs.scripted.ScriptedHost.measure.Goals as goal
use Rattle.staging.specs.declared.measure.Measure.{Measure}

pub returns-clause-scripted : goal.returns-clause-scripted
returns-clause-scripted c =
    let next : slice_get c.args.self.now.script 0 ≡ Some (replies.Measure c.in-Some.measure) =
    subst (λ (o : Option Measure). IfSome o (λ measure. slice_get c.args.self.now.script 0 ≡ Some (replies.Measure measure))) c.in-Some.is c.in_ok-measure.ensures.told in
    record {
      answer = measure_told c.args.self.now c.args.path.now c.in-Some.measure _ next;
      state = rw (← c.self.view_is, c.in_ok-note_measure.ensures.log, drop-drop);
    }
