use Rattle.std.proofs.Common.{◌≡◌, List, Option, Some, IfSome, slice_get, subst, true}
use Rattle.std.proofs.lemmas.List.{drop-drop}
use Rattle.collected_outputs.specs.Listing.{are_paths}
use Rattle.staging.specs.declared.found.Found.{Found}
use Rattle.proc_host.specs.declared.reply.Reply.TheVariants as replies
use Rattle.proc_host.proofs.Told.{scan_told}
use Rattle.proc_host.proofs.scripted.ScriptedHost.scan.Goals as goal

pub returns-clause-scripted : goal.returns-clause-scripted
returns-clause-scripted c =
    let next : slice_get c.args.self.now.script 0 ≡ Some (replies.Scan c.in-Some.listed) =
    subst (λ (o : Option (List Found)). IfSome o (λ found. slice_get c.args.self.now.script 0 ≡ Some (replies.Scan found))) c.in-Some.is c.in_ok-listed.ensures.told in
    let paths : are_paths c.in-Some.listed ≡ true =
    subst (λ (o : Option (List Found)). IfSome o (λ found. are_paths found ≡ true)) c.in-Some.is c.in_ok-listed.ensures.paths in
    record {
      answer = scan_told c.args.self.now c.args.folder.now c.in-Some.listed _ next paths;
      state = rw (← c.self.view_is, c.in_ok-note_scan.ensures.log, drop-drop);
    }
