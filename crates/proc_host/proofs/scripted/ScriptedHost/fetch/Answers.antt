use Rattle.std.proofs.Common.{◌≡◌, List, Option, Some, IfSome, slice_get, subst, true}
use Rattle.std.proofs.lemmas.List.{drop-drop}
use Rattle.staging.specs.declared.found.Found.{Found}
use Rattle.proc_host.specs.Answers.{are_among}
use Rattle.proc_host.specs.declared.reply.Reply.TheVariants as replies
use Rattle.proc_host.proofs.Told.{fetch_told}
use Rattle.proc_host.proofs.scripted.ScriptedHost.fetch.Goals as goal

pub returns-clause-scripted : goal.returns-clause-scripted
returns-clause-scripted c =
    let next : slice_get c.args.self.now.script 0 ≡ Some (replies.Fetch c.in-Some.found) =
    subst (λ (o : Option (List Found)). IfSome o (λ found. slice_get c.args.self.now.script 0 ≡ Some (replies.Fetch found))) c.in-Some.is c.in_ok-found.ensures.told in
    let among : are_among c.args.files.now c.in-Some.found ≡ true =
    subst (λ (o : Option (List Found)). IfSome o (λ found. are_among c.args.files.now found ≡ true)) c.in-Some.is c.in_ok-found.ensures.among in
    record {
      answer = fetch_told c.args.self.now c.args.key.now c.args.number c.args.files.now c.in-Some.found _ next among;
      state = rw (← c.self.view_is, c.in_ok-note_fetch.ensures.log, c.in_ok-request.ensures, drop-drop);
    }
