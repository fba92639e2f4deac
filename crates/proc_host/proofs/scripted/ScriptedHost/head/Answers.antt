use Rattle.std.proofs.Common.{◌≡◌, ◌≤◌, ℕ, List, Option, Some, IfSome, length, slice_get, subst}
use Rattle.std.proofs.lemmas.Bool.{le-leb}
use Rattle.std.proofs.lemmas.List.{drop-drop}
use Rattle.proc_host.specs.declared.reply.Reply.TheVariants as replies
use Rattle.proc_host.proofs.Told.{head_told}
use Rattle.proc_host.proofs.scripted.ScriptedHost.head.Goals as goal

pub returns-clause-scripted : goal.returns-clause-scripted
returns-clause-scripted c =
    let next : slice_get c.args.self.now.script 0 ≡ Some (replies.Head c.in-Some.bytes) =
    subst (λ (o : Option (List ℕ)). IfSome o (λ bytes. slice_get c.args.self.now.script 0 ≡ Some (replies.Head bytes))) c.in-Some.is c.in_ok-bytes.ensures.told in
    let within : length c.in-Some.bytes ≤ c.args.limit =
    subst (λ (o : Option (List ℕ)). IfSome o (λ bytes. length bytes ≤ c.args.limit)) c.in-Some.is c.in_ok-bytes.ensures.within in
    record {
      answer = head_told c.args.self.now c.args.path.now c.args.limit c.in-Some.bytes _ next (le-leb _ _ within);
      state = rw (← c.self.view_is, c.in_ok-note_head.ensures.log, drop-drop);
    }
