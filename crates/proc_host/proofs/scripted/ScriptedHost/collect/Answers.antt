use Rattle.std.proofs.lemmas.List.{drop-drop}
use Rattle.proc_host.proofs.Told.{end_told}
use Rattle.proc_host.proofs.scripted.ScriptedHost.collect.Goals as goal

pub returns-clause-scripted : goal.returns-clause-scripted
returns-clause-scripted c = record {
  answer = end_told c.args.self.now _ _ c.in-Some.ensures.told c.in-Some.ensures.can;
  state = rw (← c.self.view_is, c.in_ok-push.ensures.items, drop-drop);
}
