use Rattle.proc_host.proofs.Running.{up_to_without}
use Rattle.proc_host.proofs.scripted.ScriptedHost.close.Goals as goal

pub invariant_of-self : goal.invariant_of-self
invariant_of-self c = record {
  within = c.self.invariant.within;
  by_script = c.self.invariant.by_script;
  counted = c.self.invariant.counted;
  numbered = rw c.remove.ensures (up_to_without _ _ _ c.self.invariant.numbered);
}
