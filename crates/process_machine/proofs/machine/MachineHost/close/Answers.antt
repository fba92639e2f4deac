use Rattle.proc_host.proofs.Running.{up_to_without}
use Rattle.process_machine.proofs.machine.MachineHost.close.Goals as goal

pub invariant_of-self : goal.invariant_of-self
invariant_of-self g c = record {
  counted = c.self.invariant.counted;
  numbered = rw c.remove.ensures (up_to_without _ _ _ c.self.invariant.numbered);
}
