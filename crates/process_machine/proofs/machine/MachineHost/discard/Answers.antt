use Rattle.std.proofs.Common.{◌∙◌, refl, sym}
use Rattle.process_machine.proofs.Steps.{starts_kept}
use Rattle.process_machine.proofs.machine.MachineHost.discard.Goals as goal

pub invariant_of-self : goal.invariant_of-self
invariant_of-self g c = record {
  counted = rw c.discard.ensures.logged (c.self.invariant.counted ∙ sym (starts_kept c.self.inside.log.items _ _ (λ _. refl) c.discard.result));
  numbered = c.self.invariant.numbered;
}
