use Rattle.std.proofs.Common.{◌∙◌, refl, sym}
use Rattle.process_machine.proofs.Steps.{starts_kept}
use Rattle.process_machine.proofs.machine.Machine.collect_heard.Goals as goal

pub invariant_of-self : goal.invariant_of-self
invariant_of-self g c = record {
  counted = rw c.collect.ensures.logged (c.self.invariant.counted ∙ sym (starts_kept c.self.inside.log.items _ _ (λ _. refl) c.collect.result));
  numbered = c.self.invariant.numbered;
}

pub returns-clause-child : goal.returns-clause-child
returns-clause-child g c = rw (← c.self.view_is, ← c.deref.ensures.value) c.collect.ensures.child
