use Rattle.std.proofs.Common.{sym, ap, ◌∙◌, ◌+◌}
use Rattle.proc_host.proofs.Running.{next_is_fresh, up_to_next}
use Rattle.proc_host.proofs.Told.{starts_more}
use Rattle.process_machine.proofs.Steps.{starts_same}
use Rattle.process_machine.proofs.machine.Machine.start_advised.Goals as goal

pub invariant_of-self : goal.invariant_of-self
invariant_of-self g c = record {
  counted = rw c.in_err-start.ensures.logged (c.self.invariant.counted ∙ sym (starts_same c.self.inside.log.items _ _));
  numbered = rw c.in_err-start.ensures.err c.self.invariant.numbered;
}

pub invariant_of-self-2 : goal.invariant_of-self-2
invariant_of-self-2 g c = record {
  counted = rw c.in_ok-start.ensures.logged (ap (λ n. n + 1) c.self.invariant.counted ∙ sym (starts_more c.self.inside.log.items _ _));
  numbered = rw c.in_ok-start.ensures.running (up_to_next _ _ c.self.invariant.numbered);
}

pub returns-clause-fresh : goal.returns-clause-fresh
returns-clause-fresh g c = rw (c.new.ensures, ← c.self.view_is) (next_is_fresh _ _ c.self.invariant.numbered)
