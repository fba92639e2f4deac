use Rattle.std.proofs.Common.{rules}
use Rattle.std.proofs.lemmas.Fn.{filter_same}
use Rattle.process_machine.proofs.machine.remove.Goals as goal

-- the closure keeps each other ticket
pub returns : goal.returns
returns c = filter_same _ _ _ (λ ticket kept f' called. search rules) _ _ c.retain.ensures.filtered
