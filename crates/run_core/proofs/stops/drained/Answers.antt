use Rattle.std.proofs.Common.{rules}
use Rattle.std.proofs.lemmas.Fn.{filter_same}
use Rattle.run_core.proofs.stops.drained.Goals as goal

pub returns : goal.returns
returns c = record { tickets = filter_same _ _ _ (λ ticket kept f' called. search rules) _ _ c.retain.ensures.filtered; is = c.lost.ensures }
