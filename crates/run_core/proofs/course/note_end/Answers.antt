use Rattle.std.proofs.Common.{◌≡◌, arith, rules, tests}
use Rattle.std.proofs.lemmas.Iterator.{IsFirst-from_position, YieldsList-from_slice}
use Rattle.std.proofs.option.Match.{if_some}
use Rattle.run_core.specs.inner.Course.{past_of}
use Rattle.run_core.proofs.Taking.{takes_out}
use Rattle.run_core.proofs.course.note_end.Goals as goal

pub returns-clause-taken : goal.returns-clause-taken
returns-clause-taken c =
    let ticket = c.args.ticket in
    let first = if_some _ _ _ c.in-Some.is (IsFirst-from_position _ _ _ (λ x. x ≡ ticket) (λ x. x ≡ ticket → ⊥) c.position.ensures.ran (YieldsList-from_slice c.args.course.now.tickets.items (cc (c.iter.ensures.rest, c.deref.ensures.value)))
    (λ x q k. search (rules, tests)) (λ x q k. search (rules, tests))) in
    takes_out ticket c.in-Some.index c.remove-in-Some.result (past_of c.args.course.now) _ _ first.0 (first.1 ticket)
    (omega (arith, first.0, c.requires.as_many)) c.remove-in-Some.ensures.value c.remove.ensures.items c.remove-in-Some.ensures.items
