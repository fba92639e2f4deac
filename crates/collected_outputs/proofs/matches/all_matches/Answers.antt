use Rattle.std.proofs.Common.{[], List, sym, subst}
use Rattle.collected_outputs.specs.Matched.{Name, AreOfAll}
use Rattle.collected_outputs.proofs.Matching.{all_more}
use Rattle.collected_outputs.proofs.matches.all_matches.Goals as goal

pub loop-pattern-init : goal.loop-pattern-init
loop-pattern-init c = subst (λ (l : List Name). AreOfAll c.args.listing.now [] l) (sym c.new-names.ensures) AreOfAll.none

pub loop-pattern-preserved : goal.loop-pattern-preserved
loop-pattern-preserved c =
    all_more c.args.listing.now c.args.patterns.now c.loop-pattern.pattern-index c.pattern-item.result c.loop-pattern.names _ c.loop-pattern-test.true c.pattern-item.is c.in_ok-push_matches.ensures c.loop-pattern.invariant
