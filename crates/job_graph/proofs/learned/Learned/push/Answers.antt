use Rattle.std.proofs.Common.{ℕ, subst}
use Rattle.std.specs.BTreeMap.{get}
use Rattle.std.specs.Ordering.{nat_cmp}
use Rattle.job_graph.specs.inner.Index.{IsFirst, at_learned}
use Rattle.job_graph.proofs.Index.{pushed_or_not}
use Rattle.job_graph.proofs.learned.Learned.push.Goals as goal

pub invariant_of-self-2 : goal.invariant_of-self-2
invariant_of-self-2 c =
    pushed_or_not at_learned c.self.inside.firsts c.insert.new.self c.self.inside.list c.mark-mark.result c.first_of-first.result c.self.invariant
    (subst (λ (end : ℕ). IsFirst (get nat_cmp c.self.inside.firsts c.mark-mark.result) end c.first_of-first.result) c.len.ensures c.first_of-first.ensures)
    c.in_ok-insert.ensures.updates c.push.result c.push.new.self c.args.resolved c.mark-mark.ensures c.push.ensures.ok c.push.ensures.err
