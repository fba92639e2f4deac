use Rattle.std.proofs.Common.{◌≡◌, arith, length, subst, ℕ}
use Rattle.std.specs.BTreeMap.{get}
use Rattle.std.specs.Ordering.{nat_cmp}
use Rattle.job_graph.specs.inner.Index.{IsFirst, at_known}
use Rattle.job_graph.proofs.Index.{pushed_apart, pushed_indexed, put_indexed}
use Rattle.job_graph.proofs.known.Known.push.Goals as goal

pub invariant_of-self-in_err-push : goal.invariant_of-self-in_err-push
invariant_of-self-in_err-push c =
    rw c.in_err-push.ensures.items (
      (let long : c.len.result ≡ length c.self.inside.list.items = omega arith in
          put_indexed at_known c.self.inside.firsts c.insert.new.self c.self.inside.list.items c.mark-mark.result c.first_of-first.result c.self.invariant.0
          (subst (λ (end : ℕ). IsFirst (get nat_cmp c.self.inside.firsts c.mark-mark.result) end c.first_of-first.result) long c.first_of-first.ensures)
          c.in_ok-insert.ensures.updates),
      c.self.invariant.1,
    )

pub invariant_of-self-2 : goal.invariant_of-self-2
invariant_of-self-2 c =
    rw c.in_ok-push.ensures.items (
      (let long : c.len.result ≡ length c.self.inside.list.items = omega arith in
          pushed_indexed at_known c.self.inside.firsts c.insert.new.self c.self.inside.list.items c.mark-mark.result c.first_of-first.result c.self.invariant.0
          (subst (λ (end : ℕ). IsFirst (get nat_cmp c.self.inside.firsts c.mark-mark.result) end c.first_of-first.result) long c.first_of-first.ensures)
          c.in_ok-insert.ensures.updates c.args.one c.mark-mark.ensures),
      pushed_apart c.self.inside.list.items c.args.one (rw c.self.view_is c.requires) c.self.invariant.1,
    )
