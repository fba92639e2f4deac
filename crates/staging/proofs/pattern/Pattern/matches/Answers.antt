use Rattle.std.proofs.Common.{◌≡◌, List, true, sym, subst, ◌∙◌, rules, true≢false}
use Rattle.std.specs.Str.{chars}
use Rattle.staging.specs.Glob.{Glob}
use Rattle.staging.specs.declared.item.PatternItem.{PatternItem}
use Rattle.staging.proofs.Greedy.{Passed}
use Rattle.staging.proofs.Standing.{stands_ended, stands_taken, stands_starred, stands_later, stands_failed, bounds_taken, bounds_starred, bounds_later}
use Rattle.staging.proofs.pattern.Pattern.matches.Goals as goal

pub loop-next-init : goal.loop-next-init
loop-next-init c = (Passed.here, search rules)

pub returns-in-Ended : goal.returns-in-Ended
returns-in-Ended c =
    let same : c.as_slice-items.result.now ≡ c.args.self.now = c.as_slice-items.ensures ∙ c.self.view_is in
    let matches = stands_ended c.as_slice-items.result.now (chars c.args.name.now) c.loop-next.star c.loop-next.here c.loop-next.invariant.0 c.in-Ended.ensures.0 c.in-Ended.ensures.1 in
    (λ _. subst (λ (q : List PatternItem). Glob true q (chars c.args.name.now)) same matches, λ _. search rules)

pub loop-next-preserved-in-Taken : goal.loop-next-preserved-in-Taken
loop-next-preserved-in-Taken c = (
  stands_taken c.as_slice-items.result.now (chars c.args.name.now) c.loop-next.star c.loop-next.here c.in-Taken.next c.loop-next.invariant.0 c.in-Taken.ensures,
  bounds_taken c.as_slice-items.result.now c.args.name.now c.loop-next.star c.loop-next.here c.in-Taken.next c.loop-next.invariant.1 c.in-Taken.ensures,
)

pub loop-next-preserved-in-Starred : goal.loop-next-preserved-in-Starred
loop-next-preserved-in-Starred c = (
  stands_starred c.as_slice-items.result.now (chars c.args.name.now) c.loop-next.star c.loop-next.here c.in-Starred.next c.loop-next.invariant.0 c.in-Starred.ensures,
  bounds_starred c.as_slice-items.result.now c.args.name.now c.in-Starred.next c.loop-next.here c.in-Starred.ensures,
)

pub loop-next-preserved : goal.loop-next-preserved
loop-next-preserved c = (
  stands_later c.as_slice-items.result.now (chars c.args.name.now) c.loop-next.star c.loop-next.here c.in-Some.next c.loop-next.invariant.0 c.in-Stuck.ensures c.in-Some.ensures,
  bounds_later c.as_slice-items.result.now c.args.name.now c.loop-next.star c.loop-next.here c.in-Some.next c.loop-next.invariant.1 c.in-Some.ensures,
)

pub returns-in_default : goal.returns-in_default
returns-in_default c =
    let same : c.as_slice-items.result.now ≡ c.args.self.now = c.as_slice-items.ensures ∙ c.self.view_is in (
      λ is. absurd (true≢false (sym is)),
      λ matches.
          absurd
          (stands_failed c.as_slice-items.result.now (chars c.args.name.now) c.loop-next.star c.loop-next.here c.loop-next.invariant.0 c.in-Stuck.ensures c.in_default.ensures
          (subst (λ (q : List PatternItem). Glob true q (chars c.args.name.now)) (sym same) matches)),
    )
