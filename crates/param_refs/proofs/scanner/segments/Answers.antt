use Rattle.std.proofs.Common.{List, sym, subst, rules}
use Rattle.param_refs.specs.declared.template.Segment.{Segment}
use Rattle.param_refs.specs.inner.Scans.{SegmentThen, NoSegment}
use Rattle.param_refs.proofs.Scanned.{SoFar, so_far_begins, so_far_pushed, so_far_ends, segment_shorter}
use Rattle.param_refs.proofs.scanner.segments.Goals as goal

pub loop-found-init : goal.loop-found-init
loop-found-init c = (search rules, subst (λ (ss : List Segment). SoFar c.args.text.now ss c.args.text.now) (sym c.new-found.ensures) (so_far_begins c.args.text.now))

pub loop-found-preserved : goal.loop-found-preserved
loop-found-preserved c =
    let next : SegmentThen c.loop-found.rest.now c.in-Some.segment c.in-Some.after.now = rw c.in-Some.is at c.in_ok-segment.ensures in
    (search rules, so_far_pushed c.args.text.now c.loop-found.rest.now c.in-Some.after.now c.loop-found.found c.push.new.self c.in-Some.segment c.loop-found.invariant.1 next c.in_ok-push.ensures.ok)

pub loop-found-smaller : goal.loop-found-smaller
loop-found-smaller c =
    let next : SegmentThen c.loop-found.rest.now c.in-Some.segment c.in-Some.after.now = rw c.in-Some.is at c.in_ok-segment.ensures in
    segment_shorter c.loop-found.rest.now c.in-Some.after.now c.in-Some.segment next

pub returns : goal.returns
returns c =
    let none : NoSegment c.loop-found.rest.now = rw c.in_default.is at c.in_ok-segment.ensures in
    so_far_ends c.args.text.now c.loop-found.rest.now c.loop-found.found c.loop-found.invariant.1 none
