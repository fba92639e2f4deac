use Rattle.std.proofs.Common.{◌≡◌, ◌∙◌, ◌≤◌, Bool, List, ap, arith, length, map, sym}
use Rattle.std.specs.Cmp.{booleans_Decides}
use Rattle.std.proofs.lemmas.Slice.Eq.{slice_eq-Decides}
use Rattle.plan_waits.specs.Waiting as spec
use Rattle.plan_waits.proofs.OpenWithin.{open_steps_so}
use Rattle.plan_waits.proofs.waiting.open_after.Goals as goal

pub returns-then-eq : goal.returns-then-eq
returns-then-eq c =
    let equal : c.as_slice-in-loop-links.result.now ≡ c.as_slice-in-loop-links-2.result.now = (slice_eq-Decides booleans_Decides _ _ _ c.eq.ensures).0 c.if-eq.true in
    let same : c.in_ok-next.next.items ≡ c.loop-links.flags.items = sym c.as_slice-in-loop-links.ensures.value ∙ equal ∙ c.as_slice-in-loop-links-2.ensures.value in
    let flags : c.as_slice.result.now ≡ spec.open_within c.loop-links.links c.args.standings.now = c.as_slice.ensures.value ∙ c.loop-links.invariant in
    let made : c.in_ok-next.next.items ≡ map (spec.is_open (spec.open_within c.loop-links.links c.args.standings.now)) c.args.standings.now =
    c.in_ok-next.ensures ∙ ap (λ (f : List Bool). map (spec.is_open f) c.args.standings.now) flags in
    let within : c.loop-links.links ≤ length c.args.standings.now = omega arith in
    same ∙ c.loop-links.invariant ∙ sym (open_steps_so c.loop-links.links c.args.standings.now within (sym made ∙ same ∙ c.loop-links.invariant))
