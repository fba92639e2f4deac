use Rattle.std.proofs.Common.{◌≡◌, ◌+◌, true, true≢false, take, List, sym, subst, ◌∙◌}
use Rattle.std.specs.Str.{chars}
use Rattle.staging.specs.Glob.{Glob}
use Rattle.collected_outputs.specs.Matched.{Name}
use Rattle.collected_outputs.specs.inner.Matches.{AddsThose}
use Rattle.collected_outputs.proofs.Matching.{adds_none, adds_match, adds_other}
use Rattle.collected_outputs.proofs.matches.push_found.Goals as goal
use Rattle.collected_outputs.proofs.matches.push_found.Goals.{then-matches+in_ok-copied+in_ok-push, else-matches}

pub loop-entry-init : goal.loop-entry-init
loop-entry-init c = adds_none c.args.pattern.now c.args.names.now

pub loop-entry-preserved : goal.loop-entry-preserved
loop-entry-preserved c =
    let entries = c.as_slice-entry-items.result.now in
    let e = c.entry-item.result in
    let own : c.as_str.result.now ≡ e.0 = c.as_str.ensures.bytes in
    elim c.if-matches.branch [
      | then-matches+in_ok-copied+in_ok-push w ↦
          adds_match entries c.args.pattern.now c.loop-entry.entry-index e c.args.names.now c.loop-entry.names c.if-matches.names w.in_ok-copied.field-0 c.loop-entry-test.true c.entry-item.is
          (subst (λ (n : Name). Glob true c.args.pattern.now (chars n)) own (c.matches.ensures.0 w.if-matches.true)) w.in_ok-copied.ensures (w.names-is ∙ w.in_ok-push.ensures.ok) c.loop-entry.invariant
      | else-matches w ↦
          subst (λ (l : List Name). AddsThose (take (c.loop-entry.entry-index + 1) entries) c.args.pattern.now c.args.names.now l) (sym w.names-is)
          (adds_other entries c.args.pattern.now c.loop-entry.entry-index e c.args.names.now c.loop-entry.names c.loop-entry-test.true c.entry-item.is
          (λ matches. true≢false (sym (c.matches.ensures.1 (subst (λ (n : Name). Glob true c.args.pattern.now (chars n)) (sym own) matches)) ∙ w.if-matches.false)) c.loop-entry.invariant)
    ]
