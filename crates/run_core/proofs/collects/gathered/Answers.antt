use Rattle.std.proofs.Common.{◌≡◌, ◌∙◌, ℕ, List, unwrap_or, [], Ok, Err, sym, ap, subst}
use Rattle.collected_outputs.specs.Collected.{IsCollected, IsFault}
use Rattle.collected_outputs.specs.Contents.{Heads}
use Rattle.collected_outputs.specs.Listing.{listing_of}
use Rattle.collected_outputs.specs.Outputs.{Left}
use Rattle.collected_outputs.specs.Patterns.{runtime}
use Rattle.collected_outputs.specs.declared.fault.CollectError.{CollectError}
use Rattle.staging.specs.declared.found.Found.{Found}
use Rattle.run_core.specs.declared.state.JobNext.{JobNext}
use Rattle.run_core.specs.declared.state.Kept.{Kept}
use Rattle.run_core.specs.inner.Due.{Gathers, gives, gives_none, left_by}
use Rattle.run_core.proofs.Lists.{if_ok}
use Rattle.run_core.proofs.collects.gathered.Goals as goal

abbrev left_as : Kept → List Found → Heads → List ℕ → List ℕ → Left
left_as kept found heads stdout stderr =
    record { listing = listing_of found; heads = heads; stdout = stdout; stderr = stderr; inputs = kept.inputs; runtime = runtime }

left_is : (kept : Kept) (found other : List Found) (heads : Heads) (stdout stderr : List ℕ) → other ≡ found → stdout ≡ unwrap_or kept.stdout [] → stderr ≡ unwrap_or kept.stderr [] →
    left_as kept other heads stdout stderr ≡ left_by kept found heads
left_is kept found other heads stdout stderr all out err =
    ap (λ (f : List Found). left_as kept f heads stdout stderr) all ∙ ap (λ (s : List ℕ). left_as kept found heads s stderr) out
    ∙ ap (λ (s : List ℕ). left_as kept found heads (unwrap_or kept.stdout []) s) err

pub returns-in-Ok : goal.returns-in-Ok
returns-in-Ok c =
    let same : left_as c.args.kept.now c.as_slice-found.result.now c.args.reading.now.heads c.name_or_empty.result.now c.name_or_empty-2.result.now
    ≡ left_by c.args.kept.now c.args.reading.now.found c.args.reading.now.heads =
    left_is c.args.kept.now c.args.reading.now.found c.as_slice-found.result.now c.args.reading.now.heads c.name_or_empty.result.now c.name_or_empty-2.result.now
    c.as_slice-found.ensures c.name_or_empty.ensures c.name_or_empty-2.ensures in
    if_ok c.kept.result
    (λ next keeps. gives c.in-Ok.outputs next (subst (λ (left : Left). IsCollected left c.args.site.tool.now.outputs (Ok c.in-Ok.outputs)) same c.in-Ok.ensures.ok) keeps)
    c.kept.ensures

pub returns-in-Err-Refused : goal.returns-in-Err-Refused
returns-in-Err-Refused c =
    let same : left_as c.args.kept.now c.as_slice-found.result.now c.args.reading.now.heads c.name_or_empty.result.now c.name_or_empty-2.result.now
    ≡ left_by c.args.kept.now c.args.reading.now.found c.args.reading.now.heads =
    left_is c.args.kept.now c.args.reading.now.found c.as_slice-found.result.now c.args.reading.now.heads c.name_or_empty.result.now c.name_or_empty-2.result.now
    c.as_slice-found.ensures c.name_or_empty.ensures c.name_or_empty-2.ensures in
    subst (λ (x : JobNext). Gathers c.args.site c.args.kept.now c.args.reading.now.millis c.args.reading.now.found c.args.reading.now.heads x) (sym c.failing.ensures)
    (rw c.in-Err-Refused.field-0-is (gives_none c.in-Err-Refused.fault
    (subst (λ (left : Left). IsCollected left c.args.site.tool.now.outputs (Err c.in-Err-Refused.fault)) same
    (subst (λ (e : CollectError). IsFault (left_as c.args.kept.now c.as_slice-found.result.now c.args.reading.now.heads c.name_or_empty.result.now c.name_or_empty-2.result.now) c.args.site.tool.now.outputs e)
    c.in-Err-Refused.field-0-is c.in-Err-Refused.ensures.err))))
