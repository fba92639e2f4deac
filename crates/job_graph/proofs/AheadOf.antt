-- What an unfolding knows when one more place is learned, and before its walk is made.
use Rattle.std.proofs.Common.{◌≡◌, ◌∙◌, ℕ, ◌-◌, List, [], ◌∷◌, ◌++◌, length, map, reverse, take, true, Option, Some, None, refl, sym, ap, subst, arith}
use Rattle.std.proofs.Math.Seq.{take-append_seam}
use Rattle.std.proofs.lemmas.List.{length_push, map-append}
use Rattle.document_links.specs.declared.process.Process.{Process}
use Rattle.job_graph.specs.inner.Elements.{IsIn}
use Rattle.job_graph.specs.declared.kept.Kept.{Kept}
use Rattle.job_graph.specs.declared.made.Facts.{Facts}
use Rattle.job_graph.specs.declared.made.Resolved.{Resolved as KeptResolved}
use Rattle.job_graph.specs.declared.progress.Progress.{Progress}
use Rattle.job_graph.specs.Beside.{is_one_open}
use Rattle.job_graph.specs.Words.{Fields}
use Rattle.job_graph.specs.Jobs.{Job, Met, met_job, met_fault, Walker}
use Rattle.job_graph.specs.KnownJobs.{jobs_in}
use Rattle.job_graph.specs.Unfold.{Resolved, is_known, made_by, unfolded}
use Rattle.job_graph.specs.inner.Going.{EndedBelow, earlier, facts_before}
use Rattle.job_graph.specs.inner.Growth.{IsAhead, IsKnownMet, walk_in}
use Rattle.job_graph.specs.inner.Inside.{Stands, walks_in}
use Rattle.job_graph.specs.inner.Kept.{KeepsRoot, met_by, root_walk}
use Rattle.job_graph.specs.inner.Nested.{facts_with}
use Rattle.job_graph.specs.inner.Views.{made_from, resolved_of}
use Rattle.job_graph.proofs.Ahead.{amidst, among, one_of}
use Rattle.job_graph.proofs.OpenKept.{still_kept}
use Rattle.job_graph.proofs.laws_of_walks.Beside.{HasAt}
use Rattle.job_graph.proofs.laws_of_walks.Ended.{none_met}
use Rattle.job_graph.proofs.laws_of_walks.Known.{in_order, known_met}
use Rattle.job_graph.specs.inner.Elements.{IsIn as IsAmong}
use Rattle.job_graph.proofs.laws_of_walks.Learned.{in_part, made_stays, walk_grows}
use Rattle.job_graph.proofs.laws_of_walks.Open.{HasOpen, has_open, in_at, made_none, met_known, none_more}

pub earlier_push : {X : Type 0} (xs : List X) (x : X) → earlier (xs ++ x ∷ []) ≡ xs
earlier_push xs x =
    let n : length (xs ++ x ∷ []) - 1 ≡ length xs = omega (arith, length_push xs x) in
    ap (λ (n : ℕ). take n (xs ++ x ∷ [])) n ∙ take-append_seam xs (x ∷ [])

module _ (old : Progress) (resolved : KeptResolved) (more : List KeptResolved) (is : more ≡ old.facts.learned ++ resolved ∷ []) where
  pub before_is : facts_before (facts_with old.facts more) ≡ old.facts
  before_is = ap (facts_with old.facts) (ap earlier is ∙ earlier_push old.facts.learned resolved)

  pub kept_before : (process : Process) (fields : Fields) (kept : Option Kept) → KeepsRoot old.facts fields process kept → KeepsRoot (facts_before (facts_with old.facts more)) fields process kept
  kept_before process fields kept root = subst (λ (facts : Facts). KeepsRoot facts fields process kept) (sym before_is) root

  module _ (stands : Stands old) where
    abbrev walks : Walker
    walks = walks_in old

    abbrev learned : List Resolved
    learned = map resolved_of old.facts.learned

    abbrev one : Resolved
    one = resolved_of resolved

    abbrev new : Progress
    new = record old { facts = facts_with old.facts more }

    places : map resolved_of more ≡ learned ++ one ∷ []
    places = ap (map resolved_of) is ∙ map-append resolved_of old.facts.learned (resolved ∷ [])

    seen_met : (m : Met) → IsIn m (walk_in old).met → IsKnownMet (jobs_in old.known) m
    seen_met (met_job job) at =
        ap (λ (jobs : List Job). is_known jobs job) stands.jobs
        ∙ met_known old.process.now old.fields old.facts.measures stands.apart learned one job (among (met_job job) (walk_in old).met at)
    seen_met (met_fault place cause) at =
        none_met walks place cause (reverse learned) stands.fault
        (subst (IsAmong (met_fault place cause)) (sym (in_order old.process.now old.fields old.facts.measures learned)) (among (met_fault place cause) (walk_in old).met at))

    seen_by : (kept : Option Kept) (m : Met) → IsIn m (met_by (facts_with old.facts more) old.fields old.process.now kept) → IsKnownMet (jobs_in old.known) m
    seen_by None m at = absurd at
    seen_by (Some kept) m at = seen_met m (subst (λ (facts : Facts). IsIn m (root_walk facts old.fields old.process.now).met) before_is at)

    met_again : (job : Job) → IsIn job (jobs_in old.known) → IsIn (met_job job) (walk_in new).met
    met_again job at =
        let known : IsAmong (met_job job) (walks (made_by learned)).met =
        one_of (λ (job : Job). IsAmong (met_job job) (walks (made_by learned)).met) (unfolded walks learned).jobs (known_met old.process.now old.fields old.facts.measures learned) job
        (subst (λ (jobs : List Job). IsIn job jobs) stands.jobs at) in
        let later : IsAmong (met_job job) (walks (made_by (learned ++ one ∷ []))).met =
        in_part (met_job job) (walks (made_by learned)).met (walks (made_by (learned ++ one ∷ []))).met
        (walk_grows old.process.now old.fields old.facts.measures (made_by learned) (made_by (learned ++ one ∷ [])) (λ job met. made_stays learned (one ∷ []) job)).met known in
        amidst (met_job job) (walk_in new).met (subst (λ (places : List Resolved). IsAmong (met_job job) (walks (made_by places)).met) (sym places) later)

    pub ahead : IsAhead new
    ahead = record { seen = seen_by old.kept; met = met_again }

    -- where a job beside it is open
    pub kept_open : is_one_open learned one.place (jobs_in old.known) ≡ true → KeepsRoot (facts_with old.facts more) old.fields old.process.now old.kept
    kept_open open_one =
        let waits : HasOpen old.process.now old.fields old.facts.measures stands.apart learned one =
        has_open old.process.now old.fields old.facts.measures stands.apart learned one
        (sym (ap (λ (jobs : List Job). is_one_open learned one.place jobs) stands.jobs) ∙ open_one) in
        let below : EndedBelow (facts_with old.facts more) [] resolved.at.place =
        record { last = resolved; is = is ∙ ap (λ (front : List KeptResolved). front ++ resolved ∷ []) (sym (ap earlier is ∙ earlier_push old.facts.learned resolved)); at = refl } in
        still_kept (facts_with old.facts more) resolved.at.place below waits.job.place waits.beside
        (λ job at. ap (λ (facts : Facts). made_from facts job) before_is
        ∙ made_none old.process.now old.fields old.facts.measures stands.apart learned one waits learned waits.none job at)
        (λ job at. ap (λ (places : List Resolved). made_by places job) places
        ∙ made_none old.process.now old.fields old.facts.measures stands.apart learned one waits (learned ++ one ∷ []) (none_more old.process.now old.fields old.facts.measures stands.apart learned one waits) job at)
        old.process.now old.fields stands.apart
        (subst (λ (facts : Facts). HasAt waits.job.place (root_walk facts old.fields old.process.now).met) (sym before_is) (in_at (walks (made_by learned)).met waits.job waits.met))
        old.kept (kept_before old.process.now old.fields old.kept stands.kept)
