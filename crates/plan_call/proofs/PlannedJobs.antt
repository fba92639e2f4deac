-- The known jobs of a plan, one after another.
use Rattle.std.proofs.Common.{◌≡◌, ◌∙◌, ℕ, ◌+◌, ◌<◌, ◌≤◌, List, [], ◌∷◌, ◌++◌, ap, arith, get_or, length, map, sym, take}
use Rattle.std.specs.Prelude.{zip}
use Rattle.std.proofs.lemmas.List.{map-append, take_all, take_more}
use Rattle.std.proofs.lemmas.Slice.Zip.{get_or-zip, length-zip}
use Rattle.cwl_value.specs.declared.place.Segment.{Segment}
use Rattle.plan_waits.specs.declared.waiting.PlannedJob.{PlannedJob}
use Rattle.plan_words.specs.declared.reasons.Known.{Known}
use Rattle.plan_words.specs.declared.reasons.Known.TheVariants.{NotRecorded}
use Rattle.plan_call.specs.Plans.{planned_job}

module _ (places : List (List Segment)) (known : List Known) (long : length known ≡ length places) where
  zipped_long : length (zip places known) ≡ length places
  zipped_long = omega (arith, long, length-zip places known)

  -- one job more
  pub jobs_more : (i : ℕ) (jobs new : List PlannedJob) (job : PlannedJob) → i < length places → jobs ≡ map planned_job (take i (zip places known))
      → job ≡ planned_job (get_or places i [], get_or known i NotRecorded) → new ≡ jobs ++ job ∷ [] → new ≡ map planned_job (take (i + 1) (zip places known))
  jobs_more i jobs new job within so_far is more =
      let zipped = zipped_long in
      let place : List Segment = get_or places i [] in
      let one : Known = get_or known i NotRecorded in
      let here : get_or (zip places known) i ([], NotRecorded) ≡ (place, one) = get_or-zip places known i ([], NotRecorded) within (omega arith) in
      let next : take (i + 1) (zip places known) ≡ take i (zip places known) ++ (place, one) ∷ [] =
      take_more (zip places known) i ([], NotRecorded) (omega arith) ∙ ap (λ (e : List Segment × Known). take i (zip places known) ++ e ∷ []) here in
      more
      ∙ ap (λ (j : List PlannedJob). j ++ job ∷ []) so_far
      ∙ ap (λ (j : PlannedJob). map planned_job (take i (zip places known)) ++ j ∷ []) is
      ∙ sym (map-append planned_job (take i (zip places known)) ((place, one) ∷ []))
      ∙ ap (map planned_job) (sym next)

  -- all of them
  pub jobs_all : (jobs : List PlannedJob) (n : ℕ) → length places ≤ n → jobs ≡ map planned_job (take n (zip places known)) → jobs ≡ map planned_job (zip places known)
  jobs_all jobs n within so_far =
      let zipped = zipped_long in
      so_far ∙ ap (map planned_job) (take_all n (zip places known) (omega arith))
