-- Where the work on a job is, and what comes of it.
use Rattle.std.proofs.Common.{◌≡◌, ℕ, Bool, true, false, List, [], ◌∷◌, Option, Some, None, refl}
use Rattle.staging.specs.declared.found.Found.{Found}
use Rattle.collected_outputs.specs.Contents.{Heads}
use Rattle.job_graph.specs.Jobs.{Job}
use Rattle.job_graph.specs.Words.{Name, Fields, JobPlace, is_same_place}
use Rattle.job_rows.specs.declared.row.Row.{Row}
use Rattle.run_rules.specs.declared.outcome.Cause.{Cause}
use Rattle.run_rules.specs.declared.setting.Options.{Options}
use Rattle.run_rules.specs.CollectsOn.{CollectsOn, reads_on as collects_reading, collects, collects_none}
use Rattle.run_rules.specs.Events.{Event, Started, Work, nothing_due, input_heads_due, start_due, scan_due, output_heads_due, put_due, store_due, drop_due, touch_due, discard_due, brings, job_failed, job_repeated, job_succeeded, row_differs}
use Rattle.run_rules.specs.Keeps.{Keeps, keeps, keeps_none, differs, told_of, work_to_keep}
use Rattle.run_rules.specs.StartsOn.{StartsOn, reads_on as starts_reading, has_launch, has_no_launch, has_no_contents}
use Rattle.run_rules.proofs.Flying.{is_grounded}

-- its child is still to be started
abbrev pub works_before : JobPlace → Work → Bool
works_before place (input_heads_due q staged todo read) = is_same_place q place
works_before place (start_due q inputs launch) = is_same_place q place
works_before place work = false

-- its child has ended, and its outputs are still to be collected
abbrev pub works_past : JobPlace → Work → Bool
works_past place (scan_due q millis) = is_same_place q place
works_past place (output_heads_due q millis found todo read) = is_same_place q place
works_past place work = false

pub before_not_past : (place : JobPlace) (work : Work) → works_before place work ≡ true → works_past place work ≡ false
before_not_past place nothing_due is = refl
before_not_past place (input_heads_due q staged todo read) is = refl
before_not_past place (start_due q inputs launch) is = refl
before_not_past place (scan_due q millis) is = absurd cc
before_not_past place (output_heads_due q millis found todo read) is = absurd cc
before_not_past place (put_due q row) is = refl
before_not_past place (drop_due q key) is = refl
before_not_past place (touch_due q key) is = refl
before_not_past place (discard_due q key more) is = refl
before_not_past place (store_due q row) is = refl

-- what comes of a job that is staged
pub data StartsAs (q : JobPlace) : Work → List Event → Type 0 where
  goes_on : (work : Work) → ((place : JobPlace) → works_before place work ≡ true → is_same_place q place ≡ true) → StartsAs q work []
  fails_so : (cause : Cause) → StartsAs q nothing_due (job_failed q cause ∷ [])

pub starts_as : {options : Options} {q : JobPlace} {job : Job} {number : ℕ} {staged : Fields} {read : Heads} {todo : List Name} {work : Work} {more : List Event} →
    StartsOn options q job number staged read todo work more → StartsAs q work more
starts_as {q = q} (starts_reading path rest) = goes_on _ (λ place is. is)
starts_as {q = q} (has_launch inputs launch with_them is) = goes_on _ (λ place its. its)
starts_as (has_no_launch inputs fault with_them is) = fails_so _
starts_as (has_no_contents fault is) = fails_so _

-- and of one whose outputs are collected: more is read, or they are at hand, or the end is settled
pub data CollectsAs (q : JobPlace) : Work → List Event → Type 0 where
  reads : (work : Work) → ((place : JobPlace) → works_past place work ≡ is_same_place q place) → ((place : JobPlace) → works_before place work ≡ false) → CollectsAs q work []
  brings_it : (e : Event) (work : Work) → ((place : JobPlace) → brings place e ≡ is_same_place q place) → is_grounded e ≡ true → ((place : JobPlace) → works_before place work ≡ false) →
      CollectsAs q work (e ∷ [])
  fails_to : (cause : Cause) → CollectsAs q nothing_due (job_failed q cause ∷ [])
  differs_to : (outputs : Fields) → CollectsAs q nothing_due (row_differs q outputs ∷ [])

kept_after : (keep : Bool) (q : JobPlace) (row : Row) (place : JobPlace) → works_before place (work_to_keep keep q row) ≡ false
kept_after true q row place = refl
kept_after false q row place = refl

told_as : (keep : Bool) (q : JobPlace) (outputs : Fields) (row : Option Row) (made : Row) → CollectsAs q (work_to_keep keep q made) (told_of q outputs row ∷ [])
told_as keep q outputs None made = brings_it (job_succeeded q outputs) _ (λ place. refl) refl (kept_after keep q made)
told_as keep q outputs (Some row) made = brings_it (job_repeated q) _ (λ place. refl) refl (kept_after keep q made)

keeps_as : {keep : Bool} {q : JobPlace} {job : Job} (row : Option Row) {millis : ℕ} {found : List Found} (outputs : Fields) {work : Work} {more : List Event} →
    Keeps keep q job row millis found outputs work more → CollectsAs q work more
keeps_as {q = q} row outputs (keeps_none once) = brings_it (job_succeeded q outputs) nothing_due (λ place. refl) refl (λ place. refl)
keeps_as {keep = keep} {q = q} row outputs (keeps reusable agrees) = told_as keep q outputs row _
keeps_as row outputs (differs other reusable is apart) = differs_to outputs

pub collects_as : {keep : Bool} {q : JobPlace} {job : Job} (row : Option Row) {started : Started} {millis : ℕ} {found : List Found} {read : Heads} {todo : List Name} {work : Work}
    {more : List Event} → CollectsOn keep q job row started millis found read todo work more → CollectsAs q work more
collects_as row (collects_reading name rest) = reads _ (λ place. refl) (λ place. refl)
collects_as row (collects outputs work more is kept) = keeps_as row outputs kept
collects_as row (collects_none fault is) = fails_to _
