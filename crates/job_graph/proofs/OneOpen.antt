-- One of the known jobs is found to be open.
use Rattle.std.proofs.Common.{◌≡◌, ◌∙◌, ◌<◌, ℕ, zero, suc, List, [], ◌∷◌, length, Bool, true, false, map, refl, sym, ap, ap₂, arith, get_or}
use Rattle.std.specs.Prelude.{◌&&◌, ◌||◌, is_some, not}
use Rattle.std.specs.List.{list_any, zip}
use Rattle.std.proofs.Math.Bool.{and_comm}
use Rattle.job_graph.specs.declared.growth.KnownJob.{KnownJob}
use Rattle.job_graph.specs.declared.progress.Progress.{Progress}
use Rattle.job_graph.specs.Beside.{is_beside, is_one_open}
use Rattle.job_graph.specs.Unfold.{Resolved, outputs_at}
use Rattle.job_graph.specs.KnownJobs.{jobs_in}
use Rattle.job_graph.specs.inner.Ended.{ended_of, has_ended, open_by}
use Rattle.job_graph.specs.inner.Inside.{IsFlagged}
use Rattle.job_graph.specs.inner.Outputs.{are_learned}
use Rattle.job_graph.specs.inner.Views.{resolved_of}
use Rattle.job_graph.specs.Words.{JobPlace}

or_true : (a b : Bool) → b ≡ true → (a || b) ≡ true
or_true true b is = refl
or_true false b is = is

and_false : (a b : Bool) → b ≡ false → (a && b) ≡ false
and_false true b is = is
and_false false b is = refl

open_at : (place : JobPlace) (ended : List Bool) (known : List KnownJob) (n : ℕ) (flag : Bool) (other : KnownJob) → length ended ≡ length known → n < length known →
    open_by place (get_or ended n flag, get_or known n other) ≡ true → list_any (open_by place) (zip ended known) ≡ true
open_at place ended [] n flag other long below found = absurd (omega arith)
open_at place [] (k ∷ ks) n flag other long below found = absurd (omega arith)
open_at place (f ∷ fs) (k ∷ ks) zero flag other long below found = ap (λ (b : Bool). b || list_any (open_by place) (zip fs ks)) found
open_at place (f ∷ fs) (k ∷ ks) (suc n) flag other long below found =
    or_true (open_by place (f, k)) (list_any (open_by place) (zip fs ks)) (open_at place fs ks n flag other (omega arith) (omega arith) found)

pub found_open : (place : JobPlace) (ended : List Bool) (known : List KnownJob) (n : ℕ) (flag : Bool) (one : KnownJob) → length ended ≡ length known → n < length known →
    one ≡ get_or known n one → open_by place (get_or ended n flag, one) ≡ true → list_any (open_by place) (zip ended known) ≡ true
found_open place ended known n flag one long below is found =
    open_at place ended known n flag one long below (ap (λ (k : KnownJob). open_by place (get_or ended n flag, k)) (sym is) ∙ found)

-- what the flags say of the jobs beside a place
pub opens_by : (learned : List Resolved) (place : JobPlace) (known : List KnownJob) →
    list_any (open_by place) (zip (ended_of learned known) known) ≡ is_one_open learned place (jobs_in known)
opens_by learned place [] = refl
opens_by learned place (k ∷ ks) = ap₂ (λ (a b : Bool). a || b) (and_comm (not (has_ended learned k)) (is_beside place k.job.place)) (opens_by learned place ks)

-- of an unfolding, where its flags and jobs are lent
pub opens_are : (held : Progress) (place : JobPlace) (ended : List Bool) (known : List KnownJob) → IsFlagged held → ended ≡ held.ended.items → known ≡ held.known →
    list_any (open_by place) (zip ended known) ≡ true → is_one_open (map resolved_of held.facts.learned) place (jobs_in held.known) ≡ true
opens_are held place ended known flagged ended_are known_are found =
    sym (opens_by (map resolved_of held.facts.learned) place held.known)
    ∙ sym (ap₂ (λ (fs : List Bool) (ks : List KnownJob). list_any (open_by place) (zip fs ks)) (ended_are ∙ flagged) known_are)
    ∙ found

-- one of them has not ended
pub found_unlearned : (learned : List Resolved) (known : List KnownJob) (n : ℕ) (other : KnownJob) → n < length known →
    is_some (outputs_at learned (get_or known n other).job.place) ≡ false → are_learned learned (jobs_in known) ≡ false
found_unlearned learned [] n other below found = absurd (omega arith)
found_unlearned learned (k ∷ ks) zero other below found = ap (λ (b : Bool). b && are_learned learned (jobs_in ks)) found
found_unlearned learned (k ∷ ks) (suc n) other below found =
    and_false (is_some (outputs_at learned k.job.place)) (are_learned learned (jobs_in ks)) (found_unlearned learned ks n other (omega arith) found)
