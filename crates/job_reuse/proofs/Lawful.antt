-- The laws of jobs whose outputs were collected.
use Rattle.std.proofs.Common.{◌≡◌, true, get_or, subst}
use Rattle.std.specs.List.{All}
use Rattle.std.specs.Map.{values_of}
use Rattle.collected_outputs.proofs.Declared.{those_declared}
use Rattle.collected_outputs.specs.Listing.{Listing}
use Rattle.job_rows.proofs.ReadBack.{outputs_read_back}
use Rattle.job_reuse.specs.Laws.{CollectedOutputsAreKept, CollectedOutputsReadBack, RowsOfJobsAreSound}
use Rattle.job_reuse.specs.Sound.{all_stand}
use Rattle.job_reuse.proofs.Collected.{outputs_kept, outputs_settled}
use Rattle.job_reuse.proofs.Settled.{all_there}

pub are_kept : CollectedOutputsAreKept
are_kept found left outputs values job form = outputs_kept found left job.left_by outputs values job.collected form

pub read_back : CollectedOutputsReadBack
read_back found left outputs values job form = outputs_read_back values (are_kept found left outputs values job form)

pub rows_sound : RowsOfJobsAreSound
rows_sound found left tool values job key millis archived =
    let settled = outputs_settled found left job.left_by tool.outputs values job.collected in
    record {
      declared = those_declared left tool.outputs values job.collected;
      there = subst (λ (l : Listing). All (λ v. all_stand l v ≡ true) (values_of values)) job.left_by.listed (λ k d within. all_there left.listing (get_or (values_of values) k d) (settled k d within));
    }
