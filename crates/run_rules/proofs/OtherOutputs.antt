-- Two jobs, one of which has a row: what it comes to where the job gives what the row has, and where it gives something else or nothing.
use Rattle.std.proofs.Common.{◌≡◌, Bool, true, List, [], ◌∷◌, ◌++◌, Some, refl, None}
use Rattle.std.specs.Prelude.{codes, false}
use Rattle.cwl_value.specs.declared.value.Value as value
use Rattle.proc_host.specs.declared.call.HostAnswer.{HostAnswer}
use Rattle.proc_host.specs.declared.call.HostFault.{HostFault}
use Rattle.proc_host.specs.declared.call.HostRequest.{HostRequest}
use Rattle.job_reuse.specs.Rows.{made_row}
use Rattle.job_rows.specs.declared.refusal.RecordRefusal.TheVariants.{Store}
use Rattle.job_rows.specs.declared.row.Row.{Row}
use Rattle.run_rules.specs.declared.outcome.Cause.{Cause}
use Rattle.run_rules.specs.declared.outcome.NoteKind.{NoteKind}
use Rattle.run_rules.specs.declared.request.Request.{Request}
use Rattle.run_rules.specs.Allowed.{due_in}
use Rattle.run_rules.specs.End.{fails_temporarily, mismatches, fails_permanently, settled}
use Rattle.run_rules.specs.EndsSo.{EndsSo, fails}
use Rattle.run_rules.specs.Events.{Event, child_exited, job_staged, job_started, job_failed, job_failed_for_now, job_repeated, job_succeeded, no_row, nothing_due, put_due, put_failed, row_differs, row_found, is_at_hand, resolved, store_due, store_failed, scan_due, host_failed_late}
use Rattle.run_rules.specs.Folders.{out_folder}
use Rattle.run_rules.specs.Keeps.{Keeps, keeps, differs}
use Rattle.run_rules.specs.Reports.{notes_of}
use Rattle.run_rules.specs.Steps.{Steps, call, call_fails_late, stores, store_fails}
use Rattle.run_rules.proofs.TwoJobs.{a, at, b, badly, its_key, its_row, job, launch, s}
use Rattle.plan_checker.specs.declared.plan.Mark.TheVariants.{Compute}

-- a row with an output that the job does not give
abbrev other_row : Row
other_row = made_row its_key ((codes "n", value.Bool true) ∷ []) [] 1000 false

abbrev other_found : List Event
other_found = row_found a other_row ∷ no_row b ∷ job_staged a 1 ∷ job_started a [] (launch 1) 1 ∷ child_exited 1 ∷ []

abbrev same_found : List Event
same_found = row_found a its_row ∷ no_row b ∷ job_staged a 1 ∷ job_started a [] (launch 1) 1 ∷ child_exited 1 ∷ []

-- other outputs are kept nowhere, and end the run
they_differ : Keeps false a (job a) (Some other_row) 1000 [] [] nothing_due (row_differs a [] ∷ [])
they_differ = differs other_row refl refl (λ same. cc)

it_mismatches : EndsSo s (at (other_found ++ row_differs a [] ∷ [])) (Compute ∷ Compute ∷ []) (mismatches a)
it_mismatches = fails _ refl refl refl refl

-- so does a permanent failure, and a temporary one does not
none_is_other_too : EndsSo s (at (same_found ++ job_failed a (Cause.Exit badly) ∷ [])) (Compute ∷ Compute ∷ []) (mismatches a)
none_is_other_too = fails _ refl refl refl refl

a_signal_is_no_mismatch : EndsSo s (at (same_found ++ job_failed_for_now a ∷ [])) (Compute ∷ Compute ∷ []) (fails_temporarily a)
a_signal_is_no_mismatch = fails _ refl refl refl refl

-- the first failure counts
b_failed_before : EndsSo s (at (other_found ++ job_failed b (Cause.Exit badly) ∷ row_differs a [] ∷ [])) (Compute ∷ Compute ∷ []) (fails_permanently b (Cause.Exit badly))
b_failed_before = fails _ refl refl refl refl

-- what the row has is known at once, and is at hand only once the job has given it again
it_is_known : resolved same_found ≡ record { place = a; outputs = [] } ∷ []
it_is_known = refl

it_is_away : is_at_hand same_found a ≡ false
it_is_away = refl

it_is_there : is_at_hand (same_found ++ job_repeated a ∷ []) a ≡ true
it_is_there = refl

it_is_known_once : resolved (same_found ++ job_repeated a ∷ []) ≡ resolved same_found
it_is_known_once = refl

-- the same outputs are put again, with what they took this time
they_agree : Keeps false a (job a) (Some its_row) 7 [] [] (put_due a (made_row its_key [] [] 7 false)) (job_repeated a ∷ [])
they_agree = keeps refl refl

-- a row that is refused is noted, and settles nothing
it_is_noted : notes_of (same_found ++ job_repeated a ∷ put_failed a Store ∷ []) ≡ record { place = a; kind = NoteKind.Put Store } ∷ []
it_is_noted = refl

it_settles_nothing : settled s (same_found ++ job_repeated a ∷ put_failed a Store ∷ []) ≡ None
it_settles_nothing = refl

-- where an archive is kept, what was found in the job's folder is archived first, under the key
abbrev row_so : Bool → Row
row_so archived = made_row its_key [] [] 7 archived

it_is_to_be_archived : Keeps true a (job a) (Some its_row) 7 [] [] (store_due a (row_so false)) (job_repeated a ∷ [])
it_is_to_be_archived = keeps refl refl

-- also where no row of it was found
so_it_is_without_a_row : Keeps true a (job a) None 7 [] [] (store_due a (row_so false)) (job_succeeded a [] ∷ [])
so_it_is_without_a_row = keeps refl tt

abbrev collected : List Event
collected = same_found ++ job_repeated a ∷ []

abbrev the_store : HostRequest
the_store = HostRequest.Store its_key (out_folder (codes "w") 1) []

the_store_is_due : due_in s collected (store_due a (row_so false)) ≡ Some (Request.Host a the_store)
the_store_is_due = refl

-- the row that is put then says whether it was
it_is_archived : Steps s (record { work = store_due a (row_so false); events = collected }) (call a the_store HostAnswer.Done) (put_due a (row_so true)) []
it_is_archived = stores a _ _ _ (row_so false) refl

it_is_not_archived : Steps s (record { work = store_due a (row_so false); events = collected }) (call a the_store (HostAnswer.Failed HostFault.Store)) (put_due a (row_so false)) (store_failed a ∷ [])
it_is_not_archived = store_fails a _ _ _ (row_so false) refl

-- what could not be archived is noted, and settles nothing, whatever settled the end before
that_is_noted : notes_of (collected ++ store_failed a ∷ []) ≡ record { place = a; kind = NoteKind.Store HostFault.Store } ∷ []
that_is_noted = refl

that_settles_nothing : settled s (collected ++ store_failed a ∷ []) ≡ None
that_settles_nothing = refl

-- a call that fails once the end is settled is late: it is noted, and changes no end
abbrev after_b : List Event
after_b = job_failed b (Cause.Exit badly) ∷ same_found

a_scan_is_late : Steps s (record { work = scan_due a 7; events = after_b }) (call a (HostRequest.Scan (codes "w/j1/out")) (HostAnswer.Failed HostFault.Scan)) nothing_due (host_failed_late a HostFault.Scan ∷ [])
a_scan_is_late = call_fails_late a _ (fails_permanently b (Cause.Exit badly)) refl refl

the_late_call_is_noted : notes_of (after_b ++ host_failed_late a HostFault.Scan ∷ []) ≡ record { place = a; kind = NoteKind.Late HostFault.Scan } ∷ []
the_late_call_is_noted = refl

the_late_call_changes_no_end : settled s (after_b ++ host_failed_late a HostFault.Scan ∷ []) ≡ Some (fails_permanently b (Cause.Exit badly))
the_late_call_changes_no_end = refl

b_failed_before_that : settled s (job_failed b (Cause.Exit badly) ∷ collected ++ store_failed a ∷ []) ≡ Some (fails_permanently b (Cause.Exit badly))
b_failed_before_that = refl
