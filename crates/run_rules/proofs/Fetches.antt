-- Two jobs, one of which has an archived row: when its files are fetched, where they are, and what comes of an archive that is another, or that is taken
-- away.
use Rattle.std.proofs.Common.{◌≡◌, ℕ, Bool, true, List, [], ◌∷◌, ◌++◌, Option, Some, None, length, refl, lit<}
use Rattle.std.specs.Fmt.{digits}
use Rattle.std.specs.Prelude.{codes, false, filter}
use Rattle.job_reuse.specs.Rows.{AreTheSame, made_row}
use Rattle.job_rows.specs.declared.refusal.RecordRefusal.TheVariants.{Store}
use Rattle.job_rows.specs.declared.row.Row.{Row}
use Rattle.plan_checker.specs.declared.plan.Mark.{Mark}
use Rattle.plan_checker.specs.declared.vertex.Vertex.{Vertex}
use Rattle.plan_checker.specs.declared.plan.Mark.TheVariants.{Compute, Load}
use Rattle.proc_host.specs.declared.call.HostAnswer.{HostAnswer}
use Rattle.proc_host.specs.declared.call.HostFault.{HostFault}
use Rattle.proc_host.specs.declared.call.HostRequest.{HostRequest}
use Rattle.staging.specs.declared.found.Found.{Found}
use Rattle.run_rules.specs.declared.outcome.NoteKind.{NoteKind}
use Rattle.run_rules.specs.declared.request.Pair.{Pair}
use Rattle.run_rules.specs.declared.request.RecordAnswer.{RecordAnswer}
use Rattle.run_rules.specs.declared.request.RecordRequest.{RecordRequest}
use Rattle.run_rules.specs.declared.request.Request.{Request}
use Rattle.run_rules.specs.declared.setting.Options.{Options}
use Rattle.run_rules.specs.Allowed.{MayFetch, due}
use Rattle.run_rules.specs.Costs.{graph_at}
use Rattle.run_rules.specs.End.{settled}
use Rattle.run_rules.specs.Events.{Event, archive_differs, can_load, drop_due, touch_due, discard_due, drop_failed, touch_failed, discard_failed, files_fetched, folder_at, is_at_hand, is_numbered, job_staged, no_row, Progress, put_due, resolved, row_found}
use Rattle.run_rules.specs.Reports.{notes_of}
use Rattle.run_rules.specs.Scene.{Scene}
use Rattle.run_rules.specs.Steps.{call, command, discard_fails, discards, drop_fails, drops, fetches, fetches_other, puts, touch_fails, touches}
use Rattle.run_rules.proofs.Leads.{Leads, follows, stays}
use Rattle.run_rules.proofs.TranscriptTells.{none_in}
use Rattle.run_rules.proofs.TwoJobs.{a, at, b, job, options, s, two}

-- the same two jobs, where an archive is kept
abbrev keeping : Options
keeping = record {
  work = options.work;
  outdir = options.outdir;
  path_env = options.path_env;
  slots = 2;
  retries = 0;
  base = 1;
  rate = 100000;
  keep = true;
}

abbrev kept : Scene
kept = record { walker = λ measures. two; paths = []; options = keeping; made_before = λ place. false }

abbrev left : List Found
left = record { name = codes "o"; is_dir = false; size = 1; sum = codes "5" } ∷ []

-- a text of one letter stands for the key of both
abbrev k : List ℕ
k = codes "k"

abbrev archived_row : Row
archived_row = made_row k [] left 1000 true

-- the record has a row of the first job alone, with its archive
abbrev found : List Event
found = row_found a archived_row ∷ no_row b ∷ []

it_may_be_loaded : can_load kept found a ≡ true
it_may_be_loaded = refl

not_what_has_no_row : can_load kept found b ≡ false
not_what_has_no_row = refl

not_what_has_no_archive : can_load kept (row_found a (made_row k [] left 1000 false) ∷ no_row b ∷ []) a ≡ false
not_what_has_no_archive = refl

not_where_none_is_kept : can_load s found a ≡ false
not_where_none_is_kept = refl

-- To load it costs the base, and one more for its byte; to compute it costs what its row says, and the other what is said of a job without a
-- row. What a row has tells of is known, and no output of the process is the job's, so it is not needed

abbrev job_vertex : Option ℕ → Bool → Vertex
job_vertex load needed = record { load = load; compute = 1000; parents = []; needed = needed }

they_cost : graph_at kept found ≡ job_vertex (Some 2) false ∷ job_vertex None true ∷ []
they_cost = refl

and_where_no_archive_is_kept : graph_at s found ≡ job_vertex None false ∷ job_vertex None true ∷ []
and_where_no_archive_is_kept = refl

-- All files that its row has are fetched, under the row's key, to the first folder, where the plan in force loads it

it_is_fetched : MayFetch kept (at found) (Load ∷ Compute ∷ []) a k 1 left
it_is_fetched = record {
  free = record { still = record { idle = refl; collects = refl; unsettled = refl }; measured = refl; looked_up = refl };
  job = job a;
  known = refl;
  loaded = refl;
  not_held = refl;
  row = archived_row;
  found = refl;
  its_key = refl;
  its_files = refl;
  next_number = refl;
}

abbrev fetch_of : List Found → Pair
fetch_of there = call a (HostRequest.Fetch k 1 left) (HostAnswer.Fetched there)

abbrev fetched : List Event
fetched = found ++ files_fetched a 1 ∷ []

-- that the archive was used is told next
abbrev to_be_touched : Progress
to_be_touched = record { work = touch_due a k; events = fetched }

they_are_there : Leads kept (at found) (fetch_of left ∷ []) to_be_touched
they_are_there = follows (fetches a k 1 left left archived_row refl (λ f. (λ there. there, λ there. there))) stays

the_touch_is_asked : due kept to_be_touched ≡ Some (Request.Record a (RecordRequest.Touch k))
the_touch_is_asked = refl

it_is_touched : Leads kept to_be_touched (command a (RecordRequest.Touch k) RecordAnswer.Done ∷ []) (at fetched)
it_is_touched = follows (touches a k) stays

-- one that the record refuses is noted, and settles nothing
abbrev untouched : List Event
untouched = fetched ++ touch_failed a Store ∷ []

it_is_not_touched : Leads kept to_be_touched (command a (RecordRequest.Touch k) (RecordAnswer.Refused Store) ∷ []) (at untouched)
it_is_not_touched = follows (touch_fails a k Store) stays

that_is_noted : notes_of untouched ≡ record { place = a; kind = NoteKind.Touch Store } ∷ []
that_is_noted = refl

that_settles_nothing : settled kept untouched ≡ None
that_settles_nothing = refl

-- Its outputs are known from its row on, and at hand once its files are fetched

it_is_known : resolved found ≡ record { place = a; outputs = [] } ∷ []
it_is_known = refl

it_is_away : is_at_hand found a ≡ false
it_is_away = refl

it_is_at_hand : is_at_hand fetched a ≡ true
it_is_at_hand = refl

in_the_folder_of_the_fetch : folder_at kept fetched a ≡ codes "w/f1/out"
unfolding digits
in_the_folder_of_the_fetch = refl

-- that of a child, where it was staged
in_the_folder_of_a_child : folder_at kept (found ++ job_staged a 1 ∷ []) a ≡ codes "w/j1/out"
unfolding digits
in_the_folder_of_a_child = refl

not_twice : {marks : List Mark} {key : List ℕ} {number : ℕ} {files : List Found} → MayFetch kept (at fetched) marks a key number files → ⊥
not_twice may = let never : true ≡ false = may.not_held in cc

not_where_none_is_kept_either : {key : List ℕ} {number : ℕ} {files : List Found} → MayFetch s (at found) (Compute ∷ Compute ∷ []) a key number files → ⊥
not_where_none_is_kept_either may = let never : Compute ≡ Load = may.loaded in cc

-- What is there is not what the row has: the archive is dropped next, and the job can't be loaded any more

abbrev other : List Event
other = found ++ archive_differs a k 1 ∷ []

abbrev to_be_dropped : Progress
to_be_dropped = record { work = drop_due a k; events = other }

none_is_other : AreTheSame left [] → ⊥
none_is_other same = none_in _ ((same (record { name = codes "o"; is_dir = false; size = 1; sum = codes "5" })).0 (0, lit< tt, refl))

it_differs : Leads kept (at found) (fetch_of [] ∷ []) to_be_dropped
it_differs = follows (fetches_other a k 1 left [] archived_row refl none_is_other) stays

the_drop_is_asked : due kept to_be_dropped ≡ Some (Request.Record a (RecordRequest.DropArchive k))
the_drop_is_asked = refl

it_is_not_at_hand : is_at_hand other a ≡ false
it_is_not_at_hand = refl

it_cannot_be_loaded_again : can_load kept other a ≡ false
it_cannot_be_loaded_again = refl

it_has_no_load_cost_any_more : graph_at kept other ≡ job_vertex None false ∷ job_vertex None true ∷ []
it_has_no_load_cost_any_more = refl

not_from_there_again : {key : List ℕ} {number : ℕ} {files : List Found} → MayFetch kept (at other) (Compute ∷ Compute ∷ []) a key number files → ⊥
not_from_there_again may = let never : Compute ≡ Load = may.loaded in cc

-- nor can another job whose row has this key, and one of another key can
nor_one_of_its_key : can_load kept (row_found a archived_row ∷ row_found b archived_row ∷ archive_differs a k 1 ∷ []) b ≡ false
nor_one_of_its_key = refl

one_of_another_key : can_load kept (row_found a archived_row ∷ row_found b (made_row (codes "l") [] left 1000 true) ∷ archive_differs a k 1 ∷ []) b ≡ true
one_of_another_key = refl

-- the number is used up, so what comes next has another
its_number_is_gone : length (filter is_numbered other) ≡ 1
its_number_is_gone = refl

-- The record drops it, or refuses to: that is a note, and settles nothing. It is discarded next in both cases

abbrev discarded : Pair
discarded = call a (HostRequest.Discard k) HostAnswer.Done

the_discard_is_asked : due kept (record { work = discard_due a k []; events = other }) ≡ Some (Request.Host a (HostRequest.Discard k))
the_discard_is_asked = refl

it_is_dropped : Leads kept to_be_dropped (command a (RecordRequest.DropArchive k) RecordAnswer.Done ∷ discarded ∷ []) (at other)
it_is_dropped = follows (drops a k) (follows (discards a k [] refl) stays)

abbrev refused : List Event
refused = other ++ drop_failed a Store ∷ []

it_is_refused : Leads kept to_be_dropped (command a (RecordRequest.DropArchive k) (RecordAnswer.Refused Store) ∷ discarded ∷ []) (at refused)
it_is_refused = follows (drop_fails a k Store) (follows (discards a k [] refl) stays)

it_is_noted : notes_of refused ≡ record { place = a; kind = NoteKind.Drop Store } ∷ []
it_is_noted = refl

it_settles_nothing : settled kept refused ≡ None
it_settles_nothing = refl

and_the_job_can_not_be_loaded : graph_at kept refused ≡ job_vertex None false ∷ job_vertex None true ∷ []
and_the_job_can_not_be_loaded = refl

-- A put that takes two archives away: they are discarded one after the other, also where the first could not be, which is a note

abbrev k2 : List ℕ
k2 = codes "l"

abbrev put_away : Pair
put_away = command b (RecordRequest.Put archived_row) (RecordAnswer.Put (k2 ∷ k ∷ []))

both_are_discarded : Leads kept (record { work = put_due b archived_row; events = found })
    (put_away ∷ call b (HostRequest.Discard k2) HostAnswer.Done ∷ call b (HostRequest.Discard k) HostAnswer.Done ∷ []) (at found)
both_are_discarded = follows (puts b archived_row (k2 ∷ k ∷ [])) (follows (discards b k2 (k ∷ []) refl) (follows (discards b k [] refl) stays))

abbrev undiscarded : List Event
undiscarded = found ++ discard_failed b ∷ []

so_is_the_second : Leads kept (record { work = put_due b archived_row; events = found })
    (put_away ∷ call b (HostRequest.Discard k2) (HostAnswer.Failed HostFault.Discard) ∷ call b (HostRequest.Discard k) HostAnswer.Done ∷ []) (at undiscarded)
so_is_the_second = follows (puts b archived_row (k2 ∷ k ∷ [])) (follows (discard_fails b k2 (k ∷ []) refl) (follows (discards b k [] refl) stays))

the_first_is_noted : notes_of undiscarded ≡ record { place = b; kind = NoteKind.Discard HostFault.Discard } ∷ []
the_first_is_noted = refl

it_changes_no_end : settled kept undiscarded ≡ None
it_changes_no_end = refl
