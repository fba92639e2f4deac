-- A scene of two jobs that know nothing of each other, given by hand, with a slot for each: its runs, computed.
use Rattle.std.proofs.Common.{◌≡◌, ℕ, Bool, true, cond, rules, sym, pos, List, [], ◌∷◌, ◌++◌, Option, Some, None, Ok, refl, lit<}
use Rattle.std.specs.Fmt.{digits}
use Rattle.std.specs.Prelude.{ℤ, false, codes}
use Rattle.command_line.specs.Launch.{IsLaunch}
use Rattle.command_line.specs.declared.launch.Launch.{Launch}
use Rattle.command_line.specs.declared.launch.Variable.{Variable}
use Rattle.command_line.specs.declared.runtime.Runtime.{Runtime}
use Rattle.cwl_process.specs.Acting.{nothing_asked}
use Rattle.cwl_process.specs.declared.tool.Tool.{Tool}
use Rattle.proc_host.specs.declared.call.HostAnswer.{HostAnswer}
use Rattle.proc_host.specs.declared.call.HostRequest.{HostRequest}
use Rattle.proc_host.specs.declared.call.HostFault.{HostFault}
use Rattle.cwl_value.specs.declared.value.Value.{the_lemmas}
use Rattle.cwl_value.specs.declared.value.Value as value
use Rattle.collected_outputs.specs.Collected.{IsCollected, bound, readable}
use Rattle.collected_outputs.specs.Readable.{has_class}
use Rattle.collected_outputs.specs.HeadsWanted.{of_outputs, none as none_asked}
use Rattle.collected_outputs.specs.Outputs.{none as no_outputs}
use Rattle.staging.specs.Placing.{none as none_placed}
use Rattle.staging.specs.Plan.{IsPlan, none as none_moved}
use Rattle.staging.specs.declared.plan.StagePlan.{StagePlan}
use Rattle.run_rules.specs.declared.outcome.Cause.{Cause}
use Rattle.run_rules.specs.declared.request.Pair.{Pair}
use Rattle.run_rules.specs.declared.request.Request.{Request}
use Rattle.run_rules.specs.declared.setting.Options.{Options}
use Rattle.collected_outputs.specs.Contents.{Heads}
use Rattle.job_graph.specs.Jobs.{Job, met_job, Made, Walk}
use Rattle.job_graph.specs.Words.{Name, JobPlace, is_same_place}
use Rattle.run_rules.specs.Events.{Event, job_staged, job_started, child_exited, job_succeeded, job_failed, job_failed_for_now, host_failed, collect_failed, no_row, find_failed, nothing_due, input_heads_due, start_due, output_heads_due, put_due, Progress, Started, at_first, in_flight, unfolding_at}
use Rattle.run_rules.specs.Folders.{runtime_of, in_folder}
use Rattle.run_rules.specs.StartsOn.{has_launch, reads_on}
use Rattle.run_rules.specs.CollectsOn.{collects, left_of}
use Rattle.run_rules.specs.Keeps.{keeps}
use Rattle.run_rules.specs.Plans.{is_planning}
use Rattle.run_rules.specs.Steps.{call, command, stages, reads_input, reads_output, starts, exits_well, exits_badly, scans, finds_none, puts}
use Rattle.run_rules.proofs.Leads.{Leads, stays, follows}
use Rattle.run_rules.specs.End.{End, succeeds_with, fails_permanently, fails_temporarily, ended_by_host, ended_by_record, settled}
use Rattle.run_rules.specs.EndsSo.{EndsSo, no_file, lost, fails, succeeds}
use Rattle.plan_checker.specs.declared.plan.Mark.{Mark}
use Rattle.plan_checker.specs.declared.plan.Mark.TheVariants.{Load, Compute}
use Rattle.plan_checker.specs.Plan.{mark}
use Rattle.job_key.specs.Key.{Key, key}
use Rattle.job_reuse.specs.Rows.{made_row}
use Rattle.job_rows.specs.declared.refusal.RecordRefusal.TheVariants.{Store}
use Rattle.job_rows.specs.declared.row.Row.{Row}
use Rattle.run_rules.specs.declared.request.RecordAnswer.{RecordAnswer}
use Rattle.run_rules.specs.declared.request.RecordRequest.{RecordRequest}
use Rattle.run_rules.specs.Allowed.{MayFind, MayStage, MayCollect, due}
use Rattle.run_rules.specs.Scene.{Scene}
use Rattle.run_rules.proofs.NothingFollows.{flies_on}
use Rattle.run_rules.proofs.TranscriptTells.{none_in}

abbrev pub tool : Tool
tool = record {
  base_command = codes "true" ∷ [];
  arguments = [];
  inputs = [];
  outputs = [];
  streams = record { stdin = None; stdout = None; stderr = None };
  exit_codes = record { success = []; temporary = []; permanent = [] };
  asked = nothing_asked;
  written = codes "{}";
}

abbrev pub options : Options
options = record {
  work = codes "w";
  outdir = codes "/out";
  path_env = codes "/bin";
  slots = 2;
  retries = 0;
  base = 1;
  rate = 100000;
  keep = false;
}

abbrev variable : Name → Name → Variable
variable name text = record { name = name; text = text }

abbrev env_in : Runtime → List Variable
env_in runtime = variable (codes "HOME") runtime.outdir ∷ variable (codes "TMPDIR") runtime.tmpdir ∷ variable (codes "PATH") runtime.path_env ∷ []

-- what the job that was staged as the n-th is started by
abbrev pub launch : ℕ → Launch
launch n = record {
  words = codes "true" ∷ [];
  env = env_in (runtime_of options n);
  stdin = None;
  stdout = None;
  stderr = None;
  dir = (runtime_of options n).outdir;
}

abbrev at_step : Name → JobPlace
at_step name = record { step = name; index = [] } ∷ []

abbrev pub a : JobPlace
a = at_step (codes "a")

abbrev pub b : JobPlace
b = at_step (codes "b")

abbrev pub job : JobPlace → Job
job place = record { place = place; tool = tool; inputs = [] }

abbrev pub two : Made → Walk
two made = record { met = met_job (job a) ∷ met_job (job b) ∷ []; outs = [] }

abbrev pub s : Scene
s = record { walker = λ measures. two; paths = []; options = options; made_before = λ place. false }

abbrev plan : StagePlan
plan = record { moves = []; value = [] }

-- nothing is copied for a job without inputs
copies_nothing : (n : ℕ) → IsPlan false (in_folder options.work n) [] plan
copies_nothing n = record {
  placed = [];
  are_placed = none_placed;
  are_moves = none_moved;
  number = λ members. 0;
  numbers = λ p there. absurd (none_in p there);
  value = refl;
}

abbrev pub started_as : ℕ → Started
started_as n = record { inputs = []; launch = launch n }

-- and nothing is collected of one without outputs: the empty object can be read back
empty_is_readable : readable [] ≡ Ok []
empty_is_readable =
    let no_class : has_class (value.Fields []) ≡ false = search (rules, the_lemmas) in
    rw no_class refl

pub collects_nothing : (n : ℕ) → IsCollected (left_of (started_as n) [] []) [] (Ok [])
collects_nothing n = record { gathered = Ok []; are_gathered = bound [] refl no_outputs; is = sym empty_is_readable }

abbrev ended : ℕ → Option ℤ → Pair
ended ticket code = call [] HostRequest.Collect (HostAnswer.Ended (record { ticket = ticket; code = code; millis = 1000 }))

abbrev scanned : JobPlace → Pair
scanned place = call place (HostRequest.Scan (codes "")) (HostAnswer.Listed [])

abbrev pub well : Option ℤ
well = Some (pos 0)

abbrev pub badly : Option ℤ
badly = Some (pos 1)

-- after these events, with nothing due
abbrev pub at : List Event → Progress
at events = record { work = nothing_due; events = events }

-- the record has no row of either, and the first child runs; both run
abbrev one : List Event
one = no_row a ∷ no_row b ∷ job_staged a 1 ∷ job_started a [] (launch 1) 1 ∷ []

abbrev both : List Event
both = one ++ job_staged b 2 ∷ job_started b [] (launch 2) 2 ∷ []

two_in_flight : in_flight both ≡ (1, a) ∷ (2, b) ∷ []
two_in_flight = refl

-- a child has ended well, and its folder is collected
abbrev came_well : ℕ → JobPlace → List Event
came_well ticket place = child_exited ticket ∷ job_succeeded place [] ∷ []

abbrev came_badly : ℕ → JobPlace → List Event
came_badly ticket place = child_exited ticket ∷ job_failed place (Cause.Exit badly) ∷ []

-- The second job may be staged while the first one's child runs, and then a child is waited for

may_stage : MayStage s (at one) (Load ∷ Compute ∷ []) b plan 2
may_stage = record {
  free = record { still = record { idle = refl; collects = refl; unsettled = refl }; measured = refl; looked_up = refl };
  job = job b;
  known = refl;
  computed = refl;
  not_held = refl;
  parents = λ parent is. let never : false ≡ true = is.made in absurd cc;
  slot = lit< tt;
  staged = copies_nothing 2;
  next_number = refl;
}

-- The row of each is looked for first, under the key of both, and nothing is planned before

abbrev pub its_key : Key
its_key = key tool []

abbrev not_there : JobPlace → Pair
not_there place = command place (RecordRequest.Find its_key) (RecordAnswer.Found None)

a_is_looked_for : MayFind s at_first a its_key
a_is_looked_for = record {
  still = record { idle = refl; collects = refl; unsettled = refl };
  job = job a;
  known = refl;
  reusable = refl;
  unasked = refl;
  keyed = refl;
}

not_looked_for_again : MayFind s (at (no_row a ∷ [])) a its_key → ⊥
not_looked_for_again may = let never : true ≡ false = may.unasked in cc

nothing_is_staged_before : {marks : List Mark} {place : JobPlace} {its_plan : StagePlan} {number : ℕ} → MayStage s (at (no_row a ∷ [])) marks place its_plan number → ⊥
nothing_is_staged_before may = let never : false ≡ true = may.free.looked_up in cc

no_plan_before : is_planning s (at (no_row a ∷ [])) ≡ false
no_plan_before = refl

a_find_that_is_refused : EndsSo s (at (no_row a ∷ find_failed b Store ∷ [])) [] (ended_by_record Store)
a_find_that_is_refused = fails _ refl refl refl refl

-- What is asked and answered brings these events about

module _ (is : (n : ℕ) → IsLaunch tool [] (runtime_of options n) (launch n)) where
  abbrev started : JobPlace → ℕ → List Pair
  started place n = call place (HostRequest.Stage plan n) HostAnswer.Done ∷ call place (HostRequest.Start (launch n)) (HostAnswer.Started n) ∷ []

  they_start : Leads s at_first (not_there a ∷ not_there b ∷ started a 1 ++ started b 2) (at both)
  they_start =
      follows (finds_none a its_key)
      (follows (finds_none b its_key)
      (follows (stages a plan 1 (job a) (start_due a [] (launch 1)) [] refl (has_launch [] (launch 1) refl (is 1)))
      (follows (starts a [] (launch 1) 1 refl)
      (follows (stages b plan 2 (job b) (start_due b [] (launch 2)) [] refl (has_launch [] (launch 2) refl (is 2)))
      (follows (starts b [] (launch 2) 2 refl) stays)))))

-- what is put of a job
abbrev pub its_row : Row
its_row = made_row its_key [] [] 1000 false

abbrev is_put : JobPlace → Pair
is_put place = command place (RecordRequest.Put its_row) (RecordAnswer.Put [])

either_ends : Leads s (at both) (ended 2 well ∷ scanned b ∷ is_put b ∷ ended 1 badly ∷ []) (at (both ++ came_well 2 b ++ came_badly 1 a))
either_ends =
    follows (exits_well b (record { ticket = 2; code = well; millis = 1000 }) (job b) (1, lit< tt, refl) refl refl)
    (follows (scans b (codes "") 1000 [] (job b) (started_as 2) [] (put_due b its_row) (job_succeeded b [] ∷ []) refl refl refl (of_outputs [] refl none_asked) (collects [] _ _ (collects_nothing 2) (keeps refl tt)))
    (follows (puts b its_row [])
    (follows (exits_badly a (record { ticket = 1; code = badly; millis = 1000 }) (job a) (0, lit< tt, refl) refl refl) stays)))

-- First bytes are read one file after another, and the start or the outputs come with the last

abbrev read_of : Name → Pair
read_of path = call a (HostRequest.Head path 65536) (HostAnswer.FirstBytes (codes "abc"))

module _ (is : (n : ℕ) → IsLaunch tool [] (runtime_of options n) (launch n)) where
  it_starts_once_all_is_read : Leads s (record { work = input_heads_due a [] (codes "/f" ∷ codes "/g" ∷ []) []; events = no_row a ∷ no_row b ∷ job_staged a 1 ∷ [] })
      (read_of (codes "/f") ∷ read_of (codes "/g") ∷ call a (HostRequest.Start (launch 1)) (HostAnswer.Started 1) ∷ []) (at one)
  it_starts_once_all_is_read =
      follows (reads_input a (codes "/f") 65536 (codes "abc") [] (codes "/g" ∷ []) [] (job a) _ [] refl refl (reads_on (codes "/g") []))
      (follows (reads_input a (codes "/g") 65536 (codes "abc") [] [] _ (job a) (start_due a [] (launch 1)) [] refl refl (has_launch [] (launch 1) refl (is 1)))
      (follows (starts a [] (launch 1) 1 refl) stays))

collects_what_was_read : (n : ℕ) (read : Heads) → IsCollected (left_of (started_as n) [] read) [] (Ok [])
collects_what_was_read n read = record { gathered = Ok []; are_gathered = bound [] refl no_outputs; is = sym empty_is_readable }

it_is_collected_once_all_is_read : Leads s (record { work = output_heads_due a 1000 [] (codes "g" ∷ []) []; events = one ++ child_exited 1 ∷ [] })
    (read_of (codes "w/j1/out/g") ∷ is_put a ∷ []) (at (one ++ came_well 1 a))
it_is_collected_once_all_is_read =
    follows (reads_output a (codes "w/j1/out/g") 65536 (codes "abc") 1000 [] (codes "g") [] [] (job a) (started_as 1) (put_due a its_row) (job_succeeded a [] ∷ []) refl refl refl
    (collects [] _ _ (collects_what_was_read 1 _) (keeps refl tt)))
    (follows (puts a its_row []) stays)

-- what is asked is the first bytes of the next file, in the job's output folder
the_next_is_asked : due s (record { work = output_heads_due a 1000 [] (codes "g" ∷ []) []; events = one ++ child_exited 1 ∷ [] })
    ≡ Some (Request.Host a (HostRequest.Head (codes "w/j1/out/g") 65536))
unfolding digits
the_next_is_asked = refl

-- Either end may come first

not_after_a : {marks : List Mark} {end : End} → EndsSo s (at (both ++ came_well 1 a)) marks end → ⊥
not_after_a ends = flies_on ends refl refl

not_after_b : {marks : List Mark} {end : End} → EndsSo s (at (both ++ came_well 2 b)) marks end → ⊥
not_after_b ends = flies_on ends refl refl

no_result_of_one : (unfolding_at s (both ++ came_well 2 b)).result ≡ None
no_result_of_one = refl

-- once both are at hand, neither is staged again
both_loaded : (is_a is_b : Bool) → mark (Load ∷ Load ∷ []) (cond is_a 0 (cond is_b 1 2)) ≡ Compute → ⊥
both_loaded true is_b computed = cc
both_loaded false true computed = cc
both_loaded false false computed = cc

ends_by_b : EndsSo s (at (both ++ came_well 1 a ++ came_well 2 b)) (Load ∷ Load ∷ []) (succeeds_with [] [])
ends_by_b =
    succeeds [] [] (record {
      free = record { still = record { idle = refl; collects = refl; unsettled = refl }; measured = refl; looked_up = refl };
      no_fetch = λ place its_key number files may. let never : None ≡ Some may.row = may.found in cc;
      no_stage = λ place plan number may. both_loaded (is_same_place a place) (is_same_place b place) may.computed;
    }) refl refl (no_file refl refl)

ends_by_a : EndsSo s (at (both ++ came_well 2 b ++ came_well 1 a)) (Load ∷ Load ∷ []) (succeeds_with [] [])
ends_by_a =
    succeeds [] [] (record {
      free = record { still = record { idle = refl; collects = refl; unsettled = refl }; measured = refl; looked_up = refl };
      no_fetch = λ place its_key number files may. let never : None ≡ Some may.row = may.found in cc;
      no_stage = λ place plan number may. both_loaded (is_same_place a place) (is_same_place b place) may.computed;
    }) refl refl (no_file refl refl)

-- A failure with the other in flight settles the end, which comes once the other has landed, however that ends

abbrev a_fails : List Event
a_fails = both ++ came_badly 1 a

it_is_settled : settled s a_fails ≡ Some (fails_permanently a (Cause.Exit badly))
it_is_settled = refl

not_while_b_flies : {marks : List Mark} {end : End} → EndsSo s (at a_fails) marks end → ⊥
not_while_b_flies ends = flies_on ends refl refl

it_is_collected : MayCollect s (at a_fails) (Compute ∷ Load ∷ []) []
it_is_collected = record {
  at_root = refl;
  idle = refl;
  collects = refl;
  flying = ((2, b), (0, lit< tt, refl));
  busy = λ unsettled. let never : Some (fails_permanently a (Cause.Exit badly)) ≡ None = unsettled in absurd cc;
}

b_ends_well : EndsSo s (at (a_fails ++ came_well 2 b)) (Compute ∷ Load ∷ []) (fails_permanently a (Cause.Exit badly))
b_ends_well = fails _ refl refl refl refl

b_fails_too : EndsSo s (at (a_fails ++ came_badly 2 b)) (Compute ∷ Load ∷ []) (fails_permanently a (Cause.Exit badly))
b_fails_too = fails _ refl refl refl refl

-- the first failure counts, whichever job's it is
b_fails_first : EndsSo s (at (both ++ came_badly 2 b ++ child_exited 1 ∷ job_failed_for_now a ∷ [])) (Compute ∷ Load ∷ []) (fails_permanently b (Cause.Exit badly))
b_fails_first = fails _ refl refl refl refl

a_signal_first : EndsSo s (at (both ++ child_exited 1 ∷ job_failed_for_now a ∷ came_badly 2 b)) (Compute ∷ Load ∷ []) (fails_temporarily a)
a_signal_first = fails _ refl refl refl refl

-- A collect that fails ends the run at once, with both tickets, and whatever was settled

a_lost_collect : EndsSo s (at (both ++ collect_failed ∷ [])) (Load ∷ Load ∷ []) (ended_by_host HostFault.Collect (1 ∷ 2 ∷ []))
a_lost_collect = lost refl refl

one_lost_after_a_failure : EndsSo s (at (a_fails ++ collect_failed ∷ [])) (Load ∷ Load ∷ []) (ended_by_host HostFault.Collect (2 ∷ []))
one_lost_after_a_failure = lost refl refl

-- and nothing is planned after it
no_plan_after_a_lost_collect : is_planning s (at (one ++ collect_failed ∷ [])) ≡ false
no_plan_after_a_lost_collect = refl

a_plan_before_it : is_planning s (at one) ≡ true
a_plan_before_it = refl

-- A start that fails with the other in flight is the end once that has landed, and names no ticket
a_start_that_fails : EndsSo s (at (one ++ job_staged b 2 ∷ host_failed b HostFault.Start ∷ came_well 1 a)) (Load ∷ Compute ∷ [])
    (ended_by_host HostFault.Start [])
a_start_that_fails = fails _ refl refl refl refl
