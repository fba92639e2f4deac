-- The worked row `hello`, computed: a tool that prints its input `abc` into `out.txt`, which is its output.
use Rattle.std.proofs.Common.{◌≡◌, ◌∙◌, ◌||◌, ℕ, Bool, arith, lit<, pos, false, true, List, [], ◌∷◌, ◌++◌, Option, Some, None, Ok, Err, refl, sym, subst, ap, unwrap_or, rules}
use Rattle.std.specs.Prelude.{ℤ, codes}
use Rattle.std.specs.Fmt.{digits}
use Rattle.command_line.specs.Launch.{IsLaunch}
use Rattle.command_line.specs.declared.launch.Launch.{Launch}
use Rattle.command_line.specs.declared.launch.Variable.{Variable}
use Rattle.cwl_value.specs.declared.place.Place.{Place}
use Rattle.serde_json.specs.Data.{Data, string}
use Rattle.cwl_value.specs.Json.{json_of, value_json, dir_json, file_json}
use Rattle.cwl_value.specs.Erased.{erased, placeless_file, placeless_dir}
use Rattle.cwl_value.specs.declared.value.FileVal.{FileVal, roll-FileVal, fold-roll-FileVal}
use Rattle.cwl_value.specs.declared.value.DirVal.{DirVal}
use Rattle.cwl_value.specs.declared.value.Value as value
use Rattle.cwl_value.specs.declared.value.Value.TheVariants.{rolls-FileVal}
use Rattle.cwl_value.specs.declared.value.Value.{Value, roll-Value, out-roll-Value, fold-roll-Value}
use Rattle.cwl_value.specs.declared.value.Value.TheOpen.{Value-F, FileVal-F}
use Rattle.document_links.specs.declared.process.Process as process
use Rattle.cwl_process.specs.declared.tool.Tool.{Tool}
use Rattle.param_refs.specs.declared.template.Part.TheVariants as part
use Rattle.cwl_process.specs.Acting.{nothing_asked}
use Rattle.cwl_process.specs.declared.tool.Binding.{Binding}
use Rattle.cwl_process.specs.declared.tool.InputType.{InputType}
use Rattle.cwl_process.specs.declared.tool.InputType.TheVariants as input_type
use Rattle.cwl_process.specs.declared.tool.OutputType.{OutputType}
use Rattle.cwl_types.specs.declared.types.MemberType as member
use Rattle.cwl_types.specs.declared.types.MemberType.{the_lemmas}
use Rattle.cwl_types.specs.declared.types.PlainType.TheVariants as plain
use Rattle.proc_host.specs.declared.call.HostAnswer.{HostAnswer}
use Rattle.proc_host.specs.declared.call.HostRequest.{HostRequest}
use Rattle.proc_host.specs.declared.call.HostFault.{HostFault}
use Rattle.proc_host.specs.declared.child.ChildEnd.{ChildEnd}
use Rattle.staging.specs.Groups.{Copied, FolderOf, copied, dir_copied, file_copied, value_copied, path_in}
use Rattle.staging.specs.Placing.{ArePlaced, lowest, none as none_placed, one_more as one_placed}
use Rattle.staging.specs.Plan.{IsPlan, first as first_moved, none as none_moved}
use Rattle.staging.specs.declared.found.Found.{Found}
use Rattle.staging.specs.declared.group.Member.{Member}
use Rattle.staging.specs.declared.group.Placed.{Placed}
use Rattle.staging.specs.declared.plan.Move.{Move}
use Rattle.staging.specs.declared.plan.StagePlan.{StagePlan}
use Rattle.input_files.specs.Measured.{Measures, as_measured, dir_level, file_level}
use Rattle.input_files.specs.Present.{is_present, value_there, dir_present, file_present}
use Rattle.input_files.specs.Taken.{tool_inputs, tool_root_fields}
use Rattle.job_graph.specs.Inputs.{by_input}
use Rattle.input_files.specs.Paths.{Paths, input_paths, value_paths, dir_paths, file_paths}
use Rattle.input_files.specs.Beside.{all_beside}
use Rattle.input_files.specs.Given.{files_in, null}
use Rattle.input_files.specs.declared.fault.InputFault.{InputFault}
use Rattle.collected_outputs.specs.Collected.{IsCollected}
use Rattle.collected_outputs.specs.HeadsWanted.{AreHeadsWanted}
use Rattle.collected_outputs.specs.Listing.{listing_of}
use Rattle.job_graph.specs.declared.cause.Cause.{Cause as Unmet}
use Rattle.run_rules.specs.declared.outcome.Cause.{Cause}
use Rattle.run_rules.specs.declared.outcome.Outcome.{Outcome}
use Rattle.run_rules.specs.declared.setting.Options.{Options}
use Rattle.run_rules.specs.declared.setting.Setting.{Setting}
use Rattle.type_check.specs.Fits.{fits_member, is_plain}
use Rattle.job_graph.specs.Eval.{World, eval, eval_by}
use Rattle.job_graph.specs.Jobs.{Job}
use Rattle.cwl_value.specs.Placed.{value_moved, file_moved, dir_moved}
use Rattle.job_graph.specs.Made.{made_place}
use Rattle.job_graph.specs.Words.{Name, Fields, JobPlace}
use Rattle.run_rules.specs.Delivered.{any_file, has_file_at, location_place, source_place, sources}
use Rattle.run_rules.specs.Events.{Event, Progress, job_staged, job_started, child_exited, job_succeeded, job_failed, job_failed_for_now, result_delivered, host_failed, collect_failed, no_row, nothing_due, start_due, put_due, Started, at_first, folder_at, unfolding_at}
use Rattle.run_rules.specs.Folders.{runtime_of}
use Rattle.run_rules.specs.StartsOn.{has_launch}
use Rattle.run_rules.specs.CollectsOn.{collects, left_of}
use Rattle.run_rules.specs.Keeps.{keeps}
use Rattle.run_rules.specs.declared.request.RecordAnswer.{RecordAnswer}
use Rattle.run_rules.specs.declared.request.RecordRequest.{RecordRequest}
use Rattle.run_rules.specs.Steps.{Steps, call, command, stages, starts, exits_well, exits_for_now, exits_badly, scans, delivers, finds_none, puts}
use Rattle.run_rules.specs.End.{End, succeeds_with, fails_permanently, fails_temporarily, ended_by_host, IsDelivery}
use Rattle.run_rules.specs.EndsSo.{EndsSo, IsDelivered, no_file, copied as was_copied, lost, fails, succeeds}
use Rattle.plan_checker.specs.declared.plan.Mark.{Mark}
use Rattle.plan_checker.specs.declared.plan.Mark.TheVariants.{Load, Compute}
use Rattle.run_rules.specs.Allowed.{MayStage, MayFetch}
use Rattle.job_key.specs.Key.{key}
use Rattle.job_reuse.specs.Rows.{made_row}
use Rattle.job_rows.specs.declared.row.Row.{Row}
use Rattle.run_rules.specs.declared.outcome.PlanNote.{PlanNote}
use Rattle.run_rules.specs.Reports.{report_of, reported}
use Rattle.run_rules.specs.Scene.{Scene, is_made_before, scene_of}
use Rattle.run_rules.proofs.Leads.{Leads, stays, follows}
use Rattle.run_rules.proofs.Lone.{inputs_of, lone, scene_tool, setting_on as tool_setting}
use Rattle.run_rules.proofs.Meaning.{fails as world_fails, gives}
use Rattle.run_rules.proofs.NothingFollows.{flies_on}
use Rattle.run_rules.proofs.TranscriptTells.{none_in, only_in}

abbrev of_text : InputType
of_text = input_type.Members (member.Plain plain.Text ∷ [])

abbrev at_one : Binding
at_one = record { position = pos 1; prefix = None; separate = true; item_separator = None; value_from = None }

abbrev hello : Tool
hello = record {
  base_command = codes "printf" ∷ [];
  arguments = [];
  inputs = (codes "t", record { kind = of_text; default = None; binding = Some at_one; load_contents = false; secondary_files = [] }) ∷ [];
  outputs = (codes "out", record { kind = OutputType.Stdout; binding = None; secondary_files = [] }) ∷ [];
  streams = record { stdin = None; stdout = Some (part.Plain (codes "out.txt") ∷ []); stderr = None };
  exit_codes = record { success = []; temporary = []; permanent = [] };
  asked = nothing_asked;
  written = codes "{}";
}

abbrev options : Options
options = record {
  work = codes "w";
  outdir = codes "/out";
  path_env = codes "/bin";
  slots = 1;
  retries = 0;
  base = 1;
  rate = 100000;
  keep = false;
}

abbrev variable : Name → Name → Variable
variable name text = record { name = name; text = text }

abbrev its_launch : Launch
its_launch = record {
  words = codes "printf" ∷ codes "abc" ∷ [];
  env = variable (codes "HOME") (codes "w/j1/out") ∷ variable (codes "TMPDIR") (codes "w/j1/tmp") ∷ variable (codes "PATH") (codes "/bin") ∷ [];
  stdin = None;
  stdout = Some (codes "out.txt");
  stderr = None;
  dir = codes "w/j1/out";
}

abbrev abc : Fields
abc = (codes "t", roll-Value (Value-F.Text (codes "abc"))) ∷ []

abbrev out : Found
out = record { name = codes "out.txt"; is_dir = false; size = 3; sum = codes "a9993e364706816aba3e25717850c26c9cd0d89d" }

-- a found file, as a File at a place
abbrev file_fields : Place → Found → FileVal-F Value DirVal FileVal
file_fields place found = record {
  place = place;
  basename = Some found.name;
  checksum = Some (codes "sha1$" ++ found.sum);
  size = Some found.size;
  contents = None;
  secondary = [];
}

abbrev file_at : Place → Found → Value
file_at place found = roll-Value (Value-F.FileVal (roll-FileVal (file_fields place found)))

-- a file elsewhere, and without its place
file_moves : (move : Place → Place) (place : Place) (found : Found) → value_moved move (file_at place found) ≡ file_at (move place) found
file_moves move place found =
    fold-roll-Value Value DirVal FileVal roll-Value (dir_moved move) (file_moved move) (Value-F.FileVal (roll-FileVal (file_fields place found)))
    ∙ ap (λ f. roll-Value (Value-F.FileVal f))
    (fold-roll-FileVal Value DirVal FileVal roll-Value (dir_moved move) (file_moved move) (file_fields place found))

file_erases : (place : Place) (found : Found) → erased (file_at place found) ≡ file_at Place.Nowhere found
file_erases place found =
    fold-roll-Value Value DirVal FileVal roll-Value placeless_dir placeless_file (Value-F.FileVal (roll-FileVal (file_fields place found)))
    ∙ ap (λ f. roll-Value (Value-F.FileVal f))
    (fold-roll-FileVal Value DirVal FileVal roll-Value placeless_dir placeless_file (file_fields place found))

-- the output object, its file at a place
abbrev out_at : Place → Fields
out_at place = (codes "out", file_at place out) ∷ []

-- its scene, its input being a text
abbrev abc_text : Value
abc_text = roll-Value (Value-F.Text (codes "abc"))

-- its scene: its input is a text, and no file is measured
abbrev s : Scene
s = lone hello (λ measures. Ok abc) [] options (is_made_before (process.Tool hello) abc)

a_text : fits_member (member.Plain plain.Text) ≡ is_plain plain.Text
a_text = search (rules, the_lemmas)

no_files : files_in abc_text ≡ []
no_files = rw (out-roll-Value, out-roll-Value) refl

all_there : is_present abc_text ≡ true
all_there = fold-roll-Value Bool Bool Bool value_there dir_present file_present (Value-F.Text (codes "abc"))

its_json : json_of abc_text ≡ string (codes "abc")
its_json = fold-roll-Value Data Data Data value_json dir_json file_json (Value-F.Text (codes "abc"))

module _ (measures : Measures) where
  as_it_stands : as_measured measures abc_text ≡ abc_text
  as_it_stands = fold-roll-Value Value DirVal FileVal roll-Value (dir_level measures) (file_level measures) (Value-F.Text (codes "abc"))

  nothing_beside : all_beside measures [] abc_text ≡ abc_text
  nothing_beside = rw (out-roll-Value, out-roll-Value) refl

  it_is_handed : tool_root_fields hello.inputs abc measures ≡ abc
  it_is_handed = rw (out-roll-Value, as_it_stands, nothing_beside) refl

  it_is_taken : tool_inputs hello.inputs abc measures ≡ Ok abc
  it_is_taken = rw (a_text, out-roll-Value, its_json, all_there, no_files, out-roll-Value) refl

  it_fits : inputs_of hello abc measures ≡ Ok abc
  it_fits = ap (λ (fields : Fields). by_input (tool_inputs hello.inputs fields measures)) it_is_handed ∙ ap by_input it_is_taken

  nothing_as_it_stands : as_measured measures null ≡ null
  nothing_as_it_stands = fold-roll-Value Value DirVal FileVal roll-Value (dir_level measures) (file_level measures) Value-F.Null

  none_beside_nothing : all_beside measures [] null ≡ null
  none_beside_nothing = rw (out-roll-Value, out-roll-Value) refl

  nothing_is_handed : tool_root_fields hello.inputs [] measures ≡ (codes "t", null) ∷ []
  nothing_is_handed = rw (out-roll-Value, nothing_as_it_stands, none_beside_nothing) refl

  it_is_lacking : tool_inputs hello.inputs ((codes "t", null) ∷ []) measures ≡ Err (InputFault.Kind (codes "t"))
  it_is_lacking = rw (a_text, out-roll-Value, out-roll-Value) refl

  an_input_left_out : inputs_of hello [] measures ≡ Err (Unmet.Kind (codes "t"))
  an_input_left_out = ap (λ (fields : Fields). by_input (tool_inputs hello.inputs fields measures)) nothing_is_handed ∙ ap by_input it_is_lacking

no_paths : input_paths hello.inputs abc ≡ []
no_paths = rw (fold-roll-Value Paths Paths Paths value_paths dir_paths file_paths (Value-F.Text (codes "abc")), no_files) refl

no_paths_at_all : input_paths hello.inputs [] ≡ []
no_paths_at_all = rw (out-roll-Value, out-roll-Value) refl

-- the file as it is collected, and as the rest of the process sees it
abbrev found_out : Fields
found_out = out_at (Place.Url (codes "out.txt"))

abbrev made_out : Fields
made_out = out_at (Place.Made [] (codes "out.txt"))

-- and as it is delivered
abbrev put_out : Fields
put_out = out_at (Place.Path (codes "/out/out.txt"))

abbrev with_file : Value → Fields
with_file file = (codes "out", file) ∷ []

-- one copy, from the job's output folder to the folder of the outputs
abbrev its_move : Move
its_move = record { source = codes "w/j1/out/out.txt"; target = codes "/out/out.txt" }

abbrev its_plan : StagePlan
its_plan = record { moves = its_move ∷ []; value = put_out }

-- What happened in its whole run, and before its file was delivered

abbrev before : List Event
before = no_row [] ∷ job_staged [] 1 ∷ job_started [] abc its_launch 1 ∷ child_exited 1 ∷ job_succeeded [] found_out ∷ []

abbrev whole : List Event
whole = before ++ result_delivered its_plan ∷ []

its_report : (plans : List PlanNote) → report_of plans whole (succeeds_with made_out put_out)
    ≡ reported plans [] (Ok (Outcome.Success (roll-Value (Value-F.Fields (out_at (Place.Url (codes "file:///out/out.txt")))))))
its_report plans =
    ap (λ (file : Value). reported plans [] (Ok (Outcome.Success (roll-Value (Value-F.Fields (with_file file))))))
    (file_moves location_place (Place.Path (codes "/out/out.txt")) out)

its_result : (unfolding_at s whole).result ≡ Some made_out
its_result = ap (λ (file : Value). Some (with_file file)) (file_moves (made_place []) (Place.Url (codes "out.txt")) out)

-- Its delivery

abbrev source : Place
source = Place.Path (codes "w/j1/out/out.txt")

abbrev its_group : List Member
its_group = record { source = codes "w/j1/out/out.txt"; name = codes "out.txt" } ∷ []

its_sources : sources (folder_at s whole) made_out ≡ out_at source
unfolding digits
its_sources = ap with_file (file_moves (source_place (folder_at s whole)) (Place.Made [] (codes "out.txt")) out)

abbrev copied_at : FolderOf → Value
copied_at folder_of = value.FileVal (roll-FileVal (file_fields (Place.Path (path_in (folder_of its_group) (codes "out.txt"))) out))

abbrev its_copy : Copied Value
its_copy = record { own = its_group; groups = its_group ∷ []; moved = copied_at }

copies_it : copied (file_at source out) ≡ its_copy
copies_it =
    fold-roll-Value (Copied Value) (Copied DirVal) (Copied FileVal) value_copied dir_copied file_copied (Value-F.FileVal (roll-FileVal (file_fields source out)))
    ∙ ap (λ f. value_copied (Value-F.FileVal f))
    (fold-roll-FileVal (Copied Value) (Copied DirVal) (Copied FileVal) value_copied dir_copied file_copied (file_fields source out))

abbrev its_place : Placed
its_place = record { members = its_group; folder = 0 }

abbrev placed : List Placed
placed = its_place ∷ []

is_a_plan : IsPlan true (codes "/out") (out_at source) its_plan
is_a_plan = record {
  placed = placed;
  are_placed = subst (λ (c : Copied Value). ArePlaced true (c.groups ++ []) placed) (sym copies_it)
      (one_placed [] [] its_group 0 none_placed (lowest 0 (λ p there. absurd (none_in p there)) refl (λ j below. absurd (omega (arith, below)))));
  are_moves = first_moved [] [] its_place none_moved (λ q there. absurd (none_in q there));
  number = λ members. 0;
  numbers = λ p there. let same : its_place ≡ p = only_in its_place p there in ap (λ (q : Placed). q.folder) same;
  value = ap with_file (rolls-FileVal (roll-FileVal (file_fields (Place.Path (codes "/out/out.txt")) out)))
      ∙ ap (λ (c : Copied Value). with_file (c.moved (λ group. codes "/out"))) (sym copies_it);
}

it_is_delivered : IsDelivery s whole made_out its_plan
it_is_delivered = subst (λ (fields : Fields). IsPlan true (codes "/out") fields its_plan) (sym its_sources) is_a_plan

-- after these events, with nothing due
abbrev after_events : List Event → Progress
after_events events = record { work = nothing_due; events = events }

nothing_to_fetch : (place : JobPlace) (its_key : List ℕ) (number : ℕ) (files : List Found) → MayFetch s (after_events whole) (Load ∷ []) place its_key number files → ⊥
nothing_to_fetch place its_key number files may = let never : None ≡ Some may.row = may.found in cc

nothing_to_stage : (place : JobPlace) (plan : StagePlan) (number : ℕ) → MayStage s (after_events whole) (Load ∷ []) place plan number → ⊥
nothing_to_stage [] plan number may = let held : true ≡ false = may.not_held in cc
nothing_to_stage (segment ∷ place) plan number may = let none : None ≡ Some may.job = may.known in cc

it_succeeds : EndsSo s (after_events whole) (Load ∷ []) (succeeds_with made_out put_out)
it_succeeds =
    succeeds made_out put_out
    (record { free = record { still = record { idle = refl; collects = refl; unsettled = refl }; measured = refl; looked_up = refl }; no_fetch = nothing_to_fetch; no_stage = nothing_to_stage }) refl its_result
    (was_copied its_plan refl it_is_delivered)

a_file_is_there : any_file made_out ≡ true
a_file_is_there =
    ap (λ (b : Bool). b || false)
    (fold-roll-Value Bool Bool Bool has_file_at (λ dir. true) (λ file. true) (Value-F.FileVal (roll-FileVal (file_fields (Place.Made [] (codes "out.txt")) out))))

not_delivered : (outputs delivered : Fields) → made_out ≡ outputs → IsDelivered s before outputs delivered → ⊥
not_delivered outputs delivered same (no_file none only) =
    let never : true ≡ false = sym a_file_is_there ∙ ap any_file same ∙ none in cc
not_delivered outputs delivered same (was_copied plan is delivery) = let never : None ≡ Some plan = is in cc

not_before_its_delivery : {marks : List Mark} {end : End} → EndsSo s (after_events before) marks end → ⊥
not_before_its_delivery (lost idle is) = let never : false ≡ true = is in cc
not_before_its_delivery (fails end idle kept landed settles) = let never : None ≡ Some end = settles in cc
not_before_its_delivery (succeeds outputs delivered busy landed result is) =
    let same : Some made_out ≡ Some outputs = sym its_result ∙ result in
    not_delivered outputs delivered (ap (λ (o : Option Fields). unwrap_or o outputs) same) is

-- What computing it gives, and its run on an input object that leaves its input out

abbrev setting_on : Fields → Setting
setting_on given = tool_setting hello given options

its_scene : scene_of (setting_on abc) ≡ s
its_scene =
    scene_tool hello abc options
    ∙ (λ i. let x : Scene = lone hello (λ measures. it_fits measures i) (no_paths i) options (is_made_before (process.Tool hello) abc) in x)

abbrev other : Scene
other = lone hello (λ measures. Err (Unmet.Kind (codes "t"))) [] options (is_made_before (process.Tool hello) [])

its_other_scene : scene_of (setting_on []) ≡ other
its_other_scene =
    scene_tool hello [] options
    ∙ (λ i. let x : Scene = lone hello (λ measures. an_input_left_out measures i) (no_paths_at_all i) options (is_made_before (process.Tool hello) []) in x)

module _ (world : World) (measures : Measures) where
  -- the file without its place, where the world has the file at the job's key
  its_value : world (key hello abc) ≡ Some found_out → eval key world (process.Tool hello) abc measures ≡ Some (out_at Place.Nowhere)
  its_value answers =
      ap (λ (x : Scene). eval_by key world (x.walker measures)) its_scene
      ∙ gives hello abc world found_out made_out answers its_result
      ∙ ap (λ (file : Value). Some (with_file file)) (file_erases (Place.Made [] (codes "out.txt")) out)

  no_value_of_its : world (key hello abc) ≡ None → eval key world (process.Tool hello) abc measures ≡ None
  no_value_of_its none = ap (λ (x : Scene). eval_by key world (x.walker measures)) its_scene ∙ world_fails hello abc world none

  no_value_without_inputs : eval key world (process.Tool hello) [] measures ≡ None
  no_value_without_inputs = ap (λ (x : Scene). eval_by key world (x.walker measures)) its_other_scene

an_end_at_once : EndsSo (scene_of (setting_on [])) at_first [] (fails_permanently [] (Cause.Equation (Unmet.Kind (codes "t"))))
an_end_at_once =
    subst (λ (x : Scene). EndsSo x at_first [] (fails_permanently [] (Cause.Equation (Unmet.Kind (codes "t"))))) (sym its_other_scene) (fails _ refl refl refl refl)

abbrev job : Job
job = record { place = []; tool = hello; inputs = abc }

abbrev one_ended : Option ℤ → ChildEnd
one_ended code = record { ticket = 1; code = code; millis = 1000 }

-- Its whole run, by its calls and their answers

abbrev staged : StagePlan
staged = record { moves = []; value = abc }

abbrev its_start : Started
its_start = record { inputs = abc; launch = its_launch }

-- what is put of it
abbrev its_row : Row
its_row = made_row (key hello abc) found_out (out ∷ []) 1000 false

-- where its launch and its outputs are these, and no first bytes are wanted
module _ (is : IsLaunch hello abc (runtime_of options 1) its_launch) (collected : IsCollected (left_of its_start (out ∷ []) []) hello.outputs (Ok found_out))
    (unread : AreHeadsWanted (listing_of (out ∷ [])) abc hello.outputs []) where
  it_goes :
      Leads s at_first (command [] (RecordRequest.Find (key hello abc)) (RecordAnswer.Found None)
      ∷ call [] (HostRequest.Stage staged 1) HostAnswer.Done
      ∷ call [] (HostRequest.Start its_launch) (HostAnswer.Started 1)
      ∷ call [] HostRequest.Collect (HostAnswer.Ended (one_ended (Some (pos 0))))
      ∷ call [] (HostRequest.Scan (codes "w/j1/out")) (HostAnswer.Listed (out ∷ []))
      ∷ command [] (RecordRequest.Put its_row) (RecordAnswer.Put [])
      ∷ call [] (HostRequest.Deliver its_plan) HostAnswer.Done
      ∷ []) (after_events whole)
  it_goes =
      follows (finds_none [] (key hello abc))
      (follows (stages [] staged 1 job (start_due [] abc its_launch) [] refl (has_launch abc its_launch refl is))
      (follows (starts [] abc its_launch 1 refl)
      (follows (exits_well [] (one_ended (Some (pos 0))) job (0, lit< tt, refl) refl refl)
      (follows (scans [] (codes "w/j1/out") (one_ended (Some (pos 0))).millis (out ∷ []) job its_start [] (put_due [] its_row) (job_succeeded [] found_out ∷ []) refl refl refl unread (collects found_out _ _ collected (keeps refl tt)))
      (follows (puts [] its_row [])
      (follows (delivers [] its_plan) stays))))))

abbrev started : List Event
started = no_row [] ∷ job_staged [] 1 ∷ job_started [] abc its_launch 1 ∷ []

not_while_its_child_runs : {marks : List Mark} {end : End} → EndsSo s (after_events started) marks end → ⊥
not_while_its_child_runs ends = flies_on ends refl refl

an_exit_with_one : Steps s (after_events started) (call [] HostRequest.Collect (HostAnswer.Ended (one_ended (Some (pos 1))))) nothing_due
    (child_exited 1 ∷ job_failed [] (Cause.Exit (Some (pos 1))) ∷ [])
an_exit_with_one = exits_badly [] (one_ended (Some (pos 1))) job (0, lit< tt, refl) refl refl

it_fails : EndsSo s (after_events (started ++ child_exited 1 ∷ job_failed [] (Cause.Exit (Some (pos 1))) ∷ [])) (Load ∷ []) (fails_permanently [] (Cause.Exit (Some (pos 1))))
it_fails = fails _ refl refl refl refl

an_exit_by_a_signal : Steps s (after_events started) (call [] HostRequest.Collect (HostAnswer.Ended (one_ended None))) nothing_due
    (child_exited 1 ∷ job_failed_for_now [] ∷ [])
an_exit_by_a_signal = exits_for_now [] (one_ended None) job (0, lit< tt, refl) refl refl

it_fails_for_now : EndsSo s (after_events (started ++ child_exited 1 ∷ job_failed_for_now [] ∷ [])) (Load ∷ []) (fails_temporarily [])
it_fails_for_now = fails _ refl refl refl refl

a_start_that_fails : EndsSo s (after_events (job_staged [] 1 ∷ host_failed [] HostFault.Start ∷ [])) (Compute ∷ []) (ended_by_host HostFault.Start [])
a_start_that_fails = fails _ refl refl refl refl

a_collect_that_fails : EndsSo s (after_events (started ++ collect_failed ∷ [])) (Load ∷ []) (ended_by_host HostFault.Collect (1 ∷ []))
a_collect_that_fails = lost refl refl
