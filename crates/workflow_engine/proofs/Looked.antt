-- What looks alone bring about, and which plan a run has after them.
use Rattle.std.specs.Prelude.{◌||◌, Contains, MatchBool, not, option_map}
use Rattle.std.specs.List.{list_all, list_any, zip}
use Rattle.std.proofs.Common.{◌≡◌, ◌∙◌, suc, Bool, true, false, cond, List, [], ◌∷◌, ◌++◌, length, map, Option, Some, None, Result, Err, refl, sym, ap, subst, arith, append-nil, true≢false}
use Rattle.std.proofs.lemmas.Bool.{and_from, and_parts}
use Rattle.std.proofs.lemmas.List.{length-map}
use Rattle.std.proofs.lemmas.List.Folds.{list_all-append}
use Rattle.std.proofs.lemmas.List.Sums.{AllPass-from_list_all}
use Rattle.document_links.specs.declared.process.Process.{Process}
use Rattle.job_graph.specs.declared.costs.Costs.{Costs}
use Rattle.job_graph.specs.Jobs.{Job}
use Rattle.job_graph.specs.PresentJobGraph.{vertex_of}
use Rattle.job_graph.specs.Unfold.{Fault, Resolved, fault_at, known_from, nothing_known, or_else, too_many_jobs, unfolded}
use Rattle.job_graph.specs.Words.{Fields, JobPlace}
use Rattle.plan_checker.specs.Laws.{EachHasLeast}
use Rattle.plan_checker.specs.declared.charges.Charges.{Charges}
use Rattle.plan_checker.specs.declared.plan.Mark.{Mark}
use Rattle.plan_checker.specs.declared.plan.Plan.{Plan}
use Rattle.plan_checker.specs.declared.vertex.Vertex.{Vertex}
use Rattle.job_rows.specs.Map.{RowMap}
use Rattle.proc_host.specs.declared.call.Entry.{Entry}
use Rattle.proc_host.specs.declared.call.HostRequest.{HostRequest}
use Rattle.run_core.specs.Core.{Begins, GoesOrEnded, Halts, IsAtRest, Shows, ended as has_ended, goes as may_go, plan_in}
use Rattle.run_core.specs.Machine.{Machine}
use Rattle.run_core.specs.declared.halted.Halted.{Halted}
use Rattle.run_rules.specs.Allowed.{Allowed, IsFree, due_in}
use Rattle.run_rules.specs.Costs.{costs_at, graph_at}
use Rattle.run_rules.specs.End.{End, beyond_limits, ended_by_host, ended_by_record, fails_permanently, fails_temporarily, fault_end, mismatches, settled, settled_by, settled_from, succeeds_with, unfold_end}
use Rattle.run_rules.specs.EndsSo.{EndsSo, fails, lost as loses, succeeds}
use Rattle.run_rules.specs.Events.{Event, Progress, Work, are_looked_up, at_first, are_measured, file_measured, find_failed, has_no_find, host_failed, is_at_hand, is_looked_up, is_reusable, measures, no_row, nothing_due, resolved, row_found, unfolding_at}
use Rattle.run_rules.specs.PlannedFirst.{PlansFirst, are_looks, is_look, jobs_planned, no_jobs}
use Rattle.run_rules.specs.Plans.{InForce, PlansSoFar, is_planning, no_plans}
use Rattle.run_rules.specs.Recorded.{Line}
use Rattle.run_rules.specs.Reports.{AreWaits, Concludes, lost, outcome_of, whole}
use Rattle.run_rules.specs.Run.{Goes, IsRunSoFar, MakesPlan, asks, begins}
use Rattle.run_rules.specs.Scene.{Scene, scene_of}
use Rattle.run_rules.specs.Steps.{Steps, call_fails, call_fails_late, find_fails, finds, finds_none, finds_wrong, measures_file, progress_with}
use Rattle.run_rules.specs.declared.outcome.Outcome.{Outcome}
use Rattle.run_rules.specs.declared.outcome.Report.{Report}
use Rattle.run_rules.specs.declared.outcome.RunFault.{RunFault}
use Rattle.run_rules.specs.declared.request.Pair.{Pair}
use Rattle.run_rules.specs.declared.request.RecordRequest.{RecordRequest}
use Rattle.run_rules.specs.declared.request.Request.{Request}
use Rattle.run_rules.specs.declared.setting.Options.{Options}
use Rattle.run_rules.specs.declared.setting.Setting.{Setting}
use Rattle.run_rules.proofs.Measuring.{not_measured}
use Rattle.run_rules.proofs.Places.{same_place}
use Rattle.run_rules.proofs.events.Places.{IsFound, IsJob, found_is}
use Rattle.run_rules.proofs.events.Planned.{PlansAt, no_plan_before_finds, no_plan_when_all_there, planned_now, planning_there}
use Rattle.workflow_engine.specs.FirstPlan.{HasNoPlan, IsFirstPlan, PlansByMap, Tells, ended, fault_told, ran_out}
use Rattle.workflow_engine.specs.declared.planned.PlanFault.{PlanFault}
use Rattle.workflow_engine.specs.declared.planned.Planned.{Planned}
use Rattle.workflow_engine.specs.inner.Looks.{IsMade, IsShown, IsToldOf, Looks, has_failed, is_made, is_told, planned_in, ran_out as runs_out, told_of}
use Rattle.workflow_engine.proofs.ByMap.{nothing_kept}
use Rattle.workflow_engine.proofs.LooksAlone.{stays_all}
use Rattle.workflow_engine.proofs.Nothing.{nothing_asked}
use Rattle.workflow_engine.proofs.Told.{none_at_hand, none_flies}

-- ---- what they bring about

pub record Brings (work : Work) (new : List Event) : Type 0 where
  pub idle : work ≡ nothing_due
  pub told : list_all is_told new ≡ true

pub looks_parts : (t : List Pair) (p : Pair) → are_looks (t ++ p ∷ []) ≡ true → (are_looks t ≡ true) × (is_look p.request ≡ true)
looks_parts t p looks =
    let both = and_parts (are_looks t) (are_looks (p ∷ [])) (sym (list_all-append (λ (pair : Pair). is_look pair.request) t (p ∷ [])) ∙ looks) in
    (both.0, (and_parts (is_look p.request) true both.1).0)

-- a job that was to be looked for
to_be_found : (reusable looked_up : Bool) → reusable ≡ true → looked_up ≡ false → (not reusable || looked_up) ≡ true → ⊥
to_be_found true true reusable unasked is = cc
to_be_found true false reusable unasked is = cc
to_be_found false looked_up reusable unasked is = cc

module _ (s : Scene) where
  pub never_late : (f : Progress) (marks : List Mark) (place : JobPlace) (request : HostRequest) (end : End) → is_look (Request.Host place request) ≡ true →
      Allowed s f marks (Request.Host place request) → settled s f.events ≡ Some end → ⊥
  never_late f marks place (HostRequest.Measure path) end look may over = let never : None ≡ Some end = sym may.still.unsettled ∙ over in cc
  never_late f marks place _ end look may over = absurd cc

  pub brings : (f : Progress) (marks : List Mark) {p : Pair} {work : Work} {new : List Event} → is_look p.request ≡ true → Allowed s f marks p.request → Steps s f p work new →
      Brings work new
  brings f marks look may (measures_file path measure) = record { idle = refl; told = refl }
  brings f marks look may (finds_none place its_key) = record { idle = refl; told = refl }
  brings f marks look may (finds place its_key row job known sound) = record { idle = refl; told = refl }
  brings f marks look may (finds_wrong place its_key row job known unsound) = record { idle = refl; told = refl }
  brings f marks look may (find_fails place its_key refusal) = record { idle = refl; told = refl }
  brings f marks look may (call_fails place request other unsettled) = record { idle = refl; told = refl }
  brings f marks look may (call_fails_late place request end other over) = absurd (never_late f marks place request end look may over)
  brings f marks look may _ = absurd cc

  brought : {t : List Pair} {f : Progress} {plans : PlansSoFar} → Goes s (InForce s) t f plans → are_looks t ≡ true → Brings f.work f.events
  brought (begins plans its) looks = record { idle = refl; told = refl }
  brought (asks t f old p work new plans goes may steps its) looks =
      let both = looks_parts t p looks in
      let before : Brings f.work f.events = brought goes both.0 in
      let now : Brings work new = brings f old.marks both.1 may steps in
      record {
        idle = now.idle;
        told = list_all-append is_told f.events new ∙ and_from (list_all is_told f.events) (list_all is_told new) before.told now.told;
      }

  -- ---- when a plan is made

  -- none is while there is something to look for
  no_plan_yet : (f : Progress) (marks : List Mark) (request : Request) → is_look request ≡ true → Allowed s f marks request → is_planning s f ≡ false
  no_plan_yet f marks (Request.Host place (HostRequest.Measure path)) look may = by (are_measured s f.events) refl
    where
      by : (all : Bool) → are_measured s f.events ≡ all → is_planning s f ≡ false
      by true all = absurd (not_measured s f.events path may.known may.unmeasured all)
      by false some =
          no_plan_when_all_there s f
          (ap (λ b. list_any (λ (j : Job). not (is_at_hand f.events j.place)) (cond b (unfolded (s.walker (measures f.events)) (resolved f.events)) nothing_known).jobs) some)
  no_plan_yet f marks (Request.Record place (RecordRequest.Find its_key)) look may = by (are_looked_up s f.events) refl
    where
      by : (all : Bool) → are_looked_up s f.events ≡ all → is_planning s f ≡ false
      by true all =
          let it : IsFound (unfolding_at s f.events).jobs place may.job = found_is (unfolding_at s f.events).jobs place may.job may.known in
          let asked : has_no_find f.events may.job ≡ true =
          ap (has_no_find f.events) (sym it.there.is) ∙ AllPass-from_list_all (has_no_find f.events) (unfolding_at s f.events).jobs all it.number may.job it.there.within in
          absurd (to_be_found (is_reusable may.job) (is_looked_up f.events may.job.place) may.reusable
          (ap (is_looked_up f.events) (same_place may.job.place place it.same) ∙ may.unasked) asked)
      by false some = no_plan_before_finds s f some
  no_plan_yet f marks _ look may = absurd cc

  pub unplanned : {t : List Pair} {f : Progress} {plans : PlansSoFar} → Goes s (InForce s) t f plans → are_looks t ≡ true → is_planning s f ≡ false → plans ≡ no_plans
  unplanned (begins plans its) looks none =
      subst (λ b. MatchBool b (MakesPlan s (InForce s) 0 at_first no_plans plans) (plans ≡ no_plans)) none its
  unplanned (asks t f old p work new plans goes may steps its) looks none =
      let both = looks_parts t p looks in
      let same : plans ≡ old =
      subst (λ b. MatchBool b (MakesPlan s (InForce s) (length (t ++ p ∷ [])) (progress_with f work new) old plans) (plans ≡ old)) none its in
      same ∙ unplanned goes both.0 (no_plan_yet f old.marks p.request both.1 may)

  -- where nothing is left to be looked for, and yet nothing is planned, no job is known
  none_known : (f : Progress) → list_all is_told f.events ≡ true → IsFree s f → is_planning s f ≡ false → (jobs : List Job) → (unfolding_at s f.events).jobs ≡ jobs → jobs ≡ []
  none_known f told free none [] same = refl
  none_known f told free none (x ∷ jobs) same =
      let planning : is_planning s f ≡ true =
      planning_there s f 0 x free.still.idle free.still.collects free.still.unsettled free.looked_up
      (subst (λ (js : List Job). IsJob js 0 x) (sym same) (record { within = omega arith; is = refl })) (none_at_hand f.events told x.place) in
      absurd (true≢false (sym planning ∙ none))

  -- ---- how looks settle the end

  -- an end that they can settle
  abbrev CanSettle : Option End → Type 0
  CanSettle (Some (fails_temporarily place)) = ⊥
  CanSettle (Some (succeeds_with outputs delivered)) = ⊥
  CanSettle end = Unit {0}

  either_can : (one two : Option End) → CanSettle one → CanSettle two → CanSettle (or_else one two)
  either_can None two first second = second
  either_can (Some end) two first second = first

  fault_can : (fault : Option Fault) → CanSettle (fault_end fault)
  fault_can None = tt
  fault_can (Some (fault_at place cause)) = tt
  fault_can (Some too_many_jobs) = tt

  event_can : (es : List Event) (e : Event) → is_told e ≡ true → CanSettle (settled_by s es e)
  event_can es (file_measured path measure) told = tt
  event_can es (host_failed place fault) told = tt
  event_can es (row_found place row) told = tt
  event_can es (no_row place) told = tt
  event_can es (find_failed place refusal) told = tt
  event_can es _ told = absurd cc

  events_can : (es later : List Event) → list_all is_told later ≡ true → CanSettle (settled_from s es later)
  events_can es [] told = tt
  events_can es (e ∷ later) told =
      let both = and_parts (is_told e) (list_all is_told later) told in
      either_can (settled_by s es e) _ (event_can es e both.0)
      (either_can (unfold_end s (es ++ e ∷ [])) _ (fault_can (unfolding_at s (es ++ e ∷ [])).fault) (events_can (es ++ e ∷ []) later both.1))

  settled_can : (es : List Event) → list_all is_told es ≡ true → CanSettle (settled s es)
  settled_can es told = either_can (unfold_end s []) _ (fault_can (unfolding_at s []).fault) (events_can [] es told)

  -- an end that has a plan is none that looks settle
  settles_none : (es : List Event) → list_all is_told es ≡ true → (end : End) → settled s es ≡ Some end → fault_told (outcome_of end) ≡ None → ⊥
  settles_none es told (fails_temporarily place) is none = subst CanSettle is (settled_can es told)
  settles_none es told (succeeds_with outputs delivered) is none = subst CanSettle is (settled_can es told)
  settles_none es told (fails_permanently place cause) is none = cc
  settles_none es told beyond_limits is none = cc
  settles_none es told (ended_by_host fault running) is none = cc
  settles_none es told (mismatches place) is none = cc
  settles_none es told (ended_by_record refusal) is none = cc

  -- ---- where no look is left

  module _ (f : Progress) (marks : List Mark) (b : Brings f.work f.events) where
    not_due : (request : Request) → due_in s f.events f.work ≡ Some request → IsFree s f
    not_due request due = let never : None ≡ Some request = sym (ap (due_in s f.events) b.idle) ∙ due in absurd cc

    free_if_asked : (request : Request) → is_look request ≡ false → Allowed s f marks request → IsFree s f
    free_if_asked (Request.Host place (HostRequest.Measure path)) look may = absurd cc
    free_if_asked (Request.Host place (HostRequest.Stage plan number)) look may = may.free
    free_if_asked (Request.Host place (HostRequest.Fetch key number files)) look may = may.free
    free_if_asked (Request.Host place HostRequest.Collect) look may =
        let there = subst (λ flights. Contains flights may.flying.0) (none_flies f.events b.told) may.flying.1 in absurd (omega (arith, there.1))
    free_if_asked (Request.Host place (HostRequest.Deliver plan)) look may = may.busy.free
    free_if_asked (Request.Host place (HostRequest.Start launch)) look may = not_due _ may
    free_if_asked (Request.Host place (HostRequest.Scan folder)) look may = not_due _ may
    free_if_asked (Request.Host place (HostRequest.Head path limit)) look may = not_due _ may
    free_if_asked (Request.Host place (HostRequest.Store key folder files)) look may = not_due _ may
    free_if_asked (Request.Host place (HostRequest.Discard key)) look may = not_due _ may
    free_if_asked (Request.Record place (RecordRequest.Find key)) look may = absurd cc
    free_if_asked (Request.Record place (RecordRequest.Put row)) look may = not_due _ may
    free_if_asked (Request.Record place (RecordRequest.Touch key)) look may = not_due _ may
    free_if_asked (Request.Record place (RecordRequest.DropArchive key)) look may = not_due _ may
    free_if_asked Request.Finished look may = not_due _ may

    free_if_ended : {end : End} → EndsSo s f marks end → fault_told (outcome_of end) ≡ None → IsFree s f
    free_if_ended (loses idle is) none = absurd cc
    free_if_ended (fails end idle collects landed is) none = absurd (settles_none f.events b.told end is none)
    free_if_ended (succeeds outputs delivered busy landed result is) none = busy.free

    free_then : {asked : Request} {outcome : Option (Result Outcome RunFault)} → is_look asked ≡ false → GoesOrEnded s f marks asked outcome → told_of outcome ≡ None → IsFree s f
    free_then look (may_go may) none = free_if_asked _ look may
    free_then look (has_ended end so) none = free_if_ended so none

-- ---- which plan it is

-- a graph has a vertex for each job
vertices_each : (learned : List Resolved) (outs : Fields) (earlier jobs : List Job) (costs : List Costs) → length costs ≡ length jobs →
    length (map (vertex_of learned outs) (zip (known_from earlier jobs) costs)) ≡ length jobs
vertices_each learned outs earlier [] costs same = refl
vertices_each learned outs earlier (job ∷ jobs) [] same = absurd (omega (arith, same))
vertices_each learned outs earlier (job ∷ jobs) (c ∷ costs) same = ap suc (vertices_each learned outs (earlier ++ job ∷ []) jobs costs (omega (arith, same)))

-- what is shown is what was planned
record IsOf (plans : PlansSoFar) (told : List Vertex × Plan × Charges) : Type 0 where
  graph : told.0 ≡ plans.graph
  marks : told.1.marks ≡ plans.marks

shown_is : (plans : PlansSoFar) (planned : Option (List Vertex × Plan × Charges)) → Shows plans (option_map plan_in planned) → IsOf plans (planned_in planned)
shown_is plans None shows = record { graph = sym (ap (λ (p : PlansSoFar). p.graph) shows); marks = sym (ap (λ (p : PlansSoFar). p.marks) shows) }
shown_is plans (Some planned) shows = record { graph = shows.graph; marks = shows.marks }

module _ (core : Machine) (halted : Halted) (looks : are_looks core.transcript ≡ true) (done : is_look core.asks ≡ false) (halts : Halts core halted) where
  abbrev s : Scene
  s = scene_of core.setting

  abbrev f : Progress
  f = halts.happened

  module _ (made : Planned) (none : told_of halted.outcome ≡ None) (is : IsMade halted.known halted.planned made) where
    b : Brings f.work f.events
    b = brought s halts.run looks

    free : IsFree s f
    free = free_then s f halts.plans.marks b done halts.stands none

    places : made.places ≡ map (λ (job : Job). job.place) (unfolding_at s f.events).jobs
    places = is.places ∙ ap (λ (jobs : List Job). map (λ (job : Job). job.place) jobs) (halts.jobs free.still)

    shown : IsOf halts.plans (planned_in halted.planned)
    shown = shown_is halts.plans halted.planned halts.shows

    graph : made.graph ≡ halts.plans.graph
    graph = ap (λ (told : List Vertex × Plan × Charges). told.0) is.shown.is ∙ shown.graph

    marks : made.plan.marks ≡ halts.plans.marks
    marks = ap (λ (told : List Vertex × Plan × Charges). told.1.marks) is.shown.is ∙ shown.marks

    as_told : {names : List JobPlace} {vertices : List Vertex} {its : List Mark} → made.places ≡ names → made.graph ≡ vertices → made.plan.marks ≡ its →
        PlansFirst core.setting core.transcript names vertices its → length names ≡ length vertices → IsFirstPlan core.setting core.transcript made
    as_told same_places same_graph same_marks first each = record {
      first = rw (same_places, same_graph, same_marks) first;
      each = ap length same_places ∙ each ∙ sym (ap length same_graph);
      certified = is.shown.certified;
      its_cost = is.its_cost;
    }

    -- the known jobs are planned, or none is known
    by : (planning : Bool) → is_planning s f ≡ planning → IsFirstPlan core.setting core.transcript made
    by true planning =
        let at : PlansAt s f halts.plans = planned_now s halts.run planning in
        let long : length (graph_at s f.events) ≡ length (unfolding_at s f.events).jobs =
        vertices_each (resolved f.events) (unfolding_at s f.events).outs [] (unfolding_at s f.events).jobs _ (length-map (unfolding_at s f.events).jobs (costs_at s f.events)) in
        as_told places graph marks (jobs_planned f halts.plans looks halts.run planning)
        (length-map (unfolding_at s f.events).jobs (λ (job : Job). job.place) ∙ sym long ∙ sym (ap length at.graph))
    by false planning =
        let nothing_yet : halts.plans ≡ no_plans = unplanned s halts.run looks planning in
        let empty : (unfolding_at s f.events).jobs ≡ [] = none_known s f b.told free planning (unfolding_at s f.events).jobs refl in
        as_told (places ∙ ap (λ (jobs : List Job). map (λ (job : Job). job.place) jobs) empty) (graph ∙ ap (λ (p : PlansSoFar). p.graph) nothing_yet)
        (marks ∙ ap (λ (p : PlansSoFar). p.marks) nothing_yet) (no_jobs f halts.plans looks halts.run free empty) refl

  no_plan : (fault : PlanFault) {outcome : Option (Result Outcome RunFault)} → GoesOrEnded s f halts.plans.marks core.asks outcome → told_of outcome ≡ Some fault →
      HasNoPlan core.setting core.transcript fault
  no_plan fault (may_go may) told = absurd cc
  no_plan fault (has_ended end so) told = ended end (record { happened = f; plans = halts.plans; goes = halts.run; ended = so }) told

  pub tells : {result : Result Planned PlanFault} → IsToldOf halted result → Tells core.setting core.transcript result
  tells (is_made made none is) = by made none is (is_planning s f) refl
  tells (has_failed fault told) = no_plan fault halts.stands told
  tells runs_out = ran_out f halts.plans halts.run refl

-- ---- where memory runs out

no_waits : (waits : List Pair) → AreWaits waits → are_looks waits ≡ true → waits ≡ []
no_waits [] waited looks = refl
no_waits (pair ∷ waits) waited looks =
    absurd (true≢false (sym (and_parts (is_look pair.request) (are_looks waits) looks).0 ∙ ap is_look waited.0))

pub lost_looks : (setting : Setting) (t : List Pair) (result : Result Report RunFault) → are_looks t ≡ true → Concludes setting t result →
    HasNoPlan setting t (PlanFault.Run RunFault.OutOfMemory)
lost_looks setting t _ looks (lost front waits f plans goes waited is) =
    let both = and_parts (are_looks front) (are_looks waits)
    (sym (list_all-append (λ (pair : Pair). is_look pair.request) front waits) ∙ sym (ap are_looks is) ∙ looks) in
    let same : front ≡ t = sym (append-nil front) ∙ ap (λ (ps : List Pair). front ++ ps) (sym (no_waits waits waited both.1)) ∙ sym is in
    ran_out f plans (subst (λ (ps : List Pair). IsRunSoFar setting ps f plans) same goes) refl
lost_looks setting t _ looks (whole end run right) = ran_out run.happened run.plans run.goes refl

-- ---- what is promised of a plan

pub is_shown : (plans : PlansSoFar) (planned : Option (List Vertex × Plan × Charges)) → Shows plans (option_map plan_in planned) → IsShown planned
is_shown plans None shows = tt
is_shown plans (Some planned) shows = shows.certified

pub rests_at_first : {process : Process} {inputs : Fields} {options : Options} {core : Machine} → Begins process inputs options core → IsAtRest core
rests_at_first first = record { not_lost = first.not_lost; none_in_flight = λ going. first.none_in_flight }

module _ (before after : List Entry) (lines_before lines_after : List Line) (sound_before sound_after : Type 0) (held holds : RowMap → Type 0)
    (process : Process) (inputs : Fields) (options : Options) where
  abbrev setting : Setting
  setting = record { process = process; inputs = inputs; options = options }

  module _ (old core : Machine) (first : Begins process inputs options old)
      (looks : Looks before after lines_before lines_after sound_before sound_after held holds old core) where
    its_setting : core.setting ≡ setting
    its_setting = looks.setting ∙ first.setting

    all_asked : core.transcript ≡ looks.asked
    all_asked = looks.transcript ∙ ap (λ (t : List Pair). t ++ looks.asked) first.nothing_asked

    all_looks : are_looks core.transcript ≡ true
    all_looks = ap are_looks all_asked ∙ looks.looks

    plans_by : {result : Result Planned PlanFault} → Tells core.setting core.transcript result →
        PlansByMap before after lines_before lines_after sound_before sound_after held holds process inputs options result
    plans_by {result = result} told = record {
      transcript = looks.asked;
      looks = looks.looks;
      logged = looks.logged;
      recorded = looks.recorded;
      by_map = looks.by_map;
      stays = λ sound map its. stays_all looks.asked holds map looks.looks (looks.by_map.by_map sound map its);
      told = subst (λ (s : Setting). Tells s looks.asked result) its_setting (subst (λ (t : List Pair). Tells core.setting t result) all_asked told);
    }

    -- where no look is left
    pub plan_after : (halted : Halted) → is_look core.asks ≡ false → Halts core halted → {result : Result Planned PlanFault} → IsToldOf halted result →
        PlansByMap before after lines_before lines_after sound_before sound_after held holds process inputs options result
    plan_after halted done halts told = plans_by (tells core halted all_looks done halts told)

    -- where memory runs out
    pub no_plan_after : (report : Result Report RunFault) → Concludes core.setting core.transcript report →
        PlansByMap before after lines_before lines_after sound_before sound_after held holds process inputs options (Err (PlanFault.Run RunFault.OutOfMemory))
    no_plan_after report concluded = plans_by (lost_looks core.setting core.transcript report all_looks concluded)

-- where there is no memory for a machine
pub no_plan_begun : EachHasLeast → (before : List Entry) (lines_before : List Line) (sound_before : Type 0) (held : RowMap → Type 0) (process : Process) (inputs : Fields) (options : Options) →
    PlansByMap before before lines_before lines_before sound_before sound_before held held process inputs options (Err (PlanFault.Run RunFault.OutOfMemory))
no_plan_begun least before lines_before sound_before held process inputs options = record {
  transcript = [];
  looks = refl;
  logged = sym (append-nil before);
  recorded = sym (append-nil lines_before);
  by_map = nothing_kept sound_before held [] refl;
  stays = λ sound map its. its;
  told = lost_looks (record { process = process; inputs = inputs; options = options }) [] _ refl (nothing_asked least process inputs options);
}
