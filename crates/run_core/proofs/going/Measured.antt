-- Input files are measured, one after another; then the first jobs are known.
use Rattle.std.specs.Prelude.{◌&&◌, ◌||◌, ◌<◌, ◌^◌, Contains, Result, Err, not}
use Rattle.std.specs.List.{IsDistinct, list_all, list_any}
use Rattle.std.specs.Map.{keys_of}
use Rattle.std.proofs.Common.{◌≡◌, ◌∙◌, ℕ, Bool, true, false, List, [], ◌∷◌, ◌++◌, length, fold, reverse, bytes_eq, Option, Some, None, refl, sym, ap, subst, arith, append_assoc, append-nil}
use Rattle.std.proofs.lemmas.Bool.{or_left, or_right}
use Rattle.std.proofs.lemmas.Cmp.{nat_list_eq_equiv}
use Rattle.std.proofs.lemmas.List.{map-append, reverse-reverse}
use Rattle.std.proofs.lemmas.List.Elements.{Contains-append_right}
use Rattle.std.proofs.lemmas.List.Folds.{list_all-append}
use Rattle.std.proofs.lemmas.List.Sums.{fold-append}
use Rattle.input_files.specs.Measured.{Measures}
use Rattle.plain_data.specs.ByName.{with_value}
use Rattle.proc_host.specs.declared.call.HostAnswer.{HostAnswer}
use Rattle.proc_host.specs.declared.call.HostFault.{HostFault}
use Rattle.proc_host.specs.declared.call.HostRequest.{HostRequest}
use Rattle.staging.specs.declared.measure.Measure.{Measure}
use Rattle.job_graph.specs.declared.fault.UnfoldFault.{UnfoldFault}
use Rattle.job_graph.specs.declared.unfolding.Unfolding.{Unfolding}
use Rattle.job_graph.specs.Equations.{walker}
use Rattle.job_graph.specs.Jobs.{Job, Walker}
use Rattle.job_graph.specs.Paths.{input_paths}
use Rattle.job_graph.specs.Unfold.{Fault, Resolved, Unfolded, nothing_known, or_else, unfolded}
use Rattle.job_graph.specs.Words.{Name, JobPlace, is_same_place}
use Rattle.run_rules.specs.declared.outcome.Outcome.{Outcome}
use Rattle.run_rules.specs.declared.outcome.RunFault.{RunFault}
use Rattle.run_rules.specs.declared.request.Pair.{Pair}
use Rattle.run_rules.specs.Allowed.{MayMeasure}
use Rattle.run_rules.specs.End.{End, ended_by_host, fault_end, is_lost_collect, settled, settled_from, unfold_end}
use Rattle.run_rules.specs.Events.{Event, Progress, is_at_hand, are_measured, delivered_if, file_measured, host_failed, is_lost, is_measured, measures, measures_after, nothing_due, resolved, unfolding_at}
use Rattle.run_rules.specs.Plans.{InForce, PlansSoFar, is_planning, no_plans}
use Rattle.run_rules.specs.Reports.{outcome_of, notes_of}
use Rattle.run_rules.specs.Run.{Goes}
use Rattle.run_rules.specs.Scene.{Scene}
use Rattle.run_rules.specs.Steps.{call, measures_file}
use Rattle.run_rules.proofs.events.Grows.{Comes, comes_on, first_comes}
use Rattle.run_rules.proofs.events.Known.{IsFront, front_itself, unfolding_before, unfolding_when}
use Rattle.run_rules.proofs.events.Places.{AreApart}
use Rattle.run_rules.proofs.events.Planned.{no_plan_when_all_there, stays_in_force}
use Rattle.run_rules.proofs.events.Readings.{started_after}
use Rattle.run_rules.proofs.events.Settled.{or_none, settled_more}
use Rattle.run_rules.proofs.events.Tally.{Readings, readings, readings_after, reads_after}
use Rattle.run_rules.proofs.events.Lookups.{LooksUp, is_no_answer, none_looked_up, still_looked_up}
use Rattle.run_core.specs.declared.state.Course.{Course}
use Rattle.run_core.specs.declared.state.Given.{Given}
use Rattle.run_core.specs.declared.state.Measuring.{Measuring}
use Rattle.run_core.specs.declared.state.Turn.{Turn}
use Rattle.run_core.specs.inner.Course.{Past, is_lost_in, known_in, nothing_past, past_of, with_end}
use Rattle.run_core.specs.inner.Keeps.{AreTriedOnce, Keeps, Reflects, AreFound}
use Rattle.run_core.specs.inner.Knows.{IsKnown, IsUnfolded, Knows, end_by, fails, fault_of, knows}
use Rattle.run_core.specs.inner.Measured.{IsMeasuring, measured_by}
use Rattle.run_core.specs.inner.Measures.{Begins, MeasuresOn, TakesMeasure, all_measured, measures as measures_next}
use Rattle.run_core.specs.inner.Standing.{KeepsPlans, Runs, measuring as at_measuring}
use Rattle.run_core.proofs.Once.{Once, not_before}
use Rattle.run_core.proofs.Turning.{IsTurn, fewer, turn_of}
use Rattle.run_core.proofs.Working.{turned}
use Rattle.run_core.proofs.events.Keeping.{failed_keeps, first_fails_keeps, first_keeps, never_none}
use Rattle.run_core.proofs.events.Reflecting.{Laws, collects_after, end_of, end_reported, fault_ends, moved, undelivered_after, no_notes_more}
use Rattle.run_core.proofs.PlansKept.{planned_same, unfolded_planned}
use Rattle.run_core.proofs.job_steps.Turns.{PicksAt, PicksNext}
use Rattle.run_core.proofs.FoundRows.{nothing_found, found_still}
use Rattle.run_core.proofs.events.Losses.{none_lost as none_lost_more}
use Rattle.run_core.proofs.events.Tried.{leaves_same, tried_still}

-- while input files are measured
abbrev pub when_measured : List (Name × Measure) → Progress
when_measured found = record { work = nothing_due; events = measured_by found }

-- What measures are not

none_resolved : (found : List (Name × Measure)) → resolved (measured_by found) ≡ []
none_resolved [] = refl
none_resolved (m ∷ found) = none_resolved found

none_lost : (found : List (Name × Measure)) → list_any is_lost_collect (measured_by found) ≡ false
none_lost [] = refl
none_lost (m ∷ found) = none_lost found

no_archive_lost : (found : List (Name × Measure)) (key : List ℕ) → is_lost (measured_by found) key ≡ false
no_archive_lost [] key = refl
no_archive_lost (m ∷ found) key = no_archive_lost found key

none_tried : AreTriedOnce nothing_past
none_tried = record { each = λ number tried. absurd cc; there = λ number fetched. absurd cc }

none_noted : (found : List (Name × Measure)) → notes_of (measured_by found) ≡ []
none_noted [] = refl
none_noted (m ∷ found) = none_noted found

none_delivered : (found : List (Name × Measure)) → fold delivered_if None (measured_by found) ≡ None
none_delivered [] = refl
none_delivered (m ∷ found) = none_delivered found

nothing_reads : (r : Readings) (found : List (Name × Measure)) → fold reads_after r (measured_by found) ≡ r
nothing_reads r [] = refl
nothing_reads r (m ∷ found) = nothing_reads r found

nothing_happened : (found : List (Name × Measure)) → readings (measured_by found) ≡ readings []
nothing_happened found = readings_after [] (measured_by found) ∙ nothing_reads (readings []) found

no_answers : (found : List (Name × Measure)) → list_all is_no_answer (measured_by found) ≡ true
no_answers [] = refl
no_answers (m ∷ found) = no_answers found

-- no row was looked for
nothing_looked_up : (jobs : List Job) (found : List (Name × Measure)) → LooksUp jobs (measured_by found) 0
nothing_looked_up jobs found = still_looked_up jobs [] (measured_by found) 0 (no_answers found) (none_looked_up jobs)

none_alike : {K : Type 0} (eq : K → K → Bool) → IsDistinct eq []
unfolding IsDistinct
none_alike eq = tt

one_more : (found : List (Name × Measure)) (path : Name) (measure : Measure) → measured_by (found ++ (path, measure) ∷ []) ≡ measured_by found ++ file_measured path measure ∷ []
one_more found path measure = map-append (λ (m : Name × Measure). file_measured m.0 m.1) found ((path, measure) ∷ [])

-- Which paths are measured

measured_is : (found : List (Name × Measure)) (path : Name) → is_measured (measured_by found) path ≡ list_any (λ other. bytes_eq other path) (keys_of found)
measured_is [] path = refl
measured_is (m ∷ found) path = ap (λ b. bytes_eq m.0 path || b) (measured_is found path)

its_own : (before : List (Name × Measure)) (m : Name × Measure) (more : List (Name × Measure)) → is_measured (measured_by (before ++ m ∷ more)) m.0 ≡ true
its_own [] m more = or_left (bytes_eq m.0 m.0) (is_measured (measured_by more) m.0) (nat_list_eq_equiv.refl m.0)
its_own (b ∷ before) m more = or_right (bytes_eq b.0 m.0) (is_measured (measured_by (before ++ m ∷ more)) m.0) (its_own before m more)

all_from : (before more : List (Name × Measure)) → list_all (is_measured (measured_by (before ++ more))) (keys_of more) ≡ true
all_from before [] = refl
all_from before (m ∷ more) =
    let longer : (before ++ m ∷ []) ++ more ≡ before ++ m ∷ more = append_assoc before (m ∷ []) more in
    let rest : list_all (is_measured (measured_by (before ++ m ∷ more))) (keys_of more) ≡ true =
    subst (λ (found : List (Name × Measure)). list_all (is_measured (measured_by found)) (keys_of more) ≡ true) longer (all_from (before ++ m ∷ []) more) in
    ap (λ b. b && list_all (is_measured (measured_by (before ++ m ∷ more))) (keys_of more)) (its_own before m more) ∙ rest

and_false : (b c : Bool) → c ≡ false → (b && c) ≡ false
and_false true c is = is
and_false false c is = refl

-- one that is not is enough
not_each : (p : Name → Bool) (before : List Name) (path : Name) (later : List Name) → p path ≡ false → list_all p (before ++ path ∷ later) ≡ false
not_each p before path later is =
    list_all-append p before (path ∷ later) ∙ and_false (list_all p before) (p path && list_all p later) (ap (λ b. b && list_all p later) is)

-- the process that is run is that of the scene
pub record IsOf (s : Scene) (given : Given) : Type 0 where
  pub walks : (known : Measures) → walker given.process.now given.inputs.now known ≡ s.walker known
  pub paths : input_paths given.process.now given.inputs.now ≡ s.paths
  pub once : Once s.paths

module _ (s : Scene) (once : Once s.paths) where
  module _ (found : List (Name × Measure)) (path : Name) (later : List Name) (all : s.paths ≡ keys_of found ++ path ∷ later) where
    unmeasured : is_measured (measured_by found) path ≡ false
    unmeasured = measured_is found path ∙ not_before (keys_of found) path later (subst Once all once)

    not_all : are_measured s (measured_by found) ≡ false
    not_all = ap (λ names. list_all (is_measured (measured_by found)) names) all ∙ not_each (is_measured (measured_by found)) (keys_of found) path later unmeasured

    nothing_yet : unfolding_at s (measured_by found) ≡ nothing_known
    nothing_yet = unfolding_before s (measured_by found) not_all

    no_end_yet : unfold_end s (measured_by found) ≡ None
    no_end_yet = ap (λ (u : Unfolded). fault_end u.fault) nothing_yet

    known_path : Contains s.paths path
    known_path = subst (λ (names : List Name). Contains names path) (sym all) (Contains-append_right (keys_of found) (path ∷ later) path (0, omega arith, refl))

  no_end_before : (found more : List (Name × Measure)) (path : Name) (later : List Name) → s.paths ≡ keys_of (found ++ more) ++ path ∷ later → unfold_end s (measured_by found) ≡ None
  no_end_before found [] path later all =
      no_end_yet found path later (all ∙ ap (λ (ms : List (Name × Measure)). keys_of ms ++ path ∷ later) (append-nil found))
  no_end_before found (m ∷ more) path later all =
      no_end_yet found m.0 (keys_of more ++ path ∷ later)
      (all ∙ ap (λ (names : List Name). names ++ path ∷ later) (map-append (λ (e : Name × Measure). e.0) found (m ∷ more)) ∙ append_assoc (keys_of found) (m.0 ∷ keys_of more) (path ∷ later))

  none_from : (done found : List (Name × Measure)) (path : Name) (later : List Name) → s.paths ≡ keys_of (done ++ found) ++ path ∷ later →
      settled_from s (measured_by done) (measured_by found) ≡ None
  none_from done [] path later all = refl
  none_from done (m ∷ found) path later all =
      let longer : (done ++ m ∷ []) ++ found ≡ done ++ m ∷ found = append_assoc done (m ∷ []) found in
      let whole : s.paths ≡ keys_of ((done ++ m ∷ []) ++ found) ++ path ∷ later = all ∙ ap (λ (ms : List (Name × Measure)). keys_of ms ++ path ∷ later) (sym longer) in
      subst (λ (es : List Event). or_else (unfold_end s es) (settled_from s es (measured_by found)) ≡ None) (one_more done m.0 m.1)
      (ap (λ (o : Option End). or_else o (settled_from s (measured_by (done ++ m ∷ [])) (measured_by found))) (no_end_before (done ++ m ∷ []) found path later whole)
      ∙ none_from (done ++ m ∷ []) found path later whole)

  -- nothing is settled while one is not measured
  unsettled_yet : (found : List (Name × Measure)) (path : Name) (later : List Name) → s.paths ≡ keys_of found ++ path ∷ later → settled s (measured_by found) ≡ None
  unsettled_yet found path later all =
      ap (λ (o : Option End). or_else o (settled_from s [] (measured_by found))) (no_end_before [] found path later all) ∙ none_from [] found path later all

  -- once all are
  module _ (laws : Laws s) (found : List (Name × Measure)) (all : s.paths ≡ keys_of found) (settles : settled s (measured_by found) ≡ unfold_end s (measured_by found)) where
    each_one : are_measured s (measured_by found) ≡ true
    each_one = ap (λ names. list_all (is_measured (measured_by found)) names) all ∙ all_from [] found

    abbrev walks : Walker
    walks = s.walker (measures (measured_by found))

    known_then : unfolding_at s (measured_by found) ≡ unfolded walks []
    known_then = unfolding_when s (measured_by found) each_one ∙ ap (unfolded walks) (none_resolved found)

    settled_then : (o : Option Fault) → (unfolded walks []).fault ≡ o → settled s (measured_by found) ≡ fault_end o
    settled_then o is = settles ∙ ap (λ (u : Unfolded). fault_end u.fault) known_then ∙ ap fault_end is

    module _ (old : Course) (nothing : past_of old ≡ nothing_past) (none : old.known ≡ None) where
      first_known : (kept : Unfolding) (new : Course) → Knows walks [] kept → new.known ≡ Some kept → past_of new ≡ past_of old → Reflects s (measured_by found) new None
      first_known kept new k known past =
          let jobs : known_in new.known ≡ (unfolded walks []).jobs = ap known_in known ∙ k.jobs in
          let whole : (unfolding_at s (measured_by found)).jobs ≡ known_in new.known = ap (λ (u : Unfolded). u.jobs) known_then ∙ sym jobs in
          record {
            keeps = subst (λ (p : Past). Keeps s (measured_by found) (known_in new.known) p None) (sym (past ∙ nothing))
                (first_keeps s (measured_by found) (known_in new.known) (nothing_happened found) (subst AreApart (sym jobs) (laws.differ walks []))
                (subst (λ (js : List Job). IsFront (known_in new.known) js) (sym whole) (front_itself (known_in new.known))) (settled_then None k.fault));
            measured = λ still. each_one;
            knows = λ still. subst (λ (o : Option Unfolding). IsKnown walks (resolved (measured_by found)) o) (sym known)
                (subst (λ (learned : List Resolved). Knows walks learned kept) (sym (none_resolved found)) k);
            collects = none_lost found;
            undelivered = none_delivered found;
            looks = subst (λ n. LooksUp (known_in new.known) (measured_by found) n) (sym (ap (λ (p : Past). p.looked_up) (past ∙ nothing)))
                (nothing_looked_up (known_in new.known) found);
            rows = subst (λ (p : Past). AreFound (known_in new.known) (measured_by found) p.rows p.looked_up) (sym (past ∙ nothing))
                (nothing_found (known_in new.known) (measured_by found) (nothing_looked_up (known_in new.known) found));
            notes = ap (λ (p : Past). p.notes) (past ∙ nothing) ∙ sym (none_noted found);
            lost = λ key. no_archive_lost found key ∙ ap (λ (p : Past). is_lost_in p.lost key) (sym (past ∙ nothing));
            tried = subst (λ (p : Past). AreTriedOnce p) (sym (past ∙ nothing)) none_tried;
          }

      first_fault : (fault : UnfoldFault) (new : Course) → (unfolded walks []).fault ≡ Some (fault_of fault) → known_in new.known ≡ known_in old.known →
          past_of new ≡ with_end (end_by fault) (past_of old) → Reflects s (measured_by found) new None
      first_fault fault new is known past =
          let after : past_of new ≡ with_end (outcome_of (end_of fault)) nothing_past =
          past ∙ ap (λ (p : Past). with_end (end_by fault) p) nothing ∙ ap (λ (end : Result Outcome RunFault). with_end end nothing_past) (sym (end_reported fault)) in
          let is_open : new.end ≡ None → ⊥ = λ still. never_none None (outcome_of (end_of fault)) (ap (λ (p : Past). p.end) (sym after) ∙ still) in
          record {
            keeps = moved s (measured_by found) [] (with_end (outcome_of (end_of fault)) nothing_past) None new (known ∙ ap known_in none) after
                (first_fails_keeps s (measured_by found) [] (end_of fault) (nothing_happened found) (none_alike is_same_place)
                (record { rest = (unfolding_at s (measured_by found)).jobs; is = refl }) (settled_then (Some (fault_of fault)) is ∙ fault_ends fault));
            measured = λ still. absurd (is_open still);
            knows = λ still. absurd (is_open still);
            collects = none_lost found;
            undelivered = none_delivered found;
            looks = subst (λ n. LooksUp (known_in new.known) (measured_by found) n) (sym (ap (λ (p : Past). p.looked_up) after))
                (nothing_looked_up (known_in new.known) found);
            rows = subst (λ (p : Past). AreFound (known_in new.known) (measured_by found) p.rows p.looked_up) (sym after)
                (nothing_found (known_in new.known) (measured_by found) (nothing_looked_up (known_in new.known) found));
            notes = ap (λ (p : Past). p.notes) after ∙ sym (none_noted found);
            lost = λ key. no_archive_lost found key ∙ ap (λ (p : Past). is_lost_in p.lost key) (sym after);
            tried = subst (λ (p : Past). AreTriedOnce p) (sym after) (tried_still (leaves_same (record { jobs = refl; rows = refl; lost = refl })) none_tried);
          }

      first_by : {new : Course} → IsUnfolded walks [] old new → Reflects s (measured_by found) new None
      first_by (knows kept new k known past) = first_known kept new k known past
      first_by (fails fault new is known past) = first_fault fault new is known past

-- What comes of a measure

module _ (s : Scene) (given : Given) (its : IsOf s given) (laws : Laws s) where
  module _ (t : List Pair) (picks : PicksAt s given t) (found : List (Name × Measure)) (plans : PlansSoFar) (comes : Comes s t (when_measured found) plans)
      (settles : settled s (measured_by found) ≡ unfold_end s (measured_by found)) (old : Course) (planned : KeepsPlans plans (past_of old)) (nothing : past_of old ≡ nothing_past)
      (none : old.known ≡ None) where
    measured_on : (measuring : Measuring) → measuring.measures ≡ measures (measured_by found) → s.paths ≡ keys_of found ++ reverse measuring.left → length measuring.left < 2 ^ 64 →
        {turn : Turn} {new : Course} → MeasuresOn given old measuring turn new → Runs s t new turn
    measured_on measuring same all few (all_measured known turn new is_empty on next) =
        let whole : s.paths ≡ keys_of found = all ∙ ap (λ (names : List Name). keys_of found ++ reverse names) is_empty ∙ append-nil (keys_of found) in
        let unfolds : IsUnfolded (s.walker (measures (measured_by found))) [] old known =
        subst (λ (w : Walker). IsUnfolded w [] old known) (its.walks measuring.measures ∙ ap s.walker same) on in
        picks (when_measured found) plans comes refl known turn new (unfolded_planned plans (s.walker (measures (measured_by found))) [] old known unfolds planned)
        (first_by s its.once laws found whole settles old nothing none unfolds) next
    measured_on measuring same all few (measures_next rest path new is past known) =
        let in_turn : s.paths ≡ keys_of found ++ path ∷ reverse rest = all ∙ ap (λ (names : List Name). keys_of found ++ names) (turned measuring.left rest path is) in
        let no_plan : is_planning s (when_measured found) ≡ false =
        no_plan_when_all_there s (when_measured found)
        (ap (λ (u : Unfolded). list_any (λ (j : Job). not (is_at_hand (measured_by found) j.place)) u.jobs) (nothing_yet s its.once found path (reverse rest) in_turn)) in
        record {
          happened = when_measured found;
          plans = plans;
          goes = comes plans (stays_in_force s (when_measured found) (length t) plans no_plan);
          planned = planned_same plans (past_of old) (past_of new) past planned;
          at = at_measuring found measuring rest path (record { paths = all; measures = same; few = few }) is refl (known ∙ none) (past ∙ nothing);
        }

  -- before any answer
  pub begins_so : PicksAt s given [] → (old : Course) → past_of old ≡ nothing_past → old.known ≡ None → (turn : Turn) (new : Course) → Begins given old turn new → Runs s [] new turn
  begins_so picks old nothing none turn new b =
      let all : reverse b.measuring.left ≡ s.paths =
      ap reverse b.paths ∙ reverse-reverse (input_paths given.process.now given.inputs.now) ∙ its.paths in
      measured_on [] picks [] no_plans (first_comes s) (or_none (unfold_end s [])) old (subst (λ (p : Past). KeepsPlans no_plans p) (sym nothing) (refl, refl)) nothing none
      b.measuring b.none (sym all) b.few b.on

  module _ (t : List Pair) (found : List (Name × Measure)) (plans : PlansSoFar) (measuring : Measuring) (rest : List Name) (path : Name) (m : IsMeasuring s found measuring)
      (is : measuring.left ≡ rest ++ path ∷ []) where
    in_turn : s.paths ≡ keys_of found ++ path ∷ reverse rest
    in_turn = m.paths ∙ ap (λ (names : List Name). keys_of found ++ names) (turned measuring.left rest path is)

    pub may_measure : MayMeasure s (when_measured found) [] path
    may_measure = record {
      at_root = refl;
      still = record { idle = refl; collects = none_lost found; unsettled = unsettled_yet s its.once found path (reverse rest) in_turn };
      known = known_path s its.once found path (reverse rest) in_turn;
      unmeasured = unmeasured s its.once found path (reverse rest) in_turn;
    }

    module _ (picks : PicksNext s given t) (goes : Goes s (InForce s) t (when_measured found) plans) (old : Course) (planned : KeepsPlans plans (past_of old)) (nothing : past_of old ≡ nothing_past) (none : old.known ≡ None) where
      -- it is measured
      pub measure_goes_on : (measure : Measure) (turn : Turn) (new : Course) → TakesMeasure given old measuring measure turn new →
          Runs s (t ++ call [] (HostRequest.Measure path) (HostAnswer.Measured measure) ∷ []) new turn
      measure_goes_on measure turn new takes =
          let put : IsTurn measuring.left measuring.measures measure rest path takes.next.left takes.next.measures =
          turn_of measuring.left measuring.measures measure rest path is takes.puts in
          let more : measured_by found ++ file_measured path measure ∷ [] ≡ measured_by (found ++ (path, measure) ∷ []) = sym (one_more found path measure) in
          let settles : settled s (measured_by (found ++ (path, measure) ∷ [])) ≡ unfold_end s (measured_by (found ++ (path, measure) ∷ [])) =
          subst (λ (es : List Event). settled s es ≡ unfold_end s es) more
          (settled_more s (measured_by found) (file_measured path measure) (unsettled_yet s its.once found path (reverse rest) in_turn)) in
          let same : takes.next.measures ≡ measures (measured_by (found ++ (path, measure) ∷ [])) =
          put.found_is ∙ ap (λ (k : Measures). with_value path measure k) m.measures
          ∙ sym (fold-append measures_after [] (measured_by found) (file_measured path measure ∷ [])) ∙ ap measures more in
          let all : s.paths ≡ keys_of (found ++ (path, measure) ∷ []) ++ reverse takes.next.left =
          in_turn ∙ sym (append_assoc (keys_of found) (path ∷ []) (reverse rest))
          ∙ ap (λ (names : List Name). names ++ reverse rest) (sym (map-append (λ (e : Name × Measure). e.0) found ((path, measure) ∷ [])))
          ∙ ap (λ (names : List Name). keys_of (found ++ (path, measure) ∷ []) ++ reverse names) (sym put.left_is) in
          let few : length takes.next.left < 2 ^ 64 =
          subst (λ (names : List Name). length names < 2 ^ 64) (sym put.left_is) (fewer rest path (subst (λ (names : List Name). length names < 2 ^ 64) is m.few)) in
          measured_on (t ++ call [] (HostRequest.Measure path) (HostAnswer.Measured measure) ∷ []) (picks (call [] (HostRequest.Measure path) (HostAnswer.Measured measure)))
          (found ++ (path, measure) ∷ []) plans
          (subst (λ (es : List Event). Comes s (t ++ call [] (HostRequest.Measure path) (HostAnswer.Measured measure) ∷ []) (record { work = nothing_due; events = es }) plans) more
          (comes_on s (call [] (HostRequest.Measure path) (HostAnswer.Measured measure)) nothing_due (file_measured path measure ∷ []) goes may_measure (measures_file path measure)))
          settles old planned nothing none takes.next same all few takes.on

    -- its measure failed
    pub measure_fault_reflects : (old new : Course) → past_of old ≡ nothing_past → old.known ≡ None → past_of new ≡ with_end (Err (RunFault.Host HostFault.Measure [])) (past_of old) →
        new.known ≡ old.known → Reflects s (measured_by found ++ host_failed [] HostFault.Measure ∷ []) new None
    measure_fault_reflects old new nothing none past known =
        let es : List Event = measured_by found in
        let after : past_of new ≡ with_end (Err (RunFault.Host HostFault.Measure [])) nothing_past = past ∙ ap (λ (p : Past). with_end (Err (RunFault.Host HostFault.Measure [])) p) nothing in
        let is_open : new.end ≡ None → ⊥ = λ still. never_none None (outcome_of (ended_by_host HostFault.Measure [])) (ap (λ (p : Past). p.end) (sym after) ∙ still) in
        record {
          keeps = moved s (measured_by found ++ host_failed [] HostFault.Measure ∷ []) [] (with_end (Err (RunFault.Host HostFault.Measure [])) nothing_past) None new
              (ap known_in (known ∙ none)) after
              (failed_keeps s (measured_by found) [] nothing_past None (host_failed [] HostFault.Measure) (ended_by_host HostFault.Measure []) refl refl
              (λ (place : JobPlace). started_after (measured_by found) (host_failed [] HostFault.Measure ∷ []) place) refl
              (first_keeps s (measured_by found) [] (nothing_happened found) (none_alike is_same_place)
              (record { rest = (unfolding_at s (measured_by found)).jobs; is = refl }) (unsettled_yet s its.once found path (reverse rest) in_turn)));
          measured = λ still. absurd (is_open still);
          knows = λ still. absurd (is_open still);
          collects = collects_after s (measured_by found) (host_failed [] HostFault.Measure) (none_lost found) refl;
          undelivered = undelivered_after s (measured_by found) (host_failed [] HostFault.Measure) (none_delivered found) refl;
          looks = subst (λ n. LooksUp (known_in new.known) (measured_by found ++ host_failed [] HostFault.Measure ∷ []) n) (sym (ap (λ (p : Past). p.looked_up) after))
              (still_looked_up (known_in new.known) (measured_by found) (host_failed [] HostFault.Measure ∷ []) 0 refl (nothing_looked_up (known_in new.known) found));
          rows = subst (λ (p : Past). AreFound (known_in new.known) (measured_by found ++ host_failed [] HostFault.Measure ∷ []) p.rows p.looked_up) (sym after)
              (found_still (known_in new.known) (measured_by found) [] 0 (nothing_found (known_in new.known) (measured_by found) (nothing_looked_up (known_in new.known) found))
              (host_failed [] HostFault.Measure ∷ []) refl);
          notes = ap (λ (p : Past). p.notes) after ∙ sym (no_notes_more (measured_by found) (host_failed [] HostFault.Measure) refl ∙ none_noted found);
          lost = λ key. none_lost_more (measured_by found) (host_failed [] HostFault.Measure) key refl ∙ no_archive_lost found key ∙ ap (λ (p : Past). is_lost_in p.lost key) (sym after);
          tried = subst (λ (p : Past). AreTriedOnce p) (sym after) (tried_still (leaves_same (record { jobs = refl; rows = refl; lost = refl })) none_tried);
        }
