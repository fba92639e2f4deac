-- The worked rows `reuse-chain` and `altered-fetch`, computed: a job that reads a file of another, both with an archived row, and the output is its
-- file. Each file has 250,000 bytes and each job took 1000 milliseconds. What is planned after each answer, and what it costs; and so where no archive is kept.
use Rattle.std.specs.Prelude.{codes, false, ◌||◌, ◌<◌, ◌≤◌}
use Rattle.std.proofs.Common.{◌≡◌, ◌≢◌, ◌∙◌, ℕ, zero, suc, Bool, true, cond, List, [], ◌∷◌, ◌++◌, All, IsSome, Option, Some, None, refl, sym, subst, ap, arith, rules}
use Rattle.cwl_value.specs.declared.place.Place.{Place}
use Rattle.cwl_value.specs.declared.value.FileVal.{roll-FileVal}
use Rattle.cwl_value.specs.declared.value.Value as value
use Rattle.cwl_value.specs.declared.value.Value.{Value, the_lemmas}
use Rattle.job_graph.specs.Jobs.{Job, Made, Met, Walk, met_job}
use Rattle.job_graph.specs.Made.{any_made, holds_made, is_of}
use Rattle.job_graph.specs.Words.{Fields, JobPlace}
use Rattle.job_reuse.specs.Rows.{made_row}
use Rattle.job_rows.specs.declared.row.Row.{Row}
use Rattle.plan_checker.specs.Graph.{vertex}
use Rattle.plan_checker.specs.Least.{IsCheapest, IsLeast}
use Rattle.plan_checker.specs.Plan.{IsAllowed, IsValid, cost, cost_of, mark}
use Rattle.plan_checker.specs.declared.plan.Mark.{Mark}
use Rattle.plan_checker.specs.declared.plan.Mark.TheVariants.{Compute, Load, Prune}
use Rattle.plan_checker.specs.declared.vertex.Vertex.{Vertex}
use Rattle.staging.specs.declared.found.Found.{Found}
use Rattle.run_rules.specs.declared.outcome.PlanNote.{PlanNote}
use Rattle.run_rules.specs.declared.setting.Options.{Options}
use Rattle.run_rules.specs.Costs.{graph_at}
use Rattle.run_rules.specs.Events.{Event, archive_differs, drop_due, touch_due, discard_due, files_fetched, row_found}
use Rattle.run_rules.specs.Plans.{InForce, PlansSoFar, is_planning, no_plans}
use Rattle.run_rules.specs.Run.{Replans}
use Rattle.run_rules.specs.Scene.{Scene}
use Rattle.run_rules.proofs.TwoJobs.{a, at, options, tool}
use Rattle.run_rules.proofs.events.Planned.{is_made}

abbrev c : JobPlace
c = record { step = codes "c"; index = [] } ∷ []

-- a file of that many bytes
abbrev file : Place → Value
file place = value.FileVal (roll-FileVal (record { place = place; basename = Some (codes "o"); checksum = None; size = Some 250000; contents = None; secondary = [] }))

abbrev output_of : JobPlace → Fields
output_of job = (codes "o", file (Place.Made job (codes "o"))) ∷ []

abbrev job_a : Job
job_a = record { place = a; tool = tool; inputs = [] }

abbrev job_c : Job
job_c = record { place = c; tool = tool; inputs = output_of a }

-- the second job is known once the outputs of the first are
abbrev met_then : Option Fields → List Met
met_then None = []
met_then (Some outputs) = met_job job_c ∷ []

abbrev out_then : Option Fields → Option Value
out_then None = None
out_then (Some outputs) = Some (file (Place.Made c (codes "o")))

abbrev chain : Made → Walk
chain made = record { met = met_job job_a ∷ met_then (made job_a); outs = (codes "o", out_then (made job_c)) ∷ [] }

-- an archive is kept, any load costs 1, and one more for each 100,000 bytes
abbrev keeping : Options
keeping = record {
  work = options.work;
  outdir = options.outdir;
  path_env = options.path_env;
  slots = 1;
  retries = 0;
  base = 1;
  rate = 100000;
  keep = true;
}

abbrev s : Scene
s = record { walker = λ measures. chain; paths = []; options = keeping; made_before = λ place. false }

abbrev files : List Found
files = record { name = codes "o"; is_dir = false; size = 250000; sum = codes "5" } ∷ []

abbrev row_if : Bool → List ℕ → Row
row_if archived key = made_row key ((codes "o", file (Place.Url (codes "o"))) ∷ []) files 1000 archived

abbrev row_of : List ℕ → Row
row_of key = row_if true key

-- ---- what is made by which job

holds : (job : JobPlace) (place : Place) → holds_made job (file place) ≡ (is_of job place || false)
holds job place = search (rules, the_lemmas)

made_of : (job maker : JobPlace) → any_made job (output_of maker) ≡ ((is_of job (Place.Made maker (codes "o")) || false) || false)
made_of job maker = ap (λ b. b || false) (holds job (Place.Made maker (codes "o")))

-- the graph of both jobs, whose rows are found: the first is a parent of the second where it made what that reads, and each is needed where it made the output
abbrev graph_by : Option ℕ → Option ℕ → Bool → Bool → Bool → List Vertex
graph_by load_a load_c parent needs_a needs_c =
    record { load = load_a; compute = 1000; parents = []; needed = needs_a } ∷ record { load = load_c; compute = 1000; parents = cond parent (0 ∷ []) []; needed = needs_c } ∷ []

abbrev graph : Option ℕ → List Vertex
graph load_c = graph_by (Some 4) load_c true false true

made_so : (load_a load_c : Option ℕ) → graph_by load_a load_c (any_made a (output_of a)) (any_made a (output_of c)) (any_made c (output_of c)) ≡ graph_by load_a load_c true false true
made_so load_a load_c =
    ap (λ b. graph_by load_a load_c b (any_made a (output_of c)) (any_made c (output_of c))) (made_of a a)
    ∙ ap (λ b. graph_by load_a load_c true b (any_made c (output_of c))) (made_of a c)
    ∙ ap (λ b. graph_by load_a load_c true false b) (made_of c c)

-- ---- plans of two jobs

each_of_two : (P : ℕ → Type 0) → P 0 → P 1 → (i : ℕ) → i < 2 → P i
each_of_two P first second zero below = first
each_of_two P first second (suc zero) below = second
each_of_two P first second (suc (suc i)) below = absurd (omega (arith, below))

-- the second job is needed, so no valid plan prunes it
kept_in : (load_c : Option ℕ) (other : List Mark) → IsValid (graph load_c) other → mark other 1 ≢ Prune
kept_in load_c other valid gone =
    let never : true ≡ false = subst (λ (m : Mark). IsAllowed other (vertex (graph load_c) 1) m) gone (valid.allowed 1 (omega arith)) in cc

-- where its files can be fetched or are there, that is all that is done
abbrev loaded : List Mark
loaded = Prune ∷ Load ∷ []

loaded_is_valid : (load : ℕ) → IsValid (graph (Some load)) loaded
loaded_is_valid load = record {
  one_each = refl;
  allowed = each_of_two (λ i. IsAllowed loaded (vertex (graph (Some load)) i) (mark loaded i)) refl refl;
}

costs_as_much : (load : ℕ) (other : List Mark) → load ≤ 1000 → mark other 1 ≢ Prune → (m : Mark) → mark other 1 ≡ m → load ≤ cost_of (vertex (graph (Some load)) 1) m
costs_as_much load other few kept Load is = omega arith
costs_as_much load other few kept Compute is = few
costs_as_much load other few kept Prune is = absurd (kept is)

loaded_is_cheapest : (load : ℕ) → load ≤ 1000 → IsCheapest (graph (Some load)) loaded
loaded_is_cheapest load few = record {
  valid = loaded_is_valid load;
  cheapest = λ other valid. omega (arith, costs_as_much load other few (kept_in (Some load) other valid) (mark other 1) refl);
}

loaded_is_least : (load : ℕ) → load ≤ 1000 → IsLeast (graph (Some load)) loaded
loaded_is_least load few = record {
  cheapest = loaded_is_cheapest load few;
  least = λ other its. record {
    computes = each_of_two (λ i. mark loaded i ≡ Compute → mark other i ≡ Compute) (λ is. absurd cc) (λ is. absurd cc);
    keeps = each_of_two (λ i. mark loaded i ≢ Prune → mark other i ≢ Prune) (λ kept. absurd (kept refl)) (λ kept. kept_in (Some load) other its.valid);
  };
}

-- where they can't, it is computed from the files of the first
abbrev computed : List Mark
computed = Load ∷ Compute ∷ []

parent_is_kept : All (λ p. mark computed p ≢ Prune) (0 ∷ [])
parent_is_kept zero d below = λ gone. cc
parent_is_kept (suc k) d below = absurd (omega (arith, below))

computed_is_valid : IsValid (graph None) computed
computed_is_valid = record {
  one_each = refl;
  allowed = each_of_two (λ i. IsAllowed computed (vertex (graph None) i) (mark computed i)) refl parent_is_kept;
}

no_load : (load : Option ℕ) → load ≡ None → IsSome load → ⊥
no_load None none some = cc
no_load (Some load) none some = cc

must_compute : (other : List Mark) → IsValid (graph None) other → (m : Mark) → mark other 1 ≡ m → m ≡ Compute
must_compute other valid Load is =
    absurd (no_load (vertex (graph None) 1).load refl (subst (λ (m : Mark). IsAllowed other (vertex (graph None) 1) m) is (valid.allowed 1 (omega arith))))
must_compute other valid Compute is = refl
must_compute other valid Prune is = absurd (kept_in None other valid is)

computes_it : (other : List Mark) → IsValid (graph None) other → mark other 1 ≡ Compute
computes_it other valid = must_compute other valid (mark other 1) refl

keeps_parent : (other : List Mark) → IsValid (graph None) other → mark other 0 ≢ Prune
keeps_parent other valid =
    let all : All (λ p. mark other p ≢ Prune) (0 ∷ []) =
    subst (λ (m : Mark). IsAllowed other (vertex (graph None) 1) m) (computes_it other valid) (valid.allowed 1 (omega arith)) in
    all 0 0 (omega arith)

parent_costs : (other : List Mark) → mark other 0 ≢ Prune → (m : Mark) → mark other 0 ≡ m → 4 ≤ cost_of (vertex (graph None) 0) m
parent_costs other kept Load is = omega arith
parent_costs other kept Compute is = omega arith
parent_costs other kept Prune is = absurd (kept is)

computed_is_cheapest : IsCheapest (graph None) computed
computed_is_cheapest = record {
  valid = computed_is_valid;
  cheapest = λ other valid.
      let second : cost_of (vertex (graph None) 1) (mark other 1) ≡ 1000 = ap (λ (m : Mark). cost_of (vertex (graph None) 1) m) (computes_it other valid) in
      omega (arith, second, parent_costs other (keeps_parent other valid) (mark other 0) refl);
}

computed_is_least : IsLeast (graph None) computed
computed_is_least = record {
  cheapest = computed_is_cheapest;
  least = λ other its. record {
    computes = each_of_two (λ i. mark computed i ≡ Compute → mark other i ≡ Compute) (λ is. absurd cc) (λ is. computes_it other its.valid);
    keeps = each_of_two (λ i. mark computed i ≢ Prune → mark other i ≢ Prune) (λ kept. keeps_parent other its.valid) (λ kept. kept_in None other its.valid);
  };
}

-- where the record keeps no archive, both are computed
abbrev bare : List Vertex
bare = graph_by None None true false true

abbrev both : List Mark
both = Compute ∷ Compute ∷ []

none_before : All (λ p. mark both p ≢ Prune) []
none_before k d below = absurd (omega (arith, below))

first_is_kept : All (λ p. mark both p ≢ Prune) (0 ∷ [])
first_is_kept zero d below = λ gone. cc
first_is_kept (suc k) d below = absurd (omega (arith, below))

both_are_valid : IsValid bare both
both_are_valid = record {
  one_each = refl;
  allowed = each_of_two (λ i. IsAllowed both (vertex bare i) (mark both i)) none_before first_is_kept;
}

second_by : (other : List Mark) → IsValid bare other → (m : Mark) → mark other 1 ≡ m → m ≡ Compute
second_by other valid Load is =
    absurd (no_load (vertex bare 1).load refl (subst (λ (m : Mark). IsAllowed other (vertex bare 1) m) is (valid.allowed 1 (omega arith))))
second_by other valid Compute is = refl
second_by other valid Prune is =
    let never : true ≡ false = subst (λ (m : Mark). IsAllowed other (vertex bare 1) m) is (valid.allowed 1 (omega arith)) in absurd cc

computes_second : (other : List Mark) → IsValid bare other → mark other 1 ≡ Compute
computes_second other valid = second_by other valid (mark other 1) refl

first_by : (other : List Mark) → IsValid bare other → (m : Mark) → mark other 0 ≡ m → m ≡ Compute
first_by other valid Load is =
    absurd (no_load (vertex bare 0).load refl (subst (λ (m : Mark). IsAllowed other (vertex bare 0) m) is (valid.allowed 0 (omega arith))))
first_by other valid Compute is = refl
first_by other valid Prune is =
    let all : All (λ p. mark other p ≢ Prune) (0 ∷ []) =
    subst (λ (m : Mark). IsAllowed other (vertex bare 1) m) (computes_second other valid) (valid.allowed 1 (omega arith)) in
    absurd (all 0 0 (omega arith) is)

computes_first : (other : List Mark) → IsValid bare other → mark other 0 ≡ Compute
computes_first other valid = first_by other valid (mark other 0) refl

no_prune : (m : Mark) → m ≡ Compute → m ≢ Prune
no_prune Compute is = λ gone. cc
no_prune Load is = absurd cc
no_prune Prune is = absurd cc

both_are_least : IsLeast bare both
both_are_least = record {
  cheapest = record {
    valid = both_are_valid;
    cheapest = λ other valid.
        let first : cost_of (vertex bare 0) (mark other 0) ≡ 1000 = ap (λ (m : Mark). cost_of (vertex bare 0) m) (computes_first other valid) in
        let second : cost_of (vertex bare 1) (mark other 1) ≡ 1000 = ap (λ (m : Mark). cost_of (vertex bare 1) m) (computes_second other valid) in
        omega (arith, first, second);
  };
  least = λ other its. record {
    computes = each_of_two (λ i. mark both i ≡ Compute → mark other i ≡ Compute) (λ is. computes_first other its.valid) (λ is. computes_second other its.valid);
    keeps = each_of_two (λ i. mark both i ≢ Prune → mark other i ≢ Prune) (λ kept. no_prune (mark other 0) (computes_first other its.valid))
        (λ kept. no_prune (mark other 1) (computes_second other its.valid));
  };
}

-- ---- what is planned

abbrev note : ℕ → ℕ → PlanNote
note after cost = record { after = after; cost = cost }

-- after both rows were found: the second job's files are fetched, and the first job is pruned
abbrev found : List Event
found = row_found a (row_of (codes "a")) ∷ row_found c (row_of (codes "c")) ∷ []

abbrev first_plan : PlansSoFar
first_plan = record { graph = graph (Some 4); marks = loaded; notes = note 2 4 ∷ [] }

its_graph : graph_at s found ≡ graph (Some 4)
its_graph = made_so (Some 4) (Some 4)

is_planned : is_planning s (at found) ≡ true
is_planned = rw (holds a (Place.Made a (codes "o"))) refl

planned_first : Replans s (InForce s) 2 (at found) no_plans first_plan
planned_first =
    is_made s (at found) 2 no_plans first_plan is_planned
    (record { graph = sym its_graph; marks = subst (λ (g : List Vertex). IsLeast g loaded) (sym its_graph) (loaded_is_least 4 (omega arith)); notes = refl })

-- once they are there, and it is noted that their archive was used, nothing is left to be done
abbrev fetched : List Event
fetched = found ++ files_fetched c 1 ∷ []

not_planned_yet : Replans s (InForce s) 3 (record { work = touch_due c (codes "c"); events = fetched }) first_plan first_plan
not_planned_yet = refl

its_graph_then : graph_at s fetched ≡ graph (Some 0)
its_graph_then = made_so (Some 4) (Some 0)

abbrev plan_then : PlansSoFar
plan_then = record { graph = graph (Some 0); marks = loaded; notes = note 2 4 ∷ note 4 0 ∷ [] }

is_planned_then : is_planning s (at fetched) ≡ true
is_planned_then = rw (holds a (Place.Made a (codes "o"))) refl

planned_then : Replans s (InForce s) 4 (at fetched) first_plan plan_then
planned_then =
    is_made s (at fetched) 4 first_plan plan_then is_planned_then
    (record { graph = sym its_graph_then; marks = subst (λ (g : List Vertex). IsLeast g loaded) (sym its_graph_then) (loaded_is_least 0 (omega arith)); notes = refl })

-- where they are not what the row has, nothing is planned before the archive is dropped and discarded; then the first job's files are fetched, and the second is computed
abbrev altered : List Event
altered = found ++ archive_differs c (codes "c") 1 ∷ []

not_planned : Replans s (InForce s) 3 (record { work = drop_due c (codes "c"); events = altered }) first_plan first_plan
not_planned = refl

nor_before_it_is_discarded : Replans s (InForce s) 4 (record { work = discard_due c (codes "c") []; events = altered }) first_plan first_plan
nor_before_it_is_discarded = refl

its_graph_altered : graph_at s altered ≡ graph None
its_graph_altered = made_so (Some 4) None

abbrev new_plan : PlansSoFar
new_plan = record { graph = graph None; marks = computed; notes = note 2 4 ∷ note 5 1004 ∷ [] }

is_planned_anew : is_planning s (at altered) ≡ true
is_planned_anew = rw (holds a (Place.Made a (codes "o"))) refl

planned_anew : Replans s (InForce s) 5 (at altered) first_plan new_plan
planned_anew =
    is_made s (at altered) 5 first_plan new_plan is_planned_anew
    (record { graph = sym its_graph_altered; marks = subst (λ (g : List Vertex). IsLeast g computed) (sym its_graph_altered) computed_is_least; notes = refl })

-- where a budget of no bytes lets the record keep no archive, both are computed
abbrev unarchived : List Event
unarchived = row_found a (row_if false (codes "a")) ∷ row_found c (row_if false (codes "c")) ∷ []

its_graph_unarchived : graph_at s unarchived ≡ bare
its_graph_unarchived = made_so None None

abbrev bare_plan : PlansSoFar
bare_plan = record { graph = bare; marks = both; notes = note 2 2000 ∷ [] }

is_planned_bare : is_planning s (at unarchived) ≡ true
is_planned_bare = rw (holds a (Place.Made a (codes "o"))) refl

planned_bare : Replans s (InForce s) 2 (at unarchived) no_plans bare_plan
planned_bare =
    is_made s (at unarchived) 2 no_plans bare_plan is_planned_bare
    (record { graph = sym its_graph_unarchived; marks = subst (λ (g : List Vertex). IsLeast g both) (sym its_graph_unarchived) both_are_least; notes = refl })
