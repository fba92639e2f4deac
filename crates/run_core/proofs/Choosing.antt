-- What is turned to, by cases.
use Rattle.std.specs.Prelude.{is_some, option_map, slice_get, unwrap_or}
use Rattle.std.specs.Prelude.{◌&&◌}
use Rattle.std.proofs.Common.{◌≡◌, ◌<◌, ℕ, true, false, List, [], length, Option, Some, None, refl, ap, arith}
use Rattle.std.proofs.lemmas.Bool.{and_parts}
use Rattle.plan_checker.specs.Plan.{mark}
use Rattle.job_graph.specs.Jobs.{Job}
use Rattle.run_core.specs.declared.state.Course.{Course}
use Rattle.run_core.specs.inner.Course.{families_in, known_in, place_at}
use Rattle.run_core.specs.inner.JobStates.{IsLowest}
use Rattle.run_core.specs.declared.state.Given.{Given}
use Rattle.run_core.specs.inner.Fetches.{IsNextToFetch, can_load}
use Rattle.run_core.specs.inner.JobStates.{waits_in}
use Rattle.run_core.specs.inner.Marks.{is_load, marks_in}
use Rattle.run_core.proofs.events.Families.{as_many}

pub is_none : {X : Type 0} (o : Option X) → is_some o ≡ false → o ≡ None
is_none None none = refl
is_none (Some x) none = absurd cc

pub place_there : (jobs : List Job) (number : ℕ) (job : Job) → slice_get jobs number ≡ Some job → place_at jobs number ≡ job.place
place_there jobs number job there = ap (λ (found : Option Job). unwrap_or (option_map (λ j. j.place) found) []) there

-- the lowest job that is ready is one of those known
pub known_within : (course : Course) (number : ℕ) → IsLowest (marks_in course.planned) (families_in course.known) course.jobs number → number < length (known_in course.known)
known_within course number lowest =
    let many : length (families_in course.known) ≡ length (known_in course.known) = as_many [] (known_in course.known) in
    omega (arith, lowest.within, many)

-- what is fetched next can be loaded
pub loads_loaded : (given : Given) (course : Course) (number : ℕ) → IsNextToFetch given course number → can_load course number ≡ true
loads_loaded given course number next =
    let loads : (is_load (mark (marks_in course.planned) number) && can_load course number) ≡ true =
    (and_parts (waits_in course.jobs number) (is_load (mark (marks_in course.planned) number) && can_load course number) next.loads).1 in
    (and_parts (is_load (mark (marks_in course.planned) number)) (can_load course number) loads).1
