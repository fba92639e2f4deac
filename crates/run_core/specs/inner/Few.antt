-- What has changed since the plan in force was made, where few jobs were touched.
use Rattle.std.specs.Prelude.{◌≡◌, ◌≤◌, ℕ, List, Some, length, map, true}
use Rattle.run_plan.specs.Touched.{graph_in}
use Rattle.run_core.specs.declared.few.Few.{Few}
use Rattle.run_core.specs.declared.state.Course.{Course}
use Rattle.run_core.specs.declared.state.Given.{Given}
use Rattle.run_core.specs.inner.Course.{known_in, past_of}
use Rattle.run_core.specs.inner.Planning.{costs_at}
use Rattle.run_core.specs.inner.Touched.{AreCostsFrom}

-- the plan in force has so many vertices, all of known jobs, and was made at the same rates
pub record IsKeptFor (given : Given) (course : Course) (count : ℕ) : Type 0 where
  pub first : course.of_first ≡ true
  pub rates : course.rates ≡ given.rates
  pub keep : course.keep ≡ given.options.keep
  pub its_count : count ≡ length (graph_in course.planned)
  pub known : count ≤ length (known_in course.known)

-- these are the costs of the jobs that were touched, and of those past the graph's end
pub record AreFew (given : Given) (course : Course) (few : Few) : Type 0 where
  pub first : course.of_first ≡ true
  pub rates : course.rates ≡ given.rates
  pub keep : course.keep ≡ given.options.keep
  pub numbers : List ℕ
  pub touched : course.touched ≡ Some numbers
  pub changed : few.changed.items ≡ map (λ n. (n, costs_at given (past_of course) n)) numbers
  pub later : AreCostsFrom (costs_at given (past_of course)) (length (graph_in course.planned)) (length (known_in course.known)) few.later.items
