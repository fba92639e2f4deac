-- The run of what is given: it begins, and it goes on with each answer.
use Rattle.std.specs.Prelude.{◌≤◌, ◌≢◌, ◌++◌, ◌∷◌}
use Rattle.std.proofs.Common.{◌≡◌, ◌+◌, true, List, [], None, length, refl}
use Rattle.document_links.specs.declared.process.Process.{out-Process}
use Rattle.input_files.specs.Paths.{paths_of_fields}
use Rattle.workflow_check.specs.Checked.{fault_in}
use Rattle.job_graph.specs.Apart.{ids_differ}
use Rattle.job_graph.specs.Paths.{root_adds}
use Rattle.run_rules.proofs.AcceptedResult.{has_result}
use Rattle.job_graph.proofs.laws_of_walks.Known.{known_distinct}
use Rattle.run_rules.specs.declared.request.Answer.{Answer}
use Rattle.run_rules.specs.declared.request.Pair.{Pair}
use Rattle.run_rules.specs.declared.request.Request.{Request}
use Rattle.run_rules.specs.Allowed.{Allowed}
use Rattle.run_rules.specs.Answers.{MayAnswer}
use Rattle.run_rules.specs.Scene.{Scene, scene_of}
use Rattle.run_core.specs.inner.Inside.{rates_of, setting_in}
use Rattle.run_core.specs.declared.state.Course.{Course}
use Rattle.run_core.specs.declared.state.Given.{Given}
use Rattle.run_core.specs.declared.state.Turn.{Turn}
use Rattle.run_core.specs.Order.{IsFirst}
use Rattle.run_core.specs.inner.Course.{nothing_past, past_of}
use Rattle.run_core.specs.inner.Follows.{FollowsFrom}
use Rattle.run_core.specs.inner.Measures.{Begins}
use Rattle.run_core.specs.inner.Standing.{Runs}
use Rattle.run_core.proofs.Once.{once_each}
use Rattle.run_core.proofs.events.Reflecting.{Laws}
use Rattle.run_core.proofs.going.Asked.{allows as allows_in, is_first as is_first_in}
use Rattle.run_core.proofs.going.Going.{begins_with, goes_on_with}
use Rattle.run_core.proofs.going.Measured.{IsOf}

-- the scene of what is given
abbrev pub scene_in : Given → Scene
scene_in given = scene_of (setting_in given)

its_own : (given : Given) → IsOf (scene_in given) given
its_own given = record {
  walks = λ known. refl;
  paths = refl;
  once = once_each (paths_of_fields given.inputs.now ++ root_adds given.inputs.now (out-Process given.process.now));
}

-- an accepted process has its result once each known job is resolved
pub laws_of : (given : Given) → fault_in given.process.now ≡ None → ids_differ given.process.now ≡ true → Laws (scene_in given)
laws_of given accepted ids = record {
  differ = known_distinct;
  results = λ measures learned none each. has_result given.process.now given.inputs.now measures learned accepted ids none each;
}

module _ (given : Given) (rated : given.rates ≡ rates_of given.options) (laws : Laws (scene_in given)) (some : 1 ≤ given.options.slots) where
  pub begins_run : given.answers ≡ 0 → (old : Course) → past_of old ≡ nothing_past → old.known ≡ None → (turn : Turn) (new : Course) → Begins given old turn new →
      Runs (scene_in given) [] new turn
  begins_run = begins_with (scene_in given) given refl rated (its_own given) laws some

  pub follows_on : (t : List Pair) → given.answers ≡ length t + 1 → (old : Course) (before : Turn) (answer : Answer) (turn : Turn) (new : Course) → Runs (scene_in given) t old before →
      MayAnswer old.tickets.items before.asks answer → FollowsFrom given old before answer turn new →
      Runs (scene_in given) (t ++ record { request = before.asks; answer = answer } ∷ []) new turn
  follows_on = goes_on_with (scene_in given) given refl rated (its_own given) laws some

  pub allows : (t : List Pair) (course : Course) (turn : Turn) (runs : Runs (scene_in given) t course turn) → turn.asks ≢ Request.Finished →
      Allowed (scene_in given) runs.happened runs.plans.marks turn.asks
  allows = allows_in (scene_in given) given (its_own given) laws

  pub is_first : (t : List Pair) (course : Course) (turn : Turn) (runs : Runs (scene_in given) t course turn) → turn.asks ≢ Request.Finished →
      IsFirst (scene_in given) runs.happened runs.plans.marks turn.asks
  is_first = is_first_in (scene_in given) given (its_own given) laws
