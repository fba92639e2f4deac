-- What the machine is told, and what comes of it.
use Rattle.std.specs.Prelude.{◌≡◌, ◌≢◌, ◌<◌, ◌++◌, ℕ, List, Result, Ok, Err, IfOk}
use Rattle.std.specs.declared.alloc.AllocError.{AllocError}
use Rattle.run_core.specs.Machine.{Machine}
use Rattle.run_rules.specs.Answers.{MayAnswer, flying_after}
use Rattle.run_rules.specs.Recorded.{lines_of}
use Rattle.run_rules.specs.Reports.{entries_of}
use Rattle.run_rules.specs.declared.request.Answer.{Answer}
use Rattle.run_rules.specs.declared.request.Request.{Request}
use Rattle.workflow_engine.specs.Gains.{commands_by, entries_by}
use Rattle.workflow_engine.specs.inner.Mapped.{pairs_by}

-- it asks something, which can be answered so
pub record MayBeTold (core : Machine) (told : Result Answer AllocError) : Type 0 where
  pub asks : core.asks ≢ Request.Finished
  pub answers : IfOk told (MayAnswer core.flying core.asks)

abbrev pub flying_told : List ℕ → Result Answer AllocError → List ℕ
flying_told flying (Ok answer) = flying_after flying answer
flying_told flying (Err error) = flying

-- what the machine was of stays, its transcript gains the answer if there is one, and it comes closer to its end
pub record IsTold (old : Machine) (told : Result Answer AllocError) (new : Machine) : Type 0 where
  pub setting : new.setting ≡ old.setting
  pub pairs : new.transcript ≡ old.transcript ++ pairs_by old.asks told
  pub entries : entries_of new.transcript ≡ entries_of old.transcript ++ entries_by old.asks told
  pub lines : lines_of new.transcript ≡ lines_of old.transcript ++ commands_by old.asks told
  pub flying : new.asks ≢ Request.Finished → new.flying ≡ flying_told old.flying told
  pub steps : new.steps_left < old.steps_left
