-- Which archives are discarded, and what comes of it.
use Rattle.std.specs.Prelude.{◌≡◌, ◌<◌, ◌^◌, ℕ, List, [], ◌∷◌, ◌++◌, length, reverse}
use Rattle.proc_host.specs.declared.call.HostFault.{HostFault}
use Rattle.run_rules.specs.declared.request.RecordAnswer.{RecordAnswer}
use Rattle.job_graph.specs.Words.{Name, JobPlace}
use Rattle.run_core.specs.declared.state.Course.{Course}
use Rattle.run_core.specs.declared.state.Given.{Given}
use Rattle.run_core.specs.declared.state.Turn.{Turn}
use Rattle.run_core.specs.inner.Course.{Past, discard_note, drop_note, key_in, known_in, past_of, place_at, put_note, with_note}
use Rattle.run_core.specs.inner.Picks.{Picks, PicksAfter}
use Rattle.run_core.specs.inner.Turn.{discards}

-- the archives of these keys are discarded for the job of a number, the last first; where there are none, nothing is due
pub data DiscardsOn (given : Given) (old : Course) (number : ℕ) (left : List Name) (turn : Turn) (new : Course) : Type 0 where
  none_left : left ≡ [] → Picks given old turn new → DiscardsOn given old number left turn new
  discards_one : (rest : List Name) (key : Name) → left ≡ rest ++ key ∷ [] → turn ≡ discards (place_at (known_in old.known) number) number key rest →
      past_of new ≡ past_of old → new.known ≡ old.known → DiscardsOn given old number left turn new

-- those of these keys are, the first first
pub record DiscardsAll (given : Given) (old : Course) (number : ℕ) (gone : List Name) (turn : Turn) (new : Course) : Type 0 where
  pub few : length gone < 2 ^ 64
  pub on : DiscardsOn given old number (reverse gone) turn new

-- an archive could not be discarded: that is noted, and those of these keys are discarded all the same
pub record DiscardsPast (given : Given) (old : Course) (number : ℕ) (left : List Name) (fault : HostFault) (turn : Turn) (new : Course) : Type 0 where
  pub noted : Course
  pub past : past_of noted ≡ with_note (discard_note (place_at (known_in old.known) number) fault) (past_of old)
  pub known : noted.known ≡ old.known
  pub on : DiscardsOn given noted number left turn new

-- the row of the job of a number is put, and the archives that it takes away are discarded; or it is refused
abbrev pub AfterPut : Given → Course → ℕ → RecordAnswer → Turn → Course → Type 0
AfterPut given old number (RecordAnswer.Put gone) turn new = DiscardsAll given old number gone turn new
AfterPut given old number (RecordAnswer.Refused refusal) turn new =
    PicksAfter given old (with_note (put_note (place_at (known_in old.known) number) refusal) (past_of old)) turn new
AfterPut given old number answer turn new = ⊥

-- the record has answered whether it is noted that the archive of the job's row is gone: it is discarded next
abbrev pub dropped_by : JobPlace → RecordAnswer → Past → Past
dropped_by place (RecordAnswer.Refused refusal) past = with_note (drop_note place refusal) past
dropped_by place answer past = past

pub record AfterDrop (old : Course) (number : ℕ) (answer : RecordAnswer) (turn : Turn) (new : Course) : Type 0 where
  pub is : turn ≡ discards (place_at (known_in old.known) number) number (key_in old.rows number) []
  pub past : past_of new ≡ dropped_by (place_at (known_in old.known) number) answer (past_of old)
  pub known : new.known ≡ old.known
