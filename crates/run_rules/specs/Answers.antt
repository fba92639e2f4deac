-- Which answers a request can have.
use Rattle.std.specs.Prelude.{◌≡◌, ℕ, List, Option, Contains}
use Rattle.std.specs.Option.{IfSome}
use Rattle.job_rows.specs.declared.refusal.RecordRefusal.{RecordRefusal}
use Rattle.job_rows.specs.declared.row.Row.{Row}
use Rattle.proc_host.specs.Answers.{CanAnswer, flying_with}
use Rattle.proc_host.specs.declared.call.HostAnswer.{HostAnswer}
use Rattle.proc_host.specs.declared.call.HostRequest.{HostRequest}
use Rattle.run_rules.specs.declared.request.Answer.{Answer}
use Rattle.run_rules.specs.declared.request.Pair.{Pair}
use Rattle.run_rules.specs.declared.request.RecordAnswer.{RecordAnswer}
use Rattle.run_rules.specs.declared.request.RecordRequest.{RecordRequest}
use Rattle.run_rules.specs.declared.request.Request.{Request}
use Rattle.job_graph.specs.Words.{JobPlace}

-- an answer that a record can give to a command: a row that is found has the key that was asked for
pub data CanTell : RecordRequest → RecordAnswer → Type 0 where
  is_found : (key : List ℕ) (row : Option Row) → IfSome row (λ found. found.key ≡ key) → CanTell (RecordRequest.Find key) (RecordAnswer.Found row)
  is_put : (row : Row) (gone : List (List ℕ)) → CanTell (RecordRequest.Put row) (RecordAnswer.Put gone)
  is_touched : (key : List ℕ) → CanTell (RecordRequest.Touch key) RecordAnswer.Done
  is_dropped : (key : List ℕ) → CanTell (RecordRequest.DropArchive key) RecordAnswer.Done
  is_refused : (request : RecordRequest) (refusal : RecordRefusal) → CanTell request (RecordAnswer.Refused refusal)

-- an answer that the request's call can give, where these children are in flight
pub data MayAnswer (flying : List ℕ) : Request → Answer → Type 0 where
  by_host : (place : JobPlace) (request : HostRequest) (answer : HostAnswer) → CanAnswer flying request answer →
      MayAnswer flying (Request.Host place request) (Answer.Host answer)
  by_record : (place : JobPlace) (request : RecordRequest) (answer : RecordAnswer) → CanTell request answer →
      MayAnswer flying (Request.Record place request) (Answer.Record answer)

-- the tickets in flight after an answer
abbrev pub flying_after : List ℕ → Answer → List ℕ
flying_after flying (Answer.Host answer) = flying_with flying answer
flying_after flying (Answer.Record answer) = flying

-- each answer of a transcript is one that its request's call can give, whichever children are in flight
abbrev pub AreAnswers : List Pair → Type 0
AreAnswers t = (pair : Pair) → Contains t pair → (flying : List ℕ) × MayAnswer flying pair.request pair.answer
