-- What a record answers to a command adds its line, and the command can have it.
use Rattle.std.specs.Prelude.{IfOk, IfSome}
use Rattle.std.proofs.Common.{◌≡◌, ℕ, List, Option, Result, Ok, Err}
use Rattle.job_rows.specs.declared.refusal.RecordError.{RecordError}
use Rattle.job_rows.specs.declared.refusal.RecordError.TheVariants.{Refused, OutOfMemory}
use Rattle.job_rows.specs.declared.row.Row.{Row}
use Rattle.run_rules.specs.Answers.{CanTell, is_dropped, is_found, is_put, is_refused, is_touched}
use Rattle.run_rules.specs.declared.request.RecordRequest.{RecordRequest}
use Rattle.workflow_engine.specs.Gains.{done_by, found_by, kept_by}

pub find_told : (key : List ℕ) (outcome : Result (Option Row) RecordError) → IfOk outcome (λ found. IfSome found (λ row. row.key ≡ key)) →
    IfOk (found_by outcome) (CanTell (RecordRequest.Find key))
find_told key (Ok row) keyed = is_found key row keyed
find_told key (Err (Refused refusal)) keyed = is_refused (RecordRequest.Find key) refusal
find_told key (Err OutOfMemory) keyed = tt

pub put_told : (row : Row) (outcome : Result (List (List ℕ)) RecordError) → IfOk (kept_by outcome) (CanTell (RecordRequest.Put row))
put_told row (Ok gone) = is_put row gone
put_told row (Err (Refused refusal)) = is_refused (RecordRequest.Put row) refusal
put_told row (Err OutOfMemory) = tt

pub touch_told : (key : List ℕ) (outcome : Result (Unit {0}) RecordError) → IfOk (done_by outcome) (CanTell (RecordRequest.Touch key))
touch_told key (Ok done) = is_touched key
touch_told key (Err (Refused refusal)) = is_refused (RecordRequest.Touch key) refusal
touch_told key (Err OutOfMemory) = tt

pub drop_told : (key : List ℕ) (outcome : Result (Unit {0}) RecordError) → IfOk (done_by outcome) (CanTell (RecordRequest.DropArchive key))
drop_told key (Ok done) = is_dropped key
drop_told key (Err (Refused refusal)) = is_refused (RecordRequest.DropArchive key) refusal
drop_told key (Err OutOfMemory) = tt
