-- The exit statuses of the program (CWL v1.2 has success, permanentFailure and temporaryFailure; 3 and 33 are this project's).
use Rattle.std.specs.Prelude.{ℕ}
use Rattle.end_words.specs.declared.exit.Exit.{Exit}
use Rattle.end_words.specs.declared.exit.Exit.TheVariants.{Output, Plan, Broken, Record, Permanent, Temporary, Mismatch, Refused, Fault}
use Rattle.record_program.specs.Endings as record_program

-- 0 success, 1 a permanent failure or a broken certificate, 2 a temporary failure, 3 a fault, 33 a refusal; a record's command has its own
abbrev pub status_of : Exit → ℕ
status_of (Output line) = 0
status_of (Plan texts) = 0
status_of (Broken rule) = 1
status_of (Record ending) = record_program.status_of ending
status_of (Permanent place cause) = 1
status_of (Temporary place) = 2
status_of (Mismatch place) = 3
status_of (Fault fault) = 3
status_of (Refused refusal) = 33
