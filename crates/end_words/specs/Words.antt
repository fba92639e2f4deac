-- The words by which the program names what went wrong: rules of certificates, refusals and faults.
use Rattle.std.specs.Prelude.{ℕ, List, codes}
use Rattle.document_links.specs.Codes.{code_of as link_code}
use Rattle.workflow_check.specs.Codes.{code_of as rule_code}
use Rattle.cwl_value.specs.Codes.{code_of as value_code}
use Rattle.file_values.specs.Codes.{code_of as file_code}
use Rattle.job_rows.specs.Log.{code_of as record_code}
use Rattle.job_record.specs.Log.{code_of as opening_code}
use Rattle.plan_checker.specs.declared.broken.Broken.{Broken}
use Rattle.plan_checker.specs.declared.broken.Broken.TheVariants as rules
use Rattle.proc_host.specs.Faults.{code_of as host_code}
use Rattle.end_words.specs.declared.exit.Fault.{Fault}
use Rattle.end_words.specs.declared.exit.Fault.TheVariants as faults
use Rattle.end_words.specs.declared.exit.Refusal.{Refusal}
use Rattle.end_words.specs.declared.exit.Refusal.TheVariants as refusals

abbrev pub name_of : Broken → List ℕ
name_of rules.MarkCount = codes "MarkCount"
name_of rules.ChargeCount = codes "ChargeCount"
name_of (rules.NeededPruned i) = codes "NeededPruned"
name_of (rules.NoLoad i) = codes "NoLoad"
name_of (rules.ParentPruned i parent) = codes "ParentPruned"
name_of (rules.EnterNotNeeded i) = codes "EnterNotNeeded"
name_of (rules.ThroughOverLoad i) = codes "ThroughOverLoad"
name_of (rules.PayOverCompute i) = codes "PayOverCompute"
name_of (rules.InNotThrough i) = codes "InNotThrough"
name_of (rules.ThroughNotOut i) = codes "ThroughNotOut"
name_of (rules.Sum total worth) = codes "Sum"

abbrev pub refusal_code : Refusal → List ℕ
refusal_code (refusals.Document fault) = link_code fault
refusal_code (refusals.Links fault) = rule_code fault.rule
refusal_code (refusals.Inputs refusal) = value_code refusal
refusal_code (refusals.Location fault) = file_code fault
refusal_code (refusals.Certificate line) = codes "X1"

abbrev pub word_of : Fault → List ℕ
word_of (faults.Host fault name) = host_code fault
word_of (faults.Record refusal) = record_code refusal
word_of (faults.Unopened file fault) = opening_code fault
word_of faults.Words = codes "words"
word_of faults.RecordWords = codes "words"
word_of faults.Folder = codes "input"
word_of (faults.Unread name why) = codes "input"
word_of faults.NoObject = codes "input"
word_of (faults.Work path why) = codes "work"
word_of (faults.Outdir path why) = codes "H9"
word_of faults.TooManyJobs = codes "TooManyJobs"
word_of faults.OutOfMemory = codes "OutOfMemory"
