-- The failures of a log that grows by a call's entry.
use Rattle.std.proofs.Common.{◌≡◌, ◌+◌, cond, List, [], ◌∷◌, ◌++◌, Option, Some, None, ap, ◌∙◌, append-nil, add-zero, zero-add}
use Rattle.std.proofs.lemmas.List.Sums.{sum_by-append}
use Rattle.proc_host.specs.declared.call.Entry.{Entry}
use Rattle.proc_host.specs.declared.call.HostAnswer.{HostAnswer}
use Rattle.proc_host.specs.declared.call.HostAnswer.TheVariants.{Done, Measured, Started, Ended, Listed, FirstBytes, Fetched, Failed}
use Rattle.proc_host.specs.declared.call.HostRequest.{HostRequest}
use Rattle.proc_host.specs.Log.{entries_of, is_failure, failures, faults_in}

with_entry : (log : List Entry) (request : HostRequest) (answer : HostAnswer) →
    failures (log ++ record { request = request; answer = answer } ∷ []) ≡ failures log + cond (is_failure answer) 1 0
with_entry log request answer = sum_by-append (λ (entry : Entry). cond (is_failure entry.answer) 1 0) log (record { request = request; answer = answer } ∷ [])
    ∙ ap (λ n. failures log + n) (zero-add (cond (is_failure answer) 1 0))

pub failures_more : (log : List Entry) (request : HostRequest) (answer : Option HostAnswer) →
    failures (log ++ entries_of request answer) ≡ failures log + faults_in answer
failures_more log request None = rw (append-nil, add-zero)
failures_more log request (Some Done) = with_entry log request Done
failures_more log request (Some (Measured measure)) = with_entry log request (Measured measure)
failures_more log request (Some (Started ticket)) = with_entry log request (Started ticket)
failures_more log request (Some (Ended ending)) = with_entry log request (Ended ending)
failures_more log request (Some (Listed found)) = with_entry log request (Listed found)
failures_more log request (Some (FirstBytes bytes)) = with_entry log request (FirstBytes bytes)
failures_more log request (Some (Fetched found)) = with_entry log request (Fetched found)
failures_more log request (Some (Failed fault)) = with_entry log request (Failed fault)
