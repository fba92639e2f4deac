-- A call that ran out of memory, or failed, and the entries of the log.
use Rattle.std.proofs.Common.{◌≡◌, ◌∙◌, ◌+◌, ◌++◌, ◌∷◌, false, List, [], Result, Ok, Err, IsErrAnd, ap, cond, subst, sym, append-nil, add-zero}
use Rattle.std.proofs.lemmas.List.Sums.{sum_by-append}
use Rattle.proc_host.specs.declared.call.Entry.{Entry}
use Rattle.proc_host.specs.declared.call.HostAnswer.{HostAnswer}
use Rattle.proc_host.specs.declared.call.HostAnswer.TheVariants.{Failed}
use Rattle.proc_host.specs.declared.call.HostError.{HostError}
use Rattle.proc_host.specs.declared.call.HostError.TheVariants.{Fault, OutOfMemory}
use Rattle.proc_host.specs.declared.call.HostRequest.{HostRequest}
use Rattle.proc_host.specs.Log.{answer_behind, answer_behind_error, entries_of, is_start, starts}

-- out of memory adds nothing
pub nothing_gained : {T : Type 0} (request : HostRequest) (f : T → HostAnswer) (r : Result T HostError) (new old : List Entry)
    → new ≡ old → IsErrAnd r (λ e. e ≡ OutOfMemory) → new ≡ old ++ entries_of request (answer_behind f r)
nothing_gained request f (Ok x) new old same gone = absurd gone
nothing_gained request f (Err e) new old same gone =
    subst (λ (other : HostError). new ≡ old ++ entries_of request (answer_behind_error other)) (sym gone) (same ∙ sym (append-nil old))

-- a call that failed is no start
pub starts_same : (log : List Entry) (request : HostRequest) (e : HostError) → starts (log ++ entries_of request (answer_behind_error e)) ≡ starts log
starts_same log request (Fault fault) =
    sum_by-append (λ (entry : Entry). cond (is_start entry.answer) 1 0) log (record { request = request; answer = Failed fault } ∷ [])
    ∙ add-zero (starts log)
starts_same log request OutOfMemory = ap starts (append-nil log)

-- nor is a call with another answer
pub starts_kept : {T : Type 0} (log : List Entry) (request : HostRequest) (f : T → HostAnswer) → ((x : T) → is_start (f x) ≡ false)
    → (r : Result T HostError) → starts (log ++ entries_of request (answer_behind f r)) ≡ starts log
starts_kept log request f none (Ok x) =
    sum_by-append (λ (entry : Entry). cond (is_start entry.answer) 1 0) log (record { request = request; answer = f x } ∷ [])
    ∙ ap (λ b. starts log + (0 + cond b 1 0)) (none x) ∙ add-zero (starts log)
starts_kept log request f none (Err e) = starts_same log request e
