-- What a host answers to a call, the call can be answered.
use Rattle.std.proofs.Common.{◌≡◌, ◌≤◌, ℕ, List, length, Result, Ok, Err, IfOk, IsTrue, sym, subst}
use Rattle.std.specs.declared.alloc.AllocError.{AllocError}
use Rattle.proc_host.specs.Answers.{CanAnswer, are_among, has_failed, is_fetched, is_read, fault_of}
use Rattle.proc_host.specs.Log.{answer_behind, answer_behind_error, FailsOnlyBy, IsOnly}
use Rattle.proc_host.specs.declared.call.HostAnswer.{HostAnswer}
use Rattle.proc_host.specs.declared.call.HostError.{HostError}
use Rattle.proc_host.specs.declared.call.HostFault.{HostFault}
use Rattle.proc_host.specs.declared.call.HostRequest.{HostRequest}
use Rattle.staging.specs.declared.found.Found.{Found}
use Rattle.workflow_engine.specs.Gains.{answered}

module _ (running : List ℕ) (request : HostRequest) where
  by_error : (error : HostError) → IsOnly (fault_of request) error → IfOk (answered (answer_behind_error error)) (CanAnswer running request)
  by_error (HostError.Fault fault) own = subst (λ (f : HostFault). CanAnswer running request (HostAnswer.Failed f)) (sym own) (has_failed request)
  by_error HostError.OutOfMemory own = tt

  by_result : {T : Type 0} (answer : T → HostAnswer) (r : Result T HostError) → ((x : T) → CanAnswer running request (answer x)) →
      FailsOnlyBy (fault_of request) r → IfOk (answered (answer_behind answer r)) (CanAnswer running request)
  by_result answer (Ok x) can own = can x
  by_result answer (Err error) can own = by_error error own

  abbrev Told : Result HostAnswer AllocError → Type 0
  Told result = IfOk result (CanAnswer running request)

  -- a fault is the call's own
  pub fault_told : (error : HostError) (result : Result HostAnswer AllocError) → result ≡ answered (answer_behind_error error) →
      IsOnly (fault_of request) error → IfOk result (CanAnswer running request)
  fault_told error result is own = subst Told (sym is) (by_error error own)

  -- and each answer is one of the call's
  pub answer_told : {T : Type 0} (answer : T → HostAnswer) (r : Result T HostError) (result : Result HostAnswer AllocError) →
      result ≡ answered (answer_behind answer r) → ((x : T) → CanAnswer running request (answer x)) → FailsOnlyBy (fault_of request) r →
      IfOk result (CanAnswer running request)
  answer_told answer r result is can own = subst Told (sym is) (by_result answer r can own)

  -- also if it can be one only of what the call promises
  pub such_told : {T : Type 0} (IsSuch : T → Type 0) (answer : T → HostAnswer) (r : Result T HostError) (result : Result HostAnswer AllocError) →
      result ≡ answered (answer_behind answer r) → IfOk r IsSuch → ((x : T) → IsSuch x → CanAnswer running request (answer x)) → FailsOnlyBy (fault_of request) r →
      IfOk result (CanAnswer running request)
  such_told IsSuch answer (Ok x) result is such can own = subst Told (sym is) (can x such)
  such_told IsSuch answer (Err error) result is such can own = fault_told error result is own

-- no more of a file is read than was asked for
pub head_told : (running : List ℕ) (path : List ℕ) (limit : ℕ) (r : Result (List ℕ) HostError) (result : Result HostAnswer AllocError) →
    result ≡ answered (answer_behind (λ bytes. HostAnswer.FirstBytes bytes) r) → IfOk r (λ bytes. length bytes ≤ limit) → FailsOnlyBy HostFault.Head r →
    IfOk result (CanAnswer running (HostRequest.Head path limit))
head_told running path limit (Ok bytes) result is within own = subst (Told running (HostRequest.Head path limit)) (sym is) (is_read path limit bytes within)
head_told running path limit (Err error) result is within own = fault_told running (HostRequest.Head path limit) error result is own

-- nothing is fetched that was not asked for
pub fetch_told : (running : List ℕ) (key : List ℕ) (number : ℕ) (files : List Found) (r : Result (List Found) HostError) (result : Result HostAnswer AllocError) →
    result ≡ answered (answer_behind (λ found. HostAnswer.Fetched found) r) → IfOk r (λ found. IsTrue (are_among files found)) → FailsOnlyBy HostFault.Fetch r →
    IfOk result (CanAnswer running (HostRequest.Fetch key number files))
fetch_told running key number files (Ok found) result is among own =
    subst (Told running (HostRequest.Fetch key number files)) (sym is) (is_fetched key number files found among)
fetch_told running key number files (Err error) result is among own = fault_told running (HostRequest.Fetch key number files) error result is own
