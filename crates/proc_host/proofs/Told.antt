-- What the script says next is what the answer tells.
use Rattle.std.proofs.Common.{◌≡◌, ℕ, zero, suc, ◌+◌, ◌<◌, List, [], ◌∷◌, ◌++◌, cond, Option, Some, length, drop, slice_get, nat_le, refl, arith, true}
use Rattle.collected_outputs.specs.Listing.{are_paths}
use Rattle.command_line.specs.declared.launch.Launch.{Launch}
use Rattle.proc_host.specs.declared.call.HostAnswer.TheVariants as answers
use Rattle.proc_host.specs.declared.call.HostRequest.TheVariants as requests
use Rattle.proc_host.specs.declared.child.ChildEnd.{ChildEnd}
use Rattle.proc_host.specs.declared.reply.Reply.{Reply}
use Rattle.proc_host.specs.declared.reply.Reply.TheVariants as replies
use Rattle.std.proofs.lemmas.List.Sums.{sum_by-append}
use Rattle.proc_host.specs.declared.call.Entry.{Entry}
use Rattle.proc_host.specs.declared.call.HostRequest.{HostRequest}
use Rattle.proc_host.specs.Answers.{are_among}
use Rattle.proc_host.specs.Log.{is_start, starts}
use Rattle.proc_host.specs.Script.{ScriptState, answer_by, can_end}
use Rattle.staging.specs.declared.found.Found.{Found}
use Rattle.staging.specs.declared.measure.Measure.{Measure}

pub start_told : (state : ScriptState) (launch : Launch) (reply : Option Reply) → reply ≡ Some replies.Start →
    answers.Started (state.started + 1) ≡ answer_by state (requests.Start launch) reply
start_told state launch reply next = rw next refl

pub end_told : (state : ScriptState) (ending : ChildEnd) (reply : Option Reply) → reply ≡ Some (replies.Collect ending) → can_end state ending ≡ true →
    answers.Ended ending ≡ answer_by state requests.Collect reply
end_told state ending reply next can = rw (next, can) refl

pub scan_told : (state : ScriptState) (folder : List ℕ) (found : List Found) (reply : Option Reply) → reply ≡ Some (replies.Scan found) →
    are_paths found ≡ true → answers.Listed found ≡ answer_by state (requests.Scan folder) reply
scan_told state folder found reply next paths = rw (next, paths) refl

pub measure_told : (state : ScriptState) (path : List ℕ) (measure : Measure) (reply : Option Reply) → reply ≡ Some (replies.Measure measure) →
    answers.Measured measure ≡ answer_by state (requests.Measure path) reply
measure_told state path measure reply next = rw next refl

pub head_told : (state : ScriptState) (path : List ℕ) (limit : ℕ) (bytes : List ℕ) (reply : Option Reply) → reply ≡ Some (replies.Head bytes) →
    nat_le (length bytes) limit ≡ true → answers.FirstBytes bytes ≡ answer_by state (requests.Head path limit) reply
head_told state path limit bytes reply next within = rw (next, within) refl

pub fetch_told : (state : ScriptState) (key : List ℕ) (number : ℕ) (files found : List Found) (reply : Option Reply) → reply ≡ Some (replies.Fetch found) →
    are_among files found ≡ true → answers.Fetched found ≡ answer_by state (requests.Fetch key number files) reply
fetch_told state key number files found reply next among = rw (next, among) refl

-- where there is a next reply, the replies given are not all
pub next_within : (given : ℕ) (script : List Reply) (reply : Reply) → slice_get (drop given script) 0 ≡ Some reply → given < length script
next_within zero [] reply next = absurd (cc)
next_within zero (x ∷ xs) reply next = omega arith
next_within (suc given) [] reply next = absurd (cc)
next_within (suc given) (x ∷ xs) reply next = omega (arith, next_within given xs reply next)

pub starts_more : (log : List Entry) (request : HostRequest) (ticket : ℕ) →
    starts (log ++ record { request = request; answer = answers.Started ticket } ∷ []) ≡ starts log + 1
starts_more log request ticket = sum_by-append (λ (entry : Entry). cond (is_start entry.answer) 1 0) log (record { request = request; answer = answers.Started ticket } ∷ [])
