-- The call that is due for the work on a job is the one for its folders.
use Rattle.std.proofs.Common.{◌≡◌, ◌∙◌, ℕ, false, List, [], ◌∷◌, Some, option_map, ap}
use Rattle.proc_host.specs.declared.call.HostRequest.{HostRequest}
use Rattle.run_rules.specs.declared.request.Request.{Request}
use Rattle.run_rules.specs.Allowed.{due_in}
use Rattle.run_rules.specs.Events.{Event, Work, nothing_due, input_heads_due, start_due, scan_due, output_heads_due, number_at, put_due, store_due, discard_due, drop_due, touch_due, is_fetched}
use Rattle.run_rules.specs.Folders.{left_folder}
use Rattle.run_rules.specs.Scene.{Scene}
use Rattle.staging.specs.Groups.{path_in}
use Rattle.collected_outputs.specs.HeadsWanted.{limit_of}
use Rattle.job_graph.specs.Words.{JobPlace}
use Rattle.run_core.specs.inner.Due.{call_for}

-- the place of the job that work is on; the root's where there is none
abbrev pub place_of : Work → JobPlace
place_of nothing_due = []
place_of (input_heads_due place staged todo read) = place
place_of (start_due place inputs launch) = place
place_of (scan_due place millis) = place
place_of (output_heads_due place millis found todo read) = place
place_of (put_due place row) = place
place_of (drop_due place its_key) = place
place_of (touch_due place its_key) = place
place_of (discard_due place its_key more) = place
place_of (store_due place row) = place

module _ (s : Scene) (es : List Event) where
  by_call : (work : Work) (call : HostRequest) → is_fetched es (place_of work) ≡ false → call_for s.options (number_at es (place_of work)) work ≡ Some call → due_in s es work ≡ Some (Request.Host (place_of work) call)
  by_call nothing_due call unfetched is = absurd cc
  by_call (input_heads_due place staged [] read) call unfetched is = absurd cc
  by_call (input_heads_due place staged (path ∷ todo) read) call unfetched is = ap (option_map (λ (c : HostRequest). Request.Host place c)) is
  by_call (start_due place inputs launch) call unfetched is = ap (option_map (λ (c : HostRequest). Request.Host place c)) is
  by_call (scan_due place millis) call unfetched is =
      ap (λ b. Some (Request.Host place (HostRequest.Scan (left_folder s.options.work b (number_at es place))))) unfetched ∙ ap (option_map (λ (c : HostRequest). Request.Host place c)) is
  by_call (output_heads_due place millis found [] read) call unfetched is = absurd cc
  by_call (output_heads_due place millis found (name ∷ todo) read) call unfetched is =
      ap (λ b. Some (Request.Host place (HostRequest.Head (path_in (left_folder s.options.work b (number_at es place)) name) (limit_of name)))) unfetched ∙ ap (option_map (λ (c : HostRequest). Request.Host place c)) is
  by_call (put_due place row) call unfetched is = absurd cc
  by_call (drop_due place its_key) call unfetched is = absurd cc
  by_call (touch_due place its_key) call unfetched is = absurd cc
  by_call (discard_due place its_key more) call unfetched is = absurd cc
  by_call (store_due place row) call unfetched is = absurd cc

  -- the call of the folders that the job was staged in last is due
  pub due_of : (work : Work) (folder : ℕ) (call : HostRequest) → number_at es (place_of work) ≡ folder → is_fetched es (place_of work) ≡ false → call_for s.options folder work ≡ Some call →
      due_in s es work ≡ Some (Request.Host (place_of work) call)
  due_of work folder call at unfetched is = by_call work call unfetched (ap (λ (n : ℕ). call_for s.options n work) at ∙ is)
