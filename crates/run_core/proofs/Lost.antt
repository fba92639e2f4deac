-- What is waited for where memory ran out.
use Rattle.std.proofs.Common.{◌≡◌, ℕ, List, [], ◌∷◌, refl}
use Rattle.proc_host.specs.declared.call.HostRequest.{HostRequest}
use Rattle.run_core.specs.declared.state.Phase.{Phase}
use Rattle.run_core.specs.inner.Turn.{lost_with, waits}

pub lost_some : (tickets : List ℕ) → (tickets ≡ [] → ⊥) → lost_with tickets ≡ waits HostRequest.Collect Phase.Draining
lost_some [] some = absurd (some refl)
lost_some (ticket ∷ tickets) some = refl
