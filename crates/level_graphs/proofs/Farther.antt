-- After a blocking flow the sink is farther: an arc that is open now was open before, or leads a level down.
use Rattle.std.proofs.Common.{◌≡◌, ◌≢◌, ◌⊎◌, ℕ, zero, suc, ◌+◌, ◌-◌, ◌<◌, ◌≤◌, List, length, get_or, sym, refl, ap, ◌∙◌, inl, inr, ⊎_elim, arith}
use Rattle.std.proofs.lemmas.Bool.{cases_eq, cases_lt}
use Rattle.level_graphs.specs.declared.network.Arc.{Arc}
use Rattle.level_graphs.specs.Arcs.{tail_of, head_of, room_at, reverse_of, Leads, Reaches}
use Rattle.level_graphs.specs.Levels.{IsLevelGraph}
use Rattle.level_graphs.specs.Blocked.{IsNext, Rises, IsBlocked, AreSentDown}
use Rattle.level_graphs.specs.Flow.{IsCut}

-- an open arc leads at most a level up
closed_at : (arcs : List Arc) (levels : List ℕ) (source sink u v : ℕ) → IsLevelGraph arcs source sink levels → 1 ≤ get_or levels u 0 → get_or levels u 0 < get_or levels sink 0 → Leads arcs u v → (1 ≤ get_or levels v 0) × (get_or levels v 0 ≤ get_or levels u 0 + 1)
closed_at arcs levels source sink u v graph some below leads =
    let k = get_or levels u 0 - 1 in
    let near = graph.nearest u k (omega arith) in
    let there : Reaches arcs source (suc k) v = (u, near.reached, leads) in
    ⊎_elim
    (λ (e : get_or levels v 0 ≡ 0).
    let past = graph.beyond v (suc k) e there in
    let most = past.1 in
    absurd (omega arith))
    (λ (ne : get_or levels v 0 ≢ 0).
    let last = graph.nearest v (get_or levels v 0 - 1) (omega arith) in
    let least = last.least (suc k) there in
    (omega arith, omega arith))
    (cases_eq (get_or levels v 0) 0)

-- where few arcs lead to a node now, its level is below their count, or each of them rises
abbrev IsNear : List Arc → List ℕ → ℕ → ℕ → ℕ → Type 0
IsNear after levels source k v = (1 ≤ get_or levels v 0) × ((get_or levels v 0 ≤ k) ⊎ ((get_or levels v 0 ≡ k + 1) × Rises after levels source k v))

near_next : (before after : List Arc) (levels : List ℕ) (source sink k u v : ℕ) → IsLevelGraph before source sink levels → AreSentDown before after levels → suc k < get_or levels sink 0 → IsNear after levels source k u → Leads after u v → IsNear after levels source (suc k) v
near_next before after levels source sink k u v graph sent below near leads =
    let a = leads.arc in
    let ends = sent.ends in
    let inside = leads.inside in
    let count = ends.count in
    let some = near.0 in
    let tail : tail_of before a ≡ u = sym (ends.head (reverse_of a)) ∙ leads.tail in
    let head : head_of before a ≡ v = sym (ends.head a) ∙ leads.head in
    let room = leads.some in
    let at_tail = ap (λ x. get_or levels x 0) tail in
    let at_head = ap (λ x. get_or levels x 0) head in
    ⊎_elim
    (λ (shut : room_at before a ≡ 0).
    let back = sent.more a (omega arith) in
    let up = back.up in
    let first = back.some in
    let low : get_or levels u 0 ≤ k + 1 = ⊎_elim (λ (le : get_or levels u 0 ≤ k). omega arith) (λ (r : (get_or levels u 0 ≡ k + 1) × Rises after levels source k u). let is = r.0 in omega arith) near.1 in
    (omega arith, inl (omega arith)))
    (λ (ne : room_at before a ≢ 0).
    let was : Leads before u v = record { arc = a; inside = omega arith; tail = tail; head = head; some = omega arith } in
    let low : get_or levels u 0 ≤ k + 1 = ⊎_elim (λ (le : get_or levels u 0 ≤ k). omega arith) (λ (r : (get_or levels u 0 ≡ k + 1) × Rises after levels source k u). let is = r.0 in omega arith) near.1 in
    let step = closed_at before levels source sink u v graph some (omega arith) was in
    let here = step.0 in
    let most = step.1 in
    ⊎_elim (λ (le : get_or levels u 0 ≤ k). (here, inl (omega arith)))
    (λ (r : (get_or levels u 0 ≡ k + 1) × Rises after levels source k u).
    let is = r.0 in
    ⊎_elim (λ (lt : get_or levels v 0 < k + 2). (here, inl (omega arith)))
    (λ (ge : k + 2 ≤ get_or levels v 0).
    let next : IsNext levels u v = record { some = some; up = omega arith } in
    let rises : Rises after levels source (suc k) v = (u, r.1, leads, next) in
    (here, inr (omega arith, rises)))
    (cases_lt (get_or levels v 0) (k + 2)))
    near.1)
    (cases_eq (room_at before a) 0)

near_after : (before after : List Arc) (levels : List ℕ) (source sink : ℕ) → IsLevelGraph before source sink levels → get_or levels source 0 ≡ 1 → AreSentDown before after levels → (k v : ℕ) → k < get_or levels sink 0 → Reaches after source k v → IsNear after levels source k v
near_after before after levels source sink graph first sent zero v below r =
    let is : get_or levels v 0 ≡ get_or levels source 0 = ap (λ x. get_or levels x 0) r in
    let rises : Rises after levels source zero v = r in
    (omega arith, inr (omega arith, rises))
near_after before after levels source sink graph first sent (suc k) v below r =
    near_next before after levels source sink k r.0 v graph sent below (near_after before after levels source sink graph first sent k r.0 (omega arith) r.1) r.2

-- a source has the first level
pub first_level : (arcs : List Arc) (levels : List ℕ) (source sink : ℕ) → IsLevelGraph arcs source sink levels → get_or levels source 0 ≡ 1
first_level arcs levels source sink graph =
    let here : Reaches arcs source zero source = refl in
    ⊎_elim
    (λ (e : get_or levels source 0 ≡ 0).
    let past = graph.beyond source zero e here in
    let some = past.0 in
    let most = past.1 in
    absurd (omega arith))
    (λ (ne : get_or levels source 0 ≢ 0).
    let near = graph.nearest source (get_or levels source 0 - 1) (omega arith) in
    let least = near.least zero here in
    omega arith)
    (cases_eq (get_or levels source 0) 0)

pub farther : (before after : List Arc) (levels : List ℕ) (source sink : ℕ) → IsLevelGraph before source sink levels → AreSentDown before after levels → IsBlocked after levels source sink → (k : ℕ) → Reaches after source k sink → get_or levels sink 0 ≤ k
farther before after levels source sink graph sent blocked k r =
    ⊎_elim
    (λ (lt : k < get_or levels sink 0).
    let near = near_after before after levels source sink graph (first_level before levels source sink graph) sent k sink lt r in
    ⊎_elim (λ (le : get_or levels sink 0 ≤ k). le)
    (λ (up : (get_or levels sink 0 ≡ k + 1) × Rises after levels source k sink). absurd (blocked k up.1))
    near.1)
    (λ ge. ge)
    (cases_lt k (get_or levels sink 0))

-- a source and a sink that no arc joins are two arcs apart
pub far_at_first : (arcs : List Arc) (source sink : ℕ) → source ≢ sink → ((a : ℕ) → a < length arcs → tail_of arcs a ≡ source → head_of arcs a ≢ sink) → (k : ℕ) → Reaches arcs source k sink → 2 ≤ k
far_at_first arcs source sink other apart zero r = absurd (other (sym r))
far_at_first arcs source sink other apart (suc zero) r =
    let leads = r.2 in
    absurd (apart leads.arc leads.inside (leads.tail ∙ r.1) leads.head)
far_at_first arcs source sink other apart (suc (suc k)) r = omega arith

-- no arcs lead to a sink without a level
pub cut_off : (arcs : List Arc) (levels : List ℕ) (source sink : ℕ) → IsLevelGraph arcs source sink levels → get_or levels sink 0 ≡ 0 → IsCut arcs source sink
cut_off arcs levels source sink graph none k r =
    let past = graph.beyond sink k none r in
    let some = past.0 in
    absurd (omega arith)
