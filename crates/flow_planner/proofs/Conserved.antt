-- What flows after more was sent: the charges that are read off the arcs are fair.
use Rattle.std.proofs.Common.{◌≡◌, ℕ, ◌+◌, ◌*◌, ◌%◌, ◌≤◌, List, Bool, true, false, cond, length, sym, ap, ◌∙◌, arith, Option, None, Some, unwrap_or}
use Rattle.std.specs.Option.{ForSome}
use Rattle.plan_checker.specs.declared.vertex.Vertex.{Vertex}
use Rattle.plan_checker.specs.declared.charges.Charges.{Charges}
use Rattle.plan_checker.specs.Sums.{sum_below}
use Rattle.plan_checker.specs.Graph.{vertex, IsGraph}
use Rattle.plan_checker.specs.Charges.{passes, IsCounted, AreFair}
use Rattle.plan_checker.proofs.SumsBelow.{sum_below_same, sum_below-add, sum_is_below}
use Rattle.plan_checker.proofs.Duality.{amount_at}
use Rattle.level_graphs.specs.declared.network.Arc.{Arc}
use Rattle.level_graphs.specs.Arcs.{reverse_of, room_at}
use Rattle.level_graphs.specs.Flow.{IsFlow}
use Rattle.flow_planner.specs.declared.network.TheConstants.{NO_BOUND}
use Rattle.flow_planner.specs.Network.{first_arc, Carries, CarriesJob, CarriesJobs}
use Rattle.flow_planner.specs.inner.Network.{AreFlowing, AreFlows, AreRows}
use Rattle.flow_planner.proofs.Arcs.{out_of_first, out_of_second}

-- an arc after more was sent
carries_after : (before after : List Arc) (source sink a from to capacity was amount : ℕ) → a % 2 ≡ 0 → IsFlow before after source sink → Carries before a from to capacity was → amount ≡ room_at after (a + 1) → Carries after a from to capacity amount
carries_after before after source sink a from to capacity was amount even flow carries is =
    let e : reverse_of a ≡ a + 1 = omega arith in
    let pair = flow.pairs a in
    let one = ap (room_at before) e in
    let two = ap (room_at after) e in
    let count = flow.ends.count in
    let inside = carries.inside in
    let room = carries.room in
    let old = carries.flow in
    record {
      inside = omega arith;
      head = flow.ends.head a ∙ carries.head;
      back = flow.ends.head (a + 1) ∙ carries.back;
      room = omega arith;
      flow = sym is;
    }

-- charges that are what flows along the arcs of a graph
pub record AreReadOff (graph : List Vertex) (arcs : List Arc) (charges : Charges) : Type 0 where
  pub enter : AreFlows graph arcs 0 charges.enter (length graph)
  pub through : AreFlows graph arcs 2 charges.through (length graph)
  pub pay : AreFlows graph arcs 4 charges.pay (length graph)
  pub pass : AreRows graph arcs charges.pass (length graph)

pub carries_all : (graph : List Vertex) (start charges : Charges) (before after : List Arc) (source sink : ℕ) → IsFlow before after source sink → CarriesJobs graph start before (length graph) → AreReadOff graph after charges → CarriesJobs graph charges after (length graph)
carries_all graph start charges before after source sink flow old read = record {
  count = flow.ends.count ∙ old.count;
  each = λ i h.
      let s = first_arc graph i in
      let job = old.each i h in
      let zero_is : s + 0 + 1 ≡ s + 1 = omega arith in
      record {
        enter = carries_after before after source sink s _ _ _ _ _ (omega arith) flow job.enter (read.enter.each i h ∙ ap (room_at after) zero_is);
        through = carries_after before after source sink (s + 2) _ _ _ _ _ (omega arith) flow job.through (read.through.each i h);
        pay = carries_after before after source sink (s + 4) _ _ _ _ _ (omega arith) flow job.pay (read.pay.each i h);
        pass = λ k hk. carries_after before after source sink (s + 6 + 2 * k) _ _ _ _ _ (omega arith) flow (job.pass k hk) ((read.pass.each i h).each k hk);
      };
}

counted : (graph : List Vertex) (charges : Charges) (arcs : List Arc) → AreReadOff graph arcs charges → IsCounted graph charges
counted graph charges arcs read = record {
  enters = read.enter.count;
  throughs = read.through.count;
  pays = read.pay.count;
  passing = read.pass.count;
  each_pass = λ i h. (read.pass.each i h).count;
}

not_needed : (needed : Bool) (room amount : ℕ) → room + amount ≡ cond needed NO_BOUND 0 → needed ≡ false → amount ≡ 0
not_needed true room amount e is = cc
not_needed false room amount e is = omega arith

within_load : (load : Option ℕ) (room amount : ℕ) → room + amount ≡ unwrap_or load NO_BOUND → ForSome load (λ most. amount ≤ most)
within_load None room amount e most is = cc
within_load (Some x) room amount e most is = let same : x ≡ most = cc in omega arith

-- all that can be passed on, and all that is
rooms_and_passes : (graph : List Vertex) (charges : Charges) (arcs : List Arc) (i : ℕ) → CarriesJob graph charges arcs i (length (vertex graph i).parents) → sum_below (length (vertex graph i).parents) (λ k. room_at arcs (first_arc graph i + 6 + 2 * k)) + sum_below (length (vertex graph i).parents) (amount_at charges i) ≡ sum_below (length (vertex graph i).parents) (λ k. NO_BOUND)
rooms_and_passes graph charges arcs i job =
    let m = length (vertex graph i).parents in
    let rooms : ℕ → ℕ = λ k. room_at arcs (first_arc graph i + 6 + 2 * k) in
    sym (sum_below-add m rooms (amount_at charges i))
    ∙ sum_below_same m (λ k. rooms k + amount_at charges i k) (λ k. NO_BOUND) (λ k h. (job.pass k h).room)

-- charges that were read off are fair, if the flow began with such
pub fair_after : (graph : List Vertex) (start charges : Charges) (before after : List Arc) → IsGraph graph → AreFlowing graph start → IsFlow before after (2 * length graph) (2 * length graph + 1) → CarriesJobs graph start before (length graph) → AreReadOff graph after charges → AreFair graph charges
fair_after graph start charges before after good flowing flow old read =
    let n = length graph in
    let new = carries_all graph start charges before after (2 * n) (2 * n + 1) flow old read in
    record {
      counted = counted graph charges after read;
      fair = λ i h.
          let was = old.each i h in
          let now = new.each i h in
          let fair = (flowing i h).fair in
          let passed = (flowing i h).passed in
          let first_before = out_of_first graph start before i h old in
          let first_after = out_of_first graph charges after i h new in
          let first_kept = flow.kept i (λ e. absurd (omega arith)) (λ e. absurd (omega arith)) in
          let second_before = out_of_second graph start before i good h old in
          let second_after = out_of_second graph charges after i good h new in
          let second_kept = flow.kept (n + i) (λ e. absurd (omega arith)) (λ e. absurd (omega arith)) in
          let rows_before = rooms_and_passes graph start before i was in
          let rows_after = rooms_and_passes graph charges after i now in
          let all = sum_is_below (passes charges i) ∙ ap (λ k. sum_below k (amount_at charges i)) (read.pass.each i h).count in
          let through_before = was.through.room in
          let through_after = now.through.room in
          let pay_before = was.pay.room in
          let pay_after = now.pay.room in
          let came = fair.coming_in in
          let went = fair.going_out in
          record {
            entering = not_needed (vertex graph i).needed _ _ now.enter.room;
            loading = within_load (vertex graph i).load _ _ now.through.room;
            paying = omega arith;
            coming_in = omega arith;
            going_out = omega arith;
          };
    }
