-- A network that grows by an arc and its reverse.
use Rattle.std.proofs.Common.{◌≡◌, ◌≢◌, ℕ, ◌+◌, ◌*◌, ◌-◌, ◌%◌, ◌^◌, ◌<◌, ◌≤◌, List, cond, unwrap_or, length, get_or, sym, ap, ◌∙◌, subst, ⊎_elim, arith}
use Rattle.std.specs.Prelude.{Result, Ok, Err, OnOk, vec_len}
use Rattle.std.proofs.lemmas.List.{get_or-set_other}
use Rattle.std.proofs.lemmas.Bool.{cases_eq}
use Rattle.plan_checker.specs.declared.vertex.Vertex.{Vertex}
use Rattle.plan_checker.specs.declared.charges.Charges.{Charges}
use Rattle.plan_checker.specs.Graph.{vertex}
use Rattle.plan_checker.specs.Charges.{passes}
use Rattle.level_graphs.specs.declared.network.Arc.{Arc}
use Rattle.level_graphs.specs.declared.network.Network.{Network}
use Rattle.level_graphs.specs.Arcs.{no_arc, reverse_of, room_at, with_room, pushed, HasArcs, IsNetwork}
use Rattle.level_graphs.proofs.Pushed.{ends_pushed, room_along, room_back}
use Rattle.flow_planner.specs.Network.{first_arc, Carries, CarriesJob, CarriesJobs}
use Rattle.flow_planner.specs.declared.network.TheConstants.{NO_BOUND}
use Rattle.flow_planner.specs.inner.Network.{IsLaid, HasPart, IsFlowNetwork}
use Rattle.flow_planner.proofs.Arcs.{first_arc_more}

-- an arc that was joined, and along which so much was sent
pub laid : (old mid new : List Arc) (from to capacity amount : ℕ) → length old % 2 ≡ 0 → HasArcs old mid from to capacity → amount ≤ capacity → capacity < 2 ^ 64 → new ≡ pushed mid (length old) amount → IsLaid old new from to capacity amount
laid old mid new from to capacity amount even joined fits small is =
    let n = length old in
    let count = joined.count in
    let inside : n < length mid = omega arith in
    let paired : length mid % 2 ≡ 0 = omega arith in
    let ends = ends_pushed mid n amount paired inside in
    let e : reverse_of n ≡ n + 1 = omega arith in
    let along = room_along mid n amount inside in
    let back = room_back mid n amount paired inside in
    let at_back = ap (room_at (pushed mid n amount)) e in
    let was_back = ap (room_at mid) e in
    let was = joined.forward.1 in
    let none = joined.back.1 in
    let size = ends.count in
    let made : IsLaid old (pushed mid n amount) from to capacity amount = record {
      count = omega arith;
      kept = λ a lt.
          let less = with_room mid n (room_at mid n - amount) in
          get_or-set_other less (reverse_of n) a _ no_arc (λ x. absurd (omega arith))
          ∙ get_or-set_other mid n a _ no_arc (λ x. absurd (omega arith)) ∙ joined.kept a lt;
      carries = record {
        inside = omega arith;
        head = ends.head n ∙ joined.forward.0;
        back = ends.head (n + 1) ∙ joined.back.0;
        room = omega arith;
        flow = omega arith;
      };
    } in
    subst (λ xs. IsLaid old xs from to capacity amount) (sym is) made

-- what an arc carries stays
carries_on : (old new : List Arc) (from to capacity amount a from' to' capacity' amount' : ℕ) → IsLaid old new from to capacity amount → Carries old a from' to' capacity' amount' → Carries new a from' to' capacity' amount'
carries_on old new from to capacity amount a from' to' capacity' amount' more carries =
    let inside = carries.inside in
    let count = more.count in
    let one = more.kept a (omega arith) in
    let two = more.kept (a + 1) (omega arith) in
    let room = ap (λ (x : Arc). x.room) one in
    let was = carries.room in
    record {
      inside = omega arith;
      head = ap (λ (x : Arc). x.to) one ∙ carries.head;
      back = ap (λ (x : Arc). x.to) two ∙ carries.back;
      room = omega arith;
      flow = ap (λ (x : Arc). x.room) two ∙ carries.flow;
    }

job_on : (graph : List Vertex) (charges : Charges) (old new : List Arc) (from to capacity amount i parents : ℕ) → IsLaid old new from to capacity amount → CarriesJob graph charges old i parents → CarriesJob graph charges new i parents
job_on graph charges old new from to capacity amount i parents more job = record {
  enter = carries_on old new from to capacity amount _ _ _ _ _ more job.enter;
  through = carries_on old new from to capacity amount _ _ _ _ _ more job.through;
  pay = carries_on old new from to capacity amount _ _ _ _ _ more job.pay;
  pass = λ k h. carries_on old new from to capacity amount _ _ _ _ _ more (job.pass k h);
}

-- the arc that was laid stands in the place that was counted
laid_at : (old new : List Arc) (a from to capacity amount : ℕ) → IsLaid old new from to capacity amount → length old ≡ a → Carries new a from to capacity amount
laid_at old new a from to capacity amount more place = subst (λ k. Carries new k from to capacity amount) place more.carries

-- the same ends and amounts, by other names
pub laid_as : (old new : List Arc) (from to capacity amount from' to' capacity' amount' : ℕ) → IsLaid old new from to capacity amount → from ≡ from' → to ≡ to' → capacity ≡ capacity' → amount ≡ amount' → IsLaid old new from' to' capacity' amount'
laid_as old new from to capacity amount from' to' capacity' amount' more one two three four =
    subst (λ x. IsLaid old new from' to' capacity' x) four
    (subst (λ x. IsLaid old new from' to' x amount) three
    (subst (λ x. IsLaid old new from' x capacity amount) two (subst (λ x. IsLaid old new x to capacity amount) one more)))

-- the first three arcs of a job
pub job_begun : (graph : List Vertex) (charges : Charges) (job : ℕ) (a b c d : List Arc) → CarriesJobs graph charges a job → IsLaid a b (2 * length graph) job (cond (vertex graph job).needed NO_BOUND 0) (get_or charges.enter job 0) → IsLaid b c job (length graph + job) (unwrap_or (vertex graph job).load NO_BOUND) (get_or charges.through job 0) → IsLaid c d (length graph + job) (2 * length graph + 1) (vertex graph job).compute (get_or charges.pay job 0) → HasPart graph charges d job 0
job_begun graph charges job a b c d old one two three =
    let count = old.count in
    let first = one.count in
    let second = two.count in
    let third = three.count in
    record {
      count = omega arith;
      each = λ i h. job_on graph charges c d _ _ _ _ i _ three (job_on graph charges b c _ _ _ _ i _ two (job_on graph charges a b _ _ _ _ i _ one (old.each i h)));
      last = record {
        enter = carries_on c d _ _ _ _ _ _ _ _ _ three (carries_on b c _ _ _ _ _ _ _ _ _ two (laid_at a b (first_arc graph job) _ _ _ _ one count));
        through = carries_on c d _ _ _ _ _ _ _ _ _ three (laid_at b c (first_arc graph job + 2) _ _ _ _ two (omega arith));
        pay = laid_at c d (first_arc graph job + 4) _ _ _ _ three (omega arith);
        pass = λ k lt. absurd (omega arith);
      };
    }

-- one more parent
pub pass_laid : (graph : List Vertex) (charges : Charges) (job k : ℕ) (a b : List Arc) → HasPart graph charges a job k → IsLaid a b (length graph + job) (get_or (vertex graph job).parents k 0) NO_BOUND (get_or (passes charges job) k 0) → HasPart graph charges b job (k + 1)
pass_laid graph charges job k a b old more =
    let count = old.count in
    let size = more.count in
    record {
      count = omega arith;
      each = λ i h. job_on graph charges a b _ _ _ _ i _ more (old.each i h);
      last = record {
        enter = carries_on a b _ _ _ _ _ _ _ _ _ more old.last.enter;
        through = carries_on a b _ _ _ _ _ _ _ _ _ more old.last.through;
        pay = carries_on a b _ _ _ _ _ _ _ _ _ more old.last.pay;
        pass = λ j lt.
            ⊎_elim
            (λ (e : j ≡ k).
            let P : ℕ → Type 0 = λ x. Carries b (first_arc graph job + 6 + 2 * x) (length graph + job) (get_or (vertex graph job).parents x 0) NO_BOUND (get_or (passes charges job) x 0) in
            subst P (sym e) (laid_at a b (first_arc graph job + 6 + 2 * k) _ _ _ _ more count))
            (λ (ne : j ≢ k). carries_on a b _ _ _ _ _ _ _ _ _ more (old.last.pass j (omega arith)))
            (cases_eq j k);
      };
    }

-- a network that has more arcs has the same nodes
pub nodes_on : (jobs : ℕ) (before after : Network) → IsFlowNetwork jobs before → IsNetwork after → vec_len after.last ≡ vec_len before.last → after.source ≡ before.source → after.sink ≡ before.sink → IsFlowNetwork jobs after
nodes_on jobs before after was good nodes source sink =
    record { good = good; nodes = nodes ∙ was.nodes; source = source ∙ was.source; sink = sink ∙ was.sink }

pub ok_from_both : {T E P Q R : Type 0} (r : Result T E) → (P → Q → R) → OnOk r P → OnOk r Q → OnOk r R
ok_from_both (Ok x) join p q = join p q
ok_from_both (Err e) join p q = tt

-- a job with all its parents
pub job_done : (graph : List Vertex) (charges : Charges) (job k : ℕ) (arcs : List Arc) → HasPart graph charges arcs job k → k ≡ length (vertex graph job).parents → CarriesJobs graph charges arcs (job + 1)
job_done graph charges job k arcs old whole =
    let count = old.count in
    let more = first_arc_more graph job in
    record {
      count = omega arith;
      each = λ i lt.
          ⊎_elim
          (λ (e : i ≡ job).
          let P : ℕ → Type 0 = λ x. CarriesJob graph charges arcs x (length (vertex graph x).parents) in
          subst P (sym e) (subst (CarriesJob graph charges arcs job) whole old.last))
          (λ (ne : i ≢ job). old.each i (omega arith))
          (cases_eq i job);
    }
