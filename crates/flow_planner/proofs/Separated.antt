-- A level graph of the network of a graph that doesn't reach the sink shows the Least plan.
use Rattle.std.proofs.Common.{◌≡◌, ◌≢◌, ℕ, zero, suc, ◌+◌, ◌-◌, ◌*◌, ◌%◌, ◌<◌, ◌≤◌, List, Bool, true, false, cond, length, get_or, sym, refl, ap, ◌∙◌, subst, ⊎_elim, arith, Option, None, Some, unwrap_or}
use Rattle.std.specs.Prelude.{IsSomeAnd}
use Rattle.std.proofs.lemmas.Bool.{cases_eq, cases_lt}
use Rattle.plan_checker.specs.declared.vertex.Vertex.{Vertex}
use Rattle.plan_checker.specs.declared.plan.Mark.{Mark}
use Rattle.plan_checker.specs.declared.plan.Mark.TheVariants.{Load, Compute, Prune}
use Rattle.plan_checker.specs.declared.charges.Charges.{Charges}
use Rattle.plan_checker.specs.Graph.{vertex, IsGraph}
use Rattle.plan_checker.specs.Plan.{mark, cost, IsAllowed, IsValid}
use Rattle.plan_checker.specs.Charges.{value, AreFair}
use Rattle.plan_checker.specs.Certificate.{IsCertificate}
use Rattle.plan_checker.specs.Least.{IsCheapest, IsLeast}
use Rattle.plan_checker.proofs.Duality.{parent_at, amount_at, IsTight, tight_everywhere, none_to_kept, certificate_is_cheapest}
use Rattle.level_graphs.specs.declared.network.Arc.{Arc}
use Rattle.level_graphs.specs.Arcs.{tail_of, head_of, room_at, Leads, Reaches}
use Rattle.level_graphs.specs.Levels.{IsLevelGraph}
use Rattle.level_graphs.specs.Flow.{IsFlow, IsCut}
use Rattle.flow_planner.specs.declared.network.TheConstants.{NO_BOUND}
use Rattle.flow_planner.specs.Network.{first_arc, Carries, CarriesJobs, Separates}
use Rattle.flow_planner.proofs.Arcs.{HoldsOfJob, tail_is, back_is, each_arc}
use Rattle.flow_planner.specs.inner.Network.{AreFlowing, AreShown}
use Rattle.flow_planner.proofs.Conserved.{AreReadOff, carries_all, fair_after}
use Rattle.flow_planner.proofs.Bounds.{flowing_from, out_small, pass-le}
use Rattle.flow_planner.proofs.Certify.{IsSettled, IsFinal, certificate_from, kept_from_mark, shown_computed, some_is}

-- what has a level is what open arcs lead to
record IsClosed (arcs : List Arc) (source : ℕ) (levels : List ℕ) : Type 0 where
  source_has : 0 < get_or levels source 0
  closed : (u v : ℕ) → 0 < get_or levels u 0 → Leads arcs u v → 0 < get_or levels v 0
  reached : (v : ℕ) → 0 < get_or levels v 0 → Reaches arcs source (get_or levels v 0 - 1) v

has_level : (arcs : List Arc) (source sink : ℕ) (levels : List ℕ) → IsLevelGraph arcs source sink levels → get_or levels sink 0 ≡ 0 → (v k : ℕ) → Reaches arcs source k v → 0 < get_or levels v 0
has_level arcs source sink levels graph apart v k reaches =
    ⊎_elim
    (λ (none : get_or levels v 0 ≡ 0). let past = (graph.beyond v k none reaches).0 in absurd (omega arith))
    (λ some. omega arith)
    (cases_eq (get_or levels v 0) 0)

is_closed : (arcs : List Arc) (source sink : ℕ) (levels : List ℕ) → IsLevelGraph arcs source sink levels → get_or levels sink 0 ≡ 0 → IsClosed arcs source levels
is_closed arcs source sink levels graph apart = record {
  source_has = has_level arcs source sink levels graph apart source 0 refl;
  closed = λ u v some leads.
      let near = graph.nearest u (get_or levels u 0 - 1) (omega arith) in
      has_level arcs source sink levels graph apart v (suc (get_or levels u 0 - 1)) (u, near.reached, leads);
  reached = λ v some. (graph.nearest v (get_or levels v 0 - 1) (omega arith)).reached;
}

-- an arc with room, and the reverse of an arc along which something flows
goes_along : (arcs : List Arc) (a from to capacity amount : ℕ) → a % 2 ≡ 0 → Carries arcs a from to capacity amount → amount < capacity → Leads arcs from to
goes_along arcs a from to capacity amount even carries room =
    let inside = carries.inside in
    let both = carries.room in
    record { arc = a; inside = omega arith; tail = tail_is arcs a from to capacity amount even carries; head = carries.head; some = omega arith }

goes_back : (arcs : List Arc) (a from to capacity amount : ℕ) → a % 2 ≡ 0 → Carries arcs a from to capacity amount → 0 < amount → Leads arcs to from
goes_back arcs a from to capacity amount even carries some =
    let flow = carries.flow in
    record { arc = a + 1; inside = carries.inside; tail = back_is arcs a from to capacity amount even carries; head = carries.back; some = omega arith }

needed_bound : (needed : Bool) → needed ≡ true → cond needed NO_BOUND 0 ≡ NO_BOUND
needed_bound true e = refl
needed_bound false e = cc

bound_needed : (needed : Bool) → 0 < cond needed NO_BOUND 0 → needed ≡ true
bound_needed true h = refl
bound_needed false h = absurd (omega arith)

-- what goes through is all that a load cost lets through
full : (load : Option ℕ) (through : ℕ) → through < NO_BOUND → unwrap_or load NO_BOUND ≤ through → IsSomeAnd load (λ most. most ≤ through)
full None through small le = absurd (omega arith)
full (Some x) through small le = le

module _ (graph : List Vertex) (charges : Charges) (marks : List Mark) (good : IsGraph graph) (fair : AreFair graph charges) (parts : Separates graph charges marks) where
  abbrev levels_of : ℕ → ℕ
  levels_of v = get_or parts.levels v 0

  abbrev seconds_of : ℕ → ℕ
  seconds_of v = get_or parts.levels (length graph + v) 0

  closed_by : IsClosed parts.arcs (2 * length graph) parts.levels
  closed_by = is_closed parts.arcs (2 * length graph) (2 * length graph + 1) parts.levels parts.level_graph parts.apart

  settled : (v : ℕ) → v < length graph → IsSettled graph charges levels_of seconds_of v
  settled v h =
      let n = length graph in
      let s = first_arc graph v in
      let arcs = parts.arcs in
      let job = parts.carries.each v h in
      let by = closed_by in
      let flowing = flowing_from graph charges fair in
      let small = out_small graph charges good flowing v h in
      let f = fair.fair v h in
      let out = f.going_out in
      let come = f.coming_in in
      let apart = parts.apart in
      record {
        enters = λ needed.
            let most = needed_bound (vertex graph v).needed needed in
            by.closed (2 * n) v by.source_has (goes_along arcs s _ _ _ _ (omega arith) job.enter (omega arith));
        passes_back = λ k hk first some.
            by.closed (parent_at graph v k) (n + v) first (goes_back arcs (s + 6 + 2 * k) _ _ _ _ (omega arith) (job.pass k hk) some);
        goes_through = λ first none.
            full (vertex graph v).load (get_or charges.through v 0) (omega arith)
            (⊎_elim
            (λ (lt : get_or charges.through v 0 < unwrap_or (vertex graph v).load NO_BOUND).
            let there = by.closed v (n + v) first (goes_along arcs (s + 2) _ _ _ _ (omega arith) job.through lt) in
            absurd (omega arith))
            (λ le. le)
            (cases_lt (get_or charges.through v 0) (unwrap_or (vertex graph v).load NO_BOUND)));
        goes_back = λ second some. by.closed (n + v) v second (goes_back arcs (s + 2) _ _ _ _ (omega arith) job.through some);
        passes = λ k hk second.
            by.closed (n + v) (parent_at graph v k) second
            (goes_along arcs (s + 6 + 2 * k) _ _ _ _ (omega arith) (job.pass k hk) (pass-le graph charges good flowing v k h hk));
        pays = λ second.
            ⊎_elim
            (λ (lt : get_or charges.pay v 0 < (vertex graph v).compute).
            let there = by.closed (n + v) (2 * n + 1) second (goes_along arcs (s + 4) _ _ _ _ (omega arith) job.pay lt) in
            absurd (omega arith))
            (λ le. le)
            (cases_lt (get_or charges.pay v 0) (vertex graph v).compute);
      }

  is_final : IsFinal graph charges levels_of seconds_of marks
  is_final = record { good = good; fair = fair; settled = settled; count = parts.count; are = parts.shows }

  pub separated_certificate : IsCertificate graph marks charges
  separated_certificate = certificate_from graph charges levels_of seconds_of marks is_final

-- a cheapest plan beside fair charges of its cost
record IsOther (graph : List Vertex) (charges : Charges) (other : List Mark) : Type 0 where
  good : IsGraph graph
  fair : AreFair graph charges
  valid : IsValid graph other
  most : cost graph other ≤ value charges

-- node w is in a plan: the source is, and so are the first nodes of what is kept, and the second ones of what is computed
record IsIn (graph : List Vertex) (other : List Mark) (w : ℕ) : Type 0 where
  keeps : w < length graph → mark other w ≢ Prune
  computes : (v : ℕ) → v < length graph → w ≡ length graph + v → mark other v ≡ Compute
  not_sink : w ≢ 2 * length graph + 1

-- an open arc leads from what is in the plan to what is in it
abbrev StaysIn : List Vertex → List Mark → List Arc → ℕ → Type 0
StaysIn graph other arcs a = 0 < room_at arcs a → IsIn graph other (tail_of arcs a) → IsIn graph other (head_of arcs a)

stays : (graph : List Vertex) (other : List Mark) (arcs : List Arc) (a from to : ℕ) → tail_of arcs a ≡ from → head_of arcs a ≡ to → (0 < room_at arcs a → IsIn graph other from → IsIn graph other to) → StaysIn graph other arcs a
stays graph other arcs a from to tail head step = λ room inside. subst (IsIn graph other) (sym head) (step room (subst (IsIn graph other) tail inside))

first_in : (graph : List Vertex) (other : List Mark) (v : ℕ) → v < length graph → mark other v ≢ Prune → IsIn graph other v
first_in graph other v h kept = record {
  keeps = λ lt. kept;
  computes = λ u hu e. absurd (omega arith);
  not_sink = λ e. absurd (omega arith);
}

second_in : (graph : List Vertex) (other : List Mark) (v : ℕ) → v < length graph → mark other v ≡ Compute → IsIn graph other (length graph + v)
second_in graph other v h computed = record {
  keeps = λ lt. absurd (omega arith);
  computes = λ u hu e. let same : v ≡ u = omega arith in subst (λ x. mark other x ≡ Compute) same computed;
  not_sink = λ e. absurd (omega arith);
}

source_in : (graph : List Vertex) (other : List Mark) → IsIn graph other (2 * length graph)
source_in graph other = record {
  keeps = λ lt. absurd (omega arith);
  computes = λ u hu e. absurd (omega arith);
  not_sink = λ e. absurd (omega arith);
}

-- a vertex through which more could go, and which isn't pruned, is computed
more_through : (graph : List Vertex) (charges : Charges) (other : List Mark) → IsOther graph charges other → (v room : ℕ) → v < length graph → (m : Mark) → mark other v ≡ m → m ≢ Prune → 0 < room → room + get_or charges.through v 0 ≡ unwrap_or (vertex graph v).load NO_BOUND → m ≡ Compute
more_through graph charges other facts v room h Compute is kept some sum = refl
more_through graph charges other facts v room h Prune is kept some sum = absurd (kept refl)
more_through graph charges other facts v room h Load is kept some sum =
    let P : Mark → Type 0 = IsAllowed other (vertex graph v) in
    let T : Mark → Type 0 = λ m. IsTight m graph other charges v in
    let can_load = subst P is (facts.valid.allowed v h) in
    let tight = subst T is (tight_everywhere graph charges other facts.good facts.fair facts.valid facts.most v h) in
    let equal = tight.0 in
    let cap = ap (λ o. unwrap_or o NO_BOUND) (some_is (vertex graph v).load can_load) in
    absurd (omega arith)

-- a vertex that passes something to a parent that isn't pruned is computed
passes_to_kept : (graph : List Vertex) (charges : Charges) (other : List Mark) → IsOther graph charges other → (v k : ℕ) → v < length graph → k < length (vertex graph v).parents → (m : Mark) → mark other v ≡ m → mark other (parent_at graph v k) ≢ Prune → 0 < amount_at charges v k → m ≡ Compute
passes_to_kept graph charges other facts v k h hk Compute is kept some = refl
passes_to_kept graph charges other facts v k h hk Load is kept some =
    let T : Mark → Type 0 = λ m. IsTight m graph other charges v in
    let tight = subst T is (tight_everywhere graph charges other facts.good facts.fair facts.valid facts.most v h) in
    let none = none_to_kept graph other charges v k tight.1 hk kept in
    absurd (omega arith)
passes_to_kept graph charges other facts v k h hk Prune is kept some =
    let T : Mark → Type 0 = λ m. IsTight m graph other charges v in
    let tight = subst T is (tight_everywhere graph charges other facts.good facts.fair facts.valid facts.most v h) in
    let none = none_to_kept graph other charges v k tight hk kept in
    absurd (omega arith)

module _ (graph : List Vertex) (charges : Charges) (other : List Mark) (facts : IsOther graph charges other) (arcs : List Arc) (all : CarriesJobs graph charges arcs (length graph)) where
  needed_kept : (v : ℕ) → v < length graph → (vertex graph v).needed ≡ true → mark other v ≢ Prune
  needed_kept v h needed e =
      let P : Mark → Type 0 = IsAllowed other (vertex graph v) in
      let needless = subst P e (facts.valid.allowed v h) in
      cc

  parent_kept : (v k : ℕ) → v < length graph → k < length (vertex graph v).parents → mark other v ≡ Compute → mark other (parent_at graph v k) ≢ Prune
  parent_kept v k h hk computed =
      let P : Mark → Type 0 = IsAllowed other (vertex graph v) in
      let parents = subst P computed (facts.valid.allowed v h) in
      parents k 0 hk

  no_pay : (v room : ℕ) → v < length graph → mark other v ≡ Compute → 0 < room → room + get_or charges.pay v 0 ≡ (vertex graph v).compute → ⊥
  no_pay v room h computed some sum =
      let T : Mark → Type 0 = λ m. IsTight m graph other charges v in
      let tight = subst T computed (tight_everywhere graph charges other facts.good facts.fair facts.valid facts.most v h) in
      absurd (omega arith)

  job_stays : (v : ℕ) → v < length graph → HoldsOfJob (StaysIn graph other arcs) (first_arc graph v) (length (vertex graph v).parents)
  job_stays v h =
      let n = length graph in
      let s = first_arc graph v in
      let job = all.each v h in
      let second : IsIn graph other (n + v) → mark other v ≡ Compute = λ inside. inside.computes v h refl in
      record {
        enter = (
          stays graph other arcs s (2 * n) v (tail_is arcs s _ _ _ _ (omega arith) job.enter) job.enter.head
              (λ room inside.
              let sum = job.enter.room in
              first_in graph other v h (needed_kept v h (bound_needed (vertex graph v).needed (omega arith)))),
          stays graph other arcs (s + 1) v (2 * n) (back_is arcs s _ _ _ _ (omega arith) job.enter) job.enter.back
              (λ room inside. source_in graph other),
        );
        through = (
          stays graph other arcs (s + 2) v (n + v) (tail_is arcs (s + 2) _ _ _ _ (omega arith) job.through) job.through.head
              (λ room inside. second_in graph other v h (more_through graph charges other facts v _ h (mark other v) refl (inside.keeps h) room job.through.room)),
          stays graph other arcs (s + 2 + 1) (n + v) v (back_is arcs (s + 2) _ _ _ _ (omega arith) job.through) job.through.back
              (λ room inside. let computed = second inside in first_in graph other v h (λ e. cc)),
        );
        pay = (
          stays graph other arcs (s + 4) (n + v) (2 * n + 1) (tail_is arcs (s + 4) _ _ _ _ (omega arith) job.pay) job.pay.head
              (λ room inside. absurd (no_pay v _ h (second inside) room job.pay.room)),
          stays graph other arcs (s + 4 + 1) (2 * n + 1) (n + v) (back_is arcs (s + 4) _ _ _ _ (omega arith) job.pay) job.pay.back
              (λ room inside. absurd (inside.not_sink refl)),
        );
        pass = λ k hk.
            let below = (facts.good v h).below k 0 hk in
            let parent : parent_at graph v k < n = omega arith in (
              stays graph other arcs (s + 6 + 2 * k) (n + v) (parent_at graph v k) (tail_is arcs (s + 6 + 2 * k) _ _ _ _ (omega arith) (job.pass k hk)) (job.pass k hk).head
                  (λ room inside. first_in graph other (parent_at graph v k) parent (parent_kept v k h hk (second inside))),
              stays graph other arcs (s + 6 + 2 * k + 1) (parent_at graph v k) (n + v) (back_is arcs (s + 6 + 2 * k) _ _ _ _ (omega arith) (job.pass k hk)) (job.pass k hk).back
                  (λ room inside.
                  let flow = (job.pass k hk).flow in
                  second_in graph other v h (passes_to_kept graph charges other facts v k h hk (mark other v) refl (inside.keeps parent) (omega arith))),
            );
      }

  -- what open arcs lead to is in every cheapest plan
  reached_in : (k v : ℕ) → Reaches arcs (2 * length graph) k v → IsIn graph other v
  reached_in zero v is = subst (IsIn graph other) (sym is) (source_in graph other)
  reached_in (suc k) v (before, reaches, leads) =
      let count = all.count in
      let inside = leads.inside in
      let was = subst (IsIn graph other) (sym leads.tail) (reached_in k before reaches) in
      subst (IsIn graph other) leads.head (each_arc (StaysIn graph other arcs) graph (length graph) job_stays leads.arc (omega arith) leads.some was)

-- what a level graph that doesn't reach the sink shows is the Least plan
pub separated_least : (graph : List Vertex) (charges : Charges) (marks : List Mark) → IsGraph graph → AreFair graph charges → Separates graph charges marks → IsLeast graph marks
separated_least graph charges marks good fair parts =
    let certificate = separated_certificate graph charges marks good fair parts in
    let cheapest = certificate_is_cheapest graph marks charges good certificate in
    let final = is_final graph charges marks good fair parts in
    let by = closed_by graph charges marks good fair parts in
    let n = length graph in
    let inside = λ (other : List Mark) (best : IsCheapest graph other) (w : ℕ) (has : 0 < get_or parts.levels w 0).
    (let most = best.cheapest marks cheapest.valid in
    let equal = certificate.balanced in
    let facts : IsOther graph charges other = record { good = good; fair = fair; valid = best.valid; most = omega arith } in
    reached_in graph charges other facts parts.arcs parts.carries (get_or parts.levels w 0 - 1) w (by.reached w has)) in
    record {
      cheapest = cheapest;
      least = λ other best. record {
        computes = λ v h is.
            let second = shown_computed (get_or parts.levels v 0) (get_or parts.levels (n + v) 0) (sym (parts.shows v h) ∙ is) in
            (inside other best (n + v) second).computes v h refl;
        keeps = λ v h ne.
            let first = kept_from_mark graph charges (λ x. get_or parts.levels x 0) (λ x. get_or parts.levels (n + x) 0) marks final v h ne in
            (inside other best v first).keeps h;
      };
    }

-- a sink that is cut off has no level
pub sink_apart : (arcs : List Arc) (source sink : ℕ) (levels : List ℕ) → IsLevelGraph arcs source sink levels → IsCut arcs source sink → get_or levels sink 0 ≡ 0
sink_apart arcs source sink levels graph cut =
    ⊎_elim
    (λ none. none)
    (λ some. absurd (cut (get_or levels sink 0 - 1) (graph.nearest sink (get_or levels sink 0 - 1) (omega arith)).reached))
    (cases_eq (get_or levels sink 0) 0)

-- a network in which all was sent, the level graph that is left, and what is read off both
pub record IsSent (graph : List Vertex) (start charges : Charges) (marks : List Mark) (before after : List Arc) (levels : List ℕ) (source sink : ℕ) : Type 0 where
  pub source_is : source ≡ 2 * length graph
  pub sink_is : sink ≡ 2 * length graph + 1
  pub began : CarriesJobs graph start before (length graph)
  pub flow : IsFlow before after source sink
  pub cut : IsCut after source sink
  pub level_graph : IsLevelGraph after source sink levels
  pub read : AreReadOff graph after charges
  pub marks_are : AreShown (length graph) levels marks (length graph)

pub sent_separates : (graph : List Vertex) (start charges : Charges) (marks : List Mark) (before after : List Arc) (levels : List ℕ) (source sink : ℕ) → IsSent graph start charges marks before after levels source sink → Separates graph charges marks
sent_separates graph start charges marks before after levels source sink all =
    let n = length graph in
    let L : ℕ → ℕ → Type 0 = λ s t. IsLevelGraph after s t levels in
    record {
      arcs = after;
      levels = levels;
      carries = carries_all graph start charges before after source sink all.flow all.began all.read;
      level_graph = subst (L (2 * n)) all.sink_is (subst (λ s. L s sink) all.source_is all.level_graph);
      apart = ap (λ t. get_or levels t 0) (sym all.sink_is) ∙ sink_apart after source sink levels all.level_graph all.cut;
      count = all.marks_are.count;
      shows = all.marks_are.each;
    }

pub sent_fair : (graph : List Vertex) (start charges : Charges) (marks : List Mark) (before after : List Arc) (levels : List ℕ) (source sink : ℕ) → IsGraph graph → AreFlowing graph start → IsSent graph start charges marks before after levels source sink → AreFair graph charges
sent_fair graph start charges marks before after levels source sink good flowing all =
    let n = length graph in
    let F : ℕ → ℕ → Type 0 = λ s t. IsFlow before after s t in
    fair_after graph start charges before after good flowing (subst (F (2 * n)) all.sink_is (subst (λ s. F s sink) all.source_is all.flow)) all.began all.read

-- what was planned for a graph, by its list of vertices
pub record IsPlanned (graph : List Vertex) (charges : Charges) (marks : List Mark) : Type 0 where
  pub least : IsLeast graph marks
  pub certified : IsCertificate graph marks charges
  pub separated : Separates graph charges marks

pub planned : (graph vertices : List Vertex) (charges : Charges) (marks : List Mark) → vertices ≡ graph → IsGraph graph → AreFair vertices charges → Separates vertices charges marks → IsPlanned graph charges marks
planned graph vertices charges marks same good fair parts =
    let fair_here = subst (λ g. AreFair g charges) same fair in
    let parts_here = subst (λ g. Separates g charges marks) same parts in
    record {
      least = separated_least graph charges marks good fair_here parts_here;
      certified = separated_certificate graph charges marks good fair_here parts_here;
      separated = parts_here;
    }
