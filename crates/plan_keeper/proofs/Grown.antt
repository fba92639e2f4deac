-- A vertex that is added after others, where it stands apart from them.
use Rattle.std.proofs.Common.{◌≡◌, ℕ, ◌+◌, ◌-◌, ◌<◌, ◌^◌, None, Some, List, [], ◌∷◌, ◌++◌, length, get_or, map, sum, Contains, subst, sym, refl, ap, ◌∙◌, ⊎_elim, arith}
use Rattle.std.proofs.Math.ListN.{get_or-eq_default}
use Rattle.std.proofs.lemmas.Bool.{cases_lt}
use Rattle.std.proofs.lemmas.List.Sums.{fold_push}
use Rattle.std.proofs.lemmas.List.{length_push, map-append, get_or_append_left, get_or_push, get_or_default}
use Rattle.plan_checker.specs.declared.vertex.Vertex.{Vertex}
use Rattle.plan_checker.specs.declared.plan.Mark.{Mark}
use Rattle.plan_checker.specs.declared.plan.Mark.TheVariants.{Load, Compute, Prune}
use Rattle.plan_checker.specs.declared.plan.Plan.{Plan}
use Rattle.plan_checker.specs.declared.charges.Charges.{Charges}
use Rattle.plan_checker.specs.Graph.{vertex, no_vertex, IsGraph}
use Rattle.plan_checker.specs.Plan.{mark}
use Rattle.plan_checker.proofs.Settled.{value_is_small}
use Rattle.plan_checker.proofs.SumsBelow.{below_or_last}
use Rattle.plan_keeper.specs.declared.planned.Planned.{Planned}
use Rattle.plan_keeper.specs.Free.{IsFree}
use Rattle.plan_keeper.specs.Apart.{StandsApart, AreApart, alone, charge, no_passes, AreMarkedApart, AreChargesApart}
use Rattle.plan_keeper.specs.Kept.{IsKeptApart}
use Rattle.plan_keeper.specs.Loads.{LoadsFor}
use Rattle.plan_keeper.proofs.Alone.{apart_is_planned}
use Rattle.plan_keeper.proofs.Freed.{cost_is_charged}
use Rattle.plan_keeper.proofs.Marked.{IsLoadedBelow, marked_at, all_marked}

before : (graph : List Vertex) (job : Vertex) (i : ℕ) → i < length graph → vertex (graph ++ job ∷ []) i ≡ vertex graph i
before graph job i h = get_or_append_left graph (job ∷ []) no_vertex i h

free_stays : (graph : List Vertex) (job : Vertex) (p : ℕ) → IsFree (vertex graph p) → IsFree (vertex (graph ++ job ∷ []) p)
free_stays graph job p free =
    ⊎_elim
    (λ lt. subst IsFree (sym (before graph job p lt)) free)
    (λ ge. let none : IsFree no_vertex = subst IsFree (get_or-eq_default graph no_vertex ge) free in let P : None ≡ Some 0 = none in absurd (cc))
    (cases_lt p (length graph))

stands_still : (graph : List Vertex) (job one : Vertex) → StandsApart graph one → StandsApart (graph ++ job ∷ []) one
stands_still graph job one stands = record { free_parents = λ computed k d hk. free_stays graph job _ (stands.free_parents computed k d hk) }

grown_apart : (graph : List Vertex) (job : Vertex) → AreApart graph → StandsApart graph job → AreApart (graph ++ job ∷ [])
grown_apart graph job apart its i d hi =
    let count = length_push graph job in
    let P : Vertex → Type 0 = StandsApart (graph ++ job ∷ []) in
    subst P (get_or_default (graph ++ job ∷ []) i no_vertex d hi) (⊎_elim
    (λ lt. subst P (sym (before graph job i lt)) (stands_still graph job (vertex graph i) (apart i no_vertex lt)))
    (λ (eq : i ≡ length graph). subst P (sym (get_or_push graph job no_vertex i (sym eq))) (stands_still graph job job its))
    (below_or_last (length graph) i (omega arith)))

-- the marks before the parents of the added vertex are loaded
grown_marks : (graph : List Vertex) (job : Vertex) (marks : List Mark) → AreMarkedApart graph marks (length graph) → IsLoadedBelow (graph ++ job ∷ []) (marks ++ alone job ∷ []) (length graph)
grown_marks graph job marks marked =
    let vertices = length_push graph job in
    let more = length_push marks (alone job) in
    let count = marked.count in
    let Computes : Vertex → Type 0 = λ v. alone v ≡ Compute in
    let old_mark : (i : ℕ) → i < length graph → mark (marks ++ alone job ∷ []) i ≡ mark marks i =
    λ i hi. get_or_append_left marks (alone job ∷ []) Prune i (omega arith)
    in
    record {
      count = omega arith;
      loaded = λ j hj computed i there.
          let Has : Vertex → Type 0 = λ v. Contains v.parents i in
          let is : mark marks i ≡ Load = marked.loaded j hj (subst Computes (before graph job j hj) computed) i (subst Has (before graph job j hj) there) in
          ⊎_elim
          (λ lt. old_mark i lt ∙ is)
          (λ ge. let none : mark marks i ≡ Prune = get_or-eq_default marks Prune (omega arith) in let P : Prune ≡ Load = sym none ∙ is in absurd (cc))
          (cases_lt i (length graph));
      others = λ i hi none.
          let Has : Vertex → Type 0 = λ v. Contains v.parents i in
          ⊎_elim
          (λ lt. old_mark i lt ∙ marked.others i lt (λ j hj computed there. none j hj (subst Computes (sym (before graph job j hj)) computed) (subst Has (sym (before graph job j hj)) there)) ∙ ap alone (sym (before graph job i lt)))
          (λ (eq : i ≡ length graph). get_or_push marks (alone job) Prune i (omega arith) ∙ ap alone (sym (get_or_push graph job no_vertex i (sym eq))))
          (below_or_last (length graph) i (omega arith));
    }

grown_marked : (graph : List Vertex) (job : Vertex) (marks new : List Mark) → AreMarkedApart graph marks (length graph) → LoadsFor (marks ++ alone job ∷ []) new job.parents (alone job) → AreMarkedApart (graph ++ job ∷ []) new (length (graph ++ job ∷ []))
grown_marked graph job marks new marked loads =
    all_marked (graph ++ job ∷ []) new (length graph + 1) (sym (length_push graph job))
    (marked_at (graph ++ job ∷ []) (marks ++ alone job ∷ []) new (length graph) job (sym (get_or_push graph job no_vertex (length graph) refl)) (grown_marks graph job marks marked) loads)

-- the charges with those of one more vertex
abbrev charged_too : Charges → Vertex → Charges
charged_too charges job = record {
  enter = charges.enter ++ charge job ∷ [];
  through = charges.through ++ charge job ∷ [];
  pay = charges.pay ++ charge job ∷ [];
  pass = charges.pass ++ no_passes job ∷ [];
}

amounts_with : (graph : List Vertex) (job : Vertex) (amounts : List ℕ) → amounts ≡ map charge graph → amounts ++ charge job ∷ [] ≡ map charge (graph ++ job ∷ [])
amounts_with graph job amounts e = ap (λ xs. xs ++ charge job ∷ []) e ∙ sym (map-append charge graph (job ∷ []))

grown_charged : (graph : List Vertex) (job : Vertex) (charges : Charges) → AreChargesApart graph charges → AreChargesApart (graph ++ job ∷ []) (charged_too charges job)
grown_charged graph job charges c = record {
  enter = amounts_with graph job charges.enter c.enter;
  through = amounts_with graph job charges.through c.through;
  pay = amounts_with graph job charges.pay c.pay;
  passing = ap (λ xs. xs ++ no_passes job ∷ []) c.passing ∙ sym (map-append no_passes graph (job ∷ []));
}

-- a vertex after those of a kept plan, its marks and its charges
pub record IsGrown (old : Planned) (job : Vertex) (graph : List Vertex) (plan : Plan) (charges : Charges) : Type 0 where
  pub kept : IsKeptApart old
  pub stands : StandsApart old.graph job
  pub vertices : graph ≡ old.graph ++ job ∷ []
  pub good : IsGraph graph
  pub loads : LoadsFor (old.plan.marks ++ alone job ∷ []) plan.marks job.parents (alone job)
  pub charged : charges ≡ charged_too old.charges job

made_grown : (old : Planned) (job : Vertex) (graph : List Vertex) (plan : Plan) (charges : Charges) → IsGrown old job graph plan charges → AreApart graph × AreMarkedApart graph plan.marks (length graph) × AreChargesApart graph charges
made_grown old job graph plan charges g =
    let P : List Vertex → Type 0 = λ vs. AreApart vs × AreMarkedApart vs plan.marks (length vs) × AreChargesApart vs charges in
    let Q : Charges → Type 0 = λ c. AreChargesApart (old.graph ++ job ∷ []) c in
    subst P (sym g.vertices) (
      grown_apart old.graph job g.kept.apart g.stands,
      grown_marked old.graph job old.plan.marks plan.marks g.kept.marked g.loads,
      subst Q (sym g.charged) (grown_charged old.graph job old.charges g.kept.charged),
    )

-- what they cost
grown_cost : (old : Planned) (job : Vertex) (graph : List Vertex) (plan : Plan) (charges : Charges) → IsGrown old job graph plan charges → old.cost + charge job ≡ sum charges.enter
grown_cost old job graph plan charges g =
    let all = cost_is_charged old g.kept in
    let one : sum (old.charges.enter ++ charge job ∷ []) ≡ sum old.charges.enter + charge job = fold_push (λ s x. s + x) 0 old.charges.enter (charge job) in
    let is : sum charges.enter ≡ sum (old.charges.enter ++ charge job ∷ []) = ap (λ (c : Charges). sum c.enter) g.charged in
    omega arith

pub grown_fits : (old : Planned) (job : Vertex) (graph : List Vertex) (plan : Plan) (charges : Charges) → IsGrown old job graph plan charges → old.cost + charge job < 2 ^ 64
grown_fits old job graph plan charges g =
    let made = made_grown old job graph plan charges g in
    let total = grown_cost old job graph plan charges g in
    let low = value_is_small graph charges g.good (apart_is_planned graph plan.marks charges g.good made.0 made.1 made.2).1.fair in
    omega arith

pub grown_kept : (old : Planned) (job : Vertex) (graph : List Vertex) (plan : Plan) (charges : Charges) (now : ℕ) → IsGrown old job graph plan charges → now ≡ old.cost + charge job → IsKeptApart (record { graph = graph; plan = plan; charges = charges; cost = now })
grown_kept old job graph plan charges now g e =
    let made = made_grown old job graph plan charges g in
    record {
      good = g.good;
      apart = made.0;
      marked = made.1;
      charged = made.2;
      its_cost = e ∙ grown_cost old job graph plan charges g ∙ (apart_is_planned graph plan.marks charges g.good made.0 made.1 made.2).1.balanced;
    }

-- the last vertex of the graph is the one that was added
pub added_is : (old : Planned) (job : Vertex) (graph seen : List Vertex) (added : Vertex) → graph ≡ old.graph ++ job ∷ [] → seen ≡ graph → added ≡ get_or seen (length seen - 1) added → added ≡ job
added_is old job graph seen added eg es read =
    let all : seen ≡ old.graph ++ job ∷ [] = es ∙ eg in
    let count = length_push old.graph job in
    let length_is : length seen ≡ length (old.graph ++ job ∷ []) = ap length all in
    read ∙ ap (λ xs. get_or xs (length seen - 1) added) all ∙ get_or_push old.graph job added (length seen - 1) (omega arith)

-- the same, of what was read
pub grown_from : (old : Planned) (job : Vertex) (graph seen : List Vertex) (added : Vertex) (plan : Plan) (charges : Charges) → IsKeptApart old → seen ≡ old.graph → StandsApart seen job → graph ≡ old.graph ++ job ∷ [] → IsGraph graph → added ≡ job → LoadsFor (old.plan.marks ++ alone added ∷ []) plan.marks added.parents (alone added) → charges ≡ charged_too old.charges added → IsGrown old job graph plan charges
grown_from old job graph seen added plan charges kept es stands eg good ea loads ec =
    let P : Vertex → Type 0 = λ v. LoadsFor (old.plan.marks ++ alone v ∷ []) plan.marks v.parents (alone v) in
    record {
      kept = kept;
      stands = subst (λ g. StandsApart g job) es stands;
      vertices = eg;
      good = good;
      loads = subst P ea loads;
      charged = ec ∙ ap (charged_too old.charges) ea;
    }
