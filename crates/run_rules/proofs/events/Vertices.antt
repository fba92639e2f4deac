-- The vertices of the present job graph, by the numbers of the known jobs: each has the costs of its job, and its parents are the jobs before it
-- that made something in its inputs.
use Rattle.std.specs.Prelude.{◌<◌, Contains, take, slice_index_or}
use Rattle.std.specs.List.{zip}
use Rattle.std.proofs.Common.{◌≡◌, ◌∙◌, ◌+◌, ℕ, zero, suc, Bool, true, false, cond, List, [], ◌∷◌, ◌++◌, length, map, refl, sym, ap, subst, arith, append_assoc, append-nil}
use Rattle.std.proofs.lemmas.List.Elements.{Contains-append_right}
use Rattle.plan_checker.specs.declared.vertex.Vertex.{Vertex}
use Rattle.plan_checker.specs.Graph.{no_vertex, vertex}
use Rattle.job_graph.specs.declared.costs.Costs.{Costs}
use Rattle.job_graph.specs.Jobs.{Job}
use Rattle.job_graph.specs.Made.{any_made}
use Rattle.job_graph.specs.PresentJobGraph.{is_needed, vertex_of}
use Rattle.job_graph.specs.Unfold.{Known, Resolved, known_from, parents_from}
use Rattle.job_graph.specs.Words.{Fields}
use Rattle.run_rules.specs.Costs.{cost_to_compute, costs_at, graph_at, load_at}
use Rattle.run_rules.specs.Events.{Event, resolved, row_at, unfolding_at}
use Rattle.run_rules.specs.Scene.{Scene}
use Rattle.run_rules.proofs.events.Places.{IsJob}

-- ---- the parents

first_in : (n : ℕ) (rest : List ℕ) → Contains (n ∷ rest) n
first_in n rest = (0, omega arith, refl)

later_in : (m n : ℕ) (rest : List ℕ) → Contains rest n → Contains (m ∷ rest) n
later_in m n rest there = Contains-append_right (m ∷ []) rest n there

chosen_in : (made : Bool) (m n : ℕ) (rest : List ℕ) → Contains rest n → Contains (cond made (m ∷ rest) rest) n
chosen_in true m n rest there = later_in m n rest there
chosen_in false m n rest there = there

-- the number of a job that made something is among them
pub maker_in : (n : ℕ) (makers : List Job) (inputs : Fields) (i : ℕ) (maker : Job) → IsJob makers i maker → any_made maker.place inputs ≡ true →
    Contains (parents_from n makers inputs) (n + i)
maker_in n [] inputs i maker it made = absurd (omega (arith, it.within))
maker_in n (m ∷ ms) inputs zero maker it made =
    let first : n ≡ n + 0 = omega arith in
    let its : any_made m.place inputs ≡ true = ap (λ (j : Job). any_made j.place inputs) it.is ∙ made in
    subst (λ b. Contains (cond b (n ∷ parents_from (suc n) ms inputs) (parents_from (suc n) ms inputs)) (n + 0)) (sym its)
    (subst (λ k. Contains (n ∷ parents_from (suc n) ms inputs) k) first (first_in n (parents_from (suc n) ms inputs)))
maker_in n (m ∷ ms) inputs (suc i) maker it made =
    let next : suc n + i ≡ n + suc i = omega arith in
    chosen_in (any_made m.place inputs) n (n + suc i) (parents_from (suc n) ms inputs)
    (subst (λ k. Contains (parents_from (suc n) ms inputs) k) next
    (maker_in (suc n) ms inputs i maker (record { within = omega (arith, it.within); is = it.is }) made))

-- the first so many of the jobs
pub front_there : (jobs : List Job) (n i : ℕ) (maker : Job) → IsJob jobs i maker → i < n → IsJob (take n jobs) i maker
front_there [] n i maker it below = absurd (omega (arith, it.within))
front_there (x ∷ jobs) zero i maker it below = absurd (omega (arith, below))
front_there (x ∷ jobs) (suc n) zero maker it below = record { within = omega arith; is = it.is }
front_there (x ∷ jobs) (suc n) (suc i) maker it below =
    let later : IsJob (take n jobs) i maker = front_there jobs n i maker (record { within = omega (arith, it.within); is = it.is }) (omega (arith, below)) in
    record { within = omega (arith, later.within); is = later.is }

-- ---- a vertex

-- a job with its parents among the earlier ones and those before it
abbrev pub known_at : List Job → List Job → ℕ → Job → Known
known_at earlier jobs n job = record { job = job; parents = parents_from 0 (earlier ++ take n jobs) job.inputs }

module _ (learned : List Resolved) (outs : Fields) (costs : Job → Costs) where
  abbrev vertices_from : List Job → List Job → List Vertex
  vertices_from earlier jobs = map (vertex_of learned outs) (zip (known_from earlier jobs) (map costs jobs))

  as_many : (earlier jobs : List Job) → length (vertices_from earlier jobs) ≡ length jobs
  as_many earlier [] = refl
  as_many earlier (x ∷ jobs) = ap suc (as_many (earlier ++ x ∷ []) jobs)

  vertex_from : (earlier jobs : List Job) (n : ℕ) (job : Job) → IsJob jobs n job →
      slice_index_or (vertices_from earlier jobs) n no_vertex ≡ vertex_of learned outs (known_at earlier jobs n job, costs job)
  vertex_from earlier [] n job it = absurd (omega (arith, it.within))
  vertex_from earlier (x ∷ jobs) zero job it =
      ap (λ (j : Job). vertex_of learned outs (record { job = j; parents = parents_from 0 earlier j.inputs }, costs j)) it.is
      ∙ ap (λ (makers : List Job). vertex_of learned outs (record { job = job; parents = parents_from 0 makers job.inputs }, costs job)) (sym (append-nil earlier))
  vertex_from earlier (x ∷ jobs) (suc n) job it =
      vertex_from (earlier ++ x ∷ []) jobs n job (record { within = omega (arith, it.within); is = it.is })
      ∙ ap (λ (makers : List Job). vertex_of learned outs (record { job = job; parents = parents_from 0 makers job.inputs }, costs job))
      (append_assoc earlier (x ∷ []) (take n jobs))

module _ (s : Scene) (es : List Event) where
  abbrev its_jobs : List Job
  its_jobs = (unfolding_at s es).jobs

  pub one_each : length (graph_at s es) ≡ length its_jobs
  one_each = as_many (resolved es) (unfolding_at s es).outs (costs_at s es) [] its_jobs

  module _ (n : ℕ) (job : Job) (it : IsJob its_jobs n job) where
    pub its_vertex : vertex (graph_at s es) n ≡ vertex_of (resolved es) (unfolding_at s es).outs (known_at [] its_jobs n job, costs_at s es job)
    its_vertex = vertex_from (resolved es) (unfolding_at s es).outs (costs_at s es) [] its_jobs n job it

    pub its_load : (vertex (graph_at s es) n).load ≡ load_at s es job.place
    its_load = ap (λ (v : Vertex). v.load) its_vertex

    pub its_compute : (vertex (graph_at s es) n).compute ≡ cost_to_compute (row_at es job.place)
    its_compute = ap (λ (v : Vertex). v.compute) its_vertex

    pub its_need : (vertex (graph_at s es) n).needed ≡ is_needed (resolved es) (unfolding_at s es).outs job.place
    its_need = ap (λ (v : Vertex). v.needed) its_vertex

    -- what made something in its inputs, and was known before it, is a parent
    pub its_parent : (p : ℕ) (parent : Job) → IsJob its_jobs p parent → p < n → any_made parent.place job.inputs ≡ true → Contains (vertex (graph_at s es) n).parents p
    its_parent p parent there below made =
        let same : 0 + p ≡ p = omega arith in
        subst (λ (ps : List ℕ). Contains ps p) (sym (ap (λ (v : Vertex). v.parents) its_vertex))
        (subst (λ k. Contains (parents_from 0 (take n its_jobs) job.inputs) k) same
        (maker_in 0 (take n its_jobs) job.inputs p parent (front_there its_jobs n p parent there below) made))
