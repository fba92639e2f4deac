-- A graph of the first of some jobs, as far as its parents say.
use Rattle.std.specs.List.{zip}
use Rattle.std.specs.Prelude.{Err, Ok, OnErr, OnOk, Result}
use Rattle.std.proofs.Common.{◌≡◌, ◌∙◌, ℕ, zero, suc, ◌<◌, ◌≤◌, List, [], ◌∷◌, ◌++◌, length, map, take, get_or, sym, refl, ap, subst, arith}
use Rattle.std.proofs.lemmas.List.{get_or-take}
use Rattle.job_graph.specs.Jobs.{Job}
use Rattle.job_graph.specs.PresentJobGraph.{present_job_graph, vertex_of}
use Rattle.job_graph.specs.Unfold.{Known, Resolved, known_from, parents_among}
use Rattle.job_graph.specs.UnfoldedSoFar.{UnfoldedSoFar}
use Rattle.job_graph.specs.Unfolding.{AnswersAlike}
use Rattle.job_graph.specs.Words.{Fields}
use Rattle.job_graph.specs.declared.costs.Costs.{Costs}
use Rattle.plan_checker.specs.Graph.{vertex}
use Rattle.plan_checker.specs.declared.vertex.Vertex.{Vertex}
use Rattle.run_plan.specs.Touched.{AreOfFirst, parents_in}

-- one more job changes nothing for those before it
known_taken : (k : ℕ) (earlier jobs : List Job) → take k (known_from earlier jobs) ≡ known_from earlier (take k jobs)
known_taken zero earlier jobs = refl
known_taken (suc k) earlier [] = refl
known_taken (suc k) earlier (job ∷ jobs) =
    ap (λ (rest : List Known). record { job = job; parents = parents_among earlier job } ∷ rest) (known_taken k (earlier ++ job ∷ []) jobs)

parents_taken : (k : ℕ) (known : List Known) → map (λ (one : Known). one.parents) (take k known) ≡ take k (map (λ (one : Known). one.parents) known)
parents_taken zero known = refl
parents_taken (suc k) [] = refl
parents_taken (suc k) (one ∷ known) = ap (λ (rest : List (List ℕ)). one.parents ∷ rest) (parents_taken k known)

parents_before : (k : ℕ) (jobs : List Job) (n : ℕ) → n < k → parents_in (take k jobs) n ≡ parents_in jobs n
parents_before k jobs n within =
    ap (λ (known : List Known). get_or (map (λ (one : Known). one.parents) known) n []) (sym (known_taken k [] jobs))
    ∙ ap (λ (all : List (List ℕ)). get_or all n []) (parents_taken k (known_from [] jobs))
    ∙ get_or-take k (map (λ (one : Known). one.parents) (known_from [] jobs)) n [] within

-- of more jobs it is one still
pub more_first : (graph : List Vertex) (old new : List Job) → take (length old) new ≡ old → AreOfFirst graph old → AreOfFirst graph new
more_first graph old new before first = (
  omega (arith, first.0, taken_few (length old) new, ap (λ (jobs : List Job). length jobs) before),
  λ n within.
      first.1 n within ∙ ap (λ (jobs : List Job). parents_in jobs n) (sym before) ∙ parents_before (length old) new n (omega (arith, within, first.0)),
)
  where
    taken_few : (k : ℕ) (jobs : List Job) → length (take k jobs) ≤ length jobs
    taken_few zero jobs = omega arith
    taken_few (suc k) [] = omega arith
    taken_few (suc k) (job ∷ jobs) = let fewer = taken_few k jobs in omega (arith, fewer)

-- it is one still once more was learned
pub learned_first : {A E : Type 0} (graph : List Vertex) (old new : UnfoldedSoFar) (result : Result A E) → OnOk result (take (length old.known) new.known ≡ old.known) →
    OnErr result (AnswersAlike old new) → AreOfFirst graph old.known → AreOfFirst graph new.known
learned_first graph old new (Ok done) more same first = more_first graph old.known new.known more first
learned_first graph old new (Err error) more same first = subst (AreOfFirst graph) (sym same.jobs) first

-- the present job graph of these jobs is one
known_count : (earlier jobs : List Job) → length (known_from earlier jobs) ≡ length jobs
known_count earlier [] = refl
known_count earlier (job ∷ jobs) = ap suc (known_count (earlier ++ job ∷ []) jobs)

parents_there : (learned : List Resolved) (outs : Fields) (known : List Known) (costs : List Costs) (n : ℕ) → n < length (map (vertex_of learned outs) (zip known costs)) →
    (vertex (map (vertex_of learned outs) (zip known costs)) n).parents ≡ get_or (map (λ (one : Known). one.parents) known) n []
parents_there learned outs [] costs n within = absurd (omega (arith, within))
parents_there learned outs (one ∷ known) [] n within = absurd (omega (arith, within))
parents_there learned outs (one ∷ known) (c ∷ costs) zero within = refl
parents_there learned outs (one ∷ known) (c ∷ costs) (suc n) within = parents_there learned outs known costs n (omega (arith, within))

at_most_known : (learned : List Resolved) (outs : Fields) (known : List Known) (costs : List Costs) → length (map (vertex_of learned outs) (zip known costs)) ≤ length known
at_most_known learned outs [] costs = omega arith
at_most_known learned outs (one ∷ known) [] = omega arith
at_most_known learned outs (one ∷ known) (c ∷ costs) = let fewer = at_most_known learned outs known costs in omega (arith, fewer)

pub present_first : (learned : List Resolved) (jobs : List Job) (outs : Fields) (costs : List Costs) → AreOfFirst (present_job_graph learned jobs outs costs) jobs
present_first learned jobs outs costs = (
  omega (arith, at_most_known learned outs (known_from [] jobs) costs, known_count [] jobs),
  λ n within. parents_there learned outs (known_from [] jobs) costs n within,
)
