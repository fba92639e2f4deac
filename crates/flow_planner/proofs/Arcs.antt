-- The arcs of a network, job by job: what holds of the arcs of each job holds of all, and what more can leave a node.
use Rattle.std.proofs.Common.{◌≡◌, ◌≢◌, ℕ, zero, suc, ◌+◌, ◌*◌, ◌%◌, ◌<◌, ◌≤◌, List, cond, eqb, length, get_or, sym, refl, ap, ◌∙◌, subst, ⊎_elim, arith}
use Rattle.std.proofs.lemmas.Bool.{eq-eqb, ne_eqb, cond-true, cond-false, cases_eq, cases_lt}
use Rattle.plan_checker.specs.declared.vertex.Vertex.{Vertex}
use Rattle.plan_checker.specs.declared.charges.Charges.{Charges}
use Rattle.plan_checker.specs.Sums.{sum_below}
use Rattle.plan_checker.specs.Graph.{vertex, IsGraph}
use Rattle.plan_checker.specs.Charges.{passes, passed_to, received}
use Rattle.plan_checker.proofs.SumsBelow.{sum_below_more, sum_below_same, sum_below-zero, sum_below-add, sum_below_only}
use Rattle.plan_checker.proofs.Duality.{parent_at, amount_at}
use Rattle.level_graphs.specs.declared.network.Arc.{Arc}
use Rattle.level_graphs.specs.Arcs.{reverse_of, tail_of, head_of, room_at}
use Rattle.level_graphs.specs.Flow.{sum_below as sum_of_arcs, room_out}
use Rattle.flow_planner.specs.Network.{first_arc, Carries, CarriesJobs}

-- the arcs of a job lie before those of the jobs above it
pub first_arc-le : (graph : List Vertex) (i n : ℕ) → i < n → first_arc graph i + 6 + 2 * length (vertex graph i).parents ≤ first_arc graph n
first_arc-le graph i zero h = absurd (omega arith)
first_arc-le graph i (suc n) h =
    ⊎_elim
    (λ (e : i ≡ n).
    let first = ap (first_arc graph) e in
    let parents = ap (λ j. length (vertex graph j).parents) e in
    omega arith)
    (λ (ne : i ≢ n). let rest = first_arc-le graph i n (omega arith) in omega arith)
    (cases_eq i n)

pub first_arc_more : (graph : List Vertex) (i : ℕ) → first_arc graph (i + 1) ≡ first_arc graph i + 6 + 2 * length (vertex graph i).parents
first_arc_more graph i = let more = sum_below_more i (λ j. length (vertex graph j).parents) in omega arith

-- an arc and the next one
abbrev Both : (ℕ → Type 0) → ℕ → Type 0
Both P a = P a × P (a + 1)

-- the arcs of a job whose first arc is s
pub record HoldsOfJob (P : ℕ → Type 0) (s parents : ℕ) : Type 0 where
  pub enter : Both P s
  pub through : Both P (s + 2)
  pub pay : Both P (s + 4)
  pub pass : (k : ℕ) → k < parents → Both P (s + 6 + 2 * k)

each_of_pairs : (P : ℕ → Type 0) (s m : ℕ) → ((k : ℕ) → k < m → Both P (s + 2 * k)) → (a : ℕ) → s ≤ a → a < s + 2 * m → P a
each_of_pairs P s zero h a le lt = absurd (omega arith)
each_of_pairs P s (suc m) h a le lt =
    ⊎_elim
    (λ below. each_of_pairs P s m (λ k hk. h k (omega arith)) a le below)
    (λ past.
    ⊎_elim
    (λ (e : a ≡ s + 2 * m). subst P (sym e) (h m (omega arith)).0)
    (λ (ne : a ≢ s + 2 * m). let e : s + 2 * m + 1 ≡ a = omega arith in subst P e (h m (omega arith)).1)
    (cases_eq a (s + 2 * m)))
    (cases_lt a (s + 2 * m))

first_pairs : (P : ℕ → Type 0) (s parents : ℕ) → HoldsOfJob P s parents → (k : ℕ) → k < 3 → Both P (s + 2 * k)
first_pairs P s parents h zero lt = let e : s ≡ s + 2 * 0 = omega arith in subst (Both P) e h.enter
first_pairs P s parents h (suc zero) lt = let e : s + 2 ≡ s + 2 * 1 = omega arith in subst (Both P) e h.through
first_pairs P s parents h (suc (suc zero)) lt = let e : s + 4 ≡ s + 2 * 2 = omega arith in subst (Both P) e h.pay
first_pairs P s parents h (suc (suc (suc k))) lt = absurd (omega arith)

-- what holds of the arcs of each job holds of each arc
pub each_arc : (P : ℕ → Type 0) (graph : List Vertex) (n : ℕ) → ((i : ℕ) → i < n → HoldsOfJob P (first_arc graph i) (length (vertex graph i).parents)) → (a : ℕ) → a < first_arc graph n → P a
each_arc P graph zero h a lt = absurd (omega arith)
each_arc P graph (suc n) h a lt =
    let here = h n (omega arith) in
    let s = first_arc graph n in
    let m = length (vertex graph n).parents in
    ⊎_elim
    (λ below. each_arc P graph n (λ i hi. h i (omega arith)) a below)
    (λ past.
    ⊎_elim
    (λ early. each_of_pairs P s 3 (first_pairs P s m here) a past (omega arith))
    (λ late. each_of_pairs P (s + 6) m here.pass a late (omega arith))
    (cases_lt a (s + 6)))
    (cases_lt a s)

sum_of_pairs : (f : ℕ → ℕ) (s m : ℕ) → sum_of_arcs (s + 2 * m) f ≡ sum_of_arcs s f + sum_below m (λ k. f (s + 2 * k) + f (s + 2 * k + 1))
sum_of_pairs f s zero =
    let e : s + 2 * 0 ≡ s = omega arith in
    let same = ap (λ n. sum_of_arcs n f) e in
    omega arith
sum_of_pairs f s (suc m) =
    let e : s + 2 * suc m ≡ suc (suc (s + 2 * m)) = omega arith in
    let more : sum_of_arcs (s + 2 * suc m) f ≡ sum_of_arcs (s + 2 * m) f + f (s + 2 * m) + f (suc (s + 2 * m)) = ap (λ n. sum_of_arcs n f) e in
    let next : f (suc (s + 2 * m)) ≡ f (s + 2 * m + 1) = ap f (omega arith) in
    let rest = sum_of_pairs f s m in
    omega arith

-- the sum over the arcs of a job
abbrev sum_of_job : (ℕ → ℕ) → ℕ → ℕ → ℕ
sum_of_job f s parents =
    (f s + f (s + 1)) + (f (s + 2) + f (s + 2 + 1)) + (f (s + 4) + f (s + 4 + 1))
    + sum_below parents (λ k. f (s + 6 + 2 * k) + f (s + 6 + 2 * k + 1))

sum_by_jobs : (f : ℕ → ℕ) (graph : List Vertex) (n : ℕ) → sum_of_arcs (first_arc graph n) f ≡ sum_below n (λ i. sum_of_job f (first_arc graph i) (length (vertex graph i).parents))
sum_by_jobs f graph zero = refl
sum_by_jobs f graph (suc n) =
    let s = first_arc graph n in
    let m = length (vertex graph n).parents in
    let rest = sum_by_jobs f graph n in
    let all : first_arc graph (suc n) ≡ s + 6 + 2 * m = omega arith in
    let same = ap (λ k. sum_of_arcs k f) all in
    let late = sum_of_pairs f (s + 6) m in
    let e : s + 6 ≡ suc (suc (suc (suc (suc (suc s))))) = omega arith in
    let early : sum_of_arcs (s + 6) f ≡ sum_of_arcs s f + f s + f (suc s) + f (suc (suc s)) + f (suc (suc (suc s))) + f (suc (suc (suc (suc s)))) + f (suc (suc (suc (suc (suc s))))) = ap (λ k. sum_of_arcs k f) e in
    let one : f (suc s) ≡ f (s + 1) = ap f (omega arith) in
    let two : f (suc (suc s)) ≡ f (s + 2) = ap f (omega arith) in
    let three : f (suc (suc (suc s))) ≡ f (s + 2 + 1) = ap f (omega arith) in
    let four : f (suc (suc (suc (suc s)))) ≡ f (s + 4) = ap f (omega arith) in
    let five : f (suc (suc (suc (suc (suc s))))) ≡ f (s + 4 + 1) = ap f (omega arith) in
    omega arith

-- the ends of an arc in an even place, and of the next one
pub tail_is : (arcs : List Arc) (a from to capacity amount : ℕ) → a % 2 ≡ 0 → Carries arcs a from to capacity amount → tail_of arcs a ≡ from
tail_is arcs a from to capacity amount even carries = let e : reverse_of a ≡ a + 1 = omega arith in ap (head_of arcs) e ∙ carries.back

pub back_is : (arcs : List Arc) (a from to capacity amount : ℕ) → a % 2 ≡ 0 → Carries arcs a from to capacity amount → tail_of arcs (a + 1) ≡ to
back_is arcs a from to capacity amount even carries = let e : reverse_of (a + 1) ≡ a = omega arith in ap (head_of arcs) e ∙ carries.head

-- an amount, at one node alone
abbrev only : ℕ → ℕ → ℕ → ℕ
only u v amount = cond (eqb u v) amount 0

only_here : (u v amount : ℕ) → u ≡ v → only u v amount ≡ amount
only_here u v amount e = cond-true (eqb u v) amount 0 (eq-eqb u v e)

only_other : (u v amount : ℕ) → u ≢ v → only u v amount ≡ 0
only_other u v amount ne = cond-false (eqb u v) amount 0 (ne_eqb u v ne)

-- what more can leave node v by one arc
abbrev out_by : List Arc → ℕ → ℕ → ℕ
out_by arcs v a = only (tail_of arcs a) v (room_at arcs a)

pair_out : (arcs : List Arc) (v a from to capacity amount : ℕ) → a % 2 ≡ 0 → Carries arcs a from to capacity amount → out_by arcs v a + out_by arcs v (a + 1) ≡ only from v (room_at arcs a) + only to v amount
pair_out arcs v a from to capacity amount even carries =
    let one = ap (λ u. only u v (room_at arcs a)) (tail_is arcs a from to capacity amount even carries) in
    let two = ap (λ u. only u v (room_at arcs (a + 1))) (back_is arcs a from to capacity amount even carries) ∙ ap (only to v) carries.flow in
    omega arith

only_sum : (u v x y : ℕ) → only u v x + only u v y ≡ only u v (x + y)
only_sum u v x y =
    ⊎_elim
    (λ (e : u ≡ v). let a = only_here u v x e in let b = only_here u v y e in let c = only_here u v (x + y) e in omega arith)
    (λ (ne : u ≢ v). let a = only_other u v x ne in let b = only_other u v y ne in let c = only_other u v (x + y) ne in omega arith)
    (cases_eq u v)

sum_only : (n v : ℕ) (x : ℕ → ℕ) → v < n → sum_below n (λ i. only i v (x i)) ≡ x v
sum_only n v x h =
    sum_below_only n (λ i. only i v (x i)) v h (λ i hi ne. only_other i v (x i) ne)
    ∙ only_here v v (x v) refl

-- what more can leave node v, job by job
out_by_jobs : (graph : List Vertex) (charges : Charges) (arcs : List Arc) (v : ℕ) → CarriesJobs graph charges arcs (length graph) → room_out arcs v ≡ sum_below (length graph) (λ i. sum_of_job (out_by arcs v) (first_arc graph i) (length (vertex graph i).parents))
out_by_jobs graph charges arcs v all =
    ap (λ n. sum_of_arcs n (out_by arcs v)) all.count ∙ sum_by_jobs (out_by arcs v) graph (length graph)

-- from the first node of a job: what enters could be less, more could go through, and its children could pass less
pub out_of_first : (graph : List Vertex) (charges : Charges) (arcs : List Arc) (v : ℕ) → v < length graph → CarriesJobs graph charges arcs (length graph) → room_out arcs v ≡ get_or charges.enter v 0 + room_at arcs (first_arc graph v + 2) + received graph charges v
out_of_first graph charges arcs v h all =
    let n = length graph in
    let x : ℕ → ℕ = λ i. get_or charges.enter i 0 + room_at arcs (first_arc graph i + 2) in
    let to : ℕ → ℕ = λ i. passed_to v (vertex graph i).parents (passes charges i) in
    let one = out_by_jobs graph charges arcs v all in
    let two = sum_below_same n (λ i. sum_of_job (out_by arcs v) (first_arc graph i) (length (vertex graph i).parents)) (λ i. only i v (x i) + to i) (λ i hi. at_job i hi) in
    let three = sum_below-add n (λ i. only i v (x i)) to in
    let four = sum_only n v x h in
    omega arith
  where
    at_job : (i : ℕ) → i < length graph → sum_of_job (out_by arcs v) (first_arc graph i) (length (vertex graph i).parents) ≡ only i v (get_or charges.enter i 0 + room_at arcs (first_arc graph i + 2)) + passed_to v (vertex graph i).parents (passes charges i)
    at_job i hi =
        let s = first_arc graph i in
        let n = length graph in
        let m = length (vertex graph i).parents in
        let job = all.each i hi in
        let enter = pair_out arcs v s _ _ _ _ (omega arith) job.enter in
        let through = pair_out arcs v (s + 2) _ _ _ _ (omega arith) job.through in
        let pay = pair_out arcs v (s + 4) _ _ _ _ (omega arith) job.pay in
        let a = only_other (2 * n) v (room_at arcs s) (λ e. absurd (omega arith)) in
        let b = only_other (n + i) v (get_or charges.through i 0) (λ e. absurd (omega arith)) in
        let c = only_other (n + i) v (room_at arcs (s + 4)) (λ e. absurd (omega arith)) in
        let d = only_other (2 * n + 1) v (get_or charges.pay i 0) (λ e. absurd (omega arith)) in
        let split = only_sum i v (get_or charges.enter i 0) (room_at arcs (s + 2)) in
        let rows = sum_below_same m (λ k. out_by arcs v (s + 6 + 2 * k) + out_by arcs v (s + 6 + 2 * k + 1)) (λ k. only (parent_at graph i k) v (amount_at charges i k))
        (λ k hk.
        let pass = pair_out arcs v (s + 6 + 2 * k) _ _ _ _ (omega arith) (job.pass k hk) in
        let none = only_other (n + i) v (room_at arcs (s + 6 + 2 * k)) (λ e. absurd (omega arith)) in
        omega arith) in
        omega arith

-- from the second node of a job: less could go through, and more could be paid, or passed to each parent
pub out_of_second : (graph : List Vertex) (charges : Charges) (arcs : List Arc) (v : ℕ) → IsGraph graph → v < length graph → CarriesJobs graph charges arcs (length graph) → room_out arcs (length graph + v) ≡ get_or charges.through v 0 + room_at arcs (first_arc graph v + 4) + sum_below (length (vertex graph v).parents) (λ k. room_at arcs (first_arc graph v + 6 + 2 * k))
out_of_second graph charges arcs v good h all =
    let n = length graph in
    let x : ℕ → ℕ = λ i. get_or charges.through i 0 + room_at arcs (first_arc graph i + 4) + sum_below (length (vertex graph i).parents) (λ k. room_at arcs (first_arc graph i + 6 + 2 * k)) in
    out_by_jobs graph charges arcs (n + v) all
    ∙ sum_below_same n (λ i. sum_of_job (out_by arcs (n + v)) (first_arc graph i) (length (vertex graph i).parents)) (λ i. only i v (x i)) (λ i hi. at_job i hi)
    ∙ sum_only n v x h
  where
    at_job : (i : ℕ) → i < length graph → sum_of_job (out_by arcs (length graph + v)) (first_arc graph i) (length (vertex graph i).parents) ≡ only i v (get_or charges.through i 0 + room_at arcs (first_arc graph i + 4) + sum_below (length (vertex graph i).parents) (λ k. room_at arcs (first_arc graph i + 6 + 2 * k)))
    at_job i hi =
        let s = first_arc graph i in
        let n = length graph in
        let w = n + v in
        let m = length (vertex graph i).parents in
        let job = all.each i hi in
        let rooms : ℕ = sum_below m (λ k. room_at arcs (s + 6 + 2 * k)) in
        let whole : ℕ = get_or charges.through i 0 + room_at arcs (s + 4) + rooms in
        let enter = pair_out arcs w s _ _ _ _ (omega arith) job.enter in
        let through = pair_out arcs w (s + 2) _ _ _ _ (omega arith) job.through in
        let pay = pair_out arcs w (s + 4) _ _ _ _ (omega arith) job.pay in
        let a = only_other (2 * n) w (room_at arcs s) (λ e. absurd (omega arith)) in
        let b = only_other i w (get_or charges.enter i 0) (λ e. absurd (omega arith)) in
        let c = only_other i w (room_at arcs (s + 2)) (λ e. absurd (omega arith)) in
        let d = only_other (2 * n + 1) w (get_or charges.pay i 0) (λ e. absurd (omega arith)) in
        let back = λ (k : ℕ) (hk : k < m).
        (let below = (good i hi).below k 0 hk in
        only_other (parent_at graph i k) w (amount_at charges i k) (λ e. absurd (omega arith))) in
        let pairs : ℕ → ℕ = λ k. out_by arcs w (s + 6 + 2 * k) + out_by arcs w (s + 6 + 2 * k + 1) in
        ⊎_elim
        (λ (e : i ≡ v).
        let one = only_here i v whole e in
        let two = only_here (n + i) w (get_or charges.through i 0) (ap (λ j. n + j) e) in
        let three = only_here (n + i) w (room_at arcs (s + 4)) (ap (λ j. n + j) e) in
        let rows = sum_below_same m pairs (λ k. room_at arcs (s + 6 + 2 * k))
        (λ k hk.
        let pass = pair_out arcs w (s + 6 + 2 * k) _ _ _ _ (omega arith) (job.pass k hk) in
        let here = only_here (n + i) w (room_at arcs (s + 6 + 2 * k)) (ap (λ j. n + j) e) in
        let none = back k hk in
        omega arith) in
        omega arith)
        (λ (ne : i ≢ v).
        let apart : n + i ≢ w = λ e. ne (omega arith) in
        let one = only_other i v whole ne in
        let two = only_other (n + i) w (get_or charges.through i 0) apart in
        let three = only_other (n + i) w (room_at arcs (s + 4)) apart in
        let rows = sum_below_same m pairs (λ k. 0)
        (λ k hk.
        let pass = pair_out arcs w (s + 6 + 2 * k) _ _ _ _ (omega arith) (job.pass k hk) in
        let here = only_other (n + i) w (room_at arcs (s + 6 + 2 * k)) apart in
        let none = back k hk in
        omega arith) in
        let zeros = sum_below-zero m in
        omega arith)
        (cases_eq i v)
