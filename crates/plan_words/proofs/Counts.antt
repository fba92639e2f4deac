use Rattle.std.proofs.Common.{◌≡◌, ℕ, ◌+◌, ◌<◌, ◌≤◌, ◌^◌, Bool, true, false, cond, eqb, List, length, get_or, set, take, sym, ap, ◌∙◌, ⊎_elim, arith, get_or-set_other, get_or-set_same}
use Rattle.std.proofs.lemmas.Bool.{cases_eq, eq-eqb, ne_eqb}
use Rattle.std.proofs.lemmas.List.Sums.{count_by_more_yes, count_by_more_no, count_by-le-length}
use Rattle.plan_checker.specs.declared.vertex.Vertex.{Vertex}
use Rattle.plan_checker.specs.declared.plan.Mark.{Mark}
use Rattle.plan_checker.specs.Graph.{vertex, entries_below, IsGraph}
use Rattle.plan_checker.specs.Plan.{mark}
use Rattle.plan_checker.proofs.SumsBelow.{sum_below_more, sum_below_le}
use Rattle.plan_words.specs.Marks.{is_same}
use Rattle.plan_words.specs.Readers.{times_read, readers_below}

-- what is counted so far still has room
pub counted_fits : (old cur jobs : List ℕ) (i j : ℕ) → i < length jobs → get_or cur j 0 ≡ get_or old j 0 + times_read j (take i jobs) → get_or old j 0 + length jobs < 2 ^ 64 → length (take i jobs) ≡ i → get_or cur j 0 + 1 < 2 ^ 64
counted_fits old cur jobs i j there was room short =
    let few = count_by-le-length (λ o. eqb o j) (take i jobs) in
    omega arith

cond_le : (b : Bool) (n most : ℕ) → n ≤ most → cond b n 0 ≤ most
cond_le true n most h = h
cond_le false n most h = omega arith

readers_below_le : (n : ℕ) (graph : List Vertex) (marks : List Mark) (m : Mark) (p : ℕ) → readers_below n graph marks m p ≤ entries_below graph n
readers_below_le n graph marks m p =
    sum_below_le n (λ i. cond (is_same (mark marks i) m) (times_read p (vertex graph i).parents) 0) (λ i. length (vertex graph i).parents)
    (λ i h. cond_le (is_same (mark marks i) m) (times_read p (vertex graph i).parents) (length (vertex graph i).parents) (count_by-le-length (λ o. eqb o p) (vertex graph i).parents))

-- each job's readers so far, and the parents of the next job, are few
pub readers_fit : (graph : List Vertex) (marks : List Mark) (m : Mark) (i p : ℕ) → IsGraph graph → i < length graph → readers_below i graph marks m p + length (vertex graph i).parents < 2 ^ 64
readers_fit graph marks m i p is_graph below =
    let le = readers_below_le i graph marks m p in
    let next = sum_below_more i (λ k. length (vertex graph k).parents) in
    let few = (is_graph i below).few_entries in
    omega arith
