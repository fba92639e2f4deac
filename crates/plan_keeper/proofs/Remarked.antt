-- Marks of vertices that stand apart, made anew one after the other.
use Rattle.std.proofs.Common.{◌≡◌, ◌≢◌, ◌⊎◌, ◌↔◌, ℕ, ◌+◌, ◌<◌, ◌≤◌, List, length, get_or, set, Contains, subst, sym, refl, ap, ◌∙◌, inr, ⊎_elim, arith, get_or-set_same, get_or-set_other}
use Rattle.std.proofs.lemmas.Bool.{cases_eq}
use Rattle.std.proofs.lemmas.List.{length-set, get_or_default}
use Rattle.std.proofs.lemmas.List.Elements.{All-contains}
use Rattle.plan_checker.specs.declared.vertex.Vertex.{Vertex}
use Rattle.plan_checker.specs.declared.child.Child.{Child}
use Rattle.plan_checker.specs.declared.plan.Mark.{Mark}
use Rattle.plan_checker.specs.declared.plan.Mark.TheVariants.{Load, Compute, Prune}
use Rattle.plan_checker.specs.Graph.{IsChild, vertex, no_vertex, IsGraph}
use Rattle.plan_checker.specs.Plan.{mark}
use Rattle.plan_checker.proofs.SumsBelow.{below_or_last}
use Rattle.plan_keeper.specs.Apart.{alone, AreMarkedApart}
use Rattle.plan_keeper.specs.Kept.{AreRemarked, IsLeft, IsMarkApart, IsRemarked}

-- these are the children of a vertex
abbrev pub AreAllOf : List Vertex → ℕ → List Child → Type 0
AreAllOf graph number children = (child : Child) → Contains children child ↔ IsChild graph number child

abbrev pub no_child : Child
no_child = record { vertex = 0; place = 0 }

-- of the first n of them none is computed
abbrev pub NoneComputed : List Vertex → List Child → ℕ → Type 0
NoneComputed graph children n = (k : ℕ) → k < n → alone (vertex graph (get_or children k no_child).vertex) ≢ Compute

pub child_at : (graph : List Vertex) (number : ℕ) (children : List Child) → AreAllOf graph number children → (k : ℕ) → k < length children → IsChild graph number (get_or children k no_child)
child_at graph number children are k hk =
    let child : Child = get_or children k no_child in
    (are child).0 (k, hk, get_or_default children k child no_child hk)

pub left_of : (graph : List Vertex) (number : ℕ) (children : List Child) (n : ℕ) → AreAllOf graph number children → length children ≤ n → NoneComputed graph children n → IsLeft graph number
left_of graph number children n are all none j d hj =
    let P : Vertex → Type 0 = λ job. alone job ≡ Compute → ¬ Contains job.parents number in
    subst P (get_or_default graph j no_vertex d hj) (λ computed (there : Contains (vertex graph j).parents number).
    let child : Child = record { vertex = j; place = there.0 } in
    let is : IsChild graph number child = record { numbered = hj; placed = there.1; of = get_or_default (vertex graph j).parents there.0 0 number there.1 ∙ there.2 } in
    let listed : Contains children child = (are child).1 is in
    let Q : Child → Type 0 = λ child. alone (vertex graph child.vertex) ≡ Compute in
    let same : get_or children listed.0 no_child ≡ child = get_or_default children listed.0 no_child child listed.1 ∙ listed.2 in
    let here = listed.1 in
    none listed.0 (omega arith) (subst Q (sym same) computed))

-- a vertex that was read
pub read_there : (graph seen : List Vertex) (number : ℕ) (job : Vertex) → number < length graph → seen ≡ graph → job ≡ get_or seen number job → job ≡ vertex graph number
read_there graph seen number job h es read = read ∙ ap (λ xs. get_or xs number job) es ∙ get_or_default graph number job no_vertex h

pub some_left : (graph seen : List Vertex) (number : ℕ) (children : List Child) (k : ℕ) (job : Vertex) (its : Mark) → AreAllOf graph number children → k < length children → seen ≡ graph → job ≡ get_or seen (get_or children k no_child).vertex job → its ≡ alone job → its ≡ Compute → ¬ IsLeft graph number
some_left graph seen number children k job its are hk es read e computed left =
    let is = child_at graph number children are k hk in
    let child : Child = get_or children k no_child in
    let parents : List ℕ = (vertex graph child.vertex).parents in
    let here : alone (vertex graph child.vertex) ≡ Compute = ap alone (sym (read_there graph seen child.vertex job is.numbered es read)) ∙ sym e ∙ computed in
    left child.vertex no_vertex is.numbered here (child.place, is.placed, get_or_default parents child.place number 0 is.placed ∙ is.of)

pub none_more : (graph seen : List Vertex) (number : ℕ) (children : List Child) (n : ℕ) (job : Vertex) (its : Mark) → AreAllOf graph number children → n < length children → seen ≡ graph → job ≡ get_or seen (get_or children n no_child).vertex job → its ≡ alone job → its ≢ Compute → NoneComputed graph children n → NoneComputed graph children (n + 1)
none_more graph seen number children n job its are hn es read e spare none k hk =
    let is = child_at graph number children are n hn in
    let child : Child = get_or children n no_child in
    let P : ℕ → Type 0 = λ k. alone (vertex graph (get_or children k no_child).vertex) ≢ Compute in
    ⊎_elim
    (λ lt. none k lt)
    (λ (eq : k ≡ n). subst P (sym eq) (λ computed. spare (e ∙ ap alone (read_there graph seen child.vertex job is.numbered es read) ∙ computed)))
    (below_or_last n k (omega arith))

-- a vertex of which some child is computed is loaded
pub loaded_mark : (graph : List Vertex) (i : ℕ) → (¬ IsLeft graph i) → IsMarkApart graph i Load
loaded_mark graph i some = record {
  loaded = λ j hj computed there. refl;
  others = λ none. absurd (some (λ j d hj.
      let P : Vertex → Type 0 = λ job. alone job ≡ Compute → ¬ Contains job.parents i in
      subst P (get_or_default graph j no_vertex d hj) (none j hj)));
}

-- one of which none is computed is marked as by itself
pub own_mark : (graph : List Vertex) (i : ℕ) (job : Vertex) (its : Mark) → job ≡ vertex graph i → its ≡ alone job → (its ≡ Load) ⊎ IsLeft graph i → IsMarkApart graph i its
own_mark graph i job its read e = ⊎_elim
    (λ load. record { loaded = λ j hj computed there. load; others = λ none. e ∙ ap alone read })
    (λ left. record {
      loaded = λ j hj computed there. absurd (left j no_vertex hj computed there);
      others = λ none. e ∙ ap alone read;
    })

-- one mark is set
set_at : (graph : List Vertex) (marks : List Mark) (i : ℕ) (its : Mark) → i < length marks → IsMarkApart graph i its → IsMarkApart graph i (mark (set marks i its) i)
set_at graph marks i its hi good = subst (IsMarkApart graph i) (sym (get_or-set_same marks i its Prune hi)) good

set_keeps : (graph : List Vertex) (marks : List Mark) (i : ℕ) (its : Mark) → i < length marks → IsMarkApart graph i its → (j : ℕ) → IsMarkApart graph j (mark marks j) → IsMarkApart graph j (mark (set marks i its) j)
set_keeps graph marks i its hi good j was =
    let P : ℕ → Type 0 = λ k. IsMarkApart graph k (mark (set marks i its) k) in
    ⊎_elim
    (λ eq. subst P (sym eq) (set_at graph marks i its hi good))
    (λ ne. subst (IsMarkApart graph j) (sym (get_or-set_other marks i j its Prune ne)) was)
    (cases_eq j i)

pub remarked_more : (graph : List Vertex) (old marks : List Mark) (numbers : List ℕ) (n i : ℕ) (its : Mark) → AreRemarked graph old marks numbers n → i ≡ get_or numbers n 0 → i < length marks → IsMarkApart graph i its → AreRemarked graph old (set marks i its) numbers (n + 1)
remarked_more graph old marks numbers n i its before e hi good =
    let P : ℕ → Type 0 = λ k. IsMarkApart graph k (mark (set marks i its) k) in
    record {
      count = length-set marks i its ∙ before.count;
      made = λ k hk. ⊎_elim
          (λ lt. set_keeps graph marks i its hi good (get_or numbers k 0) (before.made k lt))
          (λ (eq : k ≡ n). subst P (e ∙ ap (λ x. get_or numbers x 0) (sym eq)) (set_at graph marks i its hi good))
          (below_or_last n k (omega arith));
      stays = λ j was. set_keeps graph marks i its hi good j (before.stays j was);
    }

-- a vertex that was computed, and then its parents
pub remarked_all : (graph : List Vertex) (old new : List Mark) (number : ℕ) (its was : Mark) (parents : List ℕ) → number < length old → IsMarkApart graph number its → parents ≡ (vertex graph number).parents → AreRemarked graph (set old number its) new parents (length parents) → IsRemarked graph old new number was
remarked_all graph old new number its was parents hi good e after =
    let P : ℕ → Type 0 = λ k. IsMarkApart graph k (mark new k) in
    let Q : List ℕ → Type 0 = λ xs. AreRemarked graph (set old number its) new xs (length xs) in
    let all : AreRemarked graph (set old number its) new (vertex graph number).parents (length (vertex graph number).parents) = subst Q e after in
    record {
      count = all.count ∙ length-set old number its;
      made = inr (all.stays number (set_at graph old number its hi good));
      parents = λ computed i (there : Contains (vertex graph number).parents i).
          subst P (get_or_default (vertex graph number).parents there.0 0 i there.1 ∙ there.2) (all.made there.0 there.1);
      stays = λ i at. all.stays i (set_keeps graph old number its hi good i at);
    }

-- a vertex that was not computed
pub remarked_one : (graph : List Vertex) (old : List Mark) (number : ℕ) (its was : Mark) → number < length old → IsMarkApart graph number its → was ≢ Compute → IsRemarked graph old (set old number its) number was
remarked_one graph old number its was hi good ne = record {
  count = length-set old number its;
  made = inr (set_at graph old number its hi good);
  parents = λ computed. absurd (ne computed);
  stays = λ i at. set_keeps graph old number its hi good i at;
}

-- marks are those of vertices that stand apart where each is
pub all_have : (graph : List Vertex) (marks : List Mark) → IsGraph graph → length marks ≡ length graph → ((i : ℕ) → i < length graph → IsMarkApart graph i (mark marks i)) → AreMarkedApart graph marks (length graph)
all_have graph marks good count each = record {
  count = count;
  loaded = λ j hj computed i there.
      let below : i < j = All-contains (λ p. p < j) (vertex graph j).parents i (good j hj).below there in
      (each i (omega arith)).loaded j hj computed there;
  others = λ i hi none. (each i hi).others none;
}

pub each_has : (graph : List Vertex) (marks : List Mark) → AreMarkedApart graph marks (length graph) → (i : ℕ) → i < length graph → IsMarkApart graph i (mark marks i)
each_has graph marks marked i hi = record {
  loaded = λ j hj computed there. marked.loaded j hj computed i there;
  others = λ none. marked.others i hi none;
}
