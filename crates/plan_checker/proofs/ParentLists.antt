use Rattle.std.proofs.Common.{◌≡◌, ◌≢◌, ◌↔◌, ℕ, ◌<◌, List, [], length, get_or, All, Contains, Option, None, Some, sym, ap, subst, ◌∙◌, ⊎_elim, arith}
use Rattle.std.specs.List.Sorted.{IsStrictlyIncreasing}
use Rattle.std.proofs.lemmas.List.{get_or_default, get_or_read}
use Rattle.std.proofs.lemmas.List.Elements.{All-same, All-contains}
use Rattle.std.proofs.lemmas.List.Kept.{AllPairs-from_increasing}
use Rattle.std.proofs.lemmas.Bool.{cases_lt}
use Rattle.plan_checker.specs.declared.vertex.Vertex.{Vertex}
use Rattle.plan_checker.specs.declared.child.Child.{Child}
use Rattle.plan_checker.specs.declared.charges.Charges.{Charges}
use Rattle.plan_checker.specs.declared.claim.Claim.{Claim}
use Rattle.plan_checker.specs.declared.plan.Mark.TheVariants.{Compute, Prune}
use Rattle.plan_checker.specs.declared.broken.Broken.TheVariants.{ParentPruned}
use Rattle.plan_checker.specs.Graph.{IsChild, vertex, FitsAt}
use Rattle.plan_checker.specs.Plan.{mark}
use Rattle.plan_checker.specs.Charges.{passes, IsCounted}
use Rattle.plan_checker.specs.inner.Children.{AreChildren}
use Rattle.plan_checker.specs.inner.Claim.{graph_of, marks_of, IsBroken, SettlesParents, IsFirstPruned}

-- a child that is kept for some vertex is among the vertices, and its pass among its passes
pub child_is_there : (inside graph : List Vertex) (children : List (List Child)) (charges : Charges) (p k : ℕ) (row list : List Child) (d : Child) → inside ≡ graph → IsCounted graph charges → AreChildren inside children → p < length graph → row ≡ get_or children p row → list ≡ row → k < length list → ((get_or list k d).vertex < length charges.pass) × ((get_or list k d).place < length (passes charges (get_or list k d).vertex))
child_is_there inside graph children charges p k row list d same counted kept below is row_is here =
    let P : List Vertex → Type 0 = λ g. AreChildren g children in
    let all = subst P same kept in
    let count = all.one_each in
    let e : list ≡ get_or children p [] = row_is ∙ get_or_read children p row (omega arith) is [] in
    let there = All-same (IsChild graph p) list (get_or children p []) e (all.there p) k d here in
    let passing = counted.passing in
    let each = counted.each_pass (get_or list k d).vertex there.numbered in
    let place = there.placed in
    let number = there.numbered in
    (omega arith, omega arith)

-- what is kept for a vertex are its children
pub children_are : (inside graph : List Vertex) (children : List (List Child)) (p : ℕ) (row list : List Child) → inside ≡ graph → AreChildren inside children → p < length graph → row ≡ get_or children p row → list ≡ row → (child : Child) → Contains list child ↔ IsChild graph p child
children_are inside graph children p row list same kept below is row_is child =
    let P : List Vertex → Type 0 = λ g. AreChildren g children in
    let all = subst P same kept in
    let count = all.one_each in
    let e : list ≡ get_or children p [] = row_is ∙ get_or_read children p row (omega arith) is [] in
    let Has : List Child → Type 0 = λ xs. Contains xs child in
    let At : ℕ → Type 0 = λ q. Contains (get_or children q []) child in (
      (λ inside. All-contains (IsChild graph p) (get_or children p []) child (all.there p) (subst Has e inside)),
      (λ is. subst Has (sym e) (subst At is.of (all.listed child.vertex child.place is.numbered is.placed))),
    )

-- numbers that rise: a lower one stands earlier
earlier : (xs : List ℕ) (j k : ℕ) → IsStrictlyIncreasing xs → j < length xs → k < length xs → get_or xs j 0 < get_or xs k 0 → j < k
earlier xs j k rising hj hk lt =
    ⊎_elim
    (λ less. less)
    (λ le. ⊎_elim
    (λ above. let more = AllPairs-from_increasing xs rising k j 0 above hj in absurd (omega arith))
    (λ below. let e : j ≡ k = omega arith in let at = ap (λ i. get_or xs i 0) e in absurd (omega arith))
    (cases_lt k j))
    (cases_lt j k)

-- where no parent of a computed vertex is pruned, or this is the first, the rule is looked at there
pub parents_settled : (claim : Claim) (i : ℕ) (parents : List ℕ) (found : Option ℕ) → i < length (graph_of claim) → parents ≡ (vertex (graph_of claim) i).parents → FitsAt (graph_of claim) i → mark (marks_of claim) i ≡ Compute → IsFirstPruned claim parents found → SettlesParents claim i found
parents_settled claim i parents None there same fits computed none =
    λ parent broken. none_pruned (All-same (λ p. mark (marks_of claim) p ≢ Prune) (vertex (graph_of claim) i).parents parents (sym same) none) parent broken
  where
    none_pruned : All (λ p. mark (marks_of claim) p ≢ Prune) (vertex (graph_of claim) i).parents → (parent : ℕ) → IsBroken claim (ParentPruned i parent) → ⊥
    none_pruned kept parent broken = All-contains (λ p. mark (marks_of claim) p ≢ Prune) (vertex (graph_of claim) i).parents parent kept broken.1 broken.3
parents_settled claim i parents (Some parent) there same fits computed (k, below, at, pruned, before) =
    let count = ap length same in
    let here : get_or (vertex (graph_of claim) i).parents k parent ≡ parent =
    get_or_default (vertex (graph_of claim) i).parents k parent 0 (omega arith) ∙ ap (λ xs. get_or xs k 0) (sym same) ∙ at
    in
    ((there, (k, omega arith, here), computed, pruned), λ other broken lower. no_lower other broken.1 broken.3 lower)
  where
    no_lower : (other : ℕ) → Contains (vertex (graph_of claim) i).parents other → mark (marks_of claim) other ≡ Prune → other < parent → ⊥
    no_lower other (j, hj, is) gone lower =
        let count = ap length same in
        let value : get_or parents j 0 ≡ other = ap (λ xs. get_or xs j 0) same ∙ get_or_default (vertex (graph_of claim) i).parents j 0 other hj ∙ is in
        let P : List ℕ → Type 0 = IsStrictlyIncreasing in
        let rising = subst P (sym same) fits.rising in
        let sooner = earlier parents j k rising (omega arith) below (omega arith) in
        before j sooner (ap (mark (marks_of claim)) value ∙ gone)
