-- Each group finds a folder, and all values have a plan of copies.
use Rattle.std.proofs.Common.{◌≡◌, ℕ, zero, suc, ◌+◌, ◌<◌, Bool, true, false, true≢false, List, [], ◌∷◌, ◌++◌, append-nil, map, ◌⊎◌, inl, inr, refl, sym, ap, subst, ◌∙◌, arith}
use Rattle.std.specs.Prelude.{Contains}
use Rattle.std.proofs.lemmas.List.{append_assoc}
use Rattle.std.proofs.lemmas.List.Elements.{Contains-append_right}
use Rattle.cwl_value.specs.declared.value.Value.{Value}
use Rattle.staging.specs.Groups.{groups_of_fields, fields_moved}
use Rattle.staging.specs.Placing.{is_taken, IsFolder, ArePlaced}
use Rattle.staging.specs.Plan.{AreMoves, IsPlan, folder_path, move_to}
use Rattle.staging.specs.inner.Folders.{NoneIs, IsAbove}
use Rattle.staging.specs.inner.Indexed.{same_members}
use Rattle.staging.specs.declared.group.Member.{Member}
use Rattle.staging.specs.declared.group.Placed.{Placed}
use Rattle.staging.specs.declared.plan.Move.{Move}
use Rattle.staging.specs.declared.plan.StagePlan.{StagePlan}
use Rattle.staging.proofs.Folders.{free_above, head_in, at_most}
use Rattle.staging.proofs.Numbered.{same_is, is_same, contains_cons, first_number, first_numbers}
use Rattle.staging.proofs.Together.{nothing_in, one_folder}

-- the lowest number that is free, where one is

abbrev Lowest : (ℕ → Bool) → Type 0
Lowest taken = (k : ℕ) × (taken k ≡ false) × ((j : ℕ) → j < k → taken j ≡ true)

search-on : (taken : ℕ → Bool) (left from top : ℕ) → top ≡ from + left → taken top ≡ false → ((j : ℕ) → j < from → taken j ≡ true) → Lowest taken
search-on taken zero from top is free below = (from, subst (λ (k : ℕ). taken k ≡ false) (omega (arith, is)) free, below)
search-on taken (suc left) from top is free below = by_test (search-on taken left (from + 1) top (omega (arith, is)) free) (taken from) refl where
  below_next : taken from ≡ true → (j : ℕ) → j < from + 1 → taken j ≡ true
  below_next here j less =
      elim (at_most j from (omega arith)) [
        | inl low ↦ below j low
        | inr same ↦ ap taken same ∙ here
      ]

  by_test : (((j : ℕ) → j < from + 1 → taken j ≡ true) → Lowest taken) → (b : Bool) → taken from ≡ b → Lowest taken
  by_test later true here = later (below_next here)
  by_test later false here = (from, here, below)

-- a number above all folders

abbrev top_of : List Placed → ℕ
top_of [] = 1
top_of (p ∷ ps) = p.folder + 1 + top_of ps

below_top : (placed : List Placed) → IsAbove placed (top_of placed) × (0 < top_of placed)
below_top [] = (λ p c. absurd (nothing_in p c), omega arith)
below_top (q ∷ qs) =
    let rest = below_top qs in
    let more : 0 < top_of qs = rest.1 in (
      λ p c. elim (contains_cons q qs p c) [
        | inl here ↦ let e : q.folder ≡ p.folder = ap (λ (r : Placed). r.folder) here in omega (arith, e, more)
        | inr there ↦ let low : p.folder < top_of qs = rest.0 p there in omega (arith, low)
      ],
      omega (arith, more),
    )

-- a group that is placed already, or not

abbrev Stands : List Placed → List Member → Type 0
Stands placed group = (p : Placed) × Contains placed p × (p.members ≡ group)

looked_up : (placed : List Placed) (group : List Member) → Stands placed group ⊎ NoneIs placed group
looked_up [] group = inr (λ p c. absurd (nothing_in p c))
looked_up (q ∷ qs) group = by_test (looked_up qs group) (same_members q.members group) refl where
  by_test : Stands qs group ⊎ NoneIs qs group → (b : Bool) → same_members q.members group ≡ b → Stands (q ∷ qs) group ⊎ NoneIs (q ∷ qs) group
  by_test rest true same = inl (q, head_in q qs, same_is q.members group same)
  by_test (inl there) false apart = inl (there.0, Contains-append_right (q ∷ []) qs there.0 there.1, there.2)
  by_test (inr none) false apart =
      inr (λ p c is. elim (contains_cons q qs p c) [
        | inl here ↦ true≢false (sym (is_same group) ∙ ap (λ ms. same_members ms group) (sym is ∙ ap (λ (r : Placed). r.members) (sym here)) ∙ apart)
        | inr there ↦ none p there is
      ])

pub group_folder : (holds_others : Bool) (placed : List Placed) (group : List Member) → (k : ℕ) × IsFolder holds_others placed group k
group_folder holds_others placed group = by (looked_up placed group) where
  by : Stands placed group ⊎ NoneIs placed group → (k : ℕ) × IsFolder holds_others placed group k
  by (inl there) =
      (there.0.folder, IsFolder.shared there.0.folder (subst (λ (ms : List Member). Contains placed (record { members = ms; folder = there.0.folder })) there.2 there.1))
  by (inr none) =
      let top = below_top placed in
      let k = search-on (is_taken holds_others placed group) (top_of placed) 0 (top_of placed) (omega arith) (free_above holds_others placed group (top_of placed) top.0 top.1) (λ j less. absurd (omega (arith, less))) in
      (k.0, IsFolder.lowest k.0 none k.1 k.2)

-- groups with their folders and copies

record Planned (holds_others : Bool) (path : ℕ → List ℕ) (groups : List (List Member)) : Type 0 where
  placed : List Placed
  are_placed : ArePlaced holds_others groups placed
  moves : List Move
  are_moves : AreMoves path placed moves

abbrev Copies : (ℕ → List ℕ) → List Placed → Type 0
Copies path placed = (moves : List Move) × AreMoves path placed moves

copies_more : (path : ℕ → List ℕ) (placed : List Placed) (moves : List Move) (p : Placed) → AreMoves path placed moves → Stands placed p.members ⊎ NoneIs placed p.members → Copies path (placed ++ p ∷ [])
copies_more path placed moves p before (inl there) = (moves, AreMoves.again placed moves p there.0 before there.1 there.2)
copies_more path placed moves p before (inr none) = (moves ++ map (move_to (path p.folder)) p.members, AreMoves.first placed moves p before none)

planned_more : (holds_others : Bool) (path : ℕ → List ℕ) (groups : List (List Member)) (group : List Member) → Planned holds_others path groups → Planned holds_others path (groups ++ group ∷ [])
planned_more holds_others path groups group before =
    let folder = group_folder holds_others before.placed group in
    let copies = copies_more path before.placed before.moves (record { members = group; folder = folder.0 }) before.are_moves (looked_up before.placed group) in
    record {
      placed = before.placed ++ record { members = group; folder = folder.0 } ∷ [];
      are_placed = ArePlaced.one_more groups before.placed group folder.0 before.are_placed folder.1;
      moves = copies.0;
      are_moves = copies.1;
    }

planned_on : (holds_others : Bool) (path : ℕ → List ℕ) (groups rest : List (List Member)) → Planned holds_others path groups → Planned holds_others path (groups ++ rest)
planned_on holds_others path groups [] before = subst (λ (gs : List (List Member)). Planned holds_others path gs) (sym (append-nil groups)) before
planned_on holds_others path groups (group ∷ rest) before =
    subst (λ (gs : List (List Member)). Planned holds_others path gs) (append_assoc groups (group ∷ []) rest)
    (planned_on holds_others path (groups ++ group ∷ []) rest (planned_more holds_others path groups group before))

planned : (holds_others : Bool) (path : ℕ → List ℕ) (groups : List (List Member)) → Planned holds_others path groups
planned holds_others path groups = planned_on holds_others path [] groups (record { placed = []; are_placed = ArePlaced.none; moves = []; are_moves = AreMoves.none })

pub value_plan : (holds_others : Bool) (dir : List ℕ) (values : List (List ℕ × Value)) → (plan : StagePlan) × IsPlan holds_others dir values plan
value_plan holds_others dir values =
    let all = planned holds_others (folder_path holds_others dir) (groups_of_fields values) in
    let number : List Member → ℕ = first_number all.placed in (
      record { moves = all.moves; value = fields_moved (λ group. folder_path holds_others dir (number group)) values },
      record {
        placed = all.placed;
        are_placed = all.are_placed;
        are_moves = all.are_moves;
        number = number;
        numbers = first_numbers all.placed (one_folder holds_others (groups_of_fields values) all.placed all.are_placed);
        value = refl;
      },
    )
