-- Placed groups: no name of one folder belongs to two of them.
use Rattle.std.proofs.Common.{◌≡◌, ℕ, Bool, true, false, true≢false, ◌&&◌, ◌||◌, ◌==◌, List, [], ◌∷◌, ◌++◌, inl, inr, refl, sym, ap, subst, ◌∙◌, arith, eq-eqb}
use Rattle.std.specs.Prelude.{Contains, bytes_eq, map}
use Rattle.std.specs.List.{list_any}
use Rattle.std.proofs.lemmas.List.Elements.{Contains-push_cases}
use Rattle.std.proofs.lemmas.List.{map-append}
use Rattle.std.proofs.lemmas.List.Folds.{list_any_at}
use Rattle.std.proofs.lemmas.Slice.Eq.{bytes_eq-Decides}
use Rattle.staging.specs.Laws.{NamesDiffer, StandsIn}
use Rattle.staging.specs.Placing.{share_a_name, has_reserved, is_in_the_way, IsFolder, ArePlaced}
use Rattle.staging.specs.declared.group.Member.{Member}
use Rattle.staging.specs.declared.group.Placed.{Placed}
use Rattle.staging.proofs.Greedy.{both}

pub any_of : {X : Type 0} (p : X → Bool) (xs : List X) (x : X) → Contains xs x → p x ≡ true → list_any p xs ≡ true
any_of p xs x c h = list_any_at p xs c.0 x c.1 (ap p c.2 ∙ h)

pub nothing_in : {X : Type 0} (x : X) → Contains [] x → ⊥
nothing_in x c = omega (arith, c.1)

-- files of two groups with one name
abbrev OneName : List Member → List Member → Type 0
OneName group other = (m : Member) × (n : Member) × Contains group m × Contains other n × (m.name ≡ n.name)

turned : (group other : List Member) → OneName group other → OneName other group
turned group other h = (h.1, h.0, h.3, h.2, sym h.4)

shared-name : (group other : List Member) → OneName group other → share_a_name group other ≡ true
shared-name group other h =
    any_of (λ m. list_any (λ n. bytes_eq m.name n.name) other) group h.0 h.2 (any_of (λ n. bytes_eq h.0.name n.name) other h.1 h.3 ((bytes_eq-Decides h.0.name h.1.name).1 h.4))

either_false : (a b : Bool) → (a || b) ≡ false → a ≡ true → ⊥
either_false true b h k = true≢false h
either_false false b h k = true≢false (sym k)

abbrev Apart : List Placed → Type 0
Apart placed = (p q : Placed) → Contains placed p → Contains placed q → p.folder ≡ q.folder → OneName p.members q.members → p.members ≡ q.members

with_new : (holds_others : Bool) (placed : List Placed) (group : List Member) (k : ℕ) → IsFolder holds_others placed group k → Apart placed → (old : Placed) → Contains placed old → old.folder ≡ k → OneName group old.members → group ≡ old.members
with_new holds_others placed group k (IsFolder.shared j there) apart old in_old same h = apart (record { members = group; folder = j }) old there in_old (sym same) h
with_new holds_others placed group k (IsFolder.lowest j none free below) apart old in_old same h =
    absurd (either_false (list_any (is_in_the_way group j) placed) (holds_others && (j == 0 && has_reserved group)) free
    (any_of (is_in_the_way group j) placed old in_old (both (old.folder == j) (share_a_name group old.members) (eq-eqb old.folder j same) (shared-name group old.members h))))

newer : (holds_others : Bool) (placed : List Placed) (group : List Member) (k : ℕ) → IsFolder holds_others placed group k → Apart placed → (old new : Placed) → Contains placed old → record { members = group; folder = k } ≡ new
    → old.folder ≡ new.folder → OneName old.members new.members → old.members ≡ new.members
newer holds_others placed group k folder apart old new in_old is same h =
    let there : OneName old.members group = subst (λ (x : Placed). OneName old.members x.members) (sym is) h in
    sym (with_new holds_others placed group k folder apart old in_old (same ∙ sym (ap (λ (x : Placed). x.folder) is)) (turned old.members group there)) ∙ ap (λ (x : Placed). x.members) is

pub one_group : (holds_others : Bool) (groups : List (List Member)) (placed : List Placed) → ArePlaced holds_others groups placed → Apart placed
one_group holds_others groups placed ArePlaced.none p q in_p in_q same h = absurd (nothing_in p in_p)
one_group holds_others groups placed (ArePlaced.one_more gs ps group k before folder) p q in_p in_q same h =
    elim (Contains-push_cases ps (record { members = group; folder = k }) p in_p) [
      | inl old_p ↦
          elim (Contains-push_cases ps (record { members = group; folder = k }) q in_q) [
            | inl old_q ↦ one_group holds_others gs ps before p q old_p old_q same h
            | inr new_q ↦ newer holds_others ps group k folder (one_group holds_others gs ps before) p q old_p new_q same h
          ]
      | inr new_p ↦
          elim (Contains-push_cases ps (record { members = group; folder = k }) q in_q) [
            | inl old_q ↦ sym (newer holds_others ps group k folder (one_group holds_others gs ps before) q p old_q new_p (sym same) (turned p.members q.members h))
            | inr new_q ↦ ap (λ (r : Placed). r.members) (sym new_p ∙ new_q)
          ]
    ]

pub sources_apart : (holds_others : Bool) (groups : List (List Member)) (placed : List Placed) → ArePlaced holds_others groups placed → ((p : Placed) → Contains placed p → NamesDiffer p.members)
    → (p q : Placed) (m n : Member) → StandsIn placed p m → StandsIn placed q n → p.folder ≡ q.folder → m.name ≡ n.name → m.source ≡ n.source
sources_apart holds_others groups placed are differ p q m n one other same name =
    let together : p.members ≡ q.members = one_group holds_others groups placed are p q one.placed_there other.placed_there same (m, n, one.member, other.member, name) in
    let there : Contains p.members n = subst (λ (ms : List Member). Contains ms n) (sym together) other.member in
    ap (λ (x : Member). x.source) (differ p one.placed_there m n one.member there name)

pub each_placed : (holds_others : Bool) (groups : List (List Member)) (placed : List Placed) → ArePlaced holds_others groups placed → map (λ (p : Placed). p.members) placed ≡ groups
each_placed holds_others groups placed ArePlaced.none = refl
each_placed holds_others groups placed (ArePlaced.one_more gs ps group k before folder) =
    map-append (λ (p : Placed). p.members) ps (record { members = group; folder = k } ∷ []) ∙ ap (λ x. x ++ group ∷ []) (each_placed holds_others gs ps before)

abbrev OneFolder : List Placed → Type 0
OneFolder placed = (p q : Placed) → Contains placed p → Contains placed q → p.members ≡ q.members → p.folder ≡ q.folder

same_as_new : (holds_others : Bool) (placed : List Placed) (group : List Member) (k : ℕ) → IsFolder holds_others placed group k → OneFolder placed → (old : Placed) → Contains placed old → old.members ≡ group → old.folder ≡ k
same_as_new holds_others placed group k (IsFolder.shared j there) one old in_old same = one old (record { members = group; folder = j }) in_old there same
same_as_new holds_others placed group k (IsFolder.lowest j none free below) one old in_old same = absurd (none old in_old same)

pub one_folder : (holds_others : Bool) (groups : List (List Member)) (placed : List Placed) → ArePlaced holds_others groups placed → OneFolder placed
one_folder holds_others groups placed ArePlaced.none p q in_p in_q same = absurd (nothing_in p in_p)
one_folder holds_others groups placed (ArePlaced.one_more gs ps group k before folder) p q in_p in_q same =
    let earlier : OneFolder ps = one_folder holds_others gs ps before in
    elim (Contains-push_cases ps (record { members = group; folder = k }) p in_p) [
      | inl old_p ↦
          elim (Contains-push_cases ps (record { members = group; folder = k }) q in_q) [
            | inl old_q ↦ earlier p q old_p old_q same
            | inr new_q ↦ same_as_new holds_others ps group k folder earlier p old_p (same ∙ sym (ap (λ (r : Placed). r.members) new_q)) ∙ ap (λ (r : Placed). r.folder) new_q
          ]
      | inr new_p ↦
          elim (Contains-push_cases ps (record { members = group; folder = k }) q in_q) [
            | inl old_q ↦ sym (same_as_new holds_others ps group k folder earlier q old_q (sym same ∙ sym (ap (λ (r : Placed). r.members) new_p)) ∙ ap (λ (r : Placed). r.folder) new_p)
            | inr new_q ↦ ap (λ (r : Placed). r.folder) (sym new_p ∙ new_q)
          ]
    ]
