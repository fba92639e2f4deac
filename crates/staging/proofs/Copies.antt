-- Which copies a plan has, and that those of different sources go to different targets.
use Rattle.std.proofs.Common.{◌≡◌, ℕ, ◌+◌, ◌<◌, ◌^◌, Bool, true, false, true≢false, not, ◌==◌, ◌||◌, List, [], ◌∷◌, ◌++◌, map, length, length-append, append-nil, get_or, take, inl, inr, refl, sym, ap, subst, ◌∙◌, arith, eqb-true}
use Rattle.std.specs.Prelude.{Contains, decimal}
use Rattle.std.proofs.lemmas.Bool.Decides.{leb_tells}
use Rattle.std.proofs.lemmas.Fmt.{decimal_injective}
use Rattle.std.proofs.lemmas.List.{take_more}
use Rattle.std.proofs.lemmas.List.Elements.{Contains-append_left, Contains-append_right, Contains-append_cases, Contains-push_cases, Contains-push}
use Rattle.staging.specs.Groups.{path_in, groups_of_fields}
use Rattle.staging.specs.Placing.{IsFolder, ArePlaced}
use Rattle.staging.specs.Plan.{AreMoves, IsPlan, folder_path, move_to}
use Rattle.staging.specs.Laws.{AreNamed, has_slash}
use Rattle.staging.specs.inner.Folders.{IsAbove}
use Rattle.staging.specs.declared.group.Member.{Member}
use Rattle.staging.specs.declared.group.Placed.{Placed}
use Rattle.staging.specs.declared.plan.Move.{Move}
use Rattle.staging.specs.declared.plan.StagePlan.{StagePlan}
use Rattle.cwl_value.specs.declared.value.Value.{Value}
use Rattle.staging.proofs.Folders.{free_above, above_more}
use Rattle.staging.proofs.Numbered.{contains_cons}
use Rattle.staging.proofs.Together.{nothing_in, each_placed, sources_apart}

-- one more group

pub one_more : (placed : List Placed) (i : ℕ) (x : Placed) → i < length placed → x ≡ get_or placed i x → take (i + 1) placed ≡ take i placed ++ x ∷ []
one_more placed i x within is = take_more placed i x within ∙ ap (λ y. take i placed ++ y ∷ []) (sym is)

pub not_some : (some none : Bool) → some ≡ not none → none ≡ true → some ≡ false
not_some some none h is = h ∙ ap not is

-- where each copy comes from

contains-map : {X Y : Type 0} (f : X → Y) (xs : List X) (y : Y) → Contains (map f xs) y → (x : X) × Contains xs x × (f x ≡ y)
contains-map f [] y c = absurd (nothing_in y c)
contains-map f (x ∷ xs) y c =
    elim (contains_cons (f x) (map f xs) y c) [
      | inl here ↦ (x, (0, omega arith, refl), here)
      | inr later ↦ let rest = contains-map f xs y later in (rest.0, Contains-append_right (x ∷ []) xs rest.0 rest.1, rest.2)
    ]

map-contains : {X Y : Type 0} (f : X → Y) (xs : List X) (x : X) → Contains xs x → Contains (map f xs) (f x)
map-contains f [] x c = absurd (nothing_in x c)
map-contains f (y ∷ ys) x c =
    elim (contains_cons y ys x c) [
      | inl here ↦ (0, omega arith, ap f here)
      | inr later ↦ Contains-append_right (f y ∷ []) (map f ys) (f x) (map-contains f ys x later)
    ]

pub record IsCopy (path : ℕ → List ℕ) (placed : List Placed) (x : Move) : Type 0 where
  pub of : Placed
  pub there : Contains placed of
  pub member : Member
  pub in_it : Contains of.members member
  pub is : move_to (path of.folder) member ≡ x

further : (path : ℕ → List ℕ) (placed : List Placed) (p : Placed) (x : Move) → IsCopy path placed x → IsCopy path (placed ++ p ∷ []) x
further path placed p x c = record { of = c.of; there = Contains-append_left placed (p ∷ []) c.of c.there; member = c.member; in_it = c.in_it; is = c.is }

pub copies : (path : ℕ → List ℕ) (placed : List Placed) (moves : List Move) → AreMoves path placed moves → (x : Move) → Contains moves x → IsCopy path placed x
copies path placed moves AreMoves.none x c = absurd (nothing_in x c)
copies path placed moves (AreMoves.first ps ms p before apart) x c =
    elim (Contains-append_cases ms (map (move_to (path p.folder)) p.members) x c) [
      | inl old ↦ further path ps p x (copies path ps ms before x old)
      | inr new ↦
          let one = contains-map (move_to (path p.folder)) p.members x new in
          record { of = p; there = Contains-push ps p; member = one.0; in_it = one.1; is = one.2 }
    ]
copies path placed moves (AreMoves.again ps ms p q before in_q same) x c = further path ps p x (copies path ps ms before x c)

-- the last slash parts a path

any-there : (a : List ℕ) (m : List ℕ) → has_slash (a ++ 47 ∷ m) ≡ true
any-there [] m = refl
any-there (c ∷ a) m = or-true (c == 47) (has_slash (a ++ 47 ∷ m)) (any-there a m) where
  or-true : (x y : Bool) → y ≡ true → (x || y) ≡ true
  or-true true y h = refl
  or-true false y h = h

pub parted : (a b n m : List ℕ) → path_in a n ≡ path_in b m → has_slash n ≡ false → has_slash m ≡ false → (a ≡ b) × (n ≡ m)
parted [] [] n m is p q = (refl, let e : n ≡ m = cc in e)
parted [] (d ∷ b) n m is p q = let e : n ≡ b ++ 47 ∷ m = cc in absurd (true≢false (sym (any-there b m) ∙ ap has_slash (sym e) ∙ p))
parted (c ∷ a) [] n m is p q = let e : a ++ 47 ∷ n ≡ m = cc in absurd (true≢false (sym (any-there a n) ∙ ap has_slash e ∙ q))
parted (c ∷ a) (d ∷ b) n m is p q =
    let tails : path_in a n ≡ path_in b m = cc in
    let heads : c ≡ d = cc in
    let rest = parted a b n m tails p q in
    (ap (λ x. x ∷ a) heads ∙ ap (λ xs. d ∷ xs) rest.0, rest.1)

cancel : (a x y : List ℕ) → a ++ x ≡ a ++ y → x ≡ y
cancel [] x y is = is
cancel (c ∷ a) x y is = let e : a ++ x ≡ a ++ y = cc in cancel a x y e

under : (dir xs ys : List ℕ) → path_in dir xs ≡ path_in dir ys → xs ≡ ys
under dir xs ys is = let e : 47 ∷ xs ≡ 47 ∷ ys = cancel dir (47 ∷ xs) (47 ∷ ys) is in cc

not_itself : (dir xs : List ℕ) → dir ≡ path_in dir xs → ⊥
not_itself dir xs is = let e : [] ≡ 47 ∷ xs = cancel dir [] (47 ∷ xs) (append-nil dir ∙ is) in cc

-- different numbers are different folders
pub folders_apart : (holds_others : Bool) (dir : List ℕ) (k j : ℕ) → k < 2 ^ 64 → j < 2 ^ 64 → folder_path holds_others dir k ≡ folder_path holds_others dir j → k ≡ j
folders_apart false dir k j p q is = decimal_injective k j p q (under dir (decimal k) (decimal j) is)
folders_apart true dir k j p q is = by_test (k == 0) (j == 0) refl refl where
  by_test : (x y : Bool) → (k == 0) ≡ x → (j == 0) ≡ y → k ≡ j
  by_test true true a b = eqb-true k 0 a ∙ sym (eqb-true j 0 b)
  by_test true false a b = absurd (not_itself dir (95 ∷ decimal j) (rw (a, b) at is))
  by_test false true a b = absurd (not_itself dir (95 ∷ decimal k) (sym (rw (a, b) at is)))
  by_test false false a b =
      let named : 95 ∷ decimal k ≡ 95 ∷ decimal j = under dir (95 ∷ decimal k) (95 ∷ decimal j) (rw (a, b) at is) in
      let texts : decimal k ≡ decimal j = cc in
      decimal_injective k j p q texts

-- no folder has a greater number than there are groups

near : (holds_others : Bool) (placed : List Placed) (group : List Member) (k : ℕ) → IsFolder holds_others placed group k → IsAbove placed (length placed + 1) → k < length placed + 2
near holds_others placed group k (IsFolder.shared j there) above = let low : j < length placed + 1 = above (record { members = group; folder = j }) there in omega arith
near holds_others placed group k (IsFolder.lowest j apart free below) above =
    elim (leb_tells (length placed + 2) j) [
      | inl high ↦
          let less : length placed + 1 < j = omega (arith, high.1) in
          absurd (true≢false (sym (below (length placed + 1) less) ∙ free_above holds_others placed group (length placed + 1) above (omega arith)))
      | inr low ↦ low.1
    ]

pub above_all : (holds_others : Bool) (groups : List (List Member)) (placed : List Placed) → ArePlaced holds_others groups placed → IsAbove placed (length placed + 1) × (length placed ≡ length groups)
above_all holds_others groups placed ArePlaced.none = (λ p c. absurd (nothing_in p c), refl)
above_all holds_others groups placed (ArePlaced.one_more gs ps group k before folder) =
    let earlier = above_all holds_others gs ps before in
    let low : k < length ps + 2 = near holds_others ps group k folder earlier.0 in
    let longer : length (ps ++ record { members = group; folder = k } ∷ []) ≡ length ps + 1 = length-append ps (record { members = group; folder = k } ∷ []) in
    let also : length (gs ++ group ∷ []) ≡ length gs + 1 = length-append gs (group ∷ []) in
    (above_more ps (record { members = group; folder = k }) earlier.0 (omega arith), longer ∙ ap (λ n. n + 1) earlier.1 ∙ sym also)

-- copies of different sources have different targets
pub targets_apart : (holds_others : Bool) (dir : List ℕ) (values : List (List ℕ × Value)) (plan : StagePlan) → IsPlan holds_others dir values plan → length (groups_of_fields values) < 2 ^ 63
    → ((group : List Member) → Contains (groups_of_fields values) group → AreNamed group) → (x y : Move) → Contains plan.moves x → Contains plan.moves y → x.target ≡ y.target → x.source ≡ y.source
targets_apart holds_others dir values plan is few named x y in_x in_y same =
    let path = folder_path holds_others dir in
    let one = copies path is.placed plan.moves is.are_moves x in_x in
    let other = copies path is.placed plan.moves is.are_moves y in_y in
    let bound = above_all holds_others (groups_of_fields values) is.placed is.are_placed in
    let one_low : one.of.folder < length is.placed + 1 = bound.0 one.of one.there in
    let other_low : other.of.folder < length is.placed + 1 = bound.0 other.of other.there in
    let count : length is.placed ≡ length (groups_of_fields values) = bound.1 in
    let members = each_placed holds_others (groups_of_fields values) is.placed is.are_placed in
    let is_named : (p : Placed) → Contains is.placed p → AreNamed p.members =
    λ p in_p. named p.members (subst (λ (l : List (List Member)). Contains l p.members) members (map-contains (λ (q : Placed). q.members) is.placed p in_p))
    in
    let paths : path_in (path one.of.folder) one.member.name ≡ path_in (path other.of.folder) other.member.name = ap (λ (m : Move). m.target) one.is ∙ same ∙ sym (ap (λ (m : Move). m.target) other.is) in
    let parts = parted (path one.of.folder) (path other.of.folder) one.member.name other.member.name paths ((is_named one.of one.there).plain one.member one.in_it) ((is_named other.of other.there).plain other.member other.in_it) in
    let folder : one.of.folder ≡ other.of.folder = folders_apart holds_others dir one.of.folder other.of.folder (omega arith) (omega arith) parts.0 in
    sym (ap (λ (m : Move). m.source) one.is)
    ∙ sources_apart holds_others (groups_of_fields values) is.placed is.are_placed (λ p in_p. (is_named p in_p).differ) one.of other.of one.member other.member (record { placed_there = one.there; member = one.in_it }) (record { placed_there = other.there; member = other.in_it }) folder parts.1
    ∙ ap (λ (m : Move). m.source) other.is

-- each file of a group is copied

pub record IsCopied (path : ℕ → List ℕ) (placed : List Placed) (moves : List Move) (members : List Member) : Type 0 where
  pub at : Placed
  pub there : Contains placed at
  pub same : at.members ≡ members
  pub each : (m : Member) → Contains at.members m → Contains moves (move_to (path at.folder) m)

still : (path : ℕ → List ℕ) (placed : List Placed) (moves more : List Move) (p : Placed) (members : List Member) → IsCopied path placed moves members → IsCopied path (placed ++ p ∷ []) (moves ++ more) members
still path placed moves more p members c = record {
  at = c.at;
  there = Contains-append_left placed (p ∷ []) c.at c.there;
  same = c.same;
  each = λ m in_m. Contains-append_left moves more (move_to (path c.at.folder) m) (c.each m in_m);
}

pub all_copied : (path : ℕ → List ℕ) (placed : List Placed) (moves : List Move) → AreMoves path placed moves → (p : Placed) → Contains placed p → IsCopied path placed moves p.members
all_copied path placed moves AreMoves.none p c = absurd (nothing_in p c)
all_copied path placed moves (AreMoves.first ps ms q before apart) p c =
    elim (Contains-push_cases ps q p c) [
      | inl old ↦ still path ps ms (map (move_to (path q.folder)) q.members) q p.members (all_copied path ps ms before p old)
      | inr new ↦ record {
        at = q;
        there = Contains-push ps q;
        same = ap (λ (r : Placed). r.members) new;
        each = λ m in_m. Contains-append_right ms (map (move_to (path q.folder)) q.members) (move_to (path q.folder) m) (map-contains (move_to (path q.folder)) q.members m in_m);
      }
    ]
all_copied path placed moves (AreMoves.again ps ms q r before in_r same) p c =
    let longer : (members : List Member) → IsCopied path ps ms members → IsCopied path (ps ++ q ∷ []) ms members =
    λ members d. record { at = d.at; there = Contains-append_left ps (q ∷ []) d.at d.there; same = d.same; each = d.each }
    in
    elim (Contains-push_cases ps q p c) [
      | inl old ↦ longer p.members (all_copied path ps ms before p old)
      | inr new ↦ subst (λ (members : List Member). IsCopied path (ps ++ q ∷ []) ms members) (same ∙ ap (λ (s : Placed). s.members) new) (longer r.members (all_copied path ps ms before r in_r))
    ]

pub each_copied : (holds_others : Bool) (dir : List ℕ) (values : List (List ℕ × Value)) (plan : StagePlan) (is : IsPlan holds_others dir values plan) (group : List Member) (m : Member) → Contains (groups_of_fields values) group → Contains group m
    → Contains plan.moves (move_to (folder_path holds_others dir (is.number group)) m)
each_copied holds_others dir values plan is group m in_groups in_group =
    let path = folder_path holds_others dir in
    let members = each_placed holds_others (groups_of_fields values) is.placed is.are_placed in
    let found = contains-map (λ (p : Placed). p.members) is.placed group (subst (λ (l : List (List Member)). Contains l group) (sym members) in_groups) in
    let copied = all_copied path is.placed plan.moves is.are_moves found.0 found.1 in
    let same : copied.at.members ≡ group = copied.same ∙ found.2 in
    let number : copied.at.folder ≡ is.number group = sym (is.numbers copied.at copied.there) ∙ ap is.number same in
    subst (λ (k : ℕ). Contains plan.moves (move_to (path k) m)) number (copied.each m (subst (λ (g : List Member). Contains g m) (sym same) in_group))
