-- The folders of groups, looked up.
use Rattle.std.proofs.Common.{◌≡◌, ℕ, Bool, true, false, true≢false, ◌&&◌, List, [], ◌∷◌, ◌⊎◌, inl, inr, refl, sym, ap, ◌∙◌, arith}
use Rattle.std.specs.Prelude.{Contains, bytes_eq, option_map, unwrap_or}
use Rattle.std.proofs.lemmas.List.Elements.{Contains-append_right, Contains-append_cases, Contains-push_cases}
use Rattle.std.proofs.lemmas.Slice.Eq.{bytes_eq-Decides}
use Rattle.staging.specs.declared.group.Member.{Member}
use Rattle.staging.specs.declared.group.Placed.{Placed}
use Rattle.staging.specs.declared.index.FolderIndex.{FolderIndex}
use Rattle.staging.specs.inner.Indexed.{IsIndex, same_members, place_in, number_in}
use Rattle.staging.proofs.Greedy.{both, both_first, both_second}
use Rattle.staging.proofs.Together.{nothing_in}

-- groups that are the same

pub same_is : (ms ns : List Member) → same_members ms ns ≡ true → ms ≡ ns
same_is [] [] h = refl
same_is [] (n ∷ ns) h = absurd (true≢false (sym h))
same_is (m ∷ ms) [] h = absurd (true≢false (sym h))
same_is (m ∷ ms) (n ∷ ns) h =
    let rest = both_second (bytes_eq m.name n.name) (bytes_eq m.source n.source && same_members ms ns) h in
    let name : m.name ≡ n.name = (bytes_eq-Decides m.name n.name).0 (both_first (bytes_eq m.name n.name) (bytes_eq m.source n.source && same_members ms ns) h) in
    let source : m.source ≡ n.source = (bytes_eq-Decides m.source n.source).0 (both_first (bytes_eq m.source n.source) (same_members ms ns) rest) in
    let others : ms ≡ ns = same_is ms ns (both_second (bytes_eq m.source n.source) (same_members ms ns) rest) in
    let made : List ℕ → List ℕ → Member = λ source name. record { source = source; name = name } in
    let one : m ≡ n = ap (λ s. made s m.name) source ∙ ap (λ t. made n.source t) name in
    ap (λ x. x ∷ ms) one ∙ ap (λ xs. n ∷ xs) others

pub is_same : (ms : List Member) → same_members ms ms ≡ true
is_same [] = refl
is_same (m ∷ ms) =
    both (bytes_eq m.name m.name) (bytes_eq m.source m.source && same_members ms ms) ((bytes_eq-Decides m.name m.name).1 refl)
    (both (bytes_eq m.source m.source) (same_members ms ms) ((bytes_eq-Decides m.source m.source).1 refl) (is_same ms))

pub not_same : (ms ns : List Member) → (ms ≡ ns → ⊥) → same_members ms ns ≡ false
not_same ms ns apart = by_test (same_members ms ns) refl where
  by_test : (b : Bool) → same_members ms ns ≡ b → same_members ms ns ≡ false
  by_test true h = absurd (apart (same_is ms ns h))
  by_test false h = h

pub contains_cons : {X : Type 0} (x : X) (xs : List X) (y : X) → Contains (x ∷ xs) y → (x ≡ y) ⊎ Contains xs y
contains_cons x xs y c =
    elim (Contains-append_cases (x ∷ []) xs y c) [
      | inl here ↦ elim (Contains-push_cases [] x y here) [ inl nowhere ↦ absurd (nothing_in y nowhere) | inr same ↦ inl same ]
      | inr later ↦ inr later
    ]

-- each placed group's number is its folder's, where groups that are the same share one

abbrev pub first_number : List Placed → List Member → ℕ
first_number placed group = unwrap_or (option_map (λ (p : Placed). p.folder) (place_in placed group)) 0

pub first_numbers : (placed : List Placed) → ((p q : Placed) → Contains placed p → Contains placed q → p.members ≡ q.members → p.folder ≡ q.folder) → (p : Placed) → Contains placed p → first_number placed p.members ≡ p.folder
first_numbers [] one p in_p = absurd (nothing_in p in_p)
first_numbers (q ∷ qs) one p in_p = by_test (first_numbers qs (λ r s in_r in_s. one r s (Contains-append_right (q ∷ []) qs r in_r) (Contains-append_right (q ∷ []) qs s in_s)) p) (same_members q.members p.members) refl where
  later : same_members q.members p.members ≡ false → Contains qs p
  later apart =
      elim (contains_cons q qs p in_p) [
        | inl same ↦ absurd (true≢false (sym (is_same p.members) ∙ ap (λ (r : Placed). same_members r.members p.members) (sym same) ∙ apart))
        | inr there ↦ there
      ]

  by_test : (Contains qs p → first_number qs p.members ≡ p.folder) → (b : Bool) → same_members q.members p.members ≡ b → first_number (q ∷ qs) p.members ≡ p.folder
  by_test rest true same = rw same (one q p (0, omega arith, refl) in_p (same_is q.members p.members same))
  by_test rest false apart = rw apart (rest (later apart))

pub numbers : (index : FolderIndex) (placed : List Placed) → IsIndex index placed → ((p q : Placed) → Contains placed p → Contains placed q → p.members ≡ q.members → p.folder ≡ q.folder) → (p : Placed) → Contains placed p → number_in index p.members ≡ p.folder
numbers index placed is one p in_p = ap (λ o. unwrap_or o 0) (is p.members) ∙ first_numbers placed one p in_p
