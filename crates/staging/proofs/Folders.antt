-- Which folder is free, found.
use Rattle.std.proofs.Common.{◌≡◌, ℕ, ◌+◌, ◌<◌, ◌≤◌, Bool, true, false, ◌&&◌, ◌==◌, List, [], ◌∷◌, ◌++◌, length, length-append, Result, Ok, Err, IfOk, ◌⊎◌, inl, inr, refl, sym, ap, subst, arith, ne_eqb}
use Rattle.std.specs.Prelude.{Contains}
use Rattle.std.specs.List.{list_any}
use Rattle.std.specs.declared.alloc.AllocError.{AllocError}
use Rattle.std.proofs.lemmas.Bool.Decides.{eqb_tells}
use Rattle.std.proofs.lemmas.List.Elements.{Contains-push_cases, Contains-append_right}
use Rattle.staging.specs.Placing.{has_reserved, is_in_the_way, is_taken, IsFolder, ArePlaced}
use Rattle.staging.specs.inner.Folders.{NoneIs, IsAbove, IsLowest}
use Rattle.staging.specs.declared.group.Member.{Member}
use Rattle.staging.specs.declared.group.Placed.{Placed}
use Rattle.staging.proofs.Together.{nothing_in}

-- above all that hold something

pub head_in : (p : Placed) (ps : List Placed) → Contains (p ∷ ps) p
head_in p ps = (0, omega arith, refl)

above_free : (group : List Member) (placed : List Placed) (top : ℕ) → IsAbove placed top → list_any (is_in_the_way group top) placed ≡ false
above_free group [] top h = refl
above_free group (p ∷ ps) top h =
    let here : p.folder < top = h p (head_in p ps) in
    let apart : (p.folder == top) ≡ false = ne_eqb p.folder top (λ e. omega arith) in
    rw apart (above_free group ps top (λ q c. h q (Contains-append_right (p ∷ []) ps q c)))

and-false : (a b : Bool) → b ≡ false → (a && b) ≡ false
and-false true b h = h
and-false false b h = refl

pub free_above : (holds_others : Bool) (placed : List Placed) (group : List Member) (top : ℕ) → IsAbove placed top → 0 < top → is_taken holds_others placed group top ≡ false
free_above holds_others placed group top h some =
    let zero_apart : (top == 0) ≡ false = ne_eqb top 0 (λ e. omega arith) in
    rw (above_free group placed top h) (and-false holds_others (top == 0 && has_reserved group) (rw zero_apart refl))

pub at_most : (a b : ℕ) → a ≤ b → (a < b) ⊎ (a ≡ b)
at_most a b h = elim (eqb_tells a b) [ inl p ↦ inr p.1 | inr p ↦ inl (omega (arith, p.1)) ]

pub if_lowest : (holds_others : Bool) (placed : List Placed) (group : List Member) (r : Result ℕ AllocError) → NoneIs placed group → IfOk r (IsLowest holds_others placed group) → IfOk r (IsFolder holds_others placed group)
if_lowest holds_others placed group (Ok k) none h = IsFolder.lowest k none h.0 h.1
if_lowest holds_others placed group (Err e) none h = tt

-- one group more

pub above_more : (placed : List Placed) (p : Placed) → IsAbove placed (length placed + 1) → p.folder ≤ length placed + 1 → IsAbove (placed ++ p ∷ []) (length (placed ++ p ∷ []) + 1)
above_more placed p above near q in_q =
    let longer : length (placed ++ p ∷ []) ≡ length placed + 1 = length-append placed (p ∷ []) in
    elim (Contains-push_cases placed p q in_q) [
      | inl old ↦ let low : q.folder < length placed + 1 = above q old in omega arith
      | inr same ↦ let e : p.folder ≡ q.folder = ap (λ (x : Placed). x.folder) same in omega arith
    ]

pub one_placed : (holds_others : Bool) (groups : List (List Member)) (placed : List Placed) (group : List Member) (k : ℕ) (after : List Placed) → ArePlaced holds_others groups placed → IsAbove placed (length placed + 1)
    → IsFolder holds_others placed group k → k ≤ length placed + 1 → after ≡ placed ++ record { members = group; folder = k } ∷ [] → ArePlaced holds_others (groups ++ group ∷ []) after × IsAbove after (length after + 1)
one_placed holds_others groups placed group k after are above folder near is = (
  subst (λ (l : List Placed). ArePlaced holds_others (groups ++ group ∷ []) l) (sym is) (ArePlaced.one_more groups placed group k are folder),
  subst (λ (l : List Placed). IsAbove l (length l + 1)) (sym is) (above_more placed (record { members = group; folder = k }) above near),
)

pub none_placed : (holds_others : Bool) (placed : List Placed) → placed ≡ [] → ArePlaced holds_others [] placed × IsAbove placed (length placed + 1)
none_placed holds_others placed is = (
  subst (λ (l : List Placed). ArePlaced holds_others [] l) (sym is) ArePlaced.none,
  subst (λ (l : List Placed). IsAbove l (length l + 1)) (sym is) (λ p c. absurd (nothing_in p c)),
)
