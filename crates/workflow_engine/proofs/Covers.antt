-- The tickets held cover the children that run, as children are started and their tickets spent.
use Rattle.std.proofs.Common.{◌≡◌, inl, inr, ℕ, ◌-◌, ◌<◌, true, false, not, List, [], ◌∷◌, ◌++◌, length, get_or, refl, sym, ◌∙◌, subst, arith, Contains, Some, None}
use Rattle.std.specs.Prelude.{◌==◌}
use Rattle.std.specs.List.{remove, position, position_or_len}
use Rattle.std.proofs.lemmas.List.{get_or_default}
use Rattle.std.proofs.lemmas.Bool.{cases_lt, lt-ltb, eq-eqb, eqb-true}
use Rattle.std.proofs.lemmas.List.Elements.{All-contains, All-filter, All-contains_itself, filter_passes, Contains-append_left, Contains-push, Contains-push_cases}
use Rattle.std.proofs.lemmas.List.Edits.{get_or-remove_below, get_or-remove_above, length-remove}
use Rattle.std.proofs.lemmas.List.Quantifiers.{position-Some}
use Rattle.std.proofs.lemmas.List.Sums.{fails_before_first}
use Rattle.proc_host.specs.Tickets.{without}
use Rattle.workflow_engine.specs.inner.Held.{Covers}

-- what is left was there
was_there : (ticket : ℕ) (running : List ℕ) (n : ℕ) → Contains (without ticket running) n → Contains running n
was_there ticket running n left =
    All-contains (Contains running) (without ticket running) n
    (All-filter (λ x. not (x == ticket)) (Contains running) running (All-contains_itself running)) left

-- and is another
is_another : (ticket : ℕ) (running : List ℕ) (n : ℕ) → Contains (without ticket running) n → n ≡ ticket → ⊥
is_another ticket running n left same =
    let passes : not (n == ticket) ≡ true = All-contains (λ x. not (x == ticket) ≡ true) (without ticket running) n (filter_passes (λ x. not (x == ticket)) running) left in
    let fails : (n == ticket) ≡ true = eq-eqb n ticket same in
    let bad : not true ≡ true = rw fails at passes in
    cc

-- a ticket taken out leaves the others
kept_by : (held : List ℕ) (i n k : ℕ) → i < length held → k < length held → get_or held k n ≡ n →
    (k ≡ i → ⊥) → Contains (remove held i) n
kept_by held i n k there within here other = elim (cases_lt k i) [
  | inl below ↦ (k, omega (arith, length-remove held i there), get_or-remove_below held i n k below there ∙ here)
  | inr above ↦ (
    k - 1,
    omega (arith, length-remove held i there),
    get_or-remove_above held i n (k - 1) (omega arith) there ∙ subst (λ (j : ℕ). get_or held j n ≡ n) (omega arith) here,
  )
]

pub covers_removed : (held running : List ℕ) (i ticket : ℕ) → Covers held running → i < length held → get_or held i ticket ≡ ticket →
    Covers (remove held i) (without ticket running)
covers_removed held running i ticket covered there here = record {
  each = λ n left.
      let found : Contains held n = covered.each n (was_there ticket running n left) in
      kept_by held i n found.0 there found.1 found.2 (λ same.
      let at : get_or held i n ≡ n = subst (λ (k : ℕ). get_or held k n ≡ n) same found.2 in
      is_another ticket running n left (sym at ∙ get_or_default held i n ticket there ∙ here));
}

pub covers_started : (held running : List ℕ) (ticket : ℕ) → Covers held running → Covers (held ++ ticket ∷ []) (running ++ ticket ∷ [])
covers_started held running ticket covered = record {
  each = λ n there. elim (Contains-push_cases running ticket n there) [
    | inl before ↦ Contains-append_left held (ticket ∷ []) n (covered.each n before)
    | inr same ↦ subst (λ (m : ℕ). Contains (held ++ ticket ∷ []) m) same (Contains-push held ticket)
  ];
}

-- the last one spent
pub covers_popped : (held running : List ℕ) (ticket : ℕ) → Covers (held ++ ticket ∷ []) running → Covers held (without ticket running)
covers_popped held running ticket covered = record {
  each = λ n left. elim (Contains-push_cases held ticket n (covered.each n (was_there ticket running n left))) [
    | inl before ↦ before
    | inr same ↦ absurd (is_another ticket running n left (sym same))
  ];
}

-- with none held, none runs
pub covers_none : (running : List ℕ) → Covers [] running → running ≡ []
covers_none [] covered = refl
covers_none (n ∷ running) covered =
    let there : Contains [] n = covered.each n (0, omega arith, refl) in
    let bad : there.0 < 0 = there.1 in
    absurd (omega arith)

-- one that runs is found
pub found_if_runs : (held : List ℕ) (ticket : ℕ) → Contains held ticket → position (λ n. n == ticket) held ≡ None → ⊥
found_if_runs held ticket there none = elim (cases_lt there.0 (position_or_len (λ n. n == ticket) held)) [
  | inl before ↦
      let fails : (get_or held there.0 ticket == ticket) ≡ false = fails_before_first (λ n. n == ticket) held there.0 ticket before in
      let passes : (get_or held there.0 ticket == ticket) ≡ true = eq-eqb (get_or held there.0 ticket) ticket there.2 in
      let bad : true ≡ false = sym passes ∙ fails in
      cc
  | inr at ↦
      let within : position_or_len (λ n. n == ticket) held < length held = omega (arith, there.1) in
      let bad : Some (position_or_len (λ n. n == ticket) held) ≡ None = rw (lt-ltb (position_or_len (λ n. n == ticket) held) (length held) within) at none in
      cc
]

-- so where none is found, none runs under it
pub none_runs : (held running : List ℕ) (ticket : ℕ) → Covers held running → Contains running ticket →
    position (λ n. n == ticket) held ≡ None → running ≡ without ticket running
none_runs held running ticket covered runs none = absurd (found_if_runs held ticket (covered.each ticket runs) none)

-- the ticket that is found is the one looked for
pub found_is : (held : List ℕ) (ticket i d : ℕ) → position (λ n. n == ticket) held ≡ Some i → (i < length held) × (get_or held i d ≡ ticket)
found_is held ticket i d found =
    let at = position-Some (λ n. n == ticket) held i d found in
    (at.0, eqb-true (get_or held i d) ticket at.1)
