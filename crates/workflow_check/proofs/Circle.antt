-- Steps of which some are left after all rounds wait for one another in a circle.
use Rattle.std.proofs.Common.{◌≡◌, ◌∙◌, ◌<◌, ◌↔◌, ℕ, zero, suc, Bool, true, false, List, [], ◌∷◌, length, ap, sym, refl, arith, inl, inr}
use Rattle.std.specs.Prelude.{Option, Some, None}
use Rattle.std.specs.List.{list_any}
use Rattle.std.specs.Str.{bytes_eq}
use Rattle.std.proofs.lemmas.Bool.{true≢false}
use Rattle.cwl_process.specs.declared.links.Source.{Source}
use Rattle.document_links.specs.declared.process.Step.{Step, out-Step}
use Rattle.workflow_check.specs.Order.{is_cyclic, is_some_left, leads_to, left_after, some_lead, still_waiting, waits_for}
use Rattle.workflow_check.specs.Scope.{Named}
use Rattle.workflow_check.specs.Sound.{HasCircle, HasOrder, IsIn, IsLink, IsWay, is_fed_by, is_named, one_named}
use Rattle.workflow_check.proofs.Ordered.{either, has_id, left_true, order, right_true}
use Rattle.workflow_check.proofs.Closed.{IsClosed, after, closed_after, left_are_of, one_leads_back}

abbrev Entry : Type 0
Entry = List ℕ × Step

-- ---- tests of elements

-- where one of them passes, there is the one
found : {X : Type 0} (p : X → Bool) (xs : List X) → list_any p xs ≡ true → (x : X) × IsIn x xs × (p x ≡ true)
found p [] is = absurd (true≢false (sym is))
found p (x ∷ xs) is = elim (either (p x) (list_any p xs) is) as (λ _. (y : _) × IsIn y (x ∷ xs) × (p y ≡ true)) [
  | inl here ↦ (x, inl refl, here)
  | inr later ↦ let rest = found p xs later in (rest.0, inr rest.1, rest.2)
]

pub passing : {X : Type 0} (p : X → Bool) (x : X) (xs : List X) → IsIn x xs → p x ≡ true → list_any p xs ≡ true
passing p x [] at is = absurd at
passing p x (y ∷ ys) (inl same) is = left_true (p y) (list_any p ys) (ap p (sym same) ∙ is)
passing p x (y ∷ ys) (inr at) is = right_true (p y) (list_any p ys) (passing p x ys at is)

-- ---- a step that waits for one of these has a link to it

module _ (steps : Named Step) where
  abbrev Leads : Option (List ℕ) → Type 0
  Leads step = (f : Entry) × IsIn f steps × (is_named f.0 step ≡ true)

  leads : (step : Option (List ℕ)) → leads_to steps step ≡ true → Leads step
  leads None is = absurd (true≢false (sym is))
  leads (Some id) is = found (λ e. bytes_eq e.0 id) steps is

  some_leads : (sources : Option (List Source)) → some_lead steps sources ≡ true → (f : Entry) × IsIn f steps × (one_named f.0 sources ≡ true)
  some_leads None is = absurd (true≢false (sym is))
  some_leads (Some sources) is =
      let source = found (λ source. leads_to steps source.step) sources is in
      let step = leads source.0.step source.2 in
      (step.0, step.1, passing (λ s. is_named step.0.0 s.step) source.0 sources source.1 step.2)

  linked : (e : Entry) → waits_for steps e ≡ true → (f : Entry) × IsIn f steps × (is_fed_by f.0 e ≡ true)
  linked e is =
      let input = found (λ input. some_lead steps input.1.links.sources) (out-Step e.1).inputs is in
      let step = some_leads input.0.1.links.sources input.2 in
      (step.0, step.1, passing (λ i. one_named step.0.0 i.1.links.sources) input.0 (out-Step e.1).inputs input.1 step.2)

-- ---- ways

on : (steps : Named Step) (e f g : Entry) → IsWay steps e f → IsWay steps f g → IsWay steps e g
on steps _ _ g (IsWay.link e f l) next = IsWay.further e f g l next
on steps _ _ g (IsWay.further e h f l way) next = IsWay.further e h g l (on steps h f g way next)

-- ---- some are left

same_rounds : (n : ℕ) (steps : Named Step) → after waits_for n steps ≡ left_after n steps
same_rounds zero steps = refl
same_rounds (suc n) steps = same_rounds n (still_waiting steps)

one_left : (steps : Named Step) → is_some_left steps ≡ true → (e : Entry) × IsIn e steps
one_left [] is = absurd (true≢false (sym is))
one_left (e ∷ es) is = (e, inl refl)

circle : (steps : Named Step) → is_cyclic steps ≡ true → HasCircle steps
circle steps is =
    let n = length steps in
    let left = after waits_for n steps in
    let closed : IsClosed waits_for left = closed_after waits_for n steps (omega arith) in
    let first = one_left left (ap is_some_left (same_rounds n steps) ∙ is) in
    one_leads_back (IsWay steps) (on steps) left
    (λ e at.
    let next = linked left e (closed e at) in
    (next.0, next.1, IsWay.link e next.0 (record { waits = left_are_of waits_for n steps e at; named = left_are_of waits_for n steps next.0 next.1; source = next.2 })))
    first.0 first.1

-- ---- an order leaves no circle

module _ (steps : Named Step) (ordered : HasOrder steps) where
  falls : (e f : Entry) → IsLink steps e f → ordered.0 f.0 < ordered.0 e.0
  falls e f l = ordered.1 e f.0 l.waits (has_id f steps l.named) l.source

  way_falls : (e f : Entry) → IsWay steps e f → ordered.0 f.0 < ordered.0 e.0
  way_falls _ _ (IsWay.link e f l) = falls e f l
  way_falls _ _ (IsWay.further e f g l way) = omega (arith, falls e f l, way_falls f g way)

  no_circle : HasCircle steps → ⊥
  no_circle c = let less : ordered.0 c.0.0 < ordered.0 c.0.0 = way_falls c.0 c.0 c.1 in omega arith

by_order : (steps : Named Step) (test : Bool) → is_cyclic steps ≡ test → HasOrder steps → test ≡ false
by_order steps true is ordered = absurd (no_circle steps ordered (circle steps is))
by_order steps false is ordered = refl

-- steps that have an order
pub not_cyclic : (steps : Named Step) → HasOrder steps → is_cyclic steps ≡ false
not_cyclic steps ordered = by_order steps (is_cyclic steps) refl ordered

by_circle : (steps : Named Step) (test : Bool) → is_cyclic steps ≡ test → HasCircle steps → test ≡ true
by_circle steps true is c = refl
by_circle steps false is c = absurd (no_circle steps (order steps is) c)

-- steps that have a circle of links
pub cyclic : (steps : Named Step) → HasCircle steps → is_cyclic steps ≡ true
cyclic steps c = by_circle steps (is_cyclic steps) refl c

pub cycles_are_circles : (steps : Named Step) → (is_cyclic steps ≡ true) ↔ HasCircle steps
cycles_are_circles steps = (circle steps, cyclic steps)
