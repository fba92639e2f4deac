-- Ways along links between steps that are named by their places.
use Rattle.std.proofs.Common.{◌≡◌, ℕ, zero, suc, Bool, true, false, List, [], ◌∷◌, sym, subst, inl, inr}
use Rattle.std.specs.Prelude.{Option, Some, None, slice_get}
use Rattle.std.specs.Bool.{OnTrue}
use Rattle.document_links.specs.declared.process.Step.{Step}
use Rattle.workflow_check.specs.Scope.{Named}
use Rattle.workflow_check.specs.Sound.{HasCircle, IsIn, IsLink, IsWay, is_fed_by}
use Rattle.workflow_check.specs.inner.Ways.{Between, IsLinkAt, IsWayAt}

abbrev Entry : Type 0
Entry = List ℕ × Step

is_in : (e : Entry) (steps : Named Step) (i : ℕ) → slice_get steps i ≡ Some e → IsIn e steps
is_in e [] i is = cc
is_in e (f ∷ fs) zero is = let same : e ≡ f = cc in inl same
is_in e (f ∷ fs) (suc i) is = inr (is_in e fs i is)

module _ (steps : Named Step) where
  -- a link, where the one names the other
  pub link_at : (i j : ℕ) (e f : Entry) → slice_get steps i ≡ Some e → slice_get steps j ≡ Some f → is_fed_by f.0 e ≡ true → IsLinkAt steps i j
  link_at i j e f here there fed =
      let l : IsLink steps e f = record { waits = is_in e steps i here; named = is_in f steps j there; source = fed } in
      subst (λ (o : Option Entry). Between (IsLink steps) o (slice_get steps j)) (sym here) (subst (λ (o : Option Entry). Between (IsLink steps) (Some e) o) (sym there) l)

  one : (a b : Option Entry) → Between (IsLink steps) a b → Between (IsWay steps) a b
  one None b l = absurd l
  one (Some e) None l = absurd l
  one (Some e) (Some f) l = IsWay.link e f l

  further : (a b c : Option Entry) → Between (IsLink steps) a b → Between (IsWay steps) b c → Between (IsWay steps) a c
  further None b c l way = absurd l
  further (Some e) None c l way = absurd l
  further (Some e) (Some f) None l way = absurd way
  further (Some e) (Some f) (Some g) l way = IsWay.further e f g l way

  round : (a : Option Entry) → Between (IsWay steps) a a → HasCircle steps
  round None way = absurd way
  round (Some e) way = (e, way)

  pub one_at : (i j : ℕ) → IsLinkAt steps i j → IsWayAt steps i j
  one_at i j l = one (slice_get steps i) (slice_get steps j) l

  pub further_at : (i j k : ℕ) → IsLinkAt steps i j → IsWayAt steps j k → IsWayAt steps i k
  further_at i j k l way = further (slice_get steps i) (slice_get steps j) (slice_get steps k) l way

  pub round_at : (i j : ℕ) → i ≡ j → IsWayAt steps i j → HasCircle steps
  round_at i j same way = round (slice_get steps j) (subst (λ k. IsWayAt steps k j) same way)

  pub link_if : (i j : ℕ) (e f : Entry) → slice_get steps i ≡ Some e → slice_get steps j ≡ Some f → (fed : Bool) → fed ≡ is_fed_by f.0 e → OnTrue fed (IsLinkAt steps i j)
  link_if i j e f here there true is = link_at i j e f here there (sym is)
  link_if i j e f here there false is = tt
