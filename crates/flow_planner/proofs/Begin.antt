-- With which charges a flow begins: with none, or with those of a claim that is wrong in its sum alone.
use Rattle.std.proofs.Common.{◌≡◌, ◌≢◌, ℕ, ◌<◌, List, [], Bool, true, false, cond, eqb, length, get_or, sum, sym, refl, ap, ◌∙◌, subst, inl, ⊎_elim, arith, Option}
use Rattle.std.specs.Prelude.{IsSomeAnd}
use Rattle.std.proofs.lemmas.Bool.{cases_eq, cases_lt}
use Rattle.plan_checker.specs.declared.vertex.Vertex.{Vertex}
use Rattle.plan_checker.specs.declared.plan.Mark.{Mark}
use Rattle.plan_checker.specs.declared.charges.Charges.{Charges}
use Rattle.plan_checker.specs.declared.broken.Broken.{Broken}
use Rattle.plan_checker.specs.declared.broken.Broken.TheVariants.{ChargeCount, EnterNotNeeded, ThroughOverLoad, PayOverCompute, InNotThrough, ThroughNotOut, Sum}
use Rattle.plan_checker.specs.Sums.{sum_below}
use Rattle.plan_checker.specs.Graph.{vertex}
use Rattle.plan_checker.specs.Charges.{passes, passed_to, received, IsCounted, AreFair}
use Rattle.plan_checker.specs.Broken.{rule, Breaks, IsFirstBroken}
use Rattle.plan_checker.proofs.SumsBelow.{sum_below_same, sum_below-zero}
use Rattle.flow_planner.specs.inner.Network.{AreFlowing}

cond_zero : (b : Bool) → ◌≡◌ {A = ℕ} (cond b 0 0) 0
cond_zero true = refl
cond_zero false = refl

-- nothing flows where there are no charges
pub nothing_flows : (graph : List Vertex) (charges : Charges) → charges.enter ≡ [] → charges.through ≡ [] → charges.pay ≡ [] → charges.pass ≡ [] → AreFlowing graph charges
nothing_flows graph charges enter through pay pass i h =
    let no_enter : get_or charges.enter i 0 ≡ 0 = ap (λ xs. get_or xs i 0) enter in
    let no_through : get_or charges.through i 0 ≡ 0 = ap (λ xs. get_or xs i 0) through in
    let no_pay : get_or charges.pay i 0 ≡ 0 = ap (λ xs. get_or xs i 0) pay in
    let row : (j : ℕ) → passes charges j ≡ [] = λ j. ap (λ (rows : List (List ℕ)). get_or rows j []) pass in
    let no_row : sum (passes charges i) ≡ 0 = ap sum (row i) in
    let none_received : received graph charges i ≡ 0 =
    sum_below_same (length graph) (λ j. passed_to i (vertex graph j).parents (passes charges j)) (λ j. 0)
    (λ j hj.
    ap (passed_to i (vertex graph j).parents) (row j)
    ∙ sum_below_same (length (vertex graph j).parents) (λ k. cond (eqb (get_or (vertex graph j).parents k 0) i) 0 0) (λ k. 0) (λ k hk. cond_zero (eqb (get_or (vertex graph j).parents k 0) i))
    ∙ sum_below-zero (length (vertex graph j).parents))
    ∙ sum_below-zero (length graph) in
    let none_passed : sum_below (length (vertex graph i).parents) (λ k. get_or (passes charges i) k 0) ≡ 0 =
    sum_below_same (length (vertex graph i).parents) (λ k. get_or (passes charges i) k 0) (λ k. 0) (λ k hk. ap (λ xs. get_or xs k 0) (row i))
    ∙ sum_below-zero (length (vertex graph i).parents) in
    record {
      fair = record {
        entering = λ needless. no_enter;
        loading = λ most is. omega arith;
        paying = omega arith;
        coming_in = omega arith;
        going_out = omega arith;
      };
      passed = omega arith;
    }

same_number : (x y : ℕ) → (x ≢ y → ⊥) → x ≡ y
same_number x y h = ⊎_elim (λ e. e) (λ ne. absurd (h ne)) (cases_eq x y)

-- charges of a claim that is wrong in nothing but its sum
pub fair_unless_broken : (graph : List Vertex) (marks : List Mark) (charges : Charges) (total worth : ℕ) → IsFirstBroken graph marks charges (Sum total worth) → AreFair graph charges
fair_unless_broken graph marks charges total worth broken =
    let none : (other : Broken) → rule other < 10 → Breaks graph marks charges other → ⊥ = λ other lt breaks. broken.first other breaks (inl lt) in
    let count = λ (x y : ℕ) (part : IsCounted graph charges → x ≡ y).
    same_number x y (λ ne. none ChargeCount (omega arith) (λ counted. ne (part counted))) in
    record {
      counted = record {
        enters = count (length charges.enter) (length graph) (λ counted. counted.enters);
        throughs = count (length charges.through) (length graph) (λ counted. counted.throughs);
        pays = count (length charges.pay) (length graph) (λ counted. counted.pays);
        passing = count (length charges.pass) (length graph) (λ counted. counted.passing);
        each_pass = λ i h. count (length (passes charges i)) (length (vertex graph i).parents) (λ counted. counted.each_pass i h);
      };
      fair = λ i h. record {
        entering = λ needless. same_number (get_or charges.enter i 0) 0 (λ ne. none (EnterNotNeeded i) (omega arith) (h, needless, ne));
        loading = λ most is.
            ⊎_elim
            (λ (lt : most < get_or charges.through i 0).
            let P : Option ℕ → Type 0 = λ o. IsSomeAnd o (λ load. load < get_or charges.through i 0) in
            absurd (none (ThroughOverLoad i) (omega arith) (h, subst P (sym is) lt)))
            (λ le. le)
            (cases_lt most (get_or charges.through i 0));
        paying = ⊎_elim (λ lt. absurd (none (PayOverCompute i) (omega arith) (h, lt))) (λ le. le) (cases_lt (vertex graph i).compute (get_or charges.pay i 0));
        coming_in = same_number _ _ (λ ne. none (InNotThrough i) (omega arith) (h, ne));
        going_out = same_number _ _ (λ ne. none (ThroughNotOut i) (omega arith) (h, ne));
      };
    }
