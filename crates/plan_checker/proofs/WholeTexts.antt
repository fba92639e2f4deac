-- The numbers of a certificate that is written are of 64 bits, each at its vertex, so its text is a certificate's.
use Rattle.std.proofs.Common.{◌≡◌, ℕ, ◌<◌, List, [], length, get_or, All, subst, arith}
use Rattle.std.proofs.lemmas.List.{get_or_default}
use Rattle.plan_checker.specs.declared.vertex.Vertex.{Vertex}
use Rattle.plan_checker.specs.declared.plan.Mark.{Mark}
use Rattle.plan_checker.specs.declared.charges.Charges.{Charges}
use Rattle.plan_checker.specs.Graph.{IsGraph}
use Rattle.plan_checker.specs.Charges.{IsCounted}
use Rattle.plan_checker.specs.Format.{IsSmall, AreSmall, AreSmallAt, IsTextOf, certificate_text}

small_list : (xs : List ℕ) → ((k : ℕ) → k < length xs → IsSmall (get_or xs k 0)) → All IsSmall xs
small_list xs each k d h =
    let P : ℕ → Type 0 = IsSmall in
    subst P (get_or_default xs k 0 d h) (each k h)

small_lists : (rows : List (List ℕ)) → ((k : ℕ) → k < length rows → All IsSmall (get_or rows k [])) → All (All IsSmall) rows
small_lists rows each k d h =
    let P : List ℕ → Type 0 = All IsSmall in
    subst P (get_or_default rows k [] d h) (each k h)

small_everywhere : (graph : List Vertex) (charges : Charges) → IsCounted graph charges → ((k : ℕ) → k < length graph → AreSmallAt charges k) → AreSmall charges
small_everywhere graph charges counted each =
    let enters = counted.enters in
    let throughs = counted.throughs in
    let pays = counted.pays in
    let passing = counted.passing in
    record {
      enters = small_list charges.enter (λ k h. (each k (omega arith)).enter);
      throughs = small_list charges.through (λ k h. (each k (omega arith)).through);
      pays = small_list charges.pay (λ k h. (each k (omega arith)).pay);
      passing = small_lists charges.pass (λ k h. (each k (omega arith)).passing);
    }

pub whole_text : (text : List ℕ) (graph : List Vertex) (marks : List Mark) (charges : Charges) (n : ℕ) → IsGraph graph → length marks ≡ length graph → IsCounted graph charges → length graph ≡ n → ((k : ℕ) → k < n → AreSmallAt charges k) → text ≡ certificate_text graph marks charges → IsTextOf text graph marks charges
whole_text text graph marks charges n good marked counted count each written = record {
  whole = record {
    graph_fits = good;
    marks_counted = marked;
    charges_counted = counted;
    charges_small = small_everywhere graph charges counted (λ k h. each k (omega arith));
  };
  written = written;
}
