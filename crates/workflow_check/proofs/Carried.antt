-- What is compared, where there are links.
use Rattle.std.proofs.Common.{◌≡◌, ◌==◌, Bool, false, List, [], ◌∷◌, length, ap}
use Rattle.std.specs.Prelude.{not}
use Rattle.cwl_types.specs.declared.types.MemberType.{MemberType}
use Rattle.cwl_process.specs.declared.links.Links.{Links}
use Rattle.cwl_process.specs.declared.links.Source.{Source}
use Rattle.workflow_check.specs.Faults.{found_if}
use Rattle.workflow_check.specs.Links.{Around, may_carry, type_fault}
use Rattle.workflow_check.specs.declared.fault.LinkRule.TheVariants.{Disjoint}

pub compared : (a : Around) (links : Links) (sources : List Source) (scattered : Bool) (kind : List MemberType) (b : Bool)
    → (length sources == 0) ≡ false → may_carry a links sources scattered kind ≡ b → type_fault a links sources scattered kind ≡ found_if (not b) Disjoint
compared a links [] scattered kind b some is = cc
compared a links (s ∷ ss) scattered kind b some is = ap (λ t. found_if (not t) Disjoint) is
