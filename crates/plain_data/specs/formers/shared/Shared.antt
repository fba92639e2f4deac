-- `Shared` inside a type that it leads back to. What a clause sees of it is the value that its owners share.
use mathlib.Core.Path.{refl}
use mathlib.Core.Former.{Former, this, const, pair, via}
use base.Stored.{gnil}
use base.Fml.{ftrue}
use denote.RattleType.{RattleType}
use denote.Memory.{part_of}
use denote.RawPtr.{Ptr}
use denote.Sharing.{nothing}
use denote.HoleLaws.{Alike}
use denote.HolePlaces.{Recodes, struct_places, laid, one_value}
use denote.Hole.Fix.{over}
use denote.Param.Weighed.{Weighed}
use denote.Model.Placed.{view_places}
use Rattle.std.specs.declared.rc.Rc.{Rc}
use Rattle.std.specs.contracts.rc.Rc as rc
use Rattle.std.specs.declared.alloc.Global.{Global}
use Rattle.std.specs.contracts.alloc.Global as heap
use Rattle.std.specs.contracts.impls.GlobalAllocator.TheImpl.{ghosts}
use Rattle.plain_data.specs.declared.shared.Shared.TheInside.{Inside}
use Rattle.plain_data.specs.declared.shared.Shared.TheView.{view, invariant}
use Rattle.plain_data.specs.contracts.shared.Shared as contract
use Rattle.plain_data.specs.contracts.shared.Shared.TheInside as inside

abbrev pub the_former : Former {0} → Former {0}
the_former value = value

abbrev pub the_weighed : {value : Former {0}} → Weighed value → Weighed (the_former value)
the_weighed weighed = weighed

-- the one field, an `Rc`: its pointer, and the value
abbrev fields : Former {0}
fields = via (pair (const Ptr) this) Inside (λ X own. (own.held.ptr, own.held.value)) (λ X parts. record { held = record { ptr = parts.0; value = parts.1 } }) (λ X own. refl) (λ X parts. refl)

abbrev with_value : {X Y : Type 0} → Rc X Global → Y → Rc Y Global
with_value counted value = record { ptr = counted.ptr; value = value }

abbrev counted_of : RattleType → RattleType
counted_of R = rc.the_row R heap.the_row ghosts

module _ (R S : RattleType) (h : R.Denot → S.Denot) where
  counted_places : Alike R S h → Alike (counted_of R) (counted_of S) (λ counted. with_value counted (h counted.value))
  unfolding part_of
  counted_places alike = record {
    mir_same = λ i. (counted_of (one_value R (alike.mir_same i) (λ _. ftrue) (λ _ _. nothing) gnil)).mir;
    own_same = λ counted i. (counted_of (one_value R (alike.mir_same i) (alike.own_same counted.value i) (alike.shr_same counted.value i) gnil)).own_val (with_value counted tt);
    shr_same = λ counted i. (counted_of (one_value R (alike.mir_same i) (alike.own_same counted.value i) (alike.shr_same counted.value i) gnil)).shr_at (with_value counted tt);
  }

  pub the_places : Alike R S h → Alike (contract.the_row R) (contract.the_row S) ((the_former this).map R.Denot S.Denot h)
  the_places alike = view_places fields this view (λ X Y k own. refl) (λ X own. refl) R.Denot S.Denot h (contract.the_row R).coded (contract.the_row S).coded
      (invariant R.Denot) (invariant S.Denot) (λ own p q. refl) (λ own p q. refl) (λ own holds. tt) (λ own holds. tt)
      (over (inside.the_row R)) (over (inside.the_row S))
      (struct_places (inside.the_type R) (inside.the_type S) ((λ counted. with_value counted (h counted.value)), tt) _ (λ own. refl) refl (laid _ _ _ (counted_places alike), tt))

  pub the_codes_placed : Recodes R S h → Recodes (contract.the_row R) (contract.the_row S) ((the_former this).map R.Denot S.Denot h)
  the_codes_placed recodes value = recodes value
