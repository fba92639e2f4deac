-- Results that are known under another name.
use Rattle.std.proofs.Common.{◌≡◌, ℕ, Ok, Err, None, IfOk, IfErr, Option, sym, ap, subst, ◌∙◌}
use Rattle.std.specs.Prelude.{Result}
use Rattle.document_table.specs.declared.fault.DocumentFault.{DocumentFault}
use Rattle.document_links.specs.Refused.{IsOwnFaultOf, IsWalkErrorOf}
use Rattle.document_links.specs.Walks.{Left, checked, then_left}
use Rattle.document_links.specs.declared.walk.WalkError.{WalkError}
use Rattle.document_links.specs.declared.walk.WalkError.TheVariants.{Refused, OutOfMemory}
use Rattle.document_links.specs.declared.walk.WalkFault.{WalkFault}
use Rattle.document_links.specs.declared.walk.WalkFault.TheVariants.{Own, Other}

pub ok_by : {T U : Type 0} (r : Result T WalkError) (see : T → U) (x y : Result U WalkFault) → x ≡ y → IfOk r (λ v. y ≡ Ok (see v)) → IfOk r (λ v. x ≡ Ok (see v))
ok_by (Ok v) see x y same is = same ∙ is
ok_by (Err e) see x y same is = tt

pub err_by : {T U : Type 0} (r : Result T WalkError) (x y : Result U WalkFault) → x ≡ y → IfErr r (IsWalkErrorOf y) → IfErr r (IsWalkErrorOf x)
err_by (Ok v) x y same is = tt
err_by (Err e) x y same is = subst (λ z. IsWalkErrorOf z e) (sym same) is

-- an own fault is what a check ends with
pub own_error : (found : Option DocumentFault) (left : Left) (e : WalkError) → IsOwnFaultOf found e → IsWalkErrorOf (checked found left) e
own_error found left (Refused (Own fault)) is = ap (λ f. checked f left) is
own_error found left (Refused (Other fault)) is = absurd is
own_error found left OutOfMemory is = tt

pub own_error_by : (found : Option DocumentFault) (left x : Left) (e : WalkError) → x ≡ checked found left → IsOwnFaultOf found e → IsWalkErrorOf x e
own_error_by found left x e same is = subst (λ z. IsWalkErrorOf z e) (sym same) (own_error found left e is)

-- after a check that found nothing
pub unchecked : (found : Option DocumentFault) (left : Left) → found ≡ None → checked found left ≡ left
unchecked found left is = ap (λ f. checked f left) is

-- what ends a walk ends what comes after it
pub stopped : (x : Left) (next : ℕ → Left) (e : WalkError) → IsWalkErrorOf x e → IsWalkErrorOf (then_left x next) e
stopped x next (Refused fault) is = ap (λ left. then_left left next) is
stopped x next OutOfMemory is = tt
