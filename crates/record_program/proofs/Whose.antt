-- Which record was opened.
use Rattle.std.proofs.Common.{Result, Ok, Err, IfOk}

pub both : {T E : Type 0} (r : Result T E) (P A B : T → Type 0) → IfOk r (λ value. P value → A value) → IfOk r (λ value. P value → B value) → IfOk r (λ value. P value → A value × B value)
both (Ok value) P A B one other = λ is. (one is, other is)
both (Err error) P A B one other = tt
