-- Flags that are kept between calls.
use Rattle.std.proofs.Common.{◌≡◌, Bool, Option, None, subst, sym}
use Rattle.std.specs.Prelude.{IfSome}
use Rattle.std.specs.Global.{Vec}
use Rattle.job_graph.specs.inner.Needed.{AreNeeded}
use Rattle.job_graph.specs.declared.progress.Progress.{Progress}

pub none_needed : (held : Progress) (kept : Option (Vec Bool)) → kept ≡ None → IfSome kept (AreNeeded held)
none_needed held kept none = subst (λ (k : Option (Vec Bool)). IfSome k (AreNeeded held)) (sym none) tt
