-- Which jobs of an unfolding are needed, as flags that are kept between its calls.
use Rattle.std.specs.Prelude.{◌≡◌, Bool, IfSome, None, Option}
use Rattle.std.specs.Global.{Vec}
use Rattle.job_graph.specs.PresentJobGraph.{needed_among}
use Rattle.job_graph.specs.inner.Inside.{Stands, seen}
use Rattle.job_graph.specs.declared.progress.Progress.{Progress}

-- these flags say which of its jobs are needed, and no fault was met
pub record AreNeeded (held : Progress) (flags : Vec Bool) : Type 0 where
  pub goes_on : held.fault ≡ None
  pub are : flags.items ≡ needed_among (seen held).learned (seen held).outs (seen held).known

-- it follows what it has learned, and so do the flags that are kept
pub record IsUpheld (held : Progress) (kept : Option (Vec Bool)) : Type 0 where
  pub stands : Stands held
  pub needed : IfSome kept (AreNeeded held)
