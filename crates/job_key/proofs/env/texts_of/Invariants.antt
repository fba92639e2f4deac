use Rattle.std.proofs.Common.{◌≡◌, take}
use Rattle.job_key.specs.Key.{texts_of}
use Rattle.job_key.proofs.env.texts_of.Given as goal

abbrev pub invariant-loop-variable : goal.invariant-loop-variable
invariant-loop-variable l = l.texts.items ≡ texts_of (take l.variable-index l.variables)
