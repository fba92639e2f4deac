use Rattle.std.proofs.Common.{◌≡◌, take}
use Rattle.staging.specs.inner.Indexed.{texts_of}
use Rattle.staging.proofs.index.texts_of.Given as goal

abbrev pub invariant-loop-member : goal.invariant-loop-member
invariant-loop-member l = l.texts.items ≡ texts_of (take l.member-index l.group)
