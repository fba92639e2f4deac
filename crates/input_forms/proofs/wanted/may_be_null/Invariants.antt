use Rattle.std.proofs.Common.{◌≡◌, drop}
use Rattle.input_forms.specs.Wanted as spec
use Rattle.input_forms.proofs.wanted.may_be_null.Given as goal

abbrev pub invariant-loop-member : goal.invariant-loop-member
invariant-loop-member l = spec.may_be_null (drop l.member-index l.member-items) ≡ spec.may_be_null l.member-items
