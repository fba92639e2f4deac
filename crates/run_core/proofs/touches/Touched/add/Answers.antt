use Rattle.std.specs.Prelude.{slice_set, take}
use Rattle.std.proofs.Common.{◌+◌, ◌<◌, ℕ, List, Option, None, Some, arith, cond, rules, subst}
use Rattle.run_core.specs.inner.Touched.{Touches}
use Rattle.run_core.proofs.FewTouched.{added_touches}
use Rattle.run_core.proofs.touches.Touched.add.Goals as goal

pub returns-then-self-lt8 : goal.returns-then-self-lt8
returns-then-self-lt8 c =
    let it = c.self.inside in
    let room : it.count < 8 = omega (arith, c.if-self-lt8.true) in
    subst (λ (old : Option (List ℕ)). Touches c.args.number old (cond it.all None (Some (take (it.count + 1) (slice_set it.numbers it.count c.args.number))))) c.self.view_is
    (added_touches it.numbers it.count c.args.number it.all (search rules) room)
