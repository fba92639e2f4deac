use Rattle.std.proofs.Common.{◌≡◌, true, false, length, le-ltb, arith}
use Rattle.param_refs.specs.Grammar.{has_opening}
use Rattle.param_refs.proofs.Readings.{has_opening-at, has_opening-past}
use Rattle.param_refs.proofs.opening.is_escaped.Goals as goal

pub returns-then-opening-text : goal.returns-then-opening-text
returns-then-opening-text c =
    let here : has_opening c.args.text.now ≡ true = has_opening-at c.args.text.now c.opening.result c.opening.ensures (omega arith) in
    rw here c.has_backslash.ensures

pub returns-else-opening-text : goal.returns-else-opening-text
returns-else-opening-text c =
    let none : has_opening c.args.text.now ≡ false = has_opening-past c.args.text.now c.opening.result c.opening.ensures (omega arith) in
    rw none (le-ltb c.opening.result (length c.args.text.now) (omega arith))
