use Rattle.std.proofs.Common.{◌≡◌, ◌∷◌}
use Rattle.param_refs.proofs.Scanned.{dotted_none, dotted_some, no_mark}
use Rattle.param_refs.proofs.scanner.first_piece.Goals as goal

pub returns-in_err-symbol : goal.returns-in_err-symbol
returns-in_err-symbol c =
    let rest = c.in-Some.rest.now in
    let parts : c.args.text.now ≡ 46 ∷ rest = c.in-Some.ensures in
    rw (c.from_residual.ensures, parts) (dotted_none rest c.in_err-symbol.ensures)

pub returns-in-Some : goal.returns-in-Some
returns-in-Some c =
    let rest = c.in-Some.rest.now in
    let parts : c.args.text.now ≡ 46 ∷ rest = c.in-Some.ensures in
    rw parts (dotted_some rest c.in_ok-symbol.symbol.now c.in_ok-symbol.rest.now c.in_ok-symbol.ensures)

pub returns-in_err-inside : goal.returns-in_err-inside
returns-in_err-inside c =
    rw c.from_residual-in_err-inside.ensures (no_mark c.args.text.now c.in_default.ensures c.in_err-inside.ensures)

pub returns : goal.returns
returns c =
    let parts : c.args.text.now ≡ 91 ∷ c.in_ok-inside.inside.now = c.in_ok-inside.ensures in
    rw parts c.bracketed.ensures
