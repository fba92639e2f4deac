use Rattle.std.proofs.Common.{◌≡◌, ◌∙◌, true, false, sym}
use Rattle.run_core.specs.inner.Picks.{has_row, has_wrong_row}
use Rattle.run_core.proofs.rows.contradiction_of.Goals as goal

pub returns-in-true : goal.returns-in-true
returns-in-true c = has_row c.args.row.now (c.in_ok-row_is_sound.ensures.0 c.in-true.is)

pub returns-in-false : goal.returns-in-false
returns-in-false c =
    has_wrong_row c.args.row.now (λ sound. let never : true ≡ false = sym (c.in_ok-row_is_sound.ensures.1 sound) ∙ c.in-false.is in cc)
