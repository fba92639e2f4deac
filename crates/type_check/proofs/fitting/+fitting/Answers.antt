use Rattle.std.proofs.Common.{◌∙◌, refl, sym}
use Rattle.type_check.specs.Fits.{fits as fits_of, fits_member}
use Rattle.type_check.proofs.Rounds.{all_failed, all_passed, all_done, any_met, any_missed, any_done}
use Rattle.type_check.proofs.fitting.+fitting.Goals as goal

pub all_fit-loop-value-init : goal.all_fit-loop-value-init
all_fit-loop-value-init t c = refl

pub all_fit-loop-value-preserved : goal.all_fit-loop-value-preserved
all_fit-loop-value-preserved t c =
    all_passed (fits_of c.args.members.now) c.args.values.now c.as_slice-value-items.result.now c.loop-value.value-index c.value-item.result
    (record { same = c.as_slice-value-items.ensures; within = c.loop-value-test.true; is = c.value-item.is })
    c.loop-value.invariant (sym c.fits.ensures ∙ c.if-not-fits.false)

pub all_fit-returns-then-not-fits : goal.all_fit-returns-then-not-fits
all_fit-returns-then-not-fits t c =
    all_failed (fits_of c.args.members.now) c.args.values.now c.as_slice-value-items.result.now c.loop-value.value-index c.value-item.result
    (record { same = c.as_slice-value-items.ensures; within = c.loop-value-test.true; is = c.value-item.is })
    c.loop-value.invariant (sym c.fits.ensures ∙ c.if-not-fits.true)

pub all_fit-returns : goal.all_fit-returns
all_fit-returns t c =
    all_done (fits_of c.args.members.now) c.args.values.now c.as_slice-value-items.result.now c.loop-value.value-index
    c.as_slice-value-items.ensures c.loop-value-test.false c.loop-value.invariant

pub fits-loop-member-init : goal.fits-loop-member-init
fits-loop-member-init t c = refl

pub fits-returns-then-fits_member : goal.fits-returns-then-fits_member
fits-returns-then-fits_member t c =
    any_met fits_member c.args.value.now c.args.members.now c.as_slice-member-items.result.now c.loop-member.member-index c.member-item.result
    (record { same = c.as_slice-member-items.ensures; within = c.loop-member-test.true; is = c.member-item.is })
    c.loop-member.invariant (sym c.fits_member.ensures ∙ c.if-fits_member.true)

pub fits-loop-member-preserved : goal.fits-loop-member-preserved
fits-loop-member-preserved t c =
    any_missed fits_member c.args.value.now c.args.members.now c.as_slice-member-items.result.now c.loop-member.member-index c.member-item.result
    (record { same = c.as_slice-member-items.ensures; within = c.loop-member-test.true; is = c.member-item.is })
    c.loop-member.invariant (sym c.fits_member.ensures ∙ c.if-fits_member.false)

pub fits-returns : goal.fits-returns
fits-returns t c =
    any_done fits_member c.args.value.now c.args.members.now c.as_slice-member-items.result.now c.loop-member.member-index
    c.as_slice-member-items.ensures c.loop-member-test.false c.loop-member.invariant
