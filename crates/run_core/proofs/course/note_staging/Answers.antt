use Rattle.std.proofs.Common.{◌+◌, List, Option, ℕ, subst}
use Rattle.run_core.specs.declared.state.Course.{Course}
use Rattle.run_core.specs.inner.Touched.{Touches}
use Rattle.run_core.proofs.Fits.{fits_staged}
use Rattle.run_core.proofs.course.note_staging.Goals as goal

pub invariant_of-course-2 : goal.invariant_of-course-2
invariant_of-course-2 c =
    let old : Course = c.args.course.now in
    record {
      fits = fits_staged old.rates old.keep old.jobs c.stage.new.self old.lost.items old.rows c.args.number (old.folders + 1) old.touched c.add.new.self old.planned c.in_ok-stage.ensures
          (subst (λ (touched : Option (List ℕ)). Touches c.args.number touched c.add.new.self) c.replace-touched.ensures.value c.add.ensures) old.fits;
      first = old.first;
      counted = old.counted;
    }
