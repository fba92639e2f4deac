use Rattle.std.proofs.Common.{List, Option, ℕ, length, subst}
use Rattle.run_plan.specs.Touched.{graph_in}
use Rattle.run_core.specs.declared.state.Course.{Course}
use Rattle.run_core.specs.inner.Touched.{TouchesBelow}
use Rattle.run_core.proofs.Fits.{fits_told}
use Rattle.run_core.proofs.course.note_row.Goals as goal

pub invariant_of-course-2 : goal.invariant_of-course-2
invariant_of-course-2 c =
    let old : Course = c.args.course.now in
    record {
      fits = fits_told old.rates old.keep old.jobs old.lost.items old.rows c.keep_row.new.rows c.args.number c.args.answer.now old.touched c.touched_too-touched.result old.planned
          c.in_ok-keep_row.ensures
          (subst (λ (touched : Option (List ℕ)). TouchesBelow (length (graph_in old.planned)) c.args.number touched c.touched_too-touched.result) c.replace-touched.ensures.value
          c.touched_too-touched.ensures)
          old.fits;
      first = old.first;
      counted = old.counted;
    }
