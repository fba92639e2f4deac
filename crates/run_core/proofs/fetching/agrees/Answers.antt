use Rattle.std.proofs.Common.{◌≡◌, ◌∙◌, Option, Some, sym, ap, subst}
use Rattle.std.specs.Prelude.{option_copied}
use Rattle.job_rows.specs.declared.row.Row.{Row}
use Rattle.run_core.specs.inner.Fetches.{AreOf}
use Rattle.run_core.specs.inner.FoundRows.{row_in}
use Rattle.run_core.proofs.fetching.agrees.Goals as goal

pub returns-in-Some : goal.returns-in-Some
returns-in-Some c =
    let found : Some c.in-Some.row.now ≡ row_in c.args.course.now.rows c.args.number = ap option_copied (sym c.in-Some.is) ∙ c.get.ensures in (
      λ is. subst (λ (o : Option Row). AreOf o c.args.found.now) found (c.files_agree.ensures.0 is),
      λ same. c.files_agree.ensures.1 (subst (λ (o : Option Row). AreOf o c.args.found.now) (sym found) same),
    )
