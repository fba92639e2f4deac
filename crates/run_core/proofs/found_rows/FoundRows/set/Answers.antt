use Rattle.std.proofs.Common.{◌∙◌, ◌<◌, List, Option, length, refl, sym, ap, subst}
use Rattle.std.proofs.lemmas.Option.{slice_get_read}
use Rattle.job_rows.specs.declared.row.Row.{Row}
use Rattle.run_core.specs.inner.FoundRows.{row_set}
use Rattle.run_core.proofs.FoundRows.{set_is}
use Rattle.run_core.proofs.found_rows.FoundRows.set.Goals as goal

pub returns-in-Ok : goal.returns-in-Ok
returns-in-Ok c =
    sym (set_is c.self.inside.rows.items c.args.number c.args.row c.index_mut.result.now
    (slice_get_read c.self.inside.rows.items (length c.self.inside.rows.items) c.args.number c.index_mut.result.now refl
    (subst (λ (rows : List (Option Row)). c.args.number < length rows) (sym c.self.view_is) c.in-Ok.ensures.reached) c.index_mut.ensures.value))
    ∙ ap (row_set c.args.number c.args.row) c.self.view_is
    ∙ c.in-Ok.ensures.same c.args.row
