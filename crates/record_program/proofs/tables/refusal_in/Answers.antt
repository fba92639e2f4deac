use Rattle.sqlite.specs.Held.{state}
use Rattle.sqlite.proofs.Callers.{unchanged_then}
use Rattle.record_program.proofs.Looked.{looked}
use Rattle.record_program.proofs.tables.refusal_in.Goals as goal

pub returns-in-Ok-false-clause-same : goal.returns-in-Ok-false-clause-same
returns-in-Ok-false-clause-same g c none clean =
    let asked = c.in-Ok-false.ensures.ok clean in (
      c.in-Ok-false.ensures.clean clean,
      looked (state g.S.Store c.args.conn.now) (state g.S.Store c.has_views.new.conn) asked.0 asked.1,
    )

pub returns-in-Ok-false-2-clause-same : goal.returns-in-Ok-false-2-clause-same
returns-in-Ok-false-2-clause-same g c none clean =
    let old = state g.S.Store c.args.conn.now in
    let mid = state g.S.Store c.has_views.new.conn in
    let new = state g.S.Store c.refusal_of_version.new.conn in
    let mid_clean = c.refusal_of_version.ensures.clean clean in
    let asked = c.in-Ok-false.ensures.ok mid_clean in (
      c.in-Ok-false.ensures.clean mid_clean,
      λ fits. unchanged_then old mid new (looked old mid asked.0 asked.1 fits) (c.refusal_of_version.ensures.same none clean),
    )
