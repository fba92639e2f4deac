use Rattle.std.proofs.Common.{inl, inr}
use Rattle.sqlite.specs.Held.{state}
use Rattle.sqlite.proofs.Callers.{unchanged_then}
use Rattle.record_program.proofs.Looked.{looked, still_blank, still_known}
use Rattle.record_program.proofs.tables.refusal_of_shown.Goals as goal

pub returns-in-Ok-false-clause-same : goal.returns-in-Ok-false-clause-same
returns-in-Ok-false-clause-same g c none clean known =
    let old = state g.S.Store c.args.conn.now in
    let mid = state g.S.Store c.has_views.new.conn in
    let new = state g.S.Store c.refusal_of_look.new.conn in
    let asked = c.in-Ok-false.ensures.ok (c.refusal_of_look.ensures.clean clean) in
    let u = looked old mid asked.0 asked.1 (inr known) in
    unchanged_then old mid new u (c.refusal_of_look.ensures.same none clean (still_known old mid u known))

pub returns-in-Ok-false-clause-some : goal.returns-in-Ok-false-clause-some
returns-in-Ok-false-clause-some g c none clean blank =
    let old = state g.S.Store c.args.conn.now in
    let mid = state g.S.Store c.has_views.new.conn in
    let asked = c.in-Ok-false.ensures.ok (c.refusal_of_look.ensures.clean clean) in
    c.refusal_of_look.ensures.some none clean (still_blank old mid (looked old mid asked.0 asked.1 (inl blank)) blank)
