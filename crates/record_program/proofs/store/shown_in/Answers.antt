use Rattle.std.proofs.Common.{inl, inr}
use Rattle.sqlite.specs.Held.{state}
use Rattle.record_program.proofs.Looked.{first_before, shows_before, still_first, still_record}
use Rattle.record_program.proofs.store.shown_in.Goals as goal

pub returns-in-None-clause-shows : goal.returns-in-None-clause-shows
returns-in-None-clause-shows g c =
    let old = state g.S.Store c.args.conn.now in
    let mid = state g.S.Store c.refusal_of_shown.new.conn in
    let new = state g.S.Store c.listed.new.conn in
    inr (
      λ clean.
          let shown = c.listed.ensures.shows clean in
          let spared = c.refusal_of_shown.ensures.same c.in-None.is shown.0 in (
            c.refusal_of_shown.ensures.clean shown.0,
            λ it. let u = spared (inr it) in shows_before old mid new u c.listed.result (shown.1 (still_record old mid u it)),
            λ first. let u = spared (inl first) in first_before old mid new u c.listed.result (shown.2 (still_first old mid u first)),
          ),
      λ clean blank. c.refusal_of_shown.ensures.some c.in-None.is (c.listed.ensures.shows clean).0 blank,
    )
