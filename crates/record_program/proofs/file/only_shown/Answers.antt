use Rattle.std.proofs.Common.{inl, inr}
use Rattle.record_program.specs.Opened.{hidden, shows}
use Rattle.record_program.proofs.file.only_shown.Goals as goal

pub returns-clause-shown : goal.returns-clause-shown
returns-clause-shown g c = elim c.shown_in-ending.ensures.shows [ inl none ↦ hidden none | inr is ↦ shows c.shown_in-ending.new.conn is.0 is.1 ]
