use Rattle.std.proofs.Common.{None}
use Rattle.run_rules.specs.Answers.{is_dropped, is_found, is_put, is_touched}
use Rattle.test_engine.proofs.alone.told.Goals as goal

pub returns-in-Find : goal.returns-in-Find
returns-in-Find c = rw c.in-Find.is (is_found _ None tt)

pub returns-in-Put : goal.returns-in-Put
returns-in-Put c = rw c.in-Put.is (is_put _ _)

pub returns-in-Touch : goal.returns-in-Touch
returns-in-Touch c = rw c.in-Touch.is (is_touched _)

pub returns-in-DropArchive : goal.returns-in-DropArchive
returns-in-DropArchive c = rw c.in-DropArchive.is (is_dropped _)
