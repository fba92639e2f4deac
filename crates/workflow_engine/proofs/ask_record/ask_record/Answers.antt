use Rattle.workflow_engine.proofs.ByMap.{drop_by, find_by, put_by, touch_by}
use Rattle.workflow_engine.proofs.Commands.{drop_told, find_told, put_told, touch_told}
use Rattle.workflow_engine.proofs.ask_record.ask_record.Goals as goal

pub returns-in-Find-clause-answers : goal.returns-in-Find-clause-answers
returns-in-Find-clause-answers g c = rw (c.in-Find.is, c.found.ensures) (find_told c.in-Find.key c.find.result c.find.ensures.keyed)

pub returns-in-Put-clause-answers : goal.returns-in-Put-clause-answers
returns-in-Put-clause-answers g c = rw (c.in-Put.is, c.kept.ensures) (put_told c.in-Put.row c.put.result)

pub returns-in-Touch-clause-answers : goal.returns-in-Touch-clause-answers
returns-in-Touch-clause-answers g c = rw (c.in-Touch.is, c.done.ensures) (touch_told c.in-Touch.key c.touch.result)

pub returns-in-DropArchive-clause-answers : goal.returns-in-DropArchive-clause-answers
returns-in-DropArchive-clause-answers g c =
    rw (c.in-DropArchive.is, c.done-in-DropArchive.ensures) (drop_told c.in-DropArchive.key c.drop_archive.result)

pub returns-in-Find-clause-by_map : goal.returns-in-Find-clause-by_map
returns-in-Find-clause-by_map g c sound map held =
    rw (c.in-Find.is, c.found.ensures) (find_by (g.R.Record.holds c.find.new.self) map c.in-Find.key c.find.result (c.find.ensures.finds sound map held))

pub returns-in-Put-clause-by_map : goal.returns-in-Put-clause-by_map
returns-in-Put-clause-by_map g c sound map held =
    rw (c.in-Put.is, c.kept.ensures) (put_by (g.R.Record.holds c.put.new.self) map c.in-Put.row c.put.result (c.put.ensures.puts sound map held))

pub returns-in-Touch-clause-by_map : goal.returns-in-Touch-clause-by_map
returns-in-Touch-clause-by_map g c sound map held =
    rw (c.in-Touch.is, c.done.ensures) (touch_by (g.R.Record.holds c.touch.new.self) map c.in-Touch.key c.touch.result (c.touch.ensures.touches sound map held))

pub returns-in-DropArchive-clause-by_map : goal.returns-in-DropArchive-clause-by_map
returns-in-DropArchive-clause-by_map g c sound map held =
    rw (c.in-DropArchive.is, c.done-in-DropArchive.ensures)
    (drop_by (g.R.Record.holds c.drop_archive.new.self) map c.in-DropArchive.key c.drop_archive.result (c.drop_archive.ensures.drops sound map held))

pub returns-in-Put-clause-form : goal.returns-in-Put-clause-form
returns-in-Put-clause-form g c = rw c.in-Put.is c.in_form.ensures
