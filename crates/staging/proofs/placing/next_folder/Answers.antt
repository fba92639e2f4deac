use Rattle.staging.proofs.placing.next_folder.Goals as goal

pub returns-clause-noted : goal.returns-clause-noted
returns-clause-noted c = c.in_ok-note.ensures.noted c.args.placed.now c.requires.index

pub returns-clause-named : goal.returns-clause-named
returns-clause-named c = c.in_ok-note-2.ensures c.args.placed.now c.requires.names
