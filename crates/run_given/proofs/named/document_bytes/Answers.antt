use Rattle.program_words.specs.RunWords.{wish_of_run}
use Rattle.run_given.proofs.Stops.{unread_document}
use Rattle.run_given.proofs.named.document_bytes.Goals as goal

pub returns-clause-err : goal.returns-clause-err
returns-clause-err g c =
    unread_document c.args.call.now.here.now (wish_of_run c.args.call.now.words.now) _ c.file_bytes.ensures.err
