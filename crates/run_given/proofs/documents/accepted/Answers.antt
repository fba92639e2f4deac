use Rattle.run_given.specs.Sources.{bad_links}
use Rattle.run_given.proofs.documents.accepted.Goals as goal

pub returns-in-Err-Refused-clause-err : goal.returns-in-Err-Refused-clause-err
returns-in-Err-Refused-clause-err c = bad_links c.args.process c.in-Err-Refused.fault c.requires (rw c.in-Err-Refused.field-0-is at c.in-Err-Refused.ensures.err)
