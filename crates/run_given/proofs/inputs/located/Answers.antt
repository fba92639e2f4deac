use Rattle.run_given.specs.Sources.{no_path}
use Rattle.run_given.proofs.Stops.{not_an_object}
use Rattle.run_given.proofs.inputs.located.Goals as goal

pub returns-in-Err-Refused-clause-err : goal.returns-in-Err-Refused-clause-err
returns-in-Err-Refused-clause-err c =
    no_path c.args.value c.in-Err-Refused.fault c.requires (rw c.in-Err-Refused.field-0-is at c.in-Err-Refused.ensures.err)

pub returns-in-Ok-clause-err : goal.returns-in-Ok-clause-err
returns-in-Ok-clause-err c =
    not_an_object c.args._bytes.now c.args.base.now c.args.value c.in-Ok.value c.object_in.result c.requires c.in-Ok.ensures.ok c.object_in.ensures.err c.object_in.ensures.other
