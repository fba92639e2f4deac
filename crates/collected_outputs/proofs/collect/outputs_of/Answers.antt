use Rattle.std.proofs.Common.{sym}
use Rattle.collected_outputs.specs.inner.Steps.{left_of}
use Rattle.collected_outputs.proofs.Gathering.{by_bindings, none_bound, by_file, none_in_file}
use Rattle.collected_outputs.proofs.collect.outputs_of.Goals as goal

pub returns-in-None-clause-ok : goal.returns-in-None-clause-ok
returns-in-None-clause-ok c = by_bindings (left_of c.args.folder) c.args.tool.now.outputs c.from_bindings.result (sym c.in-None.ensures.there) c.from_bindings.ensures.ok

pub returns-in-None-clause-err : goal.returns-in-None-clause-err
returns-in-None-clause-err c = none_bound (left_of c.args.folder) c.args.tool.now.outputs c.from_bindings.result (sym c.in-None.ensures.there) c.from_bindings.ensures.err

pub returns-in-Some-clause-ok : goal.returns-in-Some-clause-ok
returns-in-Some-clause-ok c = by_file (left_of c.args.folder) c.args.tool.now.outputs c.from_object.result c.in-Some.entry.now (sym c.in-Some.ensures.entry) c.from_object.ensures.ok

pub returns-in-Some-clause-err : goal.returns-in-Some-clause-err
returns-in-Some-clause-err c = none_in_file (left_of c.args.folder) c.args.tool.now.outputs c.from_object.result c.in-Some.entry.now (sym c.in-Some.ensures.entry) c.from_object.ensures.err
