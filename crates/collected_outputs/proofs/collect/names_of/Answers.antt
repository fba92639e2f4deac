use Rattle.std.proofs.Common.{ap, ◌∙◌}
use Rattle.collected_outputs.specs.Outputs.{globs_of, globs_in}
use Rattle.collected_outputs.proofs.Bound.{named_by_kind}
use Rattle.collected_outputs.proofs.collect.names_of.Goals as goal

pub returns-in-Stdout-clause-ok : goal.returns-in-Stdout-clause-ok
returns-in-Stdout-clause-ok c = named_by_kind c.args.folder.listing.now c.args.folder.speaks.inputs.now c.args.folder.speaks.runtime.now c.args.output.now.kind c.args.output.now.binding _ (ap (λ k. globs_of k c.args.output.now.binding) c.in-Stdout.is) c.new.ensures

pub returns-in-Stderr-clause-ok : goal.returns-in-Stderr-clause-ok
returns-in-Stderr-clause-ok c = named_by_kind c.args.folder.listing.now c.args.folder.speaks.inputs.now c.args.folder.speaks.runtime.now c.args.output.now.kind c.args.output.now.binding _ (ap (λ k. globs_of k c.args.output.now.binding) c.in-Stderr.is) c.new-in-Stderr.ensures

pub returns-in-None-clause-ok : goal.returns-in-None-clause-ok
returns-in-None-clause-ok c = named_by_kind c.args.folder.listing.now c.args.folder.speaks.inputs.now c.args.folder.speaks.runtime.now c.args.output.now.kind c.args.output.now.binding _ (ap (λ k. globs_of k c.args.output.now.binding) c.in-Members.is ∙ ap globs_in c.in-None.is) c.new-in-None.ensures
