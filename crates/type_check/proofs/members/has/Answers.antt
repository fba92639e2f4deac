use Rattle.std.proofs.Common.{◌∙◌}
use Rattle.type_check.proofs.Sought.{sought}
use Rattle.type_check.proofs.members.has.Goals as goal

pub returns : goal.returns
returns c = c.is_ok.ensures.value ∙ sought c.args.held.now c.args.text.now _ c.requires c.binary_search.ensures.bound c.binary_search.ensures.position
