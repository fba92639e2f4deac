use Rattle.std.proofs.Common.{rules}
use Rattle.std.proofs.lemmas.Fn.{filter_same}
use Rattle.link_values.specs.Picked.{is_something}
use Rattle.link_values.proofs.picking.not_null.Goals as goal

pub returns : goal.returns
returns c = filter_same _ is_something _ (λ x b f' k. search rules) _ _ c.retain.ensures.filtered
