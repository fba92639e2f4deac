use Rattle.std.proofs.Common.{sym, ◌∙◌}
use Rattle.collected_outputs.proofs.Matching.{if_folder, if_below}
use Rattle.collected_outputs.proofs.matches.push_matches.Goals as goal

pub returns-then-is_folder : goal.returns-then-is_folder
returns-then-is_folder c =
    if_folder c.args.listing.now c.args.pattern.now c.args.names.now c.push.new.self c.in_ok-from_text.field-0 c.push.result (sym c.is_folder.ensures ∙ c.if-is_folder.true) c.in_ok-from_text.ensures c.push.ensures.ok

pub returns : goal.returns
returns c = if_below c.args.listing.now c.args.pattern.now c.args.names.now c.push_found.new.names c.push_found.result (sym c.is_folder.ensures ∙ c.if-is_folder.false) c.push_found.ensures
