use Rattle.std.proofs.Common.{Ok, Some, sym, ap, ◌∙◌}
use Rattle.collected_outputs.specs.inner.Names.{wanted_at}
use Rattle.collected_outputs.proofs.Adding.{taking, added_is, added_none, added_one}
use Rattle.collected_outputs.proofs.Giving.{refused_map}
use Rattle.collected_outputs.proofs.secondary.add_secondary.Goals as goal

pub returns-in-Ok-None-clause-ok : goal.returns-in-Ok-None-clause-ok
returns-in-Ok-None-clause-ok c = added_none c.args.listing.now c.args.file c.args.declared.now c.args.file.place (c.in-Ok-None.ensures.ok ∙ ap Ok c.in-Ok-None.field-0-is)

pub returns-in_ok-with_beside-in-Ok-Some-clause-ok : goal.returns-in_ok-with_beside-in-Ok-Some-clause-ok
returns-in_ok-with_beside-in-Ok-Some-clause-ok c =
    added_one c.args.listing.now c.args.file c.args.declared.now c.args.file.place c.as_str.result.now _ (c.in-Ok-Some.ensures.ok ∙ ap Ok (c.in-Ok-Some.field-0-is ∙ ap Some (c.in-Ok-Some.path-is ∙ sym c.as_str.ensures.bytes))) c.in_ok-with_beside-in-Ok-Some.ensures

pub returns-in-Err-clause-err : goal.returns-in-Err-clause-err
returns-in-Err-clause-err c =
    rw (added_is c.args.listing.now c.args.file c.args.declared.now c.args.file.place)
    (refused_map (taking c.args.listing.now c.args.file) (wanted_at c.args.listing.now c.args.file c.args.declared.now c.args.file.place) c.in-Err.stop c.in-Err.ensures.err)
