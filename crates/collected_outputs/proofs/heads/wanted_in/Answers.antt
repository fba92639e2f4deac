use Rattle.std.proofs.Common.{sym, subst}
use Rattle.collected_outputs.specs.HeadsWanted.{AreHeadsWanted}
use Rattle.collected_outputs.proofs.heads.wanted_in.Goals as goal

pub returns-in_ok-object_wanted-in-Some-clause-ok : goal.returns-in_ok-object_wanted-in-Some-clause-ok
returns-in_ok-object_wanted-in-Some-clause-ok c =
    subst (AreHeadsWanted c.args.listing.now c.args.inputs.now c.args.tool.now.outputs) (sym c.in_ok-object_wanted-in-Some.ensures) (AreHeadsWanted.of_object c.in-Some.entry.now (sym c.in-Some.ensures.entry))
