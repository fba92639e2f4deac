use Rattle.std.proofs.Common.{ap, subst, ◌∙◌}
use Rattle.collected_outputs.specs.Laws.{AreDeclared}
use Rattle.collected_outputs.specs.Listing.{listing_of}
use Rattle.job_reuse.proofs.Sounding.{sound_by}
use Rattle.job_reuse.proofs.sound.row_is_sound.Goals as goal

pub returns : goal.returns
returns c =
    sound_by c.args.tool.now c.args.row.now c.in_ok-index.index (c.in_ok-index.ensures ∙ ap listing_of c.as_slice-2.ensures) c.fields_stand-stand.result c.fields_stand-stand.ensures
    (subst (λ outputs. AreDeclared outputs c.args.row.now.outputs) c.as_slice.ensures.entries (c.are_declared.ensures.0 c.if-not-are_declared.false))
