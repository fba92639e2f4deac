use Rattle.std.proofs.Common.{sym, ◌∙◌}
use Rattle.document_table.specs.Packed.{placed_seen}
use Rattle.cwl_process.proofs.Forms.{item_is_process}
use Rattle.document_links.proofs.target.sound_item.Goals as goal

pub returns-in-None-clause-process : goal.returns-in-None-clause-process
returns-in-None-clause-process c = item_is_process (placed_seen c.args.item) (sym c.in_ok-item_fault.ensures ∙ c.in-None.is)
