use Rattle.std.proofs.Common.{ap, ◌∙◌}
use Rattle.serde_json.specs.View.{view}
use Rattle.document_table.specs.declared.document.TheConstants.{MOST_NESTING}
use Rattle.document_table.specs.Packed.{placed_seen}
use Rattle.cwl_process.specs.Acting.{nothing_asked}
use Rattle.cwl_process.proofs.Forms.{document_is_process, placed_is_process}
use Rattle.cwl_process.specs.Processes.{process_in}
use Rattle.cwl_process.proofs.document.read_unlinked.Goals as goal

pub read_process-requires : goal.read_process-requires
read_process-requires c =
    let d = view c.in_ok-document.document in
    placed_is_process d (placed_seen c.root_of-root.result) c.root_of-root.ensures (document_is_process c.args.bytes.now d c.in_ok-document.ensures.ok.0)

pub returns-clause-ok : goal.returns-clause-ok
returns-clause-ok c =
    let d = view c.in_ok-document.document in (
      d,
      c.in_ok-document.ensures.ok.0,
      c.in_ok-document.ensures.ok.1,
      c.in_ok-read_process.ensures ∙ ap (λ around. process_in MOST_NESTING around (placed_seen c.root_of-root.result).process) c.nothing_asked.ensures
          ∙ ap (λ p. process_in MOST_NESTING nothing_asked p.process) c.root_of-root.ensures,
    )
