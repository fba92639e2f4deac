use Rattle.std.proofs.Common.{◌∙◌, ◌∷◌, ◌++◌, List, [], Option, ap, ap₂, unwrap_or, ℕ}
use Rattle.plain_data.specs.ByName.{value_at, with_value}
use Rattle.job_graph.specs.Words.{Name}
use Rattle.job_graph.proofs.Reading.{noted}
use Rattle.job_graph.proofs.readers.note.Goals as goal

pub returns : goal.returns
returns c =
    noted c.args.rows.now c.insert.new.self c.insert-2.new.self c.args.id.now c.args.number c.in_ok-row.row
    (c.in_ok-taken.ensures.new ∙ ap₂ (λ (id : Name) (row : List ℕ). with_value id row c.args.rows.now) c.in_ok-copied.ensures c.new.ensures)
    (c.in_ok-row.ensures ∙ ap (λ (found : Option (List ℕ)). unwrap_or found [] ++ c.args.number ∷ []) (c.in_ok-taken.ensures.old ∙ ap (λ (id : Name). value_at id c.args.rows.now) c.in_ok-copied.ensures))
    (c.in_ok-insert.ensures.new ∙ ap (λ (id : Name). with_value id c.in_ok-row.row c.insert.new.self) c.in_ok-copied-2.ensures)
