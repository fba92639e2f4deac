use Rattle.std.proofs.Common.{◌≡◌, drop, map}
use Rattle.std.specs.Prelude.{◌||◌}
use Rattle.plain_data.specs.ByName.{map_values}
use Rattle.job_graph.specs.Words.{JobPlace}
use Rattle.cwl_value.specs.Fileless.{some_true}
use Rattle.job_graph.specs.Made.{holds_made}
use Rattle.job_graph.specs.inner.Makers.{is_noted}
use Rattle.job_graph.proofs.makers.+noting.Given as goal

abbrev pub invariant-note_items-loop-item : goal.invariant-note_items-loop-item
invariant-note_items-loop-item l =
    (job : JobPlace) → (is_noted job l.noted || some_true (map (holds_made job) (drop l.item-index l.items)))
    ≡ (is_noted job l.fn.noted || some_true (map (holds_made job) l.items))

abbrev pub invariant-note_fields-loop-field : goal.invariant-note_fields-loop-field
invariant-note_fields-loop-field l =
    (job : JobPlace) → (is_noted job l.noted || some_true (map (λ f. f.1) (map_values (holds_made job) (drop l.field-index l.field-items))))
    ≡ (is_noted job l.fn.noted || some_true (map (λ f. f.1) (map_values (holds_made job) l.field-items)))
