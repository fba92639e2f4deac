use Rattle.std.proofs.Common.{◌∙◌, List, ap}
use Rattle.cwl_value.specs.Placed.{fields_moved}
use Rattle.run_rules.specs.Delivered.{source_place}
use Rattle.run_rules.specs.Folders.{left_folder}
use Rattle.run_core.specs.declared.job_states.JobState.{JobState}
use Rattle.run_core.specs.inner.Course.{fetched_in, known_in, number_in}
use Rattle.run_core.proofs.Lists.{if_ok}
use Rattle.run_core.proofs.choice.sources_of.Goals as goal

pub returns : goal.returns
returns c =
    if_ok c.placed_fields.result (λ files is.
    is ∙ ap (λ (states : List JobState). fields_moved (source_place (λ place. left_folder c.args.options.now.work (fetched_in (known_in c.args.course.now.known) states place) (number_in (known_in c.args.course.now.known) states place))) c.args.values.now) c.as_slice.ensures)
    c.placed_fields.ensures
