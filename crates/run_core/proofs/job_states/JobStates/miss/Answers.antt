use Rattle.std.proofs.Common.{◌∙◌, ◌<◌, List, length, refl, sym, ap, subst}
use Rattle.std.proofs.lemmas.Option.{slice_get_read}
use Rattle.run_core.specs.declared.job_states.JobState.{JobState}
use Rattle.run_core.specs.inner.JobStates.{missed_in}
use Rattle.run_core.proofs.States.{missed_set}
use Rattle.run_core.proofs.job_states.JobStates.miss.Goals as goal

pub returns : goal.returns
returns c =
    sym (missed_set c.self.inside.states.items c.args.number c.index_mut.result.now
    (slice_get_read c.self.inside.states.items (length c.self.inside.states.items) c.args.number c.index_mut.result.now refl
    (subst (λ (states : List JobState). c.args.number < length states) (sym c.self.view_is) c.in_ok-reach.ensures.reached) c.index_mut.ensures.value))
    ∙ ap (missed_in c.args.number) c.self.view_is
    ∙ c.in_ok-reach.ensures.missed
