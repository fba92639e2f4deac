use Rattle.std.proofs.Common.{◌∙◌, ◌<◌, List, length, refl, sym, ap, subst}
use Rattle.std.proofs.lemmas.Option.{slice_get_read}
use Rattle.run_core.specs.declared.job_states.JobState.{JobState}
use Rattle.run_core.specs.inner.JobStates.{given_up_in}
use Rattle.run_core.proofs.States.{given_up_set}
use Rattle.run_core.proofs.job_states.JobStates.give_up.Goals as goal

pub returns-then-number-self : goal.returns-then-number-self
returns-then-number-self c =
    sym (given_up_set c.self.inside.states.items c.args.number c.index_mut-state.result.now
    (slice_get_read c.self.inside.states.items (length c.self.inside.states.items) c.args.number c.index_mut-state.result.now refl
    (subst (λ (states : List JobState). c.args.number < length states) (sym c.self.view_is) c.requires.within) c.index_mut-state.ensures.value))
    ∙ ap (given_up_in c.args.number) c.self.view_is

pub returns-else-number-self : goal.returns-else-number-self
returns-else-number-self c =
    sym (given_up_set c.self.inside.states.items c.args.number c.index_mut-state.result.now
    (slice_get_read c.self.inside.states.items (length c.self.inside.states.items) c.args.number c.index_mut-state.result.now refl
    (subst (λ (states : List JobState). c.args.number < length states) (sym c.self.view_is) c.requires.within) c.index_mut-state.ensures.value))
    ∙ ap (given_up_in c.args.number) c.self.view_is
