use Rattle.std.proofs.Common.{◌∙◌, ◌≤◌, List, length, sym, ap, subst, arith}
use Rattle.run_core.specs.declared.job_states.JobState.{JobState}
use Rattle.run_core.specs.inner.JobStates.{NoneWaits, loaded_in, missed_in, staged_in}
use Rattle.run_core.proofs.States.{loaded_past, missed_past, none_waits_still, staged_past}
use Rattle.run_core.proofs.job_states.JobStates.reach.Goals as goal

pub loop-self-preserved : goal.loop-self-preserved
loop-self-preserved c =
    let states : List JobState = c.loop-self.self-inside.states.items in
    let past : length states ≤ c.args.number = omega (arith, c.len.ensures, c.loop-self-test.true) in
    record {
      same = λ folder.
          ap (staged_in c.args.number folder) c.in_ok-push.ensures.items
          ∙ staged_past states c.args.number folder past ∙ c.loop-self.invariant.same folder;
      loaded = λ folder.
          ap (loaded_in c.args.number folder) c.in_ok-push.ensures.items
          ∙ loaded_past states c.args.number folder past ∙ c.loop-self.invariant.loaded folder;
      missed = ap (missed_in c.args.number) c.in_ok-push.ensures.items ∙ missed_past states c.args.number past ∙ c.loop-self.invariant.missed;
      within = omega (arith, c.loop-self.invariant.within, c.in_ok-push.ensures.len);
      below = subst (λ (now : List JobState). NoneWaits now c.loop-self.self-inside.lowest) (sym c.in_ok-push.ensures.items)
          (none_waits_still states c.loop-self.self-inside.lowest c.loop-self.invariant.within c.loop-self.invariant.below);
    }
