use Rattle.std.proofs.Common.{◌∙◌, length, map, ap, refl}
use Rattle.job_graph.specs.inner.Ended.{ended_of}
use Rattle.job_graph.specs.inner.Views.{resolved_of}
use Rattle.job_graph.proofs.Flags.{flags_fit, flags_more}
use Rattle.job_graph.proofs.OneOpen.{opens_are}
use Rattle.job_graph.proofs.Unfolds.{blames_more, knows_more, knows_open, knows_still, popped}
use Rattle.job_graph.proofs.progress.Progress.resolve.Goals as goal

pub sees_open-is_open-requires : goal.sees_open-is_open-requires
sees_open-is_open-requires c =
    ap length c.as_slice.ensures.value ∙ flags_fit c.args.self.now c.as_slice-2.result.now c.requires.ended c.as_slice-2.ensures

pub end_last-requires : goal.end_last-requires
end_last-requires c = flags_fit c.args.self.now c.args.self.now.known c.requires.ended refl

pub look_up-requires : goal.look_up-requires
look_up-requires c =
    flags_fit c.unfold.new.self c.as_slice-in-Err.result.now
    (c.unfold.ensures.ended (flags_more c.args.self.now c.args.resolved c.push.new.self c.args.self.now.known c.end_last.new.ended.items c.requires.ended c.in_ok-push.ensures.ok refl c.end_last.ensures))
    c.as_slice-in-Err.ensures

pub returns-then-is_open-clause-resolves : goal.returns-then-is_open-clause-resolves
returns-then-is_open-clause-resolves c =
    λ walks learned knows. knows_open walks learned c.args.self.now c.args.resolved c.push.new.self c.end_last.new.ended c.requires knows c.in_ok-push.ensures.ok
    (opens_are c.args.self.now c.args.resolved.at.place c.as_slice.result.now c.as_slice-2.result.now c.requires.ended c.as_slice.ensures.value c.as_slice-2.ensures
    (c.sees_open-is_open.ensures c.if-is_open.true))
    (flags_more c.args.self.now c.args.resolved c.push.new.self c.args.self.now.known c.end_last.new.ended.items c.requires.ended c.in_ok-push.ensures.ok refl c.end_last.ensures)

pub returns-in-Ok-clause-resolves : goal.returns-in-Ok-clause-resolves
returns-in-Ok-clause-resolves c =
    λ walks learned knows. knows_more walks learned c.args.self.now c.unfold.new.self c.args.resolved c.push.new.self c.end_last.new.ended c.requires knows c.in_ok-push.ensures.ok
    (flags_more c.args.self.now c.args.resolved c.push.new.self c.args.self.now.known c.end_last.new.ended.items c.requires.ended c.in_ok-push.ensures.ok refl c.end_last.ensures)
    c.in-Ok.ensures

pub returns-in-Err-clause-resolves : goal.returns-in-Err-clause-resolves
returns-in-Err-clause-resolves c =
    λ walks learned knows. (
      blames_more walks learned c.args.self.now c.unfold.new.self c.args.resolved c.push.new.self c.end_last.new.ended c.in-Err.error c.requires knows c.in_ok-push.ensures.ok c.in-Err.ensures,
      knows_still walks learned c.args.self.now c.unfold.new.self c.push.new.self c.pop.new.self c.end_last.new.ended c.look_up.new.ended c.in-Err.error knows
          (popped c.args.self.now.facts.learned c.unfold.new.self.facts.learned c.pop.new.self c.args.resolved c.pop.result (c.unfold.ensures.learned ∙ c.in_ok-push.ensures.ok) c.pop.ensures)
          (c.look_up.ensures ∙ ap (ended_of (map resolved_of c.pop.new.self)) c.as_slice-in-Err.ensures)
          c.in-Err.ensures,
    )
