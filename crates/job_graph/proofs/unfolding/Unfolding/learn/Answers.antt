use Rattle.std.proofs.Common.{map, subst}
use Rattle.std.specs.Prelude.{◌≡◌, OnErr, OnOk, length, take}
use Rattle.job_graph.specs.Unfold.{Resolved}
use Rattle.job_graph.specs.UnfoldedSoFar.{UnfoldedSoFar}
use Rattle.job_graph.specs.Unfolding.{AnswersAlike, Learns}
use Rattle.job_graph.specs.inner.Inside.{seen, walks_in}
use Rattle.job_graph.specs.inner.Views.{resolved_of}
use Rattle.job_graph.proofs.Knowing.{answers_alike, front_seen, learns_seen, stands_still}
use Rattle.job_graph.proofs.Needed.{none_needed}
use Rattle.job_graph.proofs.unfolding.Unfolding.learn.Goals as goal

pub invariant_of-self : goal.invariant_of-self
invariant_of-self c = record {
  stands = stands_still (resolved_of c.new.result) c.self.inside.progress c.learn.new.self c.learn.result
      (c.learn.ensures.learns (walks_in c.self.inside.progress) (map resolved_of c.self.inside.progress.facts.learned) c.self.invariant.stands);
  needed = none_needed c.learn.new.self _ c.replace.ensures.after;
}

pub returns-clause-learns : goal.returns-clause-learns
returns-clause-learns c =
    subst (λ (old : UnfoldedSoFar). Learns old (record { place = c.args.place; outputs = c.args.outputs }) (seen c.learn.new.self) c.learn.result) c.self.view_is
    (subst (λ (one : Resolved). Learns (seen c.self.inside.progress) one (seen c.learn.new.self) c.learn.result) c.new.ensures
    (learns_seen (resolved_of c.new.result) c.self.inside.progress c.learn.new.self c.learn.result c.self.invariant.stands c.learn.ensures.same
    (c.learn.ensures.learns (walks_in c.self.inside.progress) (map resolved_of c.self.inside.progress.facts.learned) c.self.invariant.stands)))

pub returns-clause-ok : goal.returns-clause-ok
returns-clause-ok c =
    subst (λ (old : UnfoldedSoFar). OnOk c.learn.result (take (length old.known) (seen c.learn.new.self).known ≡ old.known)) c.self.view_is
    (front_seen c.self.inside.progress c.learn.new.self c.learn.result c.learn.ensures.ok)

pub returns-clause-err : goal.returns-clause-err
returns-clause-err c =
    subst (λ (old : UnfoldedSoFar). OnErr c.learn.result (AnswersAlike old (seen c.learn.new.self))) c.self.view_is
    (answers_alike (seen c.self.inside.progress) (seen c.learn.new.self) (resolved_of c.new.result) c.learn.result
    (learns_seen (resolved_of c.new.result) c.self.inside.progress c.learn.new.self c.learn.result c.self.invariant.stands c.learn.ensures.same
    (c.learn.ensures.learns (walks_in c.self.inside.progress) (map resolved_of c.self.inside.progress.facts.learned) c.self.invariant.stands)))
