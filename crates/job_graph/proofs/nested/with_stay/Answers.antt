use Rattle.std.proofs.Common.{subst}
use Rattle.plain_data.specs.ByName.{value_at}
use Rattle.job_graph.specs.Jobs.{Outs}
use Rattle.job_graph.specs.inner.OneTuple.{StaysWith}
use Rattle.job_graph.proofs.nested.with_stay.Goals as goal

pub returns : goal.returns
returns c = record {
  is = c.in-Some.is;
  stays = λ is. subst (λ (others : Outs). StaysWith c.args.facts.now c.args.place.now c.args.inputs.now c.args.env.now c.args.step.now others (value_at c.args.step.now.0 c.args.env.now))
      c.as_slice-outs.ensures (c.in_ok-stays.ensures is);
}
