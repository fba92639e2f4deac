use Rattle.std.proofs.Common.{arith}
use Rattle.job_graph.proofs.OneTuple.{element}
use Rattle.job_graph.proofs.held.is_held_back.Goals as goal

pub loop-back-init : goal.loop-back-init
loop-back-init c = tt

pub returns-then-branch : goal.returns-then-branch
returns-then-branch c = λ held. record {
  one = c.index-tuples-number.result;
  among = element c.args.tuples.now _ c.index-tuples-number.result (omega (arith, c.loop-back-test.true)) c.index-tuples-number.is;
  none = c.in_ok-holds_back.ensures c.if-branch.true;
}

pub loop-back-preserved : goal.loop-back-preserved
loop-back-preserved c = tt

pub returns : goal.returns
returns c = λ held. absurd cc
