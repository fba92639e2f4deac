use Rattle.std.proofs.Common.{◌∙◌, ap, length}
use Rattle.job_graph.proofs.Flags.{flags_fit, needs_are}
use Rattle.job_graph.proofs.progress.Progress.needed.Goals as goal

pub needed_of-requires : goal.needed_of-requires
needed_of-requires c =
    ap length c.as_slice-ended.ensures.value ∙ flags_fit c.args.self.now c.as_slice-known.result.now c.requires.ended c.as_slice-known.ensures

pub returns-clause-ok : goal.returns-clause-ok
returns-clause-ok c =
    needs_are c.args.self.now c.in_ok-needed.needed.items c.as_slice-outs.result.now c.as_slice-ended.result.now c.as_slice-known.result.now c.requires.ended
    c.in_ok-needed.ensures c.as_slice-outs.ensures.value c.as_slice-ended.ensures.value c.as_slice-known.ensures
