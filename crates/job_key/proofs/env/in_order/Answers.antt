use Rattle.job_key.proofs.Distinct.{never_twice}
use Rattle.job_key.proofs.env.in_order.Goals as goal

pub unreachable-requires : goal.unreachable-requires
unreachable-requires c =
    never_twice c.args.variables.now c.in_ok-texts_of.field-0.items c.in-Err.field-0.name c.in_ok-texts_of.ensures c.requires c.in-Err.ensures.err
