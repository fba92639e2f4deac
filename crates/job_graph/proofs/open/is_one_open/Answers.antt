use Rattle.std.proofs.Common.{◌∙◌, false, sym, arith}
use Rattle.job_graph.proofs.OneOpen.{found_open}
use Rattle.job_graph.proofs.open.is_one_open.Goals as goal

pub returns-then-is_open : goal.returns-then-is_open
returns-then-is_open c =
    sym (found_open c.args.place.now c.args.ended.now c.args.known.now _ false c.index-known-number.result c.requires (omega arith)
    c.index-known-number.is (sym c.is_open.ensures ∙ c.if-is_open.true))
