use Rattle.run_core.proofs.Lists.{if_ok}
use Rattle.run_core.proofs.Working.{collects_past}
use Rattle.run_core.proofs.collects.read.Goals as goal

pub returns : goal.returns
returns c =
    if_ok c.read_on.result (λ next on.
    collects_past c.args.site c.args.kept c.args.reading c.args.bytes.now c.put_head.new.reading next c.in_ok-put_head.ensures.puts c.in_ok-put_head.ensures.found
    c.in_ok-put_head.ensures.millis on)
    c.read_on.ensures
