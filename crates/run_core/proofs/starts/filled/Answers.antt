use Rattle.run_core.proofs.Lists.{if_ok}
use Rattle.run_core.proofs.Working.{starts_past}
use Rattle.run_core.proofs.starts.filled.Goals as goal

pub returns : goal.returns
returns c =
    if_ok c.fill_on.result (λ next on.
    starts_past c.args.site c.args.filling c.args.bytes.now c.put_contents.new.filling next c.in_ok-put_contents.ensures.puts c.in_ok-put_contents.ensures.staged on)
    c.fill_on.ensures
