use Rattle.std.proofs.Common.{ℕ, List, [], reverse, subst}
use Rattle.collected_outputs.specs.Contents.{Heads}
use Rattle.staging.specs.declared.found.Found.{Found}
use Rattle.run_core.specs.inner.Due.{Collects}
use Rattle.run_core.proofs.Lists.{if_ok}
use Rattle.run_core.proofs.collects.listed.Goals as goal

pub returns-in-Ok : goal.returns-in-Ok
returns-in-Ok c =
    if_ok c.read_on.result (λ next on. record {
      wanted = reverse c.in-Ok.reading.left;
      are = c.in-Ok.ensures.left;
      on = subst (λ (found : List Found). Collects c.args.site c.args.kept c.args.millis found [] (reverse c.in-Ok.reading.left) next) c.in-Ok.ensures.found
          (subst (λ (heads : Heads). Collects c.args.site c.args.kept c.args.millis c.in-Ok.reading.found heads (reverse c.in-Ok.reading.left) next) c.in-Ok.ensures.heads
          (subst (λ (n : ℕ). Collects c.args.site c.args.kept n c.in-Ok.reading.found c.in-Ok.reading.heads (reverse c.in-Ok.reading.left) next) c.in-Ok.ensures.millis on));
    }) c.read_on.ensures
