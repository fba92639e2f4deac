use Rattle.std.proofs.Common.{◌∙◌, sym, ap}
use Rattle.std.specs.Prelude.{option_copied}
use Rattle.run_core.specs.inner.Fetches.{archived_in}
use Rattle.run_core.proofs.fetching.fetching.Goals as goal

pub unreachable-requires : goal.unreachable-requires
unreachable-requires c =
    let never = ap (λ o. archived_in c.args.course.now.lost.items (option_copied o)) (sym c.in-None.is) ∙ ap (archived_in c.args.course.now.lost.items) c.get.ensures ∙ c.requires.loads in
    absurd cc
