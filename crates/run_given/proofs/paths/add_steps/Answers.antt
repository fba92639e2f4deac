use Rattle.std.proofs.Common.{◌∙◌, ◌++◌, lit<, ap, string_bytes}
use Rattle.std.specs.Prelude.{filter}
use Rattle.std.proofs.lemmas.Iterator.Consumers.{YieldsList-end}
use Rattle.std.proofs.lemmas.Iterator.Splits.{YieldsList-from_str_split}
use Rattle.run_given.specs.Paths.{leads_on, rooted}
use Rattle.run_given.proofs.paths.add_steps.Goals as goal

pub returns : goal.returns
returns c =
    let all = YieldsList-end (YieldsList-from_str_split 47 c.args.name.now (lit< tt) (cc) (cc) (cc)) c.loop-component.yielded _ c.loop-component.yielded_by _ _ c.in-None.is c.next.ensures.steps in
    c.loop-component.invariant ∙ ap (λ parts. string_bytes c.args.path.now ++ rooted (filter leads_on parts)) all.0
