use Rattle.std.proofs.Common.{IfNone, Option, subst, sym}
use Rattle.serde_json.specs.View.{view}
use Rattle.run_facts.specs.KeyTexts.{HasNoParts, IsNoObject}
use Rattle.run_facts.specs.declared.key_parts.KeyParts.{KeyParts}
use Rattle.run_facts.proofs.KeyLemmas.{none_joined}
use Rattle.run_facts.proofs.key_parts.parts_with.Goals as goal

pub returns-clause-none : goal.returns-clause-none
returns-clause-none c =
    let no_inputs = rw c.get.ensures at c.in_ok-inputs.ensures.none in
    let no_tool = rw c.get-2.ensures at c.in_ok-tool.ensures.none in
    subst (λ (parts : Option KeyParts). IfNone parts (HasNoParts (view c.args.key.now))) (sym c.joined.ensures)
    (none_joined (view c.args.key.now) (view c.args.env.now) c.in_ok-text.text c.requires c.in_ok-text.ensures c.in_ok-inputs.inputs c.in_ok-tool.tool no_inputs no_tool)
