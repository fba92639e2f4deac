use Rattle.std.proofs.Common.{◌∙◌, ◌<◌, ap, get_or, length, subst}
use Rattle.std.specs.Prelude.{◌||◌}
use Rattle.type_check.specs.inner.Members.{is_held, is_in}
use Rattle.type_check.proofs.Kept.{one_held}
use Rattle.type_check.proofs.members.add_texts.Goals as goal

pub loop-symbol-preserved : goal.loop-symbol-preserved
loop-symbol-preserved c =
    let i = c.loop-symbol.symbol-index in
    let text = c.symbol-item.result in
    one_held c.args.symbols.now (λ q. is_held q c.args.held.now.items || is_in q c.args.symbols.now) i c.loop-symbol.held.items c.push.new.self.items c.as_str.result text
    c.as_str.ensures.bytes (subst (λ texts. i < length texts) c.as_slice-symbol-items.ensures c.loop-symbol-test.true)
    (c.symbol-item.is ∙ ap (λ texts. get_or texts i text) c.as_slice-symbol-items.ensures) c.in_ok-push.ensures.items c.loop-symbol.invariant
