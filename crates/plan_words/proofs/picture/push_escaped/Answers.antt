use Rattle.std.proofs.Common.{◌≡◌, ◌++◌, ◌∙◌, ap, sym, string_bytes}
use Rattle.std.specs.Str.{chars}
use Rattle.std.specs.Prelude.{flat_map}
use Rattle.std.proofs.lemmas.List.{map-id}
use Rattle.std.proofs.lemmas.Iterator.{YieldsList-from_chars}
use Rattle.std.proofs.lemmas.Iterator.Consumers.{YieldsList-end}
use Rattle.plan_words.specs.Picture.{escaped, escaped_char}
use Rattle.plan_words.proofs.picture.push_escaped.Goals as goal

pub returns : goal.returns
unfolding escaped
returns c =
    let text = c.args.shown.now in
    let all = YieldsList-end (YieldsList-from_chars text c.utf8.shown cc) c.loop-c.yielded _ c.loop-c.yielded_by _ _ c.in-None.is c.next.ensures.steps in
    let yielded : c.loop-c.yielded ≡ chars text = sym (map-id c.loop-c.yielded) ∙ all.0 in
    c.loop-c.invariant ∙ ap (λ cs. string_bytes c.args.text.now ++ flat_map escaped_char cs) yielded
