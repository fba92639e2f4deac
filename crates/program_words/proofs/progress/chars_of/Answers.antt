use Rattle.std.proofs.Common.{◌≡◌, ◌∙◌, sym}
use Rattle.std.specs.Str.{chars}
use Rattle.std.proofs.lemmas.List.{map-id}
use Rattle.std.proofs.lemmas.Iterator.{YieldsList-from_chars}
use Rattle.std.proofs.lemmas.Iterator.Consumers.{YieldsList-end}
use Rattle.program_words.proofs.progress.chars_of.Goals as goal

pub returns : goal.returns
returns c =
    let text = c.args.text.now in
    let all = YieldsList-end (YieldsList-from_chars text c.utf8.text cc) c.loop-c.yielded _ c.loop-c.yielded_by _ _ c.in-None.is c.next.ensures.steps in
    let yielded : c.loop-c.yielded ≡ chars text = sym (map-id c.loop-c.yielded) ∙ all.0 in
    c.loop-c.invariant ∙ yielded
