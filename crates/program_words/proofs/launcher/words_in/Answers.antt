use Rattle.std.proofs.Common.{◌∙◌, lit<, ap}
use Rattle.std.specs.List.{filter}
use Rattle.std.proofs.lemmas.Iterator.Consumers.{YieldsList-end}
use Rattle.std.proofs.lemmas.Iterator.Splits.{YieldsList-from_str_split}
use Rattle.program_words.specs.Launcher.{is_word}
use Rattle.program_words.proofs.launcher.words_in.Goals as goal

pub returns : goal.returns
returns c =
    let all = YieldsList-end (YieldsList-from_str_split 32 c.args.text.now (lit< tt) (cc) (cc) (cc)) c.loop-part.yielded _ c.loop-part.yielded_by _ _ c.in-None.is c.next.ensures.steps in
    c.loop-part.invariant ∙ ap (filter is_word) all.0
