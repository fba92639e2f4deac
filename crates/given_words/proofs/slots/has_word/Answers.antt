use Rattle.std.proofs.Common.{◌∙◌, bytes_eq, rules, string_bytes}
use borrow.Author.Tests.{tests}
use Rattle.std.proofs.lemmas.Iterator.{YieldsList-from_slice}
use Rattle.std.proofs.lemmas.Iterator.Search.{any_from_yields_List}
use Rattle.given_words.proofs.Lists.{any_of}
use Rattle.given_words.proofs.slots.has_word.Goals as goal

pub returns : goal.returns
returns c =
    any_from_yields_List (λ other. bytes_eq (string_bytes other) c.args.word.now) _ _ c.any.result c.any.ensures.ran (YieldsList-from_slice c.args.words.now cc) (λ x b q k. search (rules, tests))
    ∙ any_of (λ other. bytes_eq other c.args.word.now) string_bytes c.args.words.now
