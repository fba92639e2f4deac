use Rattle.std.proofs.Common.{◌∙◌, lit<, rules}
use borrow.Author.Tests.{tests}
use Rattle.std.proofs.lemmas.Iterator.Search.{any_from_yields_List}
use Rattle.std.proofs.lemmas.Iterator.Splits.{YieldsList-from_str_split}
use Rattle.given_words.specs.Processors.{part_has}
use Rattle.given_words.proofs.Listed.{parts}
use Rattle.given_words.proofs.processors.has_number.Goals as goal

pub returns : goal.returns
returns c =
    any_from_yields_List (λ part. part_has part c.args.number) _ _ c.any.result c.any.ensures.ran (YieldsList-from_str_split 44 c.trim.result.now (lit< tt) c.split.ensures.text c.split.ensures.has_more c.split.ensures.pattern) (λ x b q k. search (rules, tests))
    ∙ parts c.args.list.now c.trim.result.now c.args.number c.trim.ensures.trim
