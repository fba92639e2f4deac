use Rattle.std.proofs.Common.{◌∙◌, Bor, List, ℕ, bytes_eq, rules}
use borrow.Author.Tests.{tests}
use Rattle.std.proofs.lemmas.Iterator.{YieldsList-from_slice}
use Rattle.std.proofs.lemmas.Iterator.Search.{any_from_yields_List}
use Rattle.given_words.proofs.Lists.{any_of}
use Rattle.given_words.proofs.other_words.has_option.Goals as goal

pub returns : goal.returns
returns c =
    any_from_yields_List (λ (name : Bor (List ℕ)). bytes_eq c.args.option.now name.now) _ _ c.any.result c.any.ensures.ran (YieldsList-from_slice c.args.other.now.options.now cc) (λ x b q k. search (rules, tests))
    ∙ any_of (bytes_eq c.args.option.now) (λ (name : Bor (List ℕ)). name.now) c.args.other.now.options.now
