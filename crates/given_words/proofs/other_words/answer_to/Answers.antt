use Rattle.std.proofs.Common.{ℕ, Bor, List, bytes_eq, map, rules}
use Rattle.std.specs.List.{list_any}
use borrow.Author.Tests.{tests}
use Rattle.std.proofs.lemmas.Iterator.{YieldsList-from_slice}
use Rattle.std.proofs.lemmas.Iterator.Search.{find_from_yields_List}
use Rattle.given_words.specs.declared.other_words.Other.{Other}
use Rattle.given_words.proofs.OtherWords.{answered}
use Rattle.given_words.proofs.other_words.answer_to.Goals as goal

pub returns-in-None : goal.returns-in-None
returns-in-None c =
    let told = answered c.args.option.now c.others.result.now c.find.result c.others.ensures (find_from_yields_List (λ (other : Other). list_any (bytes_eq c.args.option.now) (map (λ (name : Bor (List ℕ)). name.now) other.options.now)) _ _ c.find.result c.find.ensures.ran (YieldsList-from_slice c.others.result.now cc) (λ x b q k. search (rules, tests))) in
    rw c.in-None.is at told

pub returns-in-Some : goal.returns-in-Some
returns-in-Some c =
    let told = answered c.args.option.now c.others.result.now c.find.result c.others.ensures (find_from_yields_List (λ (other : Other). list_any (bytes_eq c.args.option.now) (map (λ (name : Bor (List ℕ)). name.now) other.options.now)) _ _ c.find.result c.find.ensures.ran (YieldsList-from_slice c.others.result.now cc) (λ x b q k. search (rules, tests))) in
    rw c.in-Some.is at told
