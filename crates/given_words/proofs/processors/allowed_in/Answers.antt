use Rattle.std.proofs.Common.{rules}
use borrow.Author.Tests.{tests}
use Rattle.std.proofs.lemmas.Iterator.Search.{find_from_yields_List}
use Rattle.std.proofs.lemmas.Iterator.Splits.{YieldsList-from_lines}
use Rattle.given_words.proofs.Listed.{has_label, none_allowed, some_allowed}
use Rattle.given_words.proofs.processors.allowed_in.Goals as goal

pub returns-in-None : goal.returns-in-None
returns-in-None c =
    let found = find_from_yields_List has_label _ _ c.find.result c.find.ensures.ran (YieldsList-from_lines c.args.status.now c.lines.ensures.rest) (λ x b q k. search (rules, tests)) in
    none_allowed c.args.status.now (rw c.in-None.is at found)

pub returns-in-Some : goal.returns-in-Some
returns-in-Some c =
    let found = find_from_yields_List has_label _ _ c.find.result c.find.ensures.ran (YieldsList-from_lines c.args.status.now c.lines.ensures.rest) (λ x b q k. search (rules, tests)) in
    some_allowed c.args.status.now c.in-Some.line.now _ (rw c.in-Some.is at found) c.behind_label.ensures
