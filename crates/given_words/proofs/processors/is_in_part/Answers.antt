use Rattle.std.proofs.Common.{lit<}
use Rattle.std.proofs.lemmas.Str.Pattern.{split_once_first}
use Rattle.given_words.proofs.Listed.{alone, two}
use Rattle.given_words.proofs.processors.is_in_part.Goals as goal

pub returns-in-None : goal.returns-in-None
returns-in-None c =
    let cut = split_once_first 45 c.args.part.now c.split_once.result c.split_once.ensures.cases (lit< tt) in
    let whole = alone c.args.part.now c.args.number (rw c.in-None.is at cut) in
    cc

pub returns-in-Some : goal.returns-in-Some
returns-in-Some c =
    let cut = split_once_first 45 c.args.part.now c.split_once.result c.split_once.ensures.cases (lit< tt) in
    let is = rw c.in-Some.is at cut in
    let first = is.1 in
    let last = is.2 in
    let both = two c.args.part.now c.args.number is.0 in
    cc
