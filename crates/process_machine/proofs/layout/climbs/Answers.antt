use Rattle.std.proofs.Common.{lit<, bytes_eq, codes, rules, tests}
use Rattle.std.proofs.lemmas.Iterator.Search.{any_from_yields_List}
use Rattle.std.proofs.lemmas.Iterator.Splits.{YieldsList-from_str_split}
use Rattle.process_machine.proofs.layout.climbs.Goals as goal

pub returns : goal.returns
returns c =
    any_from_yields_List (λ component. bytes_eq component (codes "..")) _ _ c.any.result c.any.ensures.ran (YieldsList-from_str_split 47 c.args.path.now (lit< tt) c.split.ensures.text c.split.ensures.has_more c.split.ensures.pattern)
    (λ x b q k. search (rules, tests))
