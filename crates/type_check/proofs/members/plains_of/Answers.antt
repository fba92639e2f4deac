use Rattle.type_check.proofs.Noted.{plains_noted}
use Rattle.type_check.proofs.members.plains_of.Goals as goal

pub returns : goal.returns
returns c =
    plains_noted c.args.members.now _ c.some_meets.ensures c.some_meets-2.ensures c.some_meets-3.ensures c.some_meets-4.ensures
    c.some_meets-5.ensures c.some_meets-6.ensures c.some_meets-7.ensures c.some_meets-8.ensures
