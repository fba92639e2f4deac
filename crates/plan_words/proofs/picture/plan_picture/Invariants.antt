use Rattle.std.proofs.Common.{◌≡◌, ◌++◌, string_bytes}
use Rattle.plan_words.specs.Lines.{texts_below}
use Rattle.plan_words.specs.Picture.{drawn, title}
use Rattle.plan_words.proofs.picture.plan_picture.Given as goal

abbrev pub invariant-loop-number : goal.invariant-loop-number
invariant-loop-number l = string_bytes l.text ≡ title l.fn.cost ++ texts_below l.number (drawn l.fn.graph l.fn.plan.marks l.fn.charges l.fn.places)
