use Rattle.std.proofs.Common.{sym, ◌∙◌, arith, false}
use Rattle.staging.proofs.Naming.{none_more, one_has, at_end}
use Rattle.staging.proofs.spots.FolderNames.has_any.Goals as goal

pub loop-member-preserved : goal.loop-member-preserved
loop-member-preserved c = none_more c.args.self.now c.args.group.now c.args.folder c.loop-member.member-index c.member-item.result c.loop-member-test.true c.member-item.is c.loop-member.invariant (sym c.in_ok-has.ensures ∙ c.if-branch.false)

pub returns-then-branch : goal.returns-then-branch
returns-then-branch c = sym (one_has c.args.self.now c.args.group.now c.args.folder c.loop-member.member-index c.member-item.result c.loop-member-test.true c.member-item.is (sym c.in_ok-has.ensures ∙ c.if-branch.true))

pub returns : goal.returns
returns c = sym (at_end c.args.self.now c.args.group.now c.args.folder c.loop-member.member-index false (omega arith) c.loop-member.invariant)
