use Rattle.std.proofs.Common.{true, arith, subst, ℕ, ◌<◌, ◌⊎◌}
use Rattle.staging.proofs.Naming.{floor_more, at_end}
use Rattle.staging.proofs.spots.FolderNames.floor_of.Goals as goal

pub loop-member-preserved : goal.loop-member-preserved
loop-member-preserved c =
    floor_more c.args.self.now c.args.group.now c.loop-member.member-index c.member-item.result c.loop-member.most c.higher-most.result c.loop-member-test.true c.member-item.is
    (λ j less. subst (λ (n : ℕ). (j < c.loop-member.most) ⊎ (j < n)) c.floor.ensures (c.higher-most.ensures j less))
    c.loop-member.invariant

pub returns : goal.returns
returns c = λ floored j less. at_end c.args.self.now c.args.group.now j c.loop-member.member-index true (omega arith) (c.loop-member.invariant floored j less)
