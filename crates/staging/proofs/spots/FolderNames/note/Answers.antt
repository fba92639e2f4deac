use Rattle.std.proofs.Common.{arith}
use Rattle.staging.proofs.Naming.{put_more, put_floored, put_at_end, none_put, named_more}
use Rattle.staging.proofs.spots.FolderNames.note.Goals as goal

pub loop-member-init : goal.loop-member-init
loop-member-init c = (none_put c.args.self.now c.args.folder, λ floored. floored)

pub loop-member-preserved : goal.loop-member-preserved
loop-member-preserved c = (
  put_more c.args.self.now c.loop-member.self c.put.new.self c.raise.new.self c.args.group.now c.args.folder c.loop-member.member-index c.member-item.result c.loop-member-test.true c.member-item.is c.loop-member.invariant.0 c.in_ok-put.ensures.held c.in_ok-raise.ensures.held,
  λ floored. c.in_ok-raise.ensures.floored (put_floored c.loop-member.self c.put.new.self c.member-item.result.name c.args.folder c.in_ok-put.ensures.held c.in_ok-put.ensures.floors (c.loop-member.invariant.1 floored)),
)

pub returns : goal.returns
returns c = λ placed is. named_more c.args.self.now c.loop-member.self c.args.group.now c.args.folder placed (put_at_end c.args.self.now c.loop-member.self c.args.group.now c.args.folder c.loop-member.member-index (omega arith) c.loop-member.invariant.0) c.loop-member.invariant.1 is
