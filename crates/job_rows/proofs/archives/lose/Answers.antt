use Rattle.std.proofs.Common.{◌<◌, length, ap, arith}
use Rattle.job_rows.specs.Map.{lost_count}
use Rattle.job_rows.proofs.Losing.{count_le, length_left}
use Rattle.job_rows.proofs.archives.lose.Goals as goal

pub remove-key-requires : goal.remove-key-requires
remove-key-requires c =
    let list = c.args.archives.now.items in
    let few : c.loop.counter < length list = omega (arith, count_le c.args.budget list, ap (lost_count c.args.budget) c.as_slice.ensures.value) in
    let some = length_left list c.loop.counter few in
    omega (arith, ap length c.loop.invariant.left)
