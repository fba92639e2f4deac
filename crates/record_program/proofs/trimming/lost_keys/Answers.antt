use Rattle.record_program.proofs.LosesFirst.{lost_length}
use Rattle.record_program.proofs.trimming.lost_keys.Goals as goal

pub slice_bounds-keys_of-end : goal.slice_bounds-keys_of-end
slice_bounds-keys_of-end c = lost_length c.args.budget c.args.archives.now c.lost_count-count.result c.lost_count-count.ensures
