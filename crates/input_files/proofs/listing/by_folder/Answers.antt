use Rattle.std.proofs.Common.{◌∙◌, ap}
use Rattle.std.specs.List.{before_last}
use Rattle.file_values.specs.Names.{is_slash}
use Rattle.input_files.proofs.Folders.{one_more}
use Rattle.input_files.proofs.listing.by_folder.Goals as goal

pub loop-found-preserved : goal.loop-found-preserved
loop-found-preserved c = λ folder.
    one_more c.args.listing.now c.loop-found.found-index folder c.front_of.result.now _ _ _ c.loop-found-test.true c.found-item.is (c.front_of.ensures ∙ ap (before_last is_slash) c.as_str.ensures.bytes) (c.loop-found.invariant folder) (c.in_ok-add.ensures folder)
