use Rattle.plain_data.proofs.ByName.{by_name_empty}
use Rattle.input_files.proofs.inputs.room_for.Goals as goal

pub from_sorted-requires : goal.from_sorted-requires
from_sorted-requires c = by_name_empty _ c.in_ok-with_capacity.ensures.items
