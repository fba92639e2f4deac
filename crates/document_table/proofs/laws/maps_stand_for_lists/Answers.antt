use Rattle.document_table.proofs.IdMaps as proved
use Rattle.document_table.proofs.laws.maps_stand_for_lists.Goals as goal

pub returns : goal.returns
returns c = proved.maps_stand_for_lists
