-- The members that a level has.
use Rattle.std.specs.Prelude.{List}
use Rattle.cwl_types.specs.declared.types.MemberType.{MemberType}
use Rattle.type_check.specs.Depths.{at_depth}
use Rattle.type_check.specs.declared.levels.Level.{Level}

abbrev pub members_at : Level → List MemberType
members_at level = at_depth level.depth level.levels.now
