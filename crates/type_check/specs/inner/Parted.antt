-- For private clauses: a type in its levels.
use Rattle.std.specs.Prelude.{◌≡◌, List, [], ◌∷◌}
use Rattle.cwl_types.specs.declared.types.MemberType.{MemberType}
use Rattle.type_check.specs.Depths.{items_of}
use Rattle.type_check.specs.declared.members.Members.{Members}
use Rattle.type_check.specs.inner.Members.{AreMembers}

-- the levels of the members, as far as the rest
abbrev pub ArePartedTo : List Members → List MemberType → List MemberType → Type 0
ArePartedTo [] members rest = members ≡ rest
ArePartedTo (found ∷ below) members rest = AreMembers found members × ArePartedTo below (items_of members) rest

abbrev pub AreLevelsOf : List Members → List MemberType → Type 0
AreLevelsOf levels members = ArePartedTo levels members []
