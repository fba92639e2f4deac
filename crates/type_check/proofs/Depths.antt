-- A type in its levels.
use Rattle.std.proofs.Common.{◌≡◌, ◌∙◌, ◌+◌, ◌<◌, ◌≤◌, ℕ, zero, suc, List, [], ◌∷◌, ◌++◌, length, get_or, refl, sym, ap, subst, arith, add-one}
use Rattle.std.specs.Prelude.{Option, Some, None, MatchOption}
use Rattle.std.specs.Borrow.{Bor}
use Rattle.std.specs.List.{HoldsAt}
use Rattle.cwl_types.specs.declared.types.MemberType.{MemberType}
use Rattle.type_check.specs.Depths.{at_depth, items_of}
use Rattle.type_check.specs.declared.members.Members.{Members}
use Rattle.type_check.specs.inner.Members.{AreMembers}
use Rattle.type_check.specs.inner.Parted.{AreLevelsOf, ArePartedTo}

nothing_deep : (depth : ℕ) → at_depth depth [] ≡ []
nothing_deep zero = refl
nothing_deep (suc depth) = nothing_deep depth

deeper : (depth : ℕ) (ms : List MemberType) → at_depth (suc depth) ms ≡ items_of (at_depth depth ms)
deeper zero ms = refl
deeper (suc depth) ms = deeper depth (items_of ms)

pub one_deeper : (depth : ℕ) (ms : List MemberType) → at_depth (depth + 1) ms ≡ items_of (at_depth depth ms)
one_deeper depth ms = rw add-one (deeper depth ms)

-- past the levels there is nothing
pub past_levels : (levels : List Members) (ms : List MemberType) (depth : ℕ) → AreLevelsOf levels ms → length levels ≤ depth → at_depth depth ms ≡ []
past_levels [] ms depth levelled past = ap (at_depth depth) levelled ∙ nothing_deep depth
past_levels (found ∷ below) ms zero levelled past = absurd (omega arith)
past_levels (found ∷ below) ms (suc depth) levelled past = past_levels below (items_of ms) depth levelled.1 (omega arith)

pub nothing_below : (levels : List Members) (ms : List MemberType) (depth : ℕ) → AreLevelsOf levels ms → length levels ≤ depth → at_depth depth ms ≡ items_of (at_depth depth ms)
nothing_below levels ms depth levelled past = past_levels levels ms depth levelled past ∙ sym (ap items_of (past_levels levels ms depth levelled past))

level_at : (levels : List Members) (ms : List MemberType) (depth : ℕ) (found : Members) → AreLevelsOf levels ms → depth < length levels → found ≡ get_or levels depth found
    → AreMembers found (at_depth depth ms)
level_at [] ms depth found levelled within is = absurd (omega arith)
level_at (f ∷ below) ms zero found levelled within is = subst (λ g. AreMembers g ms) (sym is) levelled.0
level_at (f ∷ below) ms (suc depth) found levelled within is = level_at below (items_of ms) depth found levelled.1 (omega arith) is

-- what is found at a depth
pub found_there : (levels : List Members) (ms : List MemberType) (depth : ℕ) (o : Option (Bor Members)) → AreLevelsOf levels ms
    → MatchOption o (length levels ≤ depth) (λ x. (depth < length levels) × HoldsAt (λ y. x.now ≡ y) levels depth)
    → MatchOption o (at_depth depth ms ≡ []) (λ x. AreMembers x.now (at_depth depth ms))
found_there levels ms depth None levelled past = past_levels levels ms depth levelled past
found_there levels ms depth (Some x) levelled at = level_at levels ms depth x.now levelled at.0 (at.1 x.now)

-- one level more
pub parted_more : (levels : List Members) (ms rest : List MemberType) (found : Members) → ArePartedTo levels ms rest → AreMembers found rest
    → ArePartedTo (levels ++ found ∷ []) ms (items_of rest)
parted_more [] ms rest found parted are = (subst (AreMembers found) (sym parted) are, ap items_of parted)
parted_more (f ∷ below) ms rest found parted are = (parted.0, parted_more below (items_of ms) rest found parted.1 are)
