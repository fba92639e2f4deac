-- What is noted of the members of a level.
use Rattle.std.proofs.Common.{◌≡◌, ◌∙◌, Bool, List, sym}
use Rattle.std.specs.Borrow.{Bor}
use Rattle.std.specs.List.{list_any}
use Rattle.cwl_types.specs.declared.types.MemberType.{MemberType}
use Rattle.cwl_types.specs.declared.types.PlainType.{PlainType}
use Rattle.cwl_types.specs.declared.types.PlainType.TheVariants as plain
use Rattle.type_check.specs.Overlaps.{plain_meets}
use Rattle.type_check.specs.declared.members.Plains.{Plains}
use Rattle.type_check.specs.inner.Members.{ArePlainsOf, all_lent, lent}
use Rattle.type_check.proofs.Tests.{any_mapped}

-- the answer for one type by its name
abbrev pub Answers : Bool → PlainType → List (Bor MemberType) → Type 0
Answers answer kind ms = answer ≡ list_any (λ m. plain_meets kind m.now) ms

pub plains_noted : (ms : List (Bor MemberType)) (p : Plains)
    → Answers p.null plain.Null ms
    → Answers p.boolean plain.Boolean ms
    → Answers p.int plain.Int ms
    → Answers p.long plain.Long ms
    → Answers p.text plain.Text ms
    → Answers p.file plain.File ms
    → Answers p.directory plain.Directory ms
    → Answers p.any plain.Any ms
    → ArePlainsOf p (all_lent ms)
plains_noted ms p e0 e1 e2 e3 e4 e5 e6 e7 plain.Null = e0 ∙ sym (any_mapped lent (plain_meets plain.Null) ms)
plains_noted ms p e0 e1 e2 e3 e4 e5 e6 e7 plain.Boolean = e1 ∙ sym (any_mapped lent (plain_meets plain.Boolean) ms)
plains_noted ms p e0 e1 e2 e3 e4 e5 e6 e7 plain.Int = e2 ∙ sym (any_mapped lent (plain_meets plain.Int) ms)
plains_noted ms p e0 e1 e2 e3 e4 e5 e6 e7 plain.Long = e3 ∙ sym (any_mapped lent (plain_meets plain.Long) ms)
plains_noted ms p e0 e1 e2 e3 e4 e5 e6 e7 plain.Text = e4 ∙ sym (any_mapped lent (plain_meets plain.Text) ms)
plains_noted ms p e0 e1 e2 e3 e4 e5 e6 e7 plain.File = e5 ∙ sym (any_mapped lent (plain_meets plain.File) ms)
plains_noted ms p e0 e1 e2 e3 e4 e5 e6 e7 plain.Directory = e6 ∙ sym (any_mapped lent (plain_meets plain.Directory) ms)
plains_noted ms p e0 e1 e2 e3 e4 e5 e6 e7 plain.Any = e7 ∙ sym (any_mapped lent (plain_meets plain.Any) ms)
