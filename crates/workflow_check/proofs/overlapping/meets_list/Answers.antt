use Rattle.std.proofs.Common.{◌∙◌, ap, sym}
use Rattle.std.specs.Prelude.{None}
use Rattle.cwl_types.specs.Types.{array_of}
use Rattle.type_check.specs.Levels.{members_at}
use Rattle.type_check.specs.Overlaps.{members_overlap}
use Rattle.workflow_check.proofs.Variants.{array_meets_array, enum_meets_array, plain_meets_array}
use Rattle.workflow_check.proofs.overlapping.meets_list.Goals as goal

pub returns-in-Plain : goal.returns-in-Plain
returns-in-Plain c =
    c.is_any.ensures ∙ sym (ap (λ m. members_overlap m (array_of (members_at c.args.items) None)) c.in-Plain.is ∙ plain_meets_array c.in-Plain.kind (members_at c.args.items))

pub returns-in-Array : goal.returns-in-Array
returns-in-Array c =
    c.overlaps.ensures ∙ sym (ap (λ m. members_overlap m (array_of (members_at c.args.items) None)) c.in-Array.is ∙ array_meets_array c.in-Array.array (members_at c.args.items))

pub returns-in-Enum : goal.returns-in-Enum
returns-in-Enum c = sym (ap (λ m. members_overlap m (array_of (members_at c.args.items) None)) c.in-Enum.is ∙ enum_meets_array c.in-Enum.field-0 (members_at c.args.items))
