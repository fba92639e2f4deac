use Rattle.std.proofs.Common.{◌∙◌, ◌∷◌, [], false, ap, sym}
use Rattle.cwl_types.specs.declared.types.MemberType.TheVariants.{Plain, Array, Enum}
use Rattle.type_check.specs.Overlaps.{overlaps}
use Rattle.workflow_check.specs.Types.{kept_type, opened_type}
use Rattle.workflow_check.specs.inner.Seen.{sink_seen}
use Rattle.workflow_check.proofs.Overlap.{opened_array, opened_enum, opened_plain, opened_when, parts_by_one}
use Rattle.workflow_check.proofs.overlapping.part_overlaps.Goals as goal

pub returns-in-Array : goal.returns-in-Array
returns-in-Array c =
    let w = c.args.without_null in
    let k = sink_seen c.args.sink in
    c.some_kept_overlaps.ensures ∙ sym (parts_by_one w false k c.in-Array.array.items)
    ∙ sym (ap (λ m. overlaps (kept_type w (opened_type c.args.opened (m ∷ []))) k) c.in-Array.is
    ∙ ap (λ ms. overlaps (kept_type w ms) k) (opened_when c.args.opened (Array c.in-Array.array ∷ []) c.if-opened.true ∙ opened_array c.in-Array.array))

pub returns-in-Plain : goal.returns-in-Plain
returns-in-Plain c =
    let w = c.args.without_null in
    let k = sink_seen c.args.sink in
    c.kept_overlaps.ensures ∙ ap (λ m. overlaps (kept_type w (m ∷ [])) k) c.in-Plain.is
    ∙ sym (ap (λ m. overlaps (kept_type w (opened_type c.args.opened (m ∷ []))) k) c.in-Plain.is
    ∙ ap (λ ms. overlaps (kept_type w ms) k) (opened_when c.args.opened (Plain c.in-Plain.field-0 ∷ []) c.if-opened.true ∙ opened_plain c.in-Plain.field-0))

pub returns-in-Enum : goal.returns-in-Enum
returns-in-Enum c =
    let w = c.args.without_null in
    let k = sink_seen c.args.sink in
    c.kept_overlaps-in-Enum.ensures ∙ ap (λ m. overlaps (kept_type w (m ∷ [])) k) c.in-Enum.is
    ∙ sym (ap (λ m. overlaps (kept_type w (opened_type c.args.opened (m ∷ []))) k) c.in-Enum.is
    ∙ ap (λ ms. overlaps (kept_type w ms) k) (opened_when c.args.opened (Enum c.in-Enum.field-0 ∷ []) c.if-opened.true ∙ opened_enum c.in-Enum.field-0))
