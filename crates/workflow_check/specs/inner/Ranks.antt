-- For private clauses: ranks under ids, and steps that do not come after what their sources name.
use Rattle.std.specs.Borrow.{Bor}
use Rattle.std.specs.Prelude.{ℕ, List, Bool, false, Option, Some, None, nat_le, unwrap_or}
use Rattle.std.specs.BTreeMap.{BTreeMap, get_by}
use Rattle.std.specs.Cmp.Lexicographic.{slice_cmp}
use Rattle.std.specs.List.{list_any}
use Rattle.std.specs.Ordering.{nat_cmp}
use Rattle.cwl_process.specs.declared.links.Source.{Source}
use Rattle.document_links.specs.declared.process.Step.{Step, out-Step}
use Rattle.workflow_check.specs.Scope.{Named}

-- the number under the id, or 0
abbrev pub rank_of : BTreeMap (Bor (List ℕ)) ℕ → List ℕ → ℕ
rank_of ranks id = unwrap_or (get_by (λ k. slice_cmp nat_cmp id k.now) ranks) 0

-- The source names a step whose rank is not below that one.
abbrev pub is_late : (List ℕ → ℕ) → ℕ → Option (List ℕ) → Bool
is_late rank own None = false
is_late rank own (Some id) = nat_le own (rank id)

abbrev pub sources_late : (List ℕ → ℕ) → ℕ → Option (List Source) → Bool
sources_late rank own None = false
sources_late rank own (Some sources) = list_any (λ source. is_late rank own source.step) sources

abbrev pub step_late : (List ℕ → ℕ) → List ℕ × Step → Bool
step_late rank e = list_any (λ input. sources_late rank (rank e.0) input.1.links.sources) (out-Step e.1).inputs

abbrev pub some_late : (List ℕ → ℕ) → Named Step → Bool
some_late rank steps = list_any (step_late rank) steps
