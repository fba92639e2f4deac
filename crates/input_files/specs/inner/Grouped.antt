-- Items under texts: each text's in the order in which they came. No public contract cites this.
use Rattle.std.specs.Prelude.{ℕ, List, [], unwrap_or}
use Rattle.std.specs.BTreeMap.{get_by}
use Rattle.std.specs.Cmp.Lexicographic.{slice_cmp}
use Rattle.std.specs.Ordering.{nat_cmp}
use Rattle.input_files.specs.declared.grouped.Grouped.{Grouped}

-- the items under a text
abbrev pub items_under : {T : Type 0} → Grouped T → List ℕ → List T
items_under grouped text = unwrap_or (get_by (λ k. slice_cmp nat_cmp text k.now) grouped.held) []
