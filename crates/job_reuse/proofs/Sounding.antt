-- A row is sound where the tests of its outputs and of its files pass.
use Rattle.std.proofs.Common.{◌≡◌, ◌↔◌, Bool, true, IsTrue, [], ◌∷◌, map, refl, sym, ap, subst, ◌∙◌}
use Rattle.std.specs.List.{All}
use Rattle.std.specs.Map.{values_of}
use Rattle.std.proofs.lemmas.List.Elements.{All-nil, All-cons, All-head, All-tail}
use Rattle.plain_data.specs.ByName.{IsByName, map_values}
use Rattle.staging.proofs.Greedy.{both, both_first, both_second}
use Rattle.cwl_process.specs.declared.tool.Tool.{Tool}
use Rattle.cwl_value.specs.declared.value.Value.{Value}
use Rattle.collected_outputs.specs.Checked.{every}
use Rattle.collected_outputs.specs.Laws.{AreDeclared}
use Rattle.collected_outputs.specs.Listing.{Listing, entry_of, listing_of}
use Rattle.collected_outputs.specs.Matched.{Name}
use Rattle.collected_outputs.specs.Object.{Named}
use Rattle.job_rows.specs.declared.row.Row.{Row}
use Rattle.plain_data.proofs.ByName.{order_by_name, by_name_along, names_mapped}
use Rattle.job_reuse.specs.Sound.{all_stand, IsSound}
use Rattle.job_reuse.specs.inner.Index.{Index, listing_by}
use Rattle.job_reuse.specs.inner.Stands.{all_stand_by}
use Rattle.job_reuse.proofs.Indexed.{entry, stands_same}

pub every_value : (test : Value → Bool) (es : Named) → every (map (λ (e : Name × Bool). e.1) (map_values test es)) ≡ true → All (λ v. test v ≡ true) (values_of es)
every_value test [] h = All-nil (λ v. test v ≡ true)
every_value test (e ∷ es) h =
    let rest : Bool = every (map (λ (e : Name × Bool). e.1) (map_values test es)) in
    All-cons (λ v. test v ≡ true) e.1 (values_of es) (both_first (test e.1) rest h) (every_value test es (both_second (test e.1) rest h))

pub value_every : (test : Value → Bool) (es : Named) → All (λ v. test v ≡ true) (values_of es) → every (map (λ (e : Name × Bool). e.1) (map_values test es)) ≡ true
value_every test [] h = refl
value_every test (e ∷ es) h =
    both (test e.1) (every (map (λ (e : Name × Bool). e.1) (map_values test es))) (All-head (λ v. test v ≡ true) e.1 (values_of es) h) (value_every test es (All-tail (λ v. test v ≡ true) e.1 (values_of es) h))

module _ (tool : Tool) (row : Row) (index : Index) (listed : listing_by index ≡ listing_of row.files) where
  in_order : IsByName index
  in_order = by_name_along (listing_by index) index (sym (names_mapped entry index)) (subst IsByName (sym listed) (order_by_name (map entry_of row.files)))

  tests_same : (v : Value) → all_stand_by index v ≡ all_stand (listing_of row.files) v
  tests_same v = stands_same index in_order v ∙ ap (λ (l : Listing). all_stand l v) listed

  stand_tests : every (map (λ (e : Name × Bool). e.1) (map_values (all_stand_by index) row.outputs)) ≡ every (map (λ (e : Name × Bool). e.1) (map_values (all_stand (listing_of row.files)) row.outputs))
  stand_tests = λ i. every (map (λ (e : Name × Bool). e.1) (map_values (λ v. tests_same v i) row.outputs))

  -- the outputs are declared, and this says whether they stand
  pub sound_by : (stand : Bool) → stand ≡ every (map (λ (e : Name × Bool). e.1) (map_values (all_stand_by index) row.outputs)) → AreDeclared tool.outputs row.outputs → IsTrue stand ↔ IsSound tool row
  sound_by stand is declared = (
    λ h. record { declared = declared; there = every_value (all_stand (listing_of row.files)) row.outputs (sym stand_tests ∙ sym is ∙ h) },
    λ h. is ∙ stand_tests ∙ value_every (all_stand (listing_of row.files)) row.outputs h.there,
  )
