-- Resolving a value, level by level.
use Rattle.std.proofs.Common.{◌≡◌, ℕ, Bool, false, ◌||◌, List, map, Some, Ok, rules}
use Rattle.std.specs.Prelude.{Option, option_map}
use Rattle.std.specs.Option.{option_map_or}
use Rattle.url.specs.Parts.{Parts}
use Rattle.cwl_value.specs.declared.place.Place.{Place}
use Rattle.cwl_value.specs.declared.value.Value.{Value, the_lemmas}
use Rattle.cwl_value.specs.declared.value.Value.TheOpen.{FileVal-F, DirVal-F}
use Rattle.cwl_value.specs.declared.value.FileVal.{FileVal, out-FileVal, roll-FileVal}
use Rattle.cwl_value.specs.declared.value.DirVal.{DirVal, out-DirVal, roll-DirVal}
use Rattle.file_values.specs.declared.refusal.FileError.{FileError}
use Rattle.file_values.specs.Location.{Finds, and_map, and_then, Refuses}
use Rattle.cwl_value.specs.Fileless.{some_true}
use Rattle.file_values.specs.Resolved.{all_found, place_resolved, named, file_at, listing_resolved, resolved, file_resolved, dir_resolved, has_long, file_has_long, dir_has_long, is_long_place}
use Rattle.file_values.proofs.Finding.{refused_here, refused_after, refused_left, refused_right, refused_any, moved}

module _ (base : Parts) where
  -- ---- Files

  abbrev at : FileVal-F Value DirVal FileVal → Place → List ℕ → List Value → Finds FileVal
  at f = file_at f.checksum f.size f.contents

  abbrev file_steps : FileVal-F Value DirVal FileVal → Finds FileVal
  file_steps f =
      and_then (place_resolved base f.place) (λ place.
      and_then (named f.basename place) (λ name.
      and_then (all_found (map (resolved base) f.secondary)) (at f place name)))

  abbrev file_long : FileVal-F Value DirVal FileVal → Bool
  file_long f = is_long_place base f.place || some_true (map (has_long base) f.secondary)

  file_resolved-roll : (f : FileVal-F Value DirVal FileVal) → file_resolved base (roll-FileVal f) ≡ file_steps f
  file_resolved-roll f = search (rules, the_lemmas)

  file_long-roll : (f : FileVal-F Value DirVal FileVal) → file_has_long base (roll-FileVal f) ≡ file_long f
  file_long-roll f = search (rules, the_lemmas)

  file_resolved-out : (f : FileVal) → file_resolved base f ≡ file_steps (out-FileVal f)
  file_resolved-out f = search (rules, the_lemmas, file_resolved-roll)

  file_long-out : (f : FileVal) → file_has_long base f ≡ file_long (out-FileVal f)
  file_long-out f = search (rules, the_lemmas, file_long-roll)

  pub file_at_place : (f : FileVal) (e : FileError) → Refuses (place_resolved base (out-FileVal f).place) (is_long_place base (out-FileVal f).place) e → Refuses (file_resolved base f) (file_has_long base f) e
  file_at_place f e h =
      moved _ _ _ _ e (file_resolved-out f) (file_long-out f) (refused_left _ _ _ e (refused_here (place_resolved base (out-FileVal f).place) _ _ e h))

  pub file_at_name : (f : FileVal) (place : Place) (e : FileError) → place_resolved base (out-FileVal f).place ≡ Ok place → Refuses (named (out-FileVal f).basename place) false e → Refuses (file_resolved base f) (file_has_long base f) e
  file_at_name f place e placed h =
      moved _ _ _ _ e (file_resolved-out f) (file_long-out f) (refused_any _ _ e (refused_after (place_resolved base (out-FileVal f).place) _ place _ e placed (refused_here (named (out-FileVal f).basename place) _ _ e h)))

  pub file_at_items : (f : FileVal) (place : Place) (name : List ℕ) (e : FileError) → place_resolved base (out-FileVal f).place ≡ Ok place → named (out-FileVal f).basename place ≡ Ok name
      → Refuses (all_found (map (resolved base) (out-FileVal f).secondary)) (some_true (map (has_long base) (out-FileVal f).secondary)) e → Refuses (file_resolved base f) (file_has_long base f) e
  file_at_items f place name e placed has_name h =
      moved _ _ _ _ e (file_resolved-out f) (file_long-out f)
      (refused_right _ _ _ e (refused_after (place_resolved base (out-FileVal f).place) _ place _ e placed (refused_after (named (out-FileVal f).basename place) _ name _ e has_name (refused_here (all_found (map (resolved base) (out-FileVal f).secondary)) _ _ e h))))

  pub file_at_beside : (f : FileVal) (place : Place) (name : List ℕ) (found : List Value) (e : FileError) → place_resolved base (out-FileVal f).place ≡ Ok place → named (out-FileVal f).basename place ≡ Ok name
      → all_found (map (resolved base) (out-FileVal f).secondary) ≡ Ok found → Refuses (at (out-FileVal f) place name found) false e → Refuses (file_resolved base f) (file_has_long base f) e
  file_at_beside f place name found e placed has_name has_found h =
      moved _ _ _ _ e (file_resolved-out f) (file_long-out f)
      (refused_any _ _ e (refused_after (place_resolved base (out-FileVal f).place) _ place _ e placed (refused_after (named (out-FileVal f).basename place) _ name _ e has_name (refused_after (all_found (map (resolved base) (out-FileVal f).secondary)) _ found _ e has_found h))))

  -- ---- Directories

  abbrev made_dir : Place → List ℕ → Option (List Value) → DirVal
  made_dir place name listing = roll-DirVal (record { place = place; basename = Some name; listing = listing })

  abbrev dir_steps : DirVal-F Value DirVal FileVal → Finds DirVal
  dir_steps d =
      and_then (place_resolved base d.place) (λ place.
      and_then (named d.basename place) (λ name.
      and_map (λ listing. made_dir place name listing) (listing_resolved (option_map (map (resolved base)) d.listing))))

  abbrev dir_long : DirVal-F Value DirVal FileVal → Bool
  dir_long d = is_long_place base d.place || option_map_or some_true (option_map (map (has_long base)) d.listing) false

  dir_resolved-roll : (d : DirVal-F Value DirVal FileVal) → dir_resolved base (roll-DirVal d) ≡ dir_steps d
  dir_resolved-roll d = search (rules, the_lemmas)

  dir_long-roll : (d : DirVal-F Value DirVal FileVal) → dir_has_long base (roll-DirVal d) ≡ dir_long d
  dir_long-roll d = search (rules, the_lemmas)

  dir_resolved-out : (d : DirVal) → dir_resolved base d ≡ dir_steps (out-DirVal d)
  dir_resolved-out d = search (rules, the_lemmas, dir_resolved-roll)

  dir_long-out : (d : DirVal) → dir_has_long base d ≡ dir_long (out-DirVal d)
  dir_long-out d = search (rules, the_lemmas, dir_long-roll)

  pub dir_at_place : (d : DirVal) (e : FileError) → Refuses (place_resolved base (out-DirVal d).place) (is_long_place base (out-DirVal d).place) e → Refuses (dir_resolved base d) (dir_has_long base d) e
  dir_at_place d e h =
      moved _ _ _ _ e (dir_resolved-out d) (dir_long-out d) (refused_left _ _ _ e (refused_here (place_resolved base (out-DirVal d).place) _ _ e h))

  pub dir_at_name : (d : DirVal) (place : Place) (e : FileError) → place_resolved base (out-DirVal d).place ≡ Ok place → Refuses (named (out-DirVal d).basename place) false e → Refuses (dir_resolved base d) (dir_has_long base d) e
  dir_at_name d place e placed h =
      moved _ _ _ _ e (dir_resolved-out d) (dir_long-out d) (refused_any _ _ e (refused_after (place_resolved base (out-DirVal d).place) _ place _ e placed (refused_here (named (out-DirVal d).basename place) _ _ e h)))
