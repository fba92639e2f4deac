-- The texts of a row read as the row.
use Rattle.std.proofs.Common.{◌≡◌, ◌≤◌, ℕ, List, [], ◌∷◌, Some, option_map, map, Ok, refl, sym, ap, subst, ◌∙◌, arith}
use Rattle.std.specs.Prelude.{IsUtf8}
use Rattle.std.proofs.lemmas.Bool.{leb-true}
use Rattle.cwl_value.specs.Json.{json_of}
use Rattle.cwl_value.specs.Reading.{reading, greatest_depth}
use Rattle.cwl_value.specs.Texts.{ReadsAs, as_json}
use Rattle.cwl_value.specs.declared.value.Value.{Value}
use Rattle.cwl_value.specs.declared.value.Value as value
use Rattle.job_rows.specs.Storable.{IsKept}
use Rattle.job_rows.proofs.ReadBack.{outputs_read_back}
use Rattle.serde_json.specs.Data.{Data, depth, items_depth}
use Rattle.serde_json.specs.View.{items_of}
use Rattle.serde_json.specs.Read.{read, max_depth}
use Rattle.staging.specs.declared.found.Found.{Found}
use Rattle.job_record.specs.Texts.{found_json, files_json, list_in, ReadsAsFiles}

listed_depth : (fs : List Found) → items_depth (items_of (map found_json fs)) ≤ 1
listed_depth [] = omega (arith)
listed_depth (f ∷ fs) = let more = listed_depth fs in omega (arith, more)

pub files_depth : (fs : List Found) → depth (files_json fs) ≤ max_depth
files_depth fs = let inside = listed_depth fs in omega (arith, inside)

listed_again : (fs : List Found) → list_in (items_of (map found_json fs)) ≡ Some fs
listed_again [] = refl
listed_again (f ∷ fs) = ap (option_map (λ gs. f ∷ gs)) (listed_again fs)

pub files_read : (text : List ℕ) (fs : List Found) → read text ≡ Some (files_json fs) → ReadsAsFiles text fs
files_read text fs is = (files_json fs, is, listed_again fs)

pub outputs_read : (text : List ℕ) (outputs : List (List ℕ × Value)) (d : Data) → IsUtf8 text → d ≡ json_of (value.Fields outputs) → (depth d ≤ max_depth → read text ≡ Some d) → IsKept outputs → ReadsAs text (Ok (value.Fields outputs))
outputs_read text outputs d utf8 is back kept =
    let shallow : depth d ≤ greatest_depth = subst (λ (e : Data). depth e ≤ greatest_depth) (sym is) (leb-true _ _ kept.shallow) in
    subst (ReadsAs text) (ap reading is ∙ outputs_read_back outputs kept) (as_json d utf8 (back (omega (arith, shallow))))
