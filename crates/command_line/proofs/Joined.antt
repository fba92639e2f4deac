-- A loop that appends the words of one row after another.
use Rattle.std.proofs.Common.{◌≡◌, ℕ, ◌+◌, ◌<◌, List, [], ◌∷◌, ◌++◌, Result, Ok, All, length, get_or, take, refl, ap, sym, subst, ◌∙◌, map}
use Rattle.std.specs.List.{flat_map}
use Rattle.std.specs.Result.{IsOk, result_unwrap_or}
use Rattle.std.proofs.lemmas.List.{flat_map_more, take_more}
use Rattle.std.proofs.lemmas.List.Elements.{All-more, All-map}
use Rattle.std.proofs.lemmas.List.Folds.{flat_map-map}
use Rattle.cwl_value.specs.declared.value.Value.{Value}
use Rattle.cwl_process.specs.declared.tool.Tool.{Tool}
use Rattle.command_line.specs.declared.fault.BuildFault.{BuildFault}
use Rattle.command_line.specs.declared.order.BoundRow.{BoundRow}
use Rattle.command_line.specs.Order.{AreInOrder}
use Rattle.command_line.specs.inner.View.{bound_of}
use Rattle.command_line.specs.Words.{AreWords, words_at, words_of}

abbrev Words : Type 0
Words = Result (List (List ℕ)) BuildFault

-- the words so far and those of the next row are the words as far as that row
pub joined_more : {X : Type 0} (f : X → Words) (start words all added : List (List ℕ)) (rows : List X) (i : ℕ) (row : X) → i < length rows → row ≡ get_or rows i row → words ≡ start ++ flat_map (λ r. result_unwrap_or (f r) []) (take i rows) → all ≡ words ++ added → f row ≡ Ok added → all ≡ start ++ flat_map (λ r. result_unwrap_or (f r) []) (take (i + 1) rows)
joined_more {X = X} f start words all added rows i row within is so_far appended says =
    let next : take (i + 1) rows ≡ take i rows ++ row ∷ [] = take_more rows i row within ∙ ap (λ (r : X). take i rows ++ r ∷ []) (sym is) in
    let one : added ≡ result_unwrap_or (f row) [] = sym (ap (λ w. result_unwrap_or w []) says) in
    appended
    ∙ ap (λ w. w ++ added) so_far
    ∙ ap (λ w. (start ++ flat_map (λ r. result_unwrap_or (f r) []) (take i rows)) ++ w) one
    ∙ flat_map_more (λ r. result_unwrap_or (f r) []) start (take i rows) row
    ∙ ap (λ rs. start ++ flat_map (λ r. result_unwrap_or (f r) []) rs) (sym next)

pub ok_more : {X : Type 0} (f : X → Words) (added : List (List ℕ)) (rows : List X) (i : ℕ) (row : X) → i < length rows → row ≡ get_or rows i row → All (λ r. IsOk (f r)) (take i rows) → f row ≡ Ok added → All (λ r. IsOk (f r)) (take (i + 1) rows)
ok_more f added rows i row within is so_far says =
    All-more (λ r. IsOk (f r)) rows i row within so_far
    (subst (λ r. IsOk (f r)) is (subst (λ w. IsOk w) (sym says) refl))

-- the words of all rows after the base command are the tool's
pub words_from_rows : (tool : Tool) (inputs : List (List ℕ × Value)) (around : Value) (rows : List BoundRow) (base words : List (List ℕ)) → AreInOrder tool inputs (map bound_of rows) → base ≡ tool.base_command
    → words ≡ base ++ flat_map (λ row. words_at inputs around (bound_of row)) rows → All (λ row. IsOk (words_of inputs around (bound_of row))) rows → AreWords tool inputs around words
words_from_rows tool inputs around rows base words order begins joined there = record {
  bound = map bound_of rows;
  in_order = order;
  all_there = All-map (λ b. IsOk (words_of inputs around b)) bound_of rows there;
  are = joined ∙ ap (λ ws. ws ++ flat_map (λ row. words_at inputs around (bound_of row)) rows) begins ∙ ap (λ ws. tool.base_command ++ ws) (sym (flat_map-map (words_at inputs around) bound_of rows));
}
