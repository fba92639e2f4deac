-- What a search says of texts in order.
use Rattle.std.proofs.Common.{◌≡◌, ◌∙◌, ℕ, List, length, get_or, Result, Ok, Err, ⊎_elim, sym, ap, arith}
use Rattle.std.specs.Borrow.{Bor}
use Rattle.std.specs.Cmp.Lexicographic.{nat_list_cmp_total, slice_cmp}
use Rattle.std.specs.List.Sorted.{IsBinarySearchResult, IsNonDecreasingBy, IsSearchInRange}
use Rattle.std.specs.Ordering.{is_eq, nat_cmp, ordering_index}
use Rattle.std.specs.Result.{is_ok}
use Rattle.std.specs.Str.{bytes_eq}
use Rattle.std.specs.declared.cmp.Ordering.{Ordering}
use Rattle.std.specs.declared.cmp.Ordering.TheVariants.{Less, Equal, Greater}
use Rattle.std.proofs.lemmas.Bool.{cases_lt}
use Rattle.std.proofs.lemmas.List.Folds.{list_any_at, list_any_none}
use Rattle.std.proofs.lemmas.List.Sorted.{searchable_from_sorted}
use Rattle.std.proofs.lemmas.Map.Text.{is_eq-slice_cmp}
use Rattle.type_check.specs.inner.Members.{AreInOrder, is_held}

module _ (held : List (Bor (List ℕ))) (text : List ℕ) where
  told : (k : Bor (List ℕ)) (order : Ordering) → slice_cmp nat_cmp k.now text ≡ order → bytes_eq k.now text ≡ is_eq order
  told k order is = sym (is_eq-slice_cmp k.now text) ∙ ap is_eq is

  rises : AreInOrder held → IsNonDecreasingBy (λ (k : Bor (List ℕ)). ordering_index (slice_cmp nat_cmp k.now text)) held
  rises order = searchable_from_sorted nat_list_cmp_total (λ (k : Bor (List ℕ)). k.now) held text order

  -- it ends at a text exactly where that text is held
  pub sought : (place : Result ℕ ℕ) → AreInOrder held → IsSearchInRange place (length held) → IsBinarySearchResult (λ (k : Bor (List ℕ)). slice_cmp nat_cmp k.now text) held place
      → is_ok place ≡ is_held text held
  sought (Ok index) order within equal =
      let d : Bor (List ℕ) = record { ref_ptr = (0, 0); now = text } in
      sym (list_any_at (λ k. bytes_eq k.now text) held index d within (told (get_or held index d) Equal (equal d)))
  sought (Err index) order within parted =
      let before = (parted (rises order)).0 in
      let behind = (parted (rises order)).1 in
      sym (list_any_none (λ k. bytes_eq k.now text) held
      (λ k d inside. ⊎_elim (λ is. told (get_or held k d) Less (before k d (omega arith) is)) (λ is. told (get_or held k d) Greater (behind k d is inside)) (cases_lt k index)))
