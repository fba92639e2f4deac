-- What was read off so far, with one more.
use Rattle.std.proofs.Common.{◌≡◌, ◌≢◌, ℕ, ◌+◌, ◌*◌, ◌<◌, List, [], ◌∷◌, ◌++◌, length, get_or, sym, ap, ◌∙◌, subst, ⊎_elim, arith}
use Rattle.std.proofs.lemmas.List.{get_or_push, get_or_append_left, length_push}
use Rattle.std.proofs.lemmas.Bool.{cases_eq}
use Rattle.plan_checker.specs.declared.vertex.Vertex.{Vertex}
use Rattle.plan_checker.specs.declared.plan.Mark.{Mark}
use Rattle.plan_checker.specs.declared.plan.Mark.TheVariants.{Prune}
use Rattle.plan_checker.specs.Graph.{vertex}
use Rattle.level_graphs.specs.declared.network.Arc.{Arc}
use Rattle.level_graphs.specs.Arcs.{room_at}
use Rattle.flow_planner.specs.Network.{first_arc, shown}
use Rattle.flow_planner.specs.inner.Network.{AreFlows, IsRow, AreRows, AreShown}

each_pushed : {A : Type 0} (P : ℕ → A → Type 0) (xs : List A) (x d : A) (n : ℕ) → length xs ≡ n → ((i : ℕ) → i < n → P i (get_or xs i d)) → P n x → (i : ℕ) → i < n + 1 → P i (get_or (xs ++ x ∷ []) i d)
each_pushed P xs x d n count each last i h =
    ⊎_elim
    (λ (e : i ≡ n).
    let Q : ℕ → Type 0 = λ k. P k (get_or (xs ++ x ∷ []) k d) in
    subst Q (sym e) (subst (P n) (sym (get_or_push xs x d n count)) last))
    (λ (ne : i ≢ n). subst (P i) (sym (get_or_append_left xs (x ∷ []) d i (omega arith))) (each i (omega arith)))
    (cases_eq i n)

pub flows_more : (graph : List Vertex) (arcs : List Arc) (place : ℕ) (amounts : List ℕ) (x n : ℕ) → AreFlows graph arcs place amounts n → x ≡ room_at arcs (first_arc graph n + place + 1) → AreFlows graph arcs place (amounts ++ x ∷ []) (n + 1)
flows_more graph arcs place amounts x n so_far is = record {
  count = length_push amounts x ∙ ap (λ k. k + 1) so_far.count;
  each = each_pushed (λ i amount. amount ≡ room_at arcs (first_arc graph i + place + 1)) amounts x 0 n so_far.count so_far.each is;
}

pub row_more : (arcs : List Arc) (first : ℕ) (row : List ℕ) (x n : ℕ) → IsRow arcs first row n → x ≡ room_at arcs (first + 2 * n + 1) → IsRow arcs first (row ++ x ∷ []) (n + 1)
row_more arcs first row x n so_far is = record {
  count = length_push row x ∙ ap (λ k. k + 1) so_far.count;
  each = each_pushed (λ k amount. amount ≡ room_at arcs (first + 2 * k + 1)) row x 0 n so_far.count so_far.each is;
}

pub rows_more : (graph : List Vertex) (arcs : List Arc) (rows : List (List ℕ)) (row : List ℕ) (n : ℕ) → AreRows graph arcs rows n → IsRow arcs (first_arc graph n + 6) row (length (vertex graph n).parents) → AreRows graph arcs (rows ++ row ∷ []) (n + 1)
rows_more graph arcs rows row n so_far is = record {
  count = length_push rows row ∙ ap (λ k. k + 1) so_far.count;
  each = each_pushed (λ i row. IsRow arcs (first_arc graph i + 6) row (length (vertex graph i).parents)) rows row [] n so_far.count so_far.each is;
}

pub shown_more : (jobs : ℕ) (levels : List ℕ) (marks : List Mark) (m : Mark) (n : ℕ) → AreShown jobs levels marks n → m ≡ shown (get_or levels n 0) (get_or levels (jobs + n) 0) → AreShown jobs levels (marks ++ m ∷ []) (n + 1)
shown_more jobs levels marks m n so_far is = record {
  count = length_push marks m ∙ ap (λ k. k + 1) so_far.count;
  each = each_pushed (λ i mark. mark ≡ shown (get_or levels i 0) (get_or levels (jobs + i) 0)) marks m Prune n so_far.count so_far.each is;
}
