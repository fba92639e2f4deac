-- What a query on the table shows.
use Rattle.std.proofs.Common.{◌≡◌, inl, inr, ℕ, ◌^◌, nat_le, None, unwrap_or, Bool, true, false, cond, List, [], ◌∷◌, ◌++◌, map, flat_map, subst, refl, sym, ap, ◌∙◌, IsPermutation}
use Rattle.std.specs.List.{list_all}
use Rattle.std.proofs.lemmas.List.Sorted.{IsPermutation-sym}
use Rattle.sqlite.specs.declared.types.Value.TheVariants.{Null}
use Rattle.sqlite.specs.Order.{Row}
use Rattle.sqlite.specs.Tree.{Trees}
use Rattle.sqlite.specs.Program.{overlay}
use Rattle.sqlite.specs.Query.{Output, output, matches, inner, end, IsAnswer, IsSureAnswer}
use Rattle.sqlite.specs.Term.{Term, holds, eval_all}
use Rattle.sqlite_value.specs.declared.keys.Key.{Key}
use Rattle.sqlite_trees.proofs.ListLemmas.{all-permutation}
use Rattle.sqlite_rules.specs.Lists.{Has}
use Rattle.sqlite_rules.proofs.ListLemmas.{all_has, all_from, has_right}
use Rattle.sqlite_rules.proofs.ProbeLemmas.{has_mapped, mapped_has}
use Rattle.job_record.specs.Commands.{query_on}

abbrev pub passes : List Term → Row → Row → Bool
passes tests params r = list_all (holds (params ∷ r ∷ [])) tests

pub record AreShown (tests project : List Term) (table : List Row) (params : Row) (rows : List Row) : Type 0 where
  pub sound : (x : Row) → Has rows x → (r : Row) × Has table r × (passes tests params r ≡ true) × (x ≡ eval_all project (params ∷ r ∷ []))
  pub complete : (r : Row) → Has table r → passes tests params r ≡ true → Has rows (eval_all project (params ∷ r ∷ []))

abbrev pub chosen : {X Y : Type 0} → (X → Bool) → (X → Y) → List X → List Y
chosen p f = flat_map (λ x. cond (p x) (f x ∷ []) [])

pub from_chosen : {X Y : Type 0} (p : X → Bool) (f : X → Y) (xs : List X) (y : Y) → Has (chosen p f xs) y → (x : X) × Has xs x × (p x ≡ true) × (y ≡ f x)
from_chosen p f [] y h = absurd h
from_chosen {X} {Y} p f (x ∷ xs) y h = by (p x) refl h (from_chosen p f xs y)
  where
    by : (b : Bool) → p x ≡ b → Has (cond b (f x ∷ []) [] ++ chosen p f xs) y → (Has (chosen p f xs) y → (z : X) × Has xs z × (p z ≡ true) × (y ≡ f z))
        → (z : X) × Has (x ∷ xs) z × (p z ≡ true) × (y ≡ f z)
    by true is (inl same) later = (x, inl refl, is, same)
    by true is (inr there) later = let r = later there in (r.0, inr r.1, r.2, r.3)
    by false is there later = let r = later there in (r.0, inr r.1, r.2, r.3)

pub in_chosen : {X Y : Type 0} (p : X → Bool) (f : X → Y) (xs : List X) (x : X) → Has xs x → p x ≡ true → Has (chosen p f xs) (f x)
in_chosen p f [] x h passes = absurd h
in_chosen p f (z ∷ xs) x (inl same) passes = rw (← same, passes) (inl refl)
in_chosen p f (z ∷ xs) x (inr later) passes = has_right (cond (p z) (f z ∷ []) []) (chosen p f xs) (f x) (in_chosen p f xs x later passes)

pub permuted : {X : Type 0} (xs ys : List X) (x : X) → IsPermutation xs ys → Has ys x → Has xs x
permuted xs ys x same = all_has (Has xs) ys x (all-permutation (Has xs) xs ys same (all_from (Has xs) xs (λ e h. h)))

either : {X : Type 0} (b : Bool) (x : X) → unwrap_or (cond b None None) x ≡ x
either true x = refl
either false x = refl

-- without tables of its own a query reads those of the store
pub overlay_none : (db : Trees) (tree : ℕ) → overlay db [] tree ≡ db tree
overlay_none db tree = either (nat_le (2 ^ 31) tree) (db tree)

pub shown_rows : (tree : ℕ) (tests project : List Term) (order : List (Term × Key)) (db : Trees) (params : Row) (rows : List Row) → IsSureAnswer (query_on tree tests project order) (overlay db []) params rows
    → AreShown tests project (db tree) params rows
shown_rows tree tests project order db params rows sure =
    let q = query_on tree tests project order in
    let answer : IsAnswer q (overlay db []) params rows = sure Null in
    let env = λ (r : Row). params ∷ r ∷ [] in
    let all = matches (overlay db []) tests (inner tree end) (params ∷ []) in
    let kept : answer.kept ≡ map (output q) all = answer.distinct ∙ ap (map (output q)) answer.grouped in
    let at = overlay_none db tree in
    record {
      sound = λ x h.
          let o = has_mapped (λ (k : Output). k.1) answer.ordered x (subst (λ l. Has l x) answer.shown h) in
          let e = has_mapped (output q) all o.0 (subst (λ l. Has l o.0) kept (permuted answer.kept answer.ordered o.0 answer.same o.1)) in
          let r = from_chosen (passes tests params) env (overlay db [] tree) e.0 e.1 in
          (r.0, subst (λ l. Has l r.0) at r.1, r.2, o.2 ∙ ap (λ (k : Output). k.1) (e.2 ∙ ap (output q) r.3));
      complete = λ r h good.
          let o = output q (env r) in
          let there = subst (λ l. Has l o) (sym kept) (mapped_has (output q) all (env r) (in_chosen (passes tests params) env (overlay db [] tree) r (subst (λ l. Has l r) (sym at) h) good)) in
          subst (λ l. Has l o.1) (sym answer.shown) (mapped_has (λ (k : Output). k.1) answer.ordered o (permuted answer.ordered answer.kept o (IsPermutation-sym _ _ answer.same) there));
    }
