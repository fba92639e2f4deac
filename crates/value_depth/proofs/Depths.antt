-- How deep JSON nests that is put together of parts: arrays, sorted arrays, and objects.
use Rattle.std.proofs.Common.{◌≡◌, ℕ, zero, suc, max, ◌+◌, ◌-◌, ◌<◌, ◌≤◌, false, leb, List, [], ◌∷◌, ◌++◌, map, length, get_or, take, drop, Option, Some, None, refl, sym, ap, subst, ◌∙◌, arith, Ordering, Less, Equal, Greater}
use Rattle.std.specs.List.{insert, fold, suffix_len}
use Rattle.std.specs.Ordering.{match_ordering, nat_cmp, ordering_reverse}
use Rattle.std.specs.Cmp.Lexicographic.{slice_cmp, nat_list_cmp_total}
use Rattle.std.proofs.lemmas.List.{map-append, take_more}
use Rattle.std.proofs.lemmas.List as lists
use Rattle.std.proofs.Math.Dec.{leb-suc-suc}
use Rattle.std.proofs.lemmas.Bool.{leb-false, lt-leb}
use Rattle.plain_data.specs.ByName.{IsByName}
use Rattle.plain_data.proofs.ByName.{by_name_rest}
use Rattle.serde_json.specs.Data.{Data, Members, no_members, member, put, depth, items_depth, members_depth}
use Rattle.serde_json.specs.View.{items_of}
use Rattle.cwl_value.specs.Json.{object_of, with_member, is_above, with_entry, by_name}
use Rattle.cwl_value.proofs.Told.{object_of-in_turn}

-- ---- arrays

abbrev pub deepest : List Data → ℕ
deepest ds = items_depth (items_of ds)

deepest_push : (ds : List Data) (d : Data) (n : ℕ) → deepest ds ≤ n → depth d ≤ n → deepest (ds ++ d ∷ []) ≤ n
deepest_push [] d n before now = omega arith
deepest_push (e ∷ ds) d n before now = omega (arith, deepest_push ds d n (omega arith) now)

deepest_at : (ds : List Data) (d : Data) (es : List Data) → depth d ≤ deepest (ds ++ d ∷ es)
deepest_at [] d es = omega arith
deepest_at (e ∷ ds) d es = omega (arith, deepest_at ds d es)

whole : {X : Type 0} (xs : List X) (i : ℕ) (x : X) → i < length xs → x ≡ get_or xs i x → xs ≡ take i xs ++ x ∷ drop (i + 1) xs
whole xs i x within is = sym (lists.take-append-drop i xs) ∙ ap (λ l. take i xs ++ l) (lists.drop_more xs i x within ∙ ap (λ y. y ∷ drop (i + 1) xs) (sym is))

module _ {X : Type 0} (f : X → Data) where
  pub within_more : (xs : List X) (i : ℕ) (x : X) (n : ℕ) → i < length xs → x ≡ get_or xs i x → deepest (map f (take i xs)) ≤ n → depth (f x) ≤ n → deepest (map f (take (i + 1) xs)) ≤ n
  within_more xs i x n within is before now =
      subst (λ l. deepest (map f l) ≤ n) (sym (take_more xs i x within ∙ ap (λ y. take i xs ++ y ∷ []) (sym is)))
      (subst (λ l. deepest l ≤ n) (sym (map-append f (take i xs) (x ∷ []))) (deepest_push (map f (take i xs)) (f x) n before now))

  pub one_over : (xs slice : List X) (i : ℕ) (x : X) (n : ℕ) → slice ≡ xs → i < length slice → x ≡ get_or slice i x → leb (depth (f x)) n ≡ false → false ≡ leb (deepest (map f xs)) n
  one_over xs slice i x n same within is over =
      let above : n < depth (f x) = leb-false (depth (f x)) n over in
      let parts : map f xs ≡ map f (take i slice) ++ f x ∷ map f (drop (i + 1) slice) = ap (map f) (sym same ∙ whole slice i x within is) ∙ map-append f (take i slice) (x ∷ drop (i + 1) slice) in
      let below : depth (f x) ≤ deepest (map f xs) = subst (λ l. depth (f x) ≤ deepest l) (sym parts) (deepest_at (map f (take i slice)) (f x) (map f (drop (i + 1) slice))) in
      sym (lt-leb (deepest (map f xs)) n (omega arith))

-- two levels more, of as many more
pub two_more : (n k : ℕ) → 1 < k → leb n (k - 2) ≡ leb (suc (suc n)) k
two_more n k some = sym (leb-suc-suc (suc n) (suc (k - 2)) ∙ leb-suc-suc n (k - 2)) ∙ ap (leb (suc (suc n))) (omega arith)

-- ---- an array in the order of names has the same items

insert_deepest : (ds : List Data) (i : ℕ) (d : Data) → deepest (insert ds i d) ≡ max (depth d) (deepest ds)
insert_deepest ds zero d = refl
insert_deepest [] (suc i) d = refl
insert_deepest (e ∷ ds) (suc i) d = omega (arith, insert_deepest ds i d)

sorted_deepest : (done ds : List Data) → deepest (fold with_entry done ds) ≡ max (deepest done) (deepest ds)
sorted_deepest done [] = omega arith
sorted_deepest done (d ∷ ds) = omega (arith, sorted_deepest (with_entry done d) ds, insert_deepest done (length done - suffix_len (is_above d) done) d)

pub by_name_deepest : (ds : List Data) → deepest (by_name ds) ≡ deepest ds
by_name_deepest ds = omega (arith, sorted_deepest [] ds)

-- ---- objects in the order of their names

object_first : (m : List ℕ × Data) (ms : List (List ℕ × Data)) → IsByName (m ∷ ms) → object_of (m ∷ ms) ≡ member m.0 m.1 (object_of ms)
object_first m ms order = object_of-in_turn (m ∷ ms) order ∙ ap (member m.0 m.1) (sym (object_of-in_turn ms (by_name_rest m ms order)))

pub object_deepest : (ms : List (List ℕ × Data)) → IsByName ms → members_depth (object_of ms) ≡ deepest (map (λ m. m.1) ms)
object_deepest [] order = refl
object_deepest (m ∷ ms) order = ap members_depth (object_first m ms order) ∙ ap (max (depth m.1)) (object_deepest ms (by_name_rest m ms order))

-- ---- objects of one deep member

abbrev pub IsFlat : Members → Type 0
IsFlat ms = members_depth ms ≡ 0

abbrev pub depth_if_any : Option Data → ℕ
depth_if_any None = 0
depth_if_any (Some d) = depth d

put_flat : (k : List ℕ) (d : Data) (ms : Members) → depth d ≡ 0 → IsFlat ms → IsFlat (put k d ms)
put_flat k d no_members flat all = omega arith
put_flat k d (member l e ms) flat all =
    by (slice_cmp nat_cmp k l) (put_flat k d ms flat (omega arith)) where
      by : (o : Ordering) → IsFlat (put k d ms) → IsFlat (match_ordering o (member k d (member l e ms)) (member l d ms) (member l e (put k d ms)))
      by Less rest = omega arith
      by Equal rest = omega arith
      by Greater rest = omega arith

pub with_flat : (k : List ℕ) (o : Option Data) (ms : Members) → depth_if_any o ≡ 0 → IsFlat ms → IsFlat (with_member k o ms)
with_flat k None ms flat all = all
with_flat k (Some d) ms flat all = put_flat k d ms flat all

put_deep : (k : List ℕ) (d : Data) (ms : Members) → IsFlat ms → members_depth (put k d ms) ≡ depth d
put_deep k d no_members all = omega arith
put_deep k d (member l e ms) all =
    by (slice_cmp nat_cmp k l) (put_deep k d ms (omega arith)) where
      by : (o : Ordering) → members_depth (put k d ms) ≡ depth d → members_depth (match_ordering o (member k d (member l e ms)) (member l d ms) (member l e (put k d ms))) ≡ depth d
      by Less rest = omega arith
      by Equal rest = omega arith
      by Greater rest = omega arith

pub with_deep : (k : List ℕ) (o : Option Data) (ms : Members) → IsFlat ms → members_depth (with_member k o ms) ≡ depth_if_any o
with_deep k None ms all = all
with_deep k (Some d) ms all = put_deep k d ms all

-- what is put under a later name leaves the deep member
put_after : (l : List ℕ) (d : Data) (k : List ℕ) (e : Data) (ms : Members) → slice_cmp nat_cmp k l ≡ Greater → depth e ≡ 0 → IsFlat ms → members_depth (put k e (put l d ms)) ≡ depth d
put_after l d k e no_members after flat all = ap (λ o. members_depth (match_ordering o (member k e (member l d no_members)) (member l e no_members) (member l d (member k e no_members)))) after ∙ omega arith
put_after l d k e (member m a ms) after flat all =
    by (slice_cmp nat_cmp l m) refl (put_after l d k e ms after flat (omega arith)) where
      Rest : Type 0
      Rest = members_depth (put k e (put l d ms)) ≡ depth d

      at_m : (o : Ordering) → Rest → members_depth (match_ordering o (member k e (member m a (put l d ms))) (member m e (put l d ms)) (member m a (put k e (put l d ms)))) ≡ depth d
      at_m Less rest = omega (arith, put_deep l d ms (omega arith))
      at_m Equal rest = omega (arith, put_deep l d ms (omega arith))
      at_m Greater rest = omega arith

      by : (o : Ordering) → slice_cmp nat_cmp l m ≡ o → Rest → members_depth (put k e (match_ordering o (member l d (member m a ms)) (member m d ms) (member m a (put l d ms)))) ≡ depth d
      by Less is rest =
          ap (λ o. members_depth (match_ordering o (member k e (member l d (member m a ms))) (member l e (member m a ms)) (member l d (put k e (member m a ms))))) after
          ∙ omega (arith, put_flat k e (member m a ms) flat all)
      by Equal is rest =
          ap (λ o. members_depth (match_ordering o (member k e (member m d ms)) (member m e ms) (member m d (put k e ms))))
          (nat_list_cmp_total.antisymm k m ∙ ap ordering_reverse (sym (nat_list_cmp_total.congr l m k is)) ∙ sym (nat_list_cmp_total.antisymm k l) ∙ after)
          ∙ omega (arith, put_flat k e ms flat (omega arith))
      by Greater is rest = at_m (slice_cmp nat_cmp k m) rest

pub with_after : (l : List ℕ) (o : Option Data) (k : List ℕ) (p : Option Data) (ms : Members) → slice_cmp nat_cmp k l ≡ Greater → depth_if_any p ≡ 0 → IsFlat ms → members_depth (with_member k p (with_member l o ms)) ≡ depth_if_any o
with_after l o k None ms after flat all = with_deep l o ms all
with_after l None k (Some e) ms after flat all = put_flat k e ms flat all
with_after l (Some d) k (Some e) ms after flat all = put_after l d k e ms after flat all
