-- Files that are the same have the same listing, where each name is there once.
use Rattle.std.proofs.Common.{◌≡◌, true, true≢false, List, [], ◌∷◌, map, Option, Some, None, is_some, refl, sym, ap, subst, ◌∙◌, arith}
use Rattle.std.specs.Prelude.{bytes_eq}
use Rattle.std.specs.Cmp.Lexicographic.{nat_list_eq_equiv}
use Rattle.std.specs.List.{All, Contains, IsDistinct}
use Rattle.std.specs.Map.{keys_of, values_of}
use Rattle.std.proofs.lemmas.List.{get_or-map, length-map}
use Rattle.std.proofs.lemmas.Map.Views.{Contains-from_lookup, lookup-from_Contains, IsSome-lookup_from_Contains}
use Rattle.std.proofs.lemmas.Slice.Eq.{bytes_eq-Decides}
use Rattle.plain_data.specs.ByName.{value_at}
use Rattle.plain_data.proofs.ByName.{order_by_name}
use Rattle.plain_data.proofs.Lookup.{value_at-by_name, same_by_name}
use Rattle.collected_outputs.specs.Listing.{Listing, entry_of, listing_of}
use Rattle.collected_outputs.specs.Matched.{Name}
use Rattle.staging.specs.declared.found.Found.{Found}
use Rattle.job_reuse.specs.Laws.{FetchedFilesStandIn}
use Rattle.job_reuse.specs.Rows.{AreTheSame}
use Rattle.job_reuse.specs.Sound.{all_stand}
use Rattle.job_reuse.proofs.Entries.{Entry}

contains_map : {X Y : Type 0} (f : X → Y) (xs : List X) (x : X) → Contains xs x → Contains (map f xs) (f x)
contains_map f xs x one = (one.0, omega (arith, length-map xs f, one.1), get_or-map f xs one.0 x (f x) one.1 ∙ ap f one.2)

found_of : Name × Entry → Found
found_of e = record { name = e.0; is_dir = e.1.is_dir; size = e.1.size; sum = e.1.sum }

back : (files : List Found) → map found_of (map entry_of files) ≡ files
unfolding found_of
back [] = refl
back (f ∷ fs) = ap (λ l. f ∷ l) (back fs)

-- an entry of some is one of others that have the same files
entry_along : (these those : List Found) → ((f : Found) → Contains these f → Contains those f) → (e : Name × Entry) → Contains (map entry_of these) e → Contains (map entry_of those) e
unfolding found_of
entry_along these those along e one = contains_map entry_of those (found_of e) (along (found_of e) (subst (λ (l : List Found). Contains l (found_of e)) (back these) (contains_map found_of (map entry_of these) e one)))

keys_map : (e : Name × Entry) (es : Listing) → Contains es e → Contains (keys_of es) e.0
keys_map e es one = subst (λ (l : List Name). Contains l e.0) (keys_are es) (contains_map (λ (e : Name × Entry). e.0) es e one) where
  keys_are : (es : Listing) → map (λ (e : Name × Entry). e.0) es ≡ keys_of es
  keys_are [] = refl
  keys_are (e ∷ es) = ap (λ l. e.0 ∷ l) (keys_are es)

names_are : (files : List Found) → keys_of (map entry_of files) ≡ map (λ (f : Found). f.name) files
names_are [] = refl
names_are (f ∷ fs) = ap (λ l. f.name ∷ l) (names_are fs)

module _ (files fetched : List Found) (same : AreTheSame files fetched) (once : IsDistinct bytes_eq (map (λ (f : Found). f.name) files)) where
  distinct : IsDistinct bytes_eq (keys_of (map entry_of files))
  distinct = subst (IsDistinct bytes_eq) (sym (names_are files)) once

  found_in : (name : Name) (es : List Found) (x : Entry) → value_at name (map entry_of es) ≡ Some x → Contains (map entry_of es) (name, x)
  found_in name es x is = Contains-from_lookup (λ x y. (bytes_eq-Decides x y).0) name x (map entry_of es) is

  looked_up : (name : Name) → value_at name (map entry_of fetched) ≡ value_at name (map entry_of files)
  looked_up name = by (value_at name (map entry_of fetched)) refl (value_at name (map entry_of files)) refl where
    by : (there : Option Entry) → value_at name (map entry_of fetched) ≡ there → (here : Option Entry) → value_at name (map entry_of files) ≡ here → there ≡ here
    by (Some x) is here at =
        sym (lookup-from_Contains nat_list_eq_equiv name x (map entry_of files) distinct (entry_along fetched files (λ f. (same f).1) (name, x) (found_in name fetched x is))) ∙ at
    by None is None at = refl
    by None is (Some x) at =
        absurd (true≢false (
        sym (IsSome-lookup_from_Contains nat_list_eq_equiv name (map entry_of fetched) (keys_map (name, x) (map entry_of fetched) (entry_along files fetched (λ f. (same f).0) (name, x) (found_in name files x at))))
        ∙ ap is_some is))

  pub same_listing : listing_of fetched ≡ listing_of files
  same_listing =
      same_by_name (listing_of fetched) (listing_of files) (order_by_name (map entry_of fetched)) (order_by_name (map entry_of files))
      (λ name. value_at-by_name name (map entry_of fetched) ∙ looked_up name ∙ sym (value_at-by_name name (map entry_of files)))

pub stand_in : FetchedFilesStandIn
stand_in tool row fetched same once sound = record {
  declared = sound.declared;
  there = subst (λ (l : Listing). All (λ v. all_stand l v ≡ true) (values_of row.outputs)) (sym (same_listing row.files fetched same once)) sound.there;
}
