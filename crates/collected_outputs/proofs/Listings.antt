-- A listing that grows, by its look-ups.
use Rattle.std.proofs.Common.{◌≡◌, ℕ, ◌+◌, ◌<◌, Bool, true, false, cond, List, [], ◌∷◌, ◌++◌, map, length, get_or, take, Option, Some, None, refl, sym, ap, subst, ◌∙◌}
use Rattle.std.specs.Prelude.{is_some, bytes_eq}
use Rattle.std.proofs.lemmas.List.{map-append, take_more}
use Rattle.plain_data.specs.ByName.{IsByName, value_at, with_value}
use Rattle.plain_data.proofs.ByName.{by_name_empty, order_with_value}
use Rattle.plain_data.proofs.Lookup.{value_at-with_value, by_name_only}
use Rattle.staging.specs.declared.found.Found.{Found}
use Rattle.collected_outputs.specs.declared.listing.Entry.{Entry}
use Rattle.collected_outputs.specs.Listing.{Listing, entry_of, listing_of}
use Rattle.collected_outputs.specs.inner.Listings.{with_entry}
use Rattle.std.proofs.lemmas.Slice.Eq.{bytes_eq-Decides}

abbrev or_else : {X : Type 0} → Option X → Option X → Option X
or_else (Some x) o = Some x
or_else None o = o

-- a look-up takes what stands first
at_append : (name : List ℕ) (es : Listing) (e : List ℕ × Entry) → value_at name (es ++ e ∷ []) ≡ or_else (value_at name es) (value_at name (e ∷ []))
at_append name [] e = refl
at_append name (d ∷ es) e = by_test (at_append name es e) (bytes_eq name d.0) refl where
  by_test : (value_at name (es ++ e ∷ []) ≡ or_else (value_at name es) (value_at name (e ∷ []))) → (b : Bool) → bytes_eq name d.0 ≡ b
      → value_at name ((d ∷ es) ++ e ∷ []) ≡ or_else (value_at name (d ∷ es)) (value_at name (e ∷ []))
  by_test rest true is = rw is refl
  by_test rest false is = rw is rest

or_none : {X : Type 0} (o : Option X) → o ≡ or_else o None
or_none (Some x) = refl
or_none None = refl

same_name : (name own : List ℕ) → bytes_eq name own ≡ true → name ≡ own
same_name name own is = (bytes_eq-Decides name own).0 is

alone_at : (name own : List ℕ) (x : Entry) (b : Bool) → bytes_eq name own ≡ b → value_at name ((own, x) ∷ []) ≡ cond b (Some x) None
alone_at name own x true is = rw is refl
alone_at name own x false is = rw is refl

first_at : (name own : List ℕ) (x : Entry) (listing : Listing) (b : Bool) → bytes_eq name own ≡ b → value_at name ((own, x) ∷ listing) ≡ cond b (Some x) (value_at name listing)
first_at name own x listing true is = rw is refl
first_at name own x listing false is = rw is refl

-- where the name stands, the one before it is kept
kept : (name own : List ℕ) (x y : Entry) (listing : Listing) (b : Bool) → bytes_eq name own ≡ b → value_at own listing ≡ Some y → value_at name listing ≡ or_else (value_at name listing) (value_at name ((own, x) ∷ []))
kept name own x y listing true is there =
    let here : value_at name listing ≡ Some y = ap (λ n. value_at n listing) (same_name name own is) ∙ there in
    here ∙ sym (ap (λ o. or_else o (value_at name ((own, x) ∷ []))) here)
kept name own x y listing false is there = or_none (value_at name listing) ∙ ap (or_else (value_at name listing)) (sym (alone_at name own x false is))

put : (name own : List ℕ) (x : Entry) (listing : Listing) (b : Bool) → bytes_eq name own ≡ b → value_at own listing ≡ None → value_at name ((own, x) ∷ listing) ≡ or_else (value_at name listing) (value_at name ((own, x) ∷ []))
put name own x listing true is there =
    let none : value_at name listing ≡ None = ap (λ n. value_at n listing) (same_name name own is) ∙ there in
    first_at name own x listing true is ∙ sym (alone_at name own x true is) ∙ sym (ap (λ o. or_else o (value_at name ((own, x) ∷ []))) none)
put name own x listing false is there =
    first_at name own x listing false is ∙ or_none (value_at name listing) ∙ ap (or_else (value_at name listing)) (sym (alone_at name own x false is))

step : (name : List ℕ) (f : Found) (listing : Listing) (stands : Option Entry) → value_at f.name listing ≡ stands → value_at name (with_entry f listing) ≡ or_else (value_at name listing) (value_at name (entry_of f ∷ []))
step name f listing (Some y) is =
    ap (λ o. value_at name (cond (is_some o) listing (with_value f.name (entry_of f).1 listing))) is ∙ kept name f.name (entry_of f).1 y listing (bytes_eq name f.name) refl is
step name f listing None is =
    ap (λ o. value_at name (cond (is_some o) listing (with_value f.name (entry_of f).1 listing))) is
    ∙ value_at-with_value name f.name (entry_of f).1 listing
    ∙ put name f.name (entry_of f).1 listing (bytes_eq name f.name) refl is

ordered : (f : Found) (listing : Listing) (stands : Option Entry) → value_at f.name listing ≡ stands → IsByName listing → IsByName (with_entry f listing)
ordered f listing (Some y) is order = subst (λ o. IsByName (cond (is_some o) listing (with_value f.name (entry_of f).1 listing))) (sym is) order
ordered f listing None is order = subst (λ o. IsByName (cond (is_some o) listing (with_value f.name (entry_of f).1 listing))) (sym is) (order_with_value f.name (entry_of f).1 listing order)

-- a listing that holds what the entries hold
pub record Holds (found : List Found) (listing : Listing) : Type 0 where
  pub order : IsByName listing
  pub same : (name : List ℕ) → value_at name listing ≡ value_at name (map entry_of found)

pub holds_none : (listing : Listing) → listing ≡ [] → Holds [] listing
holds_none listing is = record { order = by_name_empty listing is; same = λ name. ap (value_at name) is }

pub holds_more : (found : List Found) (i : ℕ) (f : Found) (listing after : Listing) → i < length found → f ≡ get_or found i f → after ≡ with_entry f listing → Holds (take i found) listing → Holds (take (i + 1) found) after
holds_more found i f listing after within at is h =
    let cut : take (i + 1) found ≡ take i found ++ f ∷ [] = take_more found i f within ∙ ap (λ y. take i found ++ y ∷ []) (sym at) in
    subst (Holds (take (i + 1) found)) (sym is) (record {
      order = ordered f listing (value_at f.name listing) refl h.order;
      same = λ name.
          step name f listing (value_at f.name listing) refl
          ∙ ap (λ o. or_else o (value_at name (entry_of f ∷ []))) (h.same name)
          ∙ sym (at_append name (map entry_of (take i found)) (entry_of f))
          ∙ ap (value_at name) (sym (map-append entry_of (take i found) (f ∷ [])))
          ∙ ap (λ l. value_at name (map entry_of l)) (sym cut);
    })

pub holds_all : (found : List Found) (listing : Listing) → Holds found listing → listing ≡ listing_of found
holds_all found listing h = by_name_only (map entry_of found) listing h.order h.same
