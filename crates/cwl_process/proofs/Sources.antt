-- What follows the id of a workflow and `/`.
use Rattle.std.proofs.Common.{◌≡◌, ◌≢◌, ℕ, List, ◌∷◌, ◌++◌, length, drop, Bool, true, false, Option, Some, None, Bor, refl, sym, ap, ◌∙◌, codes, MatchOption}
use Rattle.std.specs.Prelude.{if◌then◌else◌, nat_eq, option_map}
use Rattle.std.specs.List.{starts_with}
use Rattle.std.proofs.Math.Seq.{drop-append_seam}
use Rattle.std.proofs.lemmas.Bool.Decides.{Decides-eqb}
use Rattle.std.proofs.lemmas.List.{append_assoc, append_cancel_left}
use Rattle.std.proofs.lemmas.Slice.Eq.{starts_is}
use Rattle.cwl_process.specs.Links.{after_id}

module _ (id text : List ℕ) where
  abbrev front : List ℕ
  front = id ++ codes "/"

  abbrev begins : Bool
  begins = starts_with nat_eq text front

  -- the text begins with both
  pub follows : (rest : List ℕ) → text ≡ id ++ 47 ∷ rest → Some rest ≡ after_id id text
  follows rest is =
      let whole : text ≡ front ++ rest = is ∙ sym (append_assoc id (codes "/") rest) in
      let test : begins ≡ true = (starts_is Decides-eqb text front begins refl).1 rest whole in
      sym (ap (λ t. if t then Some (drop (length front) text) else None) test ∙ ap Some (ap (drop (length front)) whole ∙ drop-append_seam front rest))

  nothing : (test : Bool) → begins ≡ test → ((rest : List ℕ) → text ≢ id ++ 47 ∷ rest) → None ≡ (if test then Some (drop (length front) text) else None)
  nothing true is none =
      absurd (none (drop (length front) text) ((starts_is Decides-eqb text front begins refl).0 is ∙ append_assoc id (codes "/") (drop (length front) text)))
  nothing false is none = refl

  -- it doesn't
  pub follows_not : ((rest : List ℕ) → text ≢ id ++ 47 ∷ rest) → None ≡ after_id id text
  follows_not none = nothing begins refl none

-- the rest of the text, from its `/` on or not
pub follows_slash : (id text rest : List ℕ) (r : Option (Bor (List ℕ))) → text ≡ id ++ rest → MatchOption r ((x : List ℕ) → rest ≢ 47 ∷ x) (λ x. rest ≡ 47 ∷ x.now)
    → option_map (λ (x : Bor (List ℕ)). x.now) r ≡ after_id id text
follows_slash id text rest None on other = follows_not id text (λ x is. other x (append_cancel_left id rest (47 ∷ x) (sym on ∙ is)))
follows_slash id text rest (Some x) on is = follows id text x.now (on ∙ ap (λ l. id ++ l) is)
