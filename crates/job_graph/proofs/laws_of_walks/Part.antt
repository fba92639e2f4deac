-- Lists with some elements left out, and optional values that stay.
use Rattle.std.proofs.Common.{◌≡◌, List, [], ◌∷◌, ◌++◌, map, Bool, true, false, cond, Option, Some, None, option_map, unwrap_or, bytes_eq, refl, sym, subst, ap, ap₂}
use Rattle.std.specs.Prelude.{◌&&◌, ◌||◌, is_some}
use Rattle.std.specs.List.{AllByRecursion}
use Rattle.cwl_value.specs.declared.value.Value.{Value}
use Rattle.plain_data.specs.ByName.{value_at}
use Rattle.job_graph.specs.Words.{Name}
use Rattle.job_graph.specs.Jobs.{Job, Met, met_job, met_fault, Walk, with_first, all_there}
use Rattle.job_graph.specs.Links.{out_under}
use Rattle.job_graph.specs.More.{Stays, IsPart, nothing, kept, left_out, IsGrown}

-- ---- what is met, where G holds of each job

module _ (G : Job → Type 0) where
  abbrev pub MeetsIn : Met → Type 0
  MeetsIn (met_job job) = G job
  MeetsIn (met_fault place cause) = Unit {0}

  abbrev pub AllIn : List Met → Type 0
  AllIn met = AllByRecursion MeetsIn met

  pub each_left : (xs ys : List Met) → AllIn (xs ++ ys) → AllIn xs
  each_left [] ys all = tt
  each_left (x ∷ xs) ys all = (all.0, each_left xs ys all.1)

  pub each_right : (xs ys : List Met) → AllIn (xs ++ ys) → AllIn ys
  each_right [] ys all = all
  each_right (x ∷ xs) ys all = each_right xs ys all.1

  pub each_part : (xs ys : List Met) → IsPart xs ys → AllIn ys → AllIn xs
  each_part xs ys nothing all = all
  each_part xs ys (kept x us vs part) all = (all.0, each_part us vs part all.1)
  each_part xs ys (left_out y us vs part) all = each_part us vs part all.1

  pub each_both : (xs ys : List Met) → AllIn xs → AllIn ys → AllIn (xs ++ ys)
  each_both [] ys one other = other
  each_both (x ∷ xs) ys one other = (one.0, each_both xs ys one.1 other)

pub weaker : (G H : Job → Type 0) → ((job : Job) → G job → H job) → (met : List Met) → AllIn G met → AllIn H met
weaker G H means [] all = tt
weaker G H means (met_job job ∷ met) all = (means job all.0, weaker G H means met all.1)
weaker G H means (met_fault place cause ∷ met) all = (tt, weaker G H means met all.1)

pub and_left : (a b : Bool) → (a && b) ≡ true → a ≡ true
and_left true b both = refl
and_left false b both = absurd cc

pub and_right : (a b : Bool) → (a && b) ≡ true → b ≡ true
and_right true b both = both
and_right false b both = absurd cc

pub neither_one : (a b : Bool) → (a || b) ≡ false → a ≡ false
neither_one true b is = absurd cc
neither_one false b is = refl

pub neither_other : (a b : Bool) → (a || b) ≡ false → b ≡ false
neither_other true b is = absurd cc
neither_other false b is = is

-- ---- lists with some elements left out

module _ {X : Type 0} where
  pub part_itself : (xs : List X) → IsPart xs xs
  part_itself [] = nothing
  part_itself (x ∷ xs) = kept x xs xs (part_itself xs)

  pub part_none : (ys : List X) → IsPart [] ys
  part_none [] = nothing
  part_none (y ∷ ys) = left_out y [] ys (part_none ys)

  pub part_append : (xs ys us vs : List X) → IsPart xs ys → IsPart us vs → IsPart (xs ++ us) (ys ++ vs)
  part_append xs ys us vs nothing more = more
  part_append xs ys us vs (kept x us1 vs1 part) more = kept x (us1 ++ us) (vs1 ++ vs) (part_append us1 vs1 us vs part more)
  part_append xs ys us vs (left_out y us1 vs1 part) more = left_out y (us1 ++ us) (vs1 ++ vs) (part_append us1 vs1 us vs part more)

  pub part_of_none : (xs ys : List X) → IsPart xs ys → ys ≡ [] → xs ≡ []
  part_of_none xs ys nothing is = refl
  part_of_none xs ys (kept x us vs part) is = absurd cc
  part_of_none xs ys (left_out y us vs part) is = absurd cc

-- ---- values that stay

pub stays_itself : {T : Type 0} (o : Option T) → Stays o o
stays_itself None = tt
stays_itself (Some v) = refl

pub stays_on : {T : Type 0} (a b c : Option T) → Stays a b → Stays b c → Stays a c
stays_on None b c one other = tt
stays_on {T} (Some v) b c one other = subst (λ (o : Option T). Stays o c) one other

pub is_there : {T : Type 0} (a b : Option T) → is_some a ≡ true → Stays a b → (a ≡ b) × (is_some b ≡ true)
is_there None b there stays = absurd cc
is_there (Some v) b there stays = (sym stays, ap is_some stays)

pub stays_both : {T : Type 0} (a b : Option T) → Stays a b → Stays b a → a ≡ b
stays_both None None one other = refl
stays_both None (Some v) one other = absurd cc
stays_both (Some v) b one other = sym one

pub stays_map : {S T : Type 0} (f : S → T) (a b : Option S) → Stays a b → Stays (option_map f a) (option_map f b)
stays_map f None b stays = tt
stays_map f (Some v) b stays = ap (option_map f) stays

pub stays_first : {T : Type 0} (a b : Option T) (vs ws : Option (List T)) → Stays a b → Stays vs ws → Stays (with_first a vs) (with_first b ws)
stays_first (Some v) b (Some vs) ws one all = ap₂ with_first one all
stays_first (Some v) b None ws one all = tt
stays_first None b (Some vs) ws one all = tt
stays_first None b None ws one all = tt

pub stays_all : {X T : Type 0} (f g : X → Option T) → ((x : X) → Stays (f x) (g x)) → (xs : List X) → Stays (all_there (map f xs)) (all_there (map g xs))
stays_all f g stays [] = refl
stays_all f g stays (x ∷ xs) = stays_first (f x) (g x) (all_there (map f xs)) (all_there (map g xs)) (stays x) (stays_all f g stays xs)

under_either : (b : Bool) (one other : Option Value) (rest later : Option (Option Value)) → Stays one other → Stays (unwrap_or rest None) (unwrap_or later None)
    → Stays (unwrap_or (cond b (Some one) rest) None) (unwrap_or (cond b (Some other) later) None)
under_either true one other rest later here there = here
under_either false one other rest later here there = there

-- outputs under the same names, each of which stays
pub stays_under : {X : Type 0} (named : X → Name) (f g : X → Option Value) → ((x : X) → Stays (f x) (g x)) → (name : Name) (xs : List X)
    → Stays (out_under name (Some (map (λ x. (named x, f x)) xs))) (out_under name (Some (map (λ x. (named x, g x)) xs)))
stays_under named f g stays name [] = tt
stays_under named f g stays name (x ∷ xs) =
    under_either (bytes_eq name (named x)) (f x) (g x) (value_at name (map (λ x. (named x, f x)) xs)) (value_at name (map (λ x. (named x, g x)) xs)) (stays x) (stays_under named f g stays name xs)

pub grown_itself : (walk : Walk) → IsGrown walk walk
grown_itself walk = record { met = part_itself walk.met; outs = λ name. stays_itself (out_under name (Some walk.outs)) }
