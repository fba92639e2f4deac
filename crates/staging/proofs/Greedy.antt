-- Why it is enough to go back to the last `*`: what the rest of a pattern can match from a later place of the one before, it can match
-- from the first place that was found.
use Rattle.std.proofs.Common.{◌≡◌, ℕ, Bool, true, false, true≢false, not, ◌&&◌, ◌==◌, List, [], ◌∷◌, ◌++◌, append_assoc, refl, sym, ap, subst, ◌∙◌, ◌⊎◌, inl, inr, eqb-true}
use Rattle.std.specs.List.{list_all}
use Rattle.staging.specs.Glob.{Glob, takes, may_take, may_begin, is_member}
use Rattle.staging.specs.declared.item.PatternItem.{PatternItem}
use Rattle.staging.specs.declared.item.PatternItem.TheVariants.{Literal, One, Run, OneOf}

-- booleans

pub both_first : (a b : Bool) → (a && b) ≡ true → a ≡ true
both_first true b h = refl
both_first false b h = h

pub both_second : (a b : Bool) → (a && b) ≡ true → b ≡ true
both_second true b h = h
both_second false b h = absurd (true≢false (sym h))

pub both : (a b : Bool) → a ≡ true → b ≡ true → (a && b) ≡ true
both a b p q = rw (p, q) refl

not-true : (a : Bool) → not a ≡ true → a ≡ false
not-true true h = absurd (true≢false (sym h))
not-true false h = refl

pub true-or_false : (a : Bool) → (a ≡ true) ⊎ (a ≡ false)
true-or_false true = inl refl
true-or_false false = inr refl

-- no character is a `/`
abbrev pub is_in_component : List ℕ → Bool
is_in_component = list_all (λ c. not (c == 47))

pub may_take-slash : (front : Bool) (c : ℕ) → may_take front c ≡ true → (c == 47) ≡ false
may_take-slash front c h = not-true (c == 47) (both_first (not (c == 47)) (not (front && c == 46)) h)

pub may_take-begins : (front : Bool) (c : ℕ) (name : List ℕ) → may_take front c ≡ true → may_begin front (c ∷ name) ≡ true
may_take-begins front c name h = both_second (not (c == 47)) (not (front && c == 46)) h

inside-may_take : (c : ℕ) → not (c == 47) ≡ true → may_take false c ≡ true
inside-may_take c h = both (not (c == 47)) true h refl

-- an item that takes one that isn't a `/` takes no `/`
same_kind : (i : PatternItem) (a b : Bool) (c d : ℕ) → takes a i c ≡ true → (c == 47) ≡ false → takes b i d ≡ true → (d == 47) ≡ false
same_kind (Literal e) a b c d h apart k =
    let one : e ≡ c = eqb-true e c h in
    let other : e ≡ d = eqb-true e d k in
    ap (λ x. x == 47) (sym other ∙ one) ∙ apart
same_kind One a b c d h apart k = may_take-slash b d k
same_kind Run a b c d h apart k = absurd (true≢false (sym h))
same_kind (OneOf bracket) a b c d h apart k = may_take-slash b d (both_first (may_take b d) (is_member bracket d) k)

-- an item that takes one character has taken the first
pub record TakesFirst (front : Bool) (i : PatternItem) (pattern : List PatternItem) (name : List ℕ) : Type 0 where
  pub character : ℕ
  pub rest : List ℕ
  pub name_is : name ≡ character ∷ rest
  pub taken : takes front i character ≡ true
  pub matches : Glob (character == 47) pattern rest

pub takes_first : {front : Bool} {i : PatternItem} {pattern : List PatternItem} {name : List ℕ} (a : Bool) (c : ℕ)
    → takes a i c ≡ true → Glob front (i ∷ pattern) name → TakesFirst front i pattern name
takes_first a c h (Glob.taken {c = d} {name = rest} k matches) = record { character = d; rest = rest; name_is = refl; taken = k; matches = matches }
takes_first a c h (Glob.none k matches) = absurd (true≢false (sym h))
takes_first a c h (Glob.more k matches) = absurd (true≢false (sym h))

-- from one place to another, item by item, each taking one character
pub data Passed : Bool → List PatternItem → List ℕ → Bool → List PatternItem → List ℕ → Type 0 where
  here : {front : Bool} {pattern : List PatternItem} {name : List ℕ} → Passed front pattern name front pattern name
  next : {front : Bool} {i : PatternItem} {c : ℕ} {pattern : List PatternItem} {name : List ℕ} {front' : Bool} {pattern' : List PatternItem} {name' : List ℕ}
      → takes front i c ≡ true → Passed (c == 47) pattern name front' pattern' name' → Passed front (i ∷ pattern) (c ∷ name) front' pattern' name'

pub passed_more : {a b : Bool} {p q : List PatternItem} {m n : List ℕ} {i : PatternItem} {c : ℕ}
    → Passed a p m b (i ∷ q) (c ∷ n) → takes b i c ≡ true → Passed a p m (c == 47) q n
passed_more Passed.here h = Passed.next h Passed.here
passed_more (Passed.next k passed) h = Passed.next k (passed_more passed h)

-- what matches after the items matches before them
pub passed-forth : {a b : Bool} {p q : List PatternItem} {m n : List ℕ} → Passed a p m b q n → Glob b q n → Glob a p m
passed-forth Passed.here matches = matches
passed-forth (Passed.next k passed) matches = Glob.taken k (passed-forth passed matches)

-- and the other way round
pub passed-back : {a b : Bool} {p q : List PatternItem} {m n : List ℕ} → Passed a p m b q n → Glob a p m → Glob b q n
passed-back Passed.here matches = matches
passed-back (Passed.next {front = front} {c = c} {pattern = pattern} {name = name} k passed) matches =
    let first = takes_first front c k matches in
    let parts : c ∷ name ≡ first.character ∷ first.rest = first.name_is in
    let same : first.character ≡ c = cc in
    let rest : first.rest ≡ name = cc in
    passed-back passed (subst (λ (x : ℕ). Glob (x == 47) pattern name) same (subst (λ (x : List ℕ). Glob (first.character == 47) pattern x) rest first.matches))

-- a `*` may take characters of one component up to where it matches
run_over : (front : Bool) (c : ℕ) (run : List ℕ) (pattern : List PatternItem) (name : List ℕ)
    → may_take front c ≡ true → is_in_component run ≡ true → Glob false (Run ∷ pattern) name → Glob front (Run ∷ pattern) (c ∷ (run ++ name))
run_over front c [] pattern name h inside matches = Glob.more h matches
run_over front c (d ∷ run) pattern name h inside matches =
    let first : may_take false d ≡ true = inside-may_take d (both_first (not (d == 47)) (is_in_component run) inside) in
    Glob.more h (run_over false d run pattern name first (both_second (not (d == 47)) (is_in_component run) inside) matches)

in_component-more : (run : List ℕ) (d : ℕ) → is_in_component run ≡ true → (d == 47) ≡ false → is_in_component (run ++ d ∷ []) ≡ true
in_component-more [] d inside apart = both (not (d == 47)) true (ap not apart) refl
in_component-more (c ∷ run) d inside apart =
    both (not (c == 47)) (is_in_component (run ++ d ∷ [])) (both_first (not (c == 47)) (is_in_component run) inside)
    (in_component-more run d (both_second (not (c == 47)) (is_in_component run) inside) apart)

-- one character of the component comes next, and the run goes on up to `late`
record Shifted (name late : List ℕ) : Type 0 where
  character : ℕ
  run : List ℕ
  parts : name ≡ character ∷ (run ++ late)
  taken : may_take false character ≡ true
  inside : is_in_component run ≡ true

shifted : (run : List ℕ) (d : ℕ) (late name : List ℕ) → is_in_component run ≡ true → (d == 47) ≡ false → name ≡ run ++ d ∷ late → Shifted name late
shifted [] d late name inside apart parts = record { character = d; run = []; parts = parts; taken = inside-may_take d (ap not apart); inside = refl }
shifted (c ∷ run) d late name inside apart parts =
    record {
      character = c;
      run = run ++ d ∷ [];
      parts = parts ∙ ap (λ x. c ∷ x) (sym (append_assoc run (d ∷ []) late));
      taken = inside-may_take c (both_first (not (c == 47)) (is_in_component run) inside);
      inside = in_component-more run d (both_second (not (c == 47)) (is_in_component run) inside) apart;
    }

-- the rest of the pattern from the place where the items were first found, if it matches from a later one
pub from_first : {a b : Bool} {p q : List PatternItem} {m n : List ℕ} → Passed a p m b (Run ∷ q) n
    → (c : ℕ) (run late : List ℕ) → may_take a c ≡ true → is_in_component run ≡ true → m ≡ c ∷ (run ++ late) → Glob false p late → Glob b (Run ∷ q) n
from_first {a = a} {q = q} {n = n} Passed.here c run late h inside is matches =
    subst (λ (x : List ℕ). Glob a (Run ∷ q) x) (sym is) (run_over a c run q late h inside matches)
from_first {a = a} (Passed.next {i = i} {c = d} {pattern = p} {name = m} k passed) c run late h inside is matches =
    let first = takes_first a d k matches in
    let head : d ≡ c = cc in
    let tail : m ≡ run ++ late = cc in
    let apart : (d == 47) ≡ false = ap (λ x. x == 47) head ∙ may_take-slash a c h in
    let late_apart : (first.character == 47) ≡ false = same_kind i a false d first.character k apart first.taken in
    let after = shifted run first.character first.rest m inside late_apart (tail ∙ ap (λ x. run ++ x) first.name_is) in
    from_first passed after.character after.run first.rest
    (subst (λ (f : Bool). may_take f after.character ≡ true) (sym apart) after.taken)
    after.inside
    after.parts
    (subst (λ (f : Bool). Glob f p first.rest) late_apart first.matches)
