-- What the rules of matching say of all patterns and names.
use Rattle.std.proofs.Common.{◌≡◌, ℕ, ◌+◌, Bool, true, false, true≢false, ◌==◌, cond, List, [], ◌∷◌, map, refl, sym, ap, subst, ◌∙◌, eqb-true, eq-eqb, zero-add}
use Rattle.std.specs.Prelude.{count_by}
use Rattle.std.proofs.lemmas.List.Sums.{sum_by-cons}
use Rattle.staging.specs.Glob.{Glob, takes, may_take, may_begin, is_member}
use Rattle.staging.specs.Laws.{is_slash}
use Rattle.staging.specs.declared.item.PatternItem.{PatternItem}
use Rattle.staging.specs.declared.item.PatternItem.TheVariants.{Literal, One, Run, OneOf}
use Rattle.staging.proofs.Greedy.{both_first, may_take-slash}

pub itself : (front : Bool) (text : List ℕ) → Glob front (map Literal text) text
itself front [] = Glob.end
itself front (c ∷ text) = Glob.taken (eq-eqb c c refl) (itself (c == 47) text)

literals : (front : Bool) (text : List ℕ) (pattern : List PatternItem) (name : List ℕ) → pattern ≡ map Literal text → Glob front pattern name → name ≡ text
literals front [] pattern name is Glob.end = refl
literals front [] pattern name is (Glob.taken k matches) = cc
literals front [] pattern name is (Glob.none k matches) = cc
literals front [] pattern name is (Glob.more k matches) = cc
literals front (d ∷ text) pattern name is Glob.end = cc
literals front (d ∷ text) pattern name is (Glob.taken {front = f} {i = i} {c = c} {pattern = rest} {name = after} k matches) =
    let head : i ≡ Literal d = cc in
    let tail : rest ≡ map Literal text = cc in
    let same : d ≡ c = eqb-true d c (ap (λ x. takes f x c) (sym head) ∙ k) in
    let more : after ≡ text = literals (c == 47) text rest after tail matches in
    cc
literals front (d ∷ text) pattern name is (Glob.none k matches) = cc
literals front (d ∷ text) pattern name is (Glob.more k matches) = cc

pub alone : (text name : List ℕ) → Glob true (map Literal text) name → name ≡ text
alone text name matches = literals true text (map Literal text) name refl matches

-- an item takes a `/` exactly where it is one
takes-slash : (front : Bool) (i : PatternItem) (c : ℕ) → takes front i c ≡ true → is_slash i ≡ (c == 47)
takes-slash front (Literal d) c h = ap (λ x. x == 47) (eqb-true d c h)
takes-slash front One c h = sym (may_take-slash front c h)
takes-slash front Run c h = absurd (true≢false (sym h))
takes-slash front (OneOf bracket) c h = sym (may_take-slash front c (both_first (may_take front c) (is_member bracket c) h))

add_one_each : (a b : Bool) (m n : ℕ) → a ≡ b → m ≡ n → cond a 1 0 + m ≡ cond b 1 0 + n
add_one_each a b m n p q = ap (λ x. cond x 1 0 + m) p ∙ ap (λ k. cond b 1 0 + k) q

counted : (i : PatternItem) (c : ℕ) (pattern : List PatternItem) (name : List ℕ) → is_slash i ≡ (c == 47)
    → count_by is_slash pattern ≡ count_by (λ d. d == 47) name → count_by is_slash (i ∷ pattern) ≡ count_by (λ d. d == 47) (c ∷ name)
counted i c pattern name same rest =
    sum_by-cons (λ x. cond (is_slash x) 1 0) i pattern
    ∙ add_one_each (is_slash i) (c == 47) (count_by is_slash pattern) (count_by (λ d. d == 47) name) same rest
    ∙ sym (sum_by-cons (λ d. cond (d == 47) 1 0) c name)

-- a `*` counts nothing
run_counts : (pattern : List PatternItem) → count_by is_slash (Run ∷ pattern) ≡ count_by is_slash pattern
run_counts pattern = sum_by-cons (λ x. cond (is_slash x) 1 0) Run pattern ∙ zero-add (count_by is_slash pattern)

pub slashes : {front : Bool} {pattern : List PatternItem} {name : List ℕ} → Glob front pattern name → count_by is_slash pattern ≡ count_by (λ c. c == 47) name
slashes Glob.end = refl
slashes (Glob.taken {front = front} {i = i} {c = c} {pattern = pattern} {name = name} k matches) = counted i c pattern name (takes-slash front i c k) (slashes matches)
slashes (Glob.none {pattern = pattern} {name = name} k matches) = run_counts pattern ∙ slashes matches
slashes (Glob.more {front = front} {c = c} {pattern = pattern} {name = name} k matches) =
    let apart : (c == 47) ≡ false = may_take-slash front c k in
    slashes matches ∙ sym (sum_by-cons (λ d. cond (d == 47) 1 0) c name ∙ ap (λ b. cond b 1 0 + count_by (λ d. d == 47) name) apart ∙ zero-add (count_by (λ d. d == 47) name))

period_item : (i : PatternItem) → takes true i 46 ≡ true → i ≡ Literal 46
period_item (Literal d) h = ap Literal (eqb-true d 46 h)
period_item One h = absurd (true≢false (sym h))
period_item Run h = absurd (true≢false (sym h))
period_item (OneOf bracket) h = absurd (true≢false (sym h))

hidden_by : (front : Bool) (pattern : List PatternItem) (c : ℕ) (name : List ℕ) → front ≡ true → c ≡ 46 → Glob front pattern (c ∷ name) → (rest : List PatternItem) × (pattern ≡ Literal 46 ∷ rest)
hidden_by front pattern c name at_front period (Glob.taken {i = i} {pattern = rest} k matches) =
    let own : i ≡ Literal 46 = period_item i (subst (λ (x : ℕ). takes true i x ≡ true) period (subst (λ (f : Bool). takes f i c ≡ true) at_front k)) in
    (rest, ap (λ x. x ∷ rest) own)
hidden_by front pattern c name at_front period (Glob.none k matches) =
    absurd (true≢false (sym (subst (λ (x : ℕ). may_begin true (x ∷ name) ≡ true) period (subst (λ (f : Bool). may_begin f (c ∷ name) ≡ true) at_front k))))
hidden_by front pattern c name at_front period (Glob.more k matches) =
    absurd (true≢false (sym (subst (λ (x : ℕ). may_take true x ≡ true) period (subst (λ (f : Bool). may_take f c ≡ true) at_front k))))

pub hidden : (pattern : List PatternItem) (name : List ℕ) → Glob true pattern (46 ∷ name) → (rest : List PatternItem) × (pattern ≡ Literal 46 ∷ rest)
hidden pattern name matches = hidden_by true pattern 46 name refl refl matches
