-- Where a run of bytes that pass a test ends, and where a segment does.
use Rattle.std.proofs.Common.{◌≡◌, ℕ, Bool, true, false, true≢false, not, ◌==◌, ◌&&◌, ◌||◌, List, [], ◌∷◌, ◌++◌, append_assoc, refl, sym, ap, ◌∙◌, eq-eqb}
use Rattle.std.specs.List.{list_all, list_any}
use Rattle.std.specs.Char.{is_ascii_digit}
use Rattle.param_refs.specs.Grammar.{is_symbol_byte, is_symbol, is_quoted, is_number, IsSegment, AreSegments, IsReference}
use Rattle.param_refs.specs.inner.Scans.{first_passes, starts_symbol}
use Rattle.param_refs.specs.declared.template.Reference.{Reference}
use Rattle.param_refs.specs.declared.template.Segment.{Segment}
use Rattle.param_refs.specs.declared.template.Segment.TheVariants.{Key, Index}

pub both_first : (a b : Bool) → (a && b) ≡ true → a ≡ true
both_first true b h = refl
both_first false b h = h

pub both_second : (a b : Bool) → (a && b) ≡ true → b ≡ true
both_second true b h = h
both_second false b h = absurd (true≢false (sym h))

-- two texts that differ in the first byte, or in the second
pub differ : (x y : ℕ) (s t : List ℕ) → x ∷ s ≡ y ∷ t → (x == y) ≡ false → ⊥
differ x y s t e apart = let head : x ≡ y = cc in true≢false (sym (eq-eqb x y head) ∙ apart)

pub differ_next : (w x y : ℕ) (s t : List ℕ) → w ∷ x ∷ s ≡ w ∷ y ∷ t → (x == y) ≡ false → ⊥
differ_next w x y s t e apart = let after : x ∷ s ≡ y ∷ t = cc in differ x y s t after apart

-- a run that passes, up to what doesn't pass, is the same run however it was found
pub cut : (p : ℕ → Bool) (a b c d : List ℕ) → a ++ b ≡ c ++ d → list_all p a ≡ true → list_all p c ≡ true → first_passes p b ≡ false → first_passes p d ≡ false → (a ≡ c) × (b ≡ d)
cut p [] b [] d e pa pc qb qd = (refl, e)
cut p [] b (y ∷ c) d e pa pc qb qd = absurd (true≢false (sym (both_first (p y) (list_all p c) pc) ∙ sym (ap (first_passes p) e) ∙ qb))
cut p (x ∷ a) b [] d e pa pc qb qd = absurd (true≢false (sym (both_first (p x) (list_all p a) pa) ∙ ap (first_passes p) e ∙ qd))
cut p (x ∷ a) b (y ∷ c) d e pa pc qb qd =
    let head : x ≡ y = cc in
    let tail : a ++ b ≡ c ++ d = cc in
    let rest = cut p a b c d tail (both_second (p x) (list_all p a) pa) (both_second (p y) (list_all p c) pc) qb qd in
    let same : a ≡ c = rest.0 in
    (cc, rest.1)

pub symbol-all : (s : List ℕ) → is_symbol s ≡ true → list_all is_symbol_byte s ≡ true
symbol-all [] h = refl
symbol-all (b ∷ s) h = h

pub symbol-first : (s t : List ℕ) → is_symbol s ≡ true → starts_symbol (s ++ t) ≡ true
symbol-first [] t h = absurd (true≢false (sym h))
symbol-first (b ∷ s) t h = both_first (is_symbol_byte b) (list_all is_symbol_byte s) h

pub number-all : (s : List ℕ) → is_number s ≡ true → list_all is_ascii_digit s ≡ true
number-all [] h = refl
number-all (b ∷ s) h = h

pub number-first : (s t : List ℕ) → is_number s ≡ true → first_passes is_ascii_digit (s ++ t) ≡ true
number-first [] t h = absurd (true≢false (sym h))
number-first (b ∷ s) t h = both_first (is_ascii_digit b) (list_all is_ascii_digit s) h

neither : (a b c : Bool) → not ((a || b) || c) ≡ true → (not a ≡ true) × (not c ≡ true)
neither true b c h = absurd (true≢false (sym h))
neither false true c h = absurd (true≢false (sym h))
neither false false c h = (refl, h)

pub both : (a b : Bool) → a ≡ true → b ≡ true → (a && b) ≡ true
both a b p q = rw (p, q) refl

pub neither_part : (a b : Bool) → (a || b) ≡ false → (a ≡ false) × (b ≡ false)
neither_part true b h = absurd (true≢false h)
neither_part false b h = (refl, h)

pub clean : (a b c d : Bool) → not ((a || b) || c) ≡ true → (not c ≡ true → d ≡ false) → (b || d) ≡ false
clean true b c d h rest = absurd (true≢false (sym h))
clean false true c d h rest = absurd (true≢false (sym h))
clean false false c d h rest = rest h

pub all_clean : (a b c : Bool) → a ≡ false → b ≡ false → not c ≡ true → not ((a || b) || c) ≡ true
all_clean a b c p q r = rw (p, q) r

-- no quote stands inside quotes
pub quoted-all : (q : ℕ) (s : List ℕ) → is_quoted q s ≡ true → list_all (λ b. not (b == q)) s ≡ true
quoted-all q [] h = refl
quoted-all q (b ∷ s) h =
    let parts = neither (b == q) (b == 92) (list_any (λ b. b == q || b == 92) s) h in
    both (not (b == q)) (list_all (λ b. not (b == q)) s) parts.0 (quoted-all q s parts.1)

-- a segment's first byte is a period or a bracket
pub segment-no_symbol : (x t : List ℕ) (s : Segment) → IsSegment x s → starts_symbol (x ++ t) ≡ false
segment-no_symbol x t s (IsSegment.dotted symbol p) = refl
segment-no_symbol x t s (IsSegment.in_quotes text p) = refl
segment-no_symbol x t s (IsSegment.in_double_quotes text p) = refl
segment-no_symbol x t s (IsSegment.index digits p) = refl

pub segment-no_closing : (x t u : List ℕ) (s : Segment) → IsSegment x s → x ++ t ≡ 41 ∷ u → ⊥
segment-no_closing x t u s (IsSegment.dotted symbol p) e = absurd (differ 46 41 _ _ e refl)
segment-no_closing x t u s (IsSegment.in_quotes text p) e = absurd (differ 91 41 _ _ e refl)
segment-no_closing x t u s (IsSegment.in_double_quotes text p) e = absurd (differ 91 41 _ _ e refl)
segment-no_closing x t u s (IsSegment.index digits p) e = absurd (differ 91 41 _ _ e refl)

pub segments-no_symbol : (x u : List ℕ) (ss : List Segment) → AreSegments x ss → starts_symbol (x ++ 41 ∷ u) ≡ false
segments-no_symbol x u ss AreSegments.no_segment = refl
segments-no_symbol x u ss (AreSegments.segment y z s those is are) = ap starts_symbol (append_assoc y z (41 ∷ u)) ∙ segment-no_symbol y (z ++ 41 ∷ u) s is

-- what follows a symbol isn't part of it
abbrev pub Ended : List ℕ → List ℕ → Type 0
Ended x u = (symbol : List ℕ) → x ≡ 46 ∷ symbol → starts_symbol u ≡ false

-- between quotes, and what follows the bracket
quotes_same : (q : ℕ) (a u b v : List ℕ) → (a ++ q ∷ 93 ∷ []) ++ u ≡ (b ++ q ∷ 93 ∷ []) ++ v → is_quoted q a ≡ true → is_quoted q b ≡ true → (q == q) ≡ true → (a ≡ b) × (u ≡ v)
quotes_same q a u b v e p r same =
    let seam : a ++ q ∷ 93 ∷ u ≡ b ++ q ∷ 93 ∷ v = sym (append_assoc a (q ∷ 93 ∷ []) u) ∙ e ∙ append_assoc b (q ∷ 93 ∷ []) v in
    let parts = cut (λ c. not (c == q)) a (q ∷ 93 ∷ u) b (q ∷ 93 ∷ v) seam (quoted-all q a p) (quoted-all q b r) (ap not same) (ap not same) in
    let after : q ∷ 93 ∷ u ≡ q ∷ 93 ∷ v = parts.1 in
    (parts.0, cc)

digits_first : (b : ℕ) (t digits u : List ℕ) → is_ascii_digit b ≡ false → b ∷ t ≡ (digits ++ 93 ∷ []) ++ u → is_number digits ≡ true → ⊥
digits_first b t digits u fails e p =
    true≢false (sym (number-first digits (93 ∷ u) p) ∙ sym (ap (first_passes is_ascii_digit) (e ∙ append_assoc digits (93 ∷ []) u)) ∙ fails)

-- a segment, and what follows it, is the same however it was found
pub segment_same : (x u y v : List ℕ) (s t : Segment) → IsSegment x s → IsSegment y t → x ++ u ≡ y ++ v → Ended x u → Ended y v → (s ≡ t) × (u ≡ v)
segment_same x u y v s t (IsSegment.dotted a p) (IsSegment.dotted b q) e eu ev =
    let after : a ++ u ≡ b ++ v = cc in
    let parts = cut is_symbol_byte a u b v after (symbol-all a p) (symbol-all b q) (eu a refl) (ev b refl) in
    (ap Key parts.0, parts.1)
segment_same x u y v s t (IsSegment.dotted a p) (IsSegment.in_quotes b q) e eu ev = absurd (differ 46 91 _ _ e refl)
segment_same x u y v s t (IsSegment.dotted a p) (IsSegment.in_double_quotes b q) e eu ev = absurd (differ 46 91 _ _ e refl)
segment_same x u y v s t (IsSegment.dotted a p) (IsSegment.index b q) e eu ev = absurd (differ 46 91 _ _ e refl)
segment_same x u y v s t (IsSegment.in_quotes a p) (IsSegment.dotted b q) e eu ev = absurd (differ 91 46 _ _ e refl)
segment_same x u y v s t (IsSegment.in_quotes a p) (IsSegment.in_quotes b q) e eu ev =
    let after : (a ++ 39 ∷ 93 ∷ []) ++ u ≡ (b ++ 39 ∷ 93 ∷ []) ++ v = cc in
    let parts = quotes_same 39 a u b v after p q refl in
    (ap Key parts.0, parts.1)
segment_same x u y v s t (IsSegment.in_quotes a p) (IsSegment.in_double_quotes b q) e eu ev = absurd (differ_next _ 39 34 _ _ e refl)
segment_same x u y v s t (IsSegment.in_quotes a p) (IsSegment.index b q) e eu ev =
    let after : 39 ∷ ((a ++ 39 ∷ 93 ∷ []) ++ u) ≡ (b ++ 93 ∷ []) ++ v = cc in
    absurd (digits_first 39 ((a ++ 39 ∷ 93 ∷ []) ++ u) b v refl after q)
segment_same x u y v s t (IsSegment.in_double_quotes a p) (IsSegment.dotted b q) e eu ev = absurd (differ 91 46 _ _ e refl)
segment_same x u y v s t (IsSegment.in_double_quotes a p) (IsSegment.in_quotes b q) e eu ev = absurd (differ_next _ 34 39 _ _ e refl)
segment_same x u y v s t (IsSegment.in_double_quotes a p) (IsSegment.in_double_quotes b q) e eu ev =
    let after : (a ++ 34 ∷ 93 ∷ []) ++ u ≡ (b ++ 34 ∷ 93 ∷ []) ++ v = cc in
    let parts = quotes_same 34 a u b v after p q refl in
    (ap Key parts.0, parts.1)
segment_same x u y v s t (IsSegment.in_double_quotes a p) (IsSegment.index b q) e eu ev =
    let after : 34 ∷ ((a ++ 34 ∷ 93 ∷ []) ++ u) ≡ (b ++ 93 ∷ []) ++ v = cc in
    absurd (digits_first 34 ((a ++ 34 ∷ 93 ∷ []) ++ u) b v refl after q)
segment_same x u y v s t (IsSegment.index a p) (IsSegment.dotted b q) e eu ev = absurd (differ 91 46 _ _ e refl)
segment_same x u y v s t (IsSegment.index a p) (IsSegment.in_quotes b q) e eu ev =
    let after : 39 ∷ ((b ++ 39 ∷ 93 ∷ []) ++ v) ≡ (a ++ 93 ∷ []) ++ u = cc in
    absurd (digits_first 39 ((b ++ 39 ∷ 93 ∷ []) ++ v) a u refl after p)
segment_same x u y v s t (IsSegment.index a p) (IsSegment.in_double_quotes b q) e eu ev =
    let after : 34 ∷ ((b ++ 34 ∷ 93 ∷ []) ++ v) ≡ (a ++ 93 ∷ []) ++ u = cc in
    absurd (digits_first 34 ((b ++ 34 ∷ 93 ∷ []) ++ v) a u refl after p)
segment_same x u y v s t (IsSegment.index a p) (IsSegment.index b q) e eu ev =
    let after : (a ++ 93 ∷ []) ++ u ≡ (b ++ 93 ∷ []) ++ v = cc in
    let seam : a ++ 93 ∷ u ≡ b ++ 93 ∷ v = sym (append_assoc a (93 ∷ []) u) ∙ after ∙ append_assoc b (93 ∷ []) v in
    let parts = cut is_ascii_digit a (93 ∷ u) b (93 ∷ v) seam (number-all a p) (number-all b q) refl refl in
    let end : 93 ∷ u ≡ 93 ∷ v = parts.1 in
    (ap Index parts.0, cc)

pub segments_same : (x u y v : List ℕ) (ss ts : List Segment) → AreSegments x ss → AreSegments y ts → x ++ 41 ∷ u ≡ y ++ 41 ∷ v → (ss ≡ ts) × (u ≡ v)
segments_same x u y v ss ts AreSegments.no_segment AreSegments.no_segment e = (refl, cc)
segments_same x u y v ss ts AreSegments.no_segment (AreSegments.segment c d t those is are) e =
    absurd (segment-no_closing c (d ++ 41 ∷ v) u t is (sym (append_assoc c d (41 ∷ v)) ∙ sym e))
segments_same x u y v ss ts (AreSegments.segment a b s these is are) AreSegments.no_segment e =
    absurd (segment-no_closing a (b ++ 41 ∷ u) v s is (sym (append_assoc a b (41 ∷ u)) ∙ e))
segments_same x u y v ss ts (AreSegments.segment a b s these is are) (AreSegments.segment c d t those is' are') e =
    let seam : a ++ (b ++ 41 ∷ u) ≡ c ++ (d ++ 41 ∷ v) = sym (append_assoc a b (41 ∷ u)) ∙ e ∙ append_assoc c d (41 ∷ v) in
    let first = segment_same a (b ++ 41 ∷ u) c (d ++ 41 ∷ v) s t is is' seam (λ symbol _. segments-no_symbol b u these are) (λ symbol _. segments-no_symbol d v those are') in
    let rest = segments_same b u d v these those are are' first.1 in
    let head : s ≡ t = first.0 in
    let tail : these ≡ those = rest.0 in
    (cc, rest.1)

symbols_same : (a x u b y v : List ℕ) (ss ts : List Segment) → is_symbol a ≡ true → is_symbol b ≡ true → AreSegments x ss → AreSegments y ts
    → (36 ∷ 40 ∷ (a ++ (x ++ 41 ∷ []))) ++ u ≡ (36 ∷ 40 ∷ (b ++ (y ++ 41 ∷ []))) ++ v → (a ≡ b) × (x ++ 41 ∷ u ≡ y ++ 41 ∷ v)
symbols_same a x u b y v ss ts p q are are' e =
    let after : (a ++ (x ++ 41 ∷ [])) ++ u ≡ (b ++ (y ++ 41 ∷ [])) ++ v = cc in
    let left : (a ++ (x ++ 41 ∷ [])) ++ u ≡ a ++ (x ++ 41 ∷ u) = append_assoc a (x ++ 41 ∷ []) u ∙ ap (λ t. a ++ t) (append_assoc x (41 ∷ []) u) in
    let right : (b ++ (y ++ 41 ∷ [])) ++ v ≡ b ++ (y ++ 41 ∷ v) = append_assoc b (y ++ 41 ∷ []) v ∙ ap (λ t. b ++ t) (append_assoc y (41 ∷ []) v) in
    cut is_symbol_byte a (x ++ 41 ∷ u) b (y ++ 41 ∷ v) (sym left ∙ after ∙ right) (symbol-all a p) (symbol-all b q) (segments-no_symbol x u ss are) (segments-no_symbol y v ts are')

-- a reference, and what follows it, is the same however it was found
pub reference_same : (x u y v : List ℕ) (r s : Reference) → IsReference x r → IsReference y s → x ++ u ≡ y ++ v → (r ≡ s) × (u ≡ v)
reference_same x u y v r s (IsReference.reference a c ss p are) (IsReference.reference b d ts q are') e =
    let parts = symbols_same a c u b d v ss ts p q are are' e in
    let rest = segments_same c u d v ss ts are are' parts.1 in
    ((λ i. record { symbol = parts.0 i; segments = rest.0 i }), rest.1)
