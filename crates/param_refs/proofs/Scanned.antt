-- What the scanner's steps find.
use Rattle.std.proofs.Common.{◌≡◌, ◌≢◌, ℕ, ◌+◌, ◌<◌, ◌-◌, suc, true, false, true≢false, not, ◌==◌, ◌||◌, List, [], ◌∷◌, ◌++◌, length, take, drop, get_or, get_or-take, length-take-le, take-append-drop, eq-eqb, ne_eqb, inl, inr, length-append, append_assoc, append-nil, refl, sym, ap, subst, ◌∙◌, arith, codes}
use Rattle.std.specs.List.{list_all, list_any}
use Rattle.std.specs.Str.{IsUtf8, IsCharBoundary}
use Rattle.std.proofs.lemmas.Bool.Decides.{eqb_tells, nat_tests}
use Rattle.std.proofs.lemmas.List.Sums.{AllPass-from_list_all}
use Rattle.std.proofs.lemmas.Str.{IsCharBoundary-after_ascii}
use Rattle.std.specs.Char.{is_ascii_digit}
use Rattle.param_refs.specs.Grammar.{is_symbol_byte, is_symbol, is_quoted, is_number, IsSegment, AreSegments, IsReference, BeginsNone}
use Rattle.param_refs.specs.inner.Scans.{starts_symbol, IsSymbolLength, SymbolThen, QuotedThen, IsQuote, NoQuotes, NoQuoted, NumberThen, NoNumber, SegmentThen, NoSegment, SegmentsThen, ReferenceThen}
use Rattle.param_refs.specs.declared.template.Segment.{Segment}
use Rattle.param_refs.specs.declared.template.Segment.TheVariants.{Key, Index}
use Rattle.param_refs.proofs.Cut.{both, both_first, both_second, clean, all_clean, neither_part, differ, cut, symbol-all, symbol-first, number-all, quoted-all, segment_same, segment-no_closing, segments-no_symbol}

-- after a period

pub dotted_none : (rest : List ℕ) → starts_symbol rest ≡ false → NoSegment (46 ∷ rest)
dotted_none rest fails x u s e (IsSegment.dotted symbol p) =
    let after : rest ≡ symbol ++ u = cc in
    true≢false (sym (symbol-first symbol u p) ∙ sym (ap starts_symbol after) ∙ fails)
dotted_none rest fails x u s e (IsSegment.in_quotes t p) = absurd (differ 46 91 _ _ e refl)
dotted_none rest fails x u s e (IsSegment.in_double_quotes t p) = absurd (differ 46 91 _ _ e refl)
dotted_none rest fails x u s e (IsSegment.index d p) = absurd (differ 46 91 _ _ e refl)

pub dotted_some : (rest symbol after : List ℕ) → SymbolThen rest symbol after → SegmentThen (46 ∷ rest) (Key symbol) after
dotted_some rest symbol after h = record { front = 46 ∷ symbol; parts = ap (λ t. 46 ∷ t) h.parts; is = IsSegment.dotted symbol h.is; ends = λ _ _. h.ends }

-- neither a period nor a bracket
pub no_mark : (text : List ℕ) → ((rest : List ℕ) → text ≢ 46 ∷ rest) → ((rest : List ℕ) → text ≢ 91 ∷ rest) → NoSegment text
no_mark text no_dot no_bracket x u s e (IsSegment.dotted symbol p) = no_dot (symbol ++ u) e
no_mark text no_dot no_bracket x u s e (IsSegment.in_quotes t p) = no_bracket _ e
no_mark text no_dot no_bracket x u s e (IsSegment.in_double_quotes t p) = no_bracket _ e
no_mark text no_dot no_bracket x u s e (IsSegment.index d p) = no_bracket _ e

-- after a bracket

no_dot : (t : List ℕ) (symbol : List ℕ) → 91 ∷ t ≡ 46 ∷ symbol → ⊥
no_dot t symbol e = differ 91 46 _ _ e refl

pub bracket_none : (text : List ℕ) → NoQuotes 39 text → NoQuotes 34 text → NoNumber text → NoSegment (91 ∷ text)
bracket_none text single double number x u s e (IsSegment.dotted symbol p) = differ 91 46 _ _ e refl
bracket_none text single double number x u s e (IsSegment.in_quotes t p) =
    let after : text ≡ 39 ∷ ((t ++ 39 ∷ 93 ∷ []) ++ u) = cc in
    single t u (after ∙ ap (λ y. 39 ∷ y) (append_assoc t (39 ∷ 93 ∷ []) u)) p
bracket_none text single double number x u s e (IsSegment.in_double_quotes t p) =
    let after : text ≡ 34 ∷ ((t ++ 34 ∷ 93 ∷ []) ++ u) = cc in
    double t u (after ∙ ap (λ y. 34 ∷ y) (append_assoc t (34 ∷ 93 ∷ []) u)) p
bracket_none text single double number x u s e (IsSegment.index d p) =
    let after : text ≡ (d ++ 93 ∷ []) ++ u = cc in
    number d u (after ∙ append_assoc d (93 ∷ []) u) p

pub quotes_open : (q : ℕ) (text inside : List ℕ) → text ≡ q ∷ inside → NoQuoted q inside → NoQuotes q text
quotes_open q text inside parts none quoted rest e p =
    let both_ways : q ∷ inside ≡ q ∷ (quoted ++ q ∷ 93 ∷ rest) = sym parts ∙ e in
    let after : inside ≡ quoted ++ q ∷ 93 ∷ rest = cc in
    none quoted rest after p

pub quotes_closed : (q : ℕ) (text : List ℕ) → ((t : List ℕ) → text ≢ q ∷ t) → NoQuotes q text
quotes_closed q text none quoted rest e p = none (quoted ++ q ∷ 93 ∷ rest) e

single_some : (inside key rest : List ℕ) → QuotedThen 39 inside key rest → SegmentThen (91 ∷ 39 ∷ inside) (Key key) rest
single_some inside key rest h =
    record {
      front = 91 ∷ 39 ∷ (key ++ 39 ∷ 93 ∷ []);
      parts = ap (λ t. 91 ∷ 39 ∷ t) (h.parts ∙ sym (append_assoc key (39 ∷ 93 ∷ []) rest));
      is = IsSegment.in_quotes key h.is;
      ends = λ symbol e. absurd (no_dot _ symbol e);
    }

double_some : (inside key rest : List ℕ) → QuotedThen 34 inside key rest → SegmentThen (91 ∷ 34 ∷ inside) (Key key) rest
double_some inside key rest h =
    record {
      front = 91 ∷ 34 ∷ (key ++ 34 ∷ 93 ∷ []);
      parts = ap (λ t. 91 ∷ 34 ∷ t) (h.parts ∙ sym (append_assoc key (34 ∷ 93 ∷ []) rest));
      is = IsSegment.in_double_quotes key h.is;
      ends = λ symbol e. absurd (no_dot _ symbol e);
    }

pub quotes_some : (q : ℕ) (text inside key rest : List ℕ) → IsQuote q → text ≡ q ∷ inside → QuotedThen q inside key rest → SegmentThen (91 ∷ text) (Key key) rest
quotes_some q text inside key rest is parts h =
    subst (λ (t : List ℕ). SegmentThen (91 ∷ t) (Key key) rest) (sym parts)
    (elim is [
      | inl e ↦ subst (λ (k : ℕ). SegmentThen (91 ∷ k ∷ inside) (Key key) rest) (sym e) (single_some inside key rest (subst (λ (k : ℕ). QuotedThen k inside key rest) e h))
      | inr e ↦ subst (λ (k : ℕ). SegmentThen (91 ∷ k ∷ inside) (Key key) rest) (sym e) (double_some inside key rest (subst (λ (k : ℕ). QuotedThen k inside key rest) e h))
    ])

pub quote-ascii : (q : ℕ) → IsQuote q → q < 128
quote-ascii q is = elim is [ inl e ↦ omega arith | inr e ↦ omega arith ]

pub number_some : (rest digits after : List ℕ) → NumberThen rest digits after → SegmentThen (91 ∷ rest) (Index digits) after
number_some rest digits after h =
    record {
      front = 91 ∷ (digits ++ 93 ∷ []);
      parts = ap (λ t. 91 ∷ t) (h.parts ∙ sym (append_assoc digits (93 ∷ []) after));
      is = IsSegment.index digits h.is;
      ends = λ symbol e. absurd (no_dot _ symbol e);
    }

-- up to a byte that stands nowhere before

abbrev pub Lacks : ℕ → List ℕ → Type 0
Lacks q text = (i : ℕ) → i < length text → get_or text i 0 ≢ q

seam-byte : (q : ℕ) (front rest : List ℕ) → get_or (front ++ q ∷ rest) (length front) 0 ≡ q
seam-byte q [] rest = refl
seam-byte q (b ∷ front) rest = seam-byte q front rest

pub lacks-none : (q : ℕ) (text front rest : List ℕ) → Lacks q text → text ≡ front ++ q ∷ rest → ⊥
lacks-none q text front rest lacks e =
    let lengths : length text ≡ length front + suc (length rest) = ap length e ∙ length-append front (q ∷ rest) in
    lacks (length front) (omega arith) (ap (λ t. get_or t (length front) 0) e ∙ seam-byte q front rest)

not-eq : (b q : ℕ) → b ≢ q → not (b == q) ≡ true
not-eq b q apart = ap not (ne_eqb b q apart)

pub lacks-all : (q : ℕ) (text : List ℕ) → Lacks q text → list_all (λ b. not (b == q)) text ≡ true
lacks-all q [] lacks = refl
lacks-all q (b ∷ text) lacks = both (not (b == q)) (list_all (λ b. not (b == q)) text) (not-eq b q (lacks 0 (omega arith))) (lacks-all q text (λ i within. lacks (suc i) (omega arith)))

-- between quotes

pub unquoted : (q : ℕ) (text : List ℕ) → Lacks q text → NoQuoted q text
unquoted q text lacks quoted rest e p = lacks-none q text quoted (93 ∷ rest) lacks e

same_key : (q : ℕ) (text key after quoted rest : List ℕ) → text ≡ key ++ q ∷ after → Lacks q key → text ≡ quoted ++ q ∷ 93 ∷ rest → is_quoted q quoted ≡ true → (key ≡ quoted) × (q ∷ after ≡ q ∷ 93 ∷ rest)
same_key q text key after quoted rest parts lacks e p =
    let same : (q == q) ≡ true = eq-eqb q q refl in
    cut (λ b. not (b == q)) key (q ∷ after) quoted (q ∷ 93 ∷ rest) (sym parts ∙ e) (lacks-all q key lacks) (quoted-all q quoted p) (ap not same) (ap not same)

pub unclosed : (q : ℕ) (text key after : List ℕ) → text ≡ key ++ q ∷ after → Lacks q key → ((t : List ℕ) → after ≢ 93 ∷ t) → NoQuoted q text
unclosed q text key after parts lacks open_end quoted rest e p =
    let same = same_key q text key after quoted rest parts lacks e p in
    let seam : q ∷ after ≡ q ∷ 93 ∷ rest = same.1 in
    open_end rest (cc)

quoted-no_backslash : (q : ℕ) (s : List ℕ) → is_quoted q s ≡ true → list_any (λ b. b == 92) s ≡ false
quoted-no_backslash q [] h = refl
quoted-no_backslash q (b ∷ s) h = clean (b == q) (b == 92) (list_any (λ c. c == q || c == 92) s) (list_any (λ c. c == 92) s) h (quoted-no_backslash q s)

pub escaped_key : (q : ℕ) (text key after : List ℕ) → text ≡ key ++ q ∷ after → Lacks q key → list_any (λ b. b == 92) key ≡ true → NoQuoted q text
escaped_key q text key after parts lacks slash quoted rest e p =
    let same = same_key q text key after quoted rest parts lacks e p in
    true≢false (sym slash ∙ ap (list_any (λ b. b == 92)) same.0 ∙ quoted-no_backslash q quoted p)

quoted-from : (q : ℕ) (s : List ℕ) → Lacks q s → list_any (λ b. b == 92) s ≡ false → is_quoted q s ≡ true
quoted-from q [] lacks h = refl
quoted-from q (b ∷ s) lacks h =
    let parts = neither_part (b == 92) (list_any (λ c. c == 92) s) h in
    all_clean (b == q) (b == 92) (list_any (λ c. c == q || c == 92) s) (ne_eqb b q (lacks 0 (omega arith))) parts.0 (quoted-from q s (λ i within. lacks (suc i) (omega arith)) parts.1)

pub quoted_then : (q : ℕ) (text key after rest : List ℕ) → text ≡ key ++ q ∷ after → Lacks q key → after ≡ 93 ∷ rest → list_any (λ b. b == 92) key ≡ false → QuotedThen q text key rest
quoted_then q text key after rest parts lacks close slash = record { parts = parts ∙ ap (λ t. key ++ q ∷ t) close; is = quoted-from q key lacks slash }

-- digits

digit-no_bracket : (b : ℕ) → is_ascii_digit b ≡ true → not (b == 93) ≡ true
digit-no_bracket b h =
    elim (eqb_tells b 93) [
      | inl p ↦ absurd (true≢false (sym h ∙ ap is_ascii_digit p.1))
      | inr p ↦ ap not p.0
    ]

digits-no_bracket : (s : List ℕ) → list_all is_ascii_digit s ≡ true → list_all (λ b. not (b == 93)) s ≡ true
digits-no_bracket [] h = refl
digits-no_bracket (b ∷ s) h =
    both (not (b == 93)) (list_all (λ b. not (b == 93)) s) (digit-no_bracket b (both_first (is_ascii_digit b) (list_all is_ascii_digit s) h)) (digits-no_bracket s (both_second (is_ascii_digit b) (list_all is_ascii_digit s) h))

pub unbracketed : (text : List ℕ) → Lacks 93 text → NoNumber text
unbracketed text lacks digits rest e p = lacks-none 93 text digits rest lacks e

pub no_digits : (text found after : List ℕ) → text ≡ found ++ 93 ∷ after → Lacks 93 found → is_number found ≡ false → NoNumber text
no_digits text found after parts lacks fails digits rest e p =
    let same = cut (λ b. not (b == 93)) found (93 ∷ after) digits (93 ∷ rest) (sym parts ∙ e) (lacks-all 93 found lacks) (digits-no_bracket digits (number-all digits p)) refl refl in
    true≢false (sym p ∙ sym (ap is_number same.0) ∙ fails)

pub number-is : (s : List ℕ) → (length s == 0) ≡ false → list_all is_ascii_digit s ≡ is_number s
number-is [] h = absurd (true≢false h)
number-is (b ∷ s) h = refl

-- symbols

symbol-ascii : (b : ℕ) → is_symbol_byte b ≡ true → b < 128
symbol-ascii b h = grind (arith, nat_tests)

pub symbol_boundary : (text : List ℕ) (n : ℕ) → IsUtf8 text → IsSymbolLength text n → 0 < n → IsCharBoundary text n
symbol_boundary text n utf8 h some =
    let within : n - 1 < length text = omega (arith, h.within) in
    let lengths : length (take n text) ≡ n = length-take-le n text h.within in
    let passes = AllPass-from_list_all is_symbol_byte (take n text) h.symbol (n - 1) 0 (omega arith) in
    let byte : get_or text (n - 1) 0 < 128 = symbol-ascii (get_or text (n - 1) 0) (ap is_symbol_byte (sym (get_or-take n text (n - 1) 0 (omega arith))) ∙ passes) in
    let here : n - 1 + 1 ≡ n = omega arith in
    subst (IsCharBoundary text) here (IsCharBoundary-after_ascii text (n - 1) utf8 within byte)

symbol-is : (s : List ℕ) → 0 < length s → list_all is_symbol_byte s ≡ true → is_symbol s ≡ true
symbol-is [] some h = absurd (omega arith)
symbol-is (b ∷ s) some h = h

pub symbol_then : (text symbol rest : List ℕ) (n : ℕ) → IsSymbolLength text n → 0 < n → symbol ≡ take n text → rest ≡ drop n text → SymbolThen text symbol rest
symbol_then text symbol rest n h some front back =
    record {
      parts = sym (take-append-drop n text) ∙ rw (front, back) refl;
      is = rw front (symbol-is (take n text) (omega (arith, length-take-le n text h.within)) h.symbol);
      ends = rw back h.ends;
    }

pub symbol_none : (text : List ℕ) (n : ℕ) → IsSymbolLength text n → n ≡ 0 → starts_symbol text ≡ false
symbol_none text n h none = sym (ap (λ k. starts_symbol (drop k text)) none) ∙ h.ends

-- segments, one after another

shorter_by : (x u : List ℕ) (s : Segment) → IsSegment x s → length u < length (x ++ u)
shorter_by x u s (IsSegment.dotted symbol p) = omega (arith, length-append symbol u)
shorter_by x u s (IsSegment.in_quotes t p) = omega (arith, length-append (t ++ 39 ∷ 93 ∷ []) u)
shorter_by x u s (IsSegment.in_double_quotes t p) = omega (arith, length-append (t ++ 34 ∷ 93 ∷ []) u)
shorter_by x u s (IsSegment.index d p) = omega (arith, length-append (d ++ 93 ∷ []) u)

pub segment_shorter : (text rest : List ℕ) (s : Segment) → SegmentThen text s rest → length rest < length text
segment_shorter text rest s h = subst (λ (t : List ℕ). length rest < length t) (sym h.parts) (shorter_by h.front rest s h.is)

-- segments so far: those that a closing bracket ends begin with these
pub record SoFar (text : List ℕ) (ss : List Segment) (rest : List ℕ) : Type 0 where
  pub front : List ℕ
  pub parts : text ≡ front ++ rest
  pub are : AreSegments front ss
  pub only : (x left : List ℕ) (those : List Segment) → text ≡ x ++ 41 ∷ left → AreSegments x those
      → (y : List ℕ) × (more : List Segment) × (those ≡ ss ++ more) × (rest ≡ y ++ 41 ∷ left) × AreSegments y more

pub so_far_begins : (text : List ℕ) → SoFar text [] text
so_far_begins text = record { front = []; parts = refl; are = AreSegments.no_segment; only = λ x left those e are. (x, those, refl, e, are) }

one_more : (x y : List ℕ) (ss : List Segment) (s : Segment) → AreSegments x ss → IsSegment y s → AreSegments (x ++ y) (ss ++ s ∷ [])
one_more x y ss s AreSegments.no_segment is = subst (λ (t : List ℕ). AreSegments t (s ∷ [])) (append-nil y) (AreSegments.segment y [] s [] is AreSegments.no_segment)
one_more x y ss s (AreSegments.segment a b t those is' are) is =
    subst (λ (z : List ℕ). AreSegments z (t ∷ (those ++ s ∷ []))) (sym (append_assoc a b y)) (AreSegments.segment a (b ++ y) t (those ++ s ∷ []) is' (one_more b y those s are is))

pub peel : (rest after : List ℕ) (s : Segment) → SegmentThen rest s after → (y left : List ℕ) (more : List Segment) → rest ≡ y ++ 41 ∷ left → AreSegments y more
    → (z : List ℕ) × (others : List Segment) × (more ≡ s ∷ others) × (after ≡ z ++ 41 ∷ left) × AreSegments z others
peel rest after s h y left more e AreSegments.no_segment = absurd (segment-no_closing h.front after left s h.is (sym h.parts ∙ e))
peel rest after s h y left more e (AreSegments.segment a b t those is are) =
    let seam : h.front ++ after ≡ a ++ (b ++ 41 ∷ left) = sym h.parts ∙ e ∙ append_assoc a b (41 ∷ left) in
    let same = segment_same h.front after a (b ++ 41 ∷ left) s t h.is is seam h.ends (λ symbol _. segments-no_symbol b left those are) in
    (b, those, ap (λ x. x ∷ those) (sym same.0), same.1, are)

pub so_far_more : (text rest after : List ℕ) (ss : List Segment) (s : Segment) → SoFar text ss rest → SegmentThen rest s after → SoFar text (ss ++ s ∷ []) after
so_far_more text rest after ss s h next =
    record {
      front = h.front ++ next.front;
      parts = h.parts ∙ ap (λ t. h.front ++ t) next.parts ∙ sym (append_assoc h.front next.front after);
      are = one_more h.front next.front ss s h.are next.is;
      only = λ x left those e are.
          let before = h.only x left those e are in
          let here = peel rest after s next before.0 left before.1 before.3 before.4 in
          (here.0, here.1, before.2 ∙ ap (λ t. ss ++ t) here.2 ∙ sym (append_assoc ss (s ∷ []) here.1), here.3, here.4);
    }

pub so_far_pushed : (text rest after : List ℕ) (ss ts : List Segment) (s : Segment) → SoFar text ss rest → SegmentThen rest s after → ts ≡ ss ++ s ∷ [] → SoFar text ts after
so_far_pushed text rest after ss ts s h next is = subst (λ (us : List Segment). SoFar text us after) (sym is) (so_far_more text rest after ss s h next)

pub last : (rest : List ℕ) → NoSegment rest → (y left : List ℕ) (more : List Segment) → rest ≡ y ++ 41 ∷ left → AreSegments y more → (more ≡ []) × (rest ≡ 41 ∷ left)
last rest none y left more e AreSegments.no_segment = (refl, e)
last rest none y left more e (AreSegments.segment a b t those is are) = absurd (none a (b ++ 41 ∷ left) t (e ∙ append_assoc a b (41 ∷ left)) is)

pub so_far_ends : (text rest : List ℕ) (ss : List Segment) → SoFar text ss rest → NoSegment rest → SegmentsThen text ss rest
so_far_ends text rest ss h none =
    record {
      front = h.front;
      parts = h.parts;
      are = h.are;
      only = λ x left those e are.
          let before = h.only x left those e are in
          let here = last rest none before.0 left before.1 before.3 before.4 in
          (before.2 ∙ ap (λ t. ss ++ t) here.0 ∙ append-nil ss, here.1);
    }

-- a reference

abbrev Inside : List ℕ → List ℕ → Type 0
Inside text u = (symbol x : List ℕ) (ss : List Segment) → text ≡ symbol ++ (x ++ 41 ∷ u) → is_symbol symbol ≡ true → AreSegments x ss → ⊥

begins_none : (text : List ℕ) → ((u : List ℕ) → Inside text u) → BeginsNone (codes "$(" ++ text)
begins_none text none x u r e (IsReference.reference symbol y ss p are) =
    let after : text ≡ (symbol ++ (y ++ 41 ∷ [])) ++ u = cc in
    none u symbol y ss (after ∙ append_assoc symbol (y ++ 41 ∷ []) u ∙ ap (λ t. symbol ++ t) (append_assoc y (41 ∷ []) u)) p are

pub no_symbol : (text : List ℕ) → starts_symbol text ≡ false → BeginsNone (codes "$(" ++ text)
no_symbol text fails = begins_none text (λ u symbol x ss e p are. true≢false (sym (symbol-first symbol (x ++ 41 ∷ u) p) ∙ sym (ap starts_symbol e) ∙ fails))

pub no_closing : (text symbol rest left : List ℕ) (ss : List Segment) → SymbolThen text symbol rest → SegmentsThen rest ss left → ((t : List ℕ) → left ≢ 41 ∷ t) → BeginsNone (codes "$(" ++ text)
no_closing text symbol rest left ss h segments fails =
    begins_none text (λ u other x those e p are.
    let parts = cut is_symbol_byte symbol rest other (x ++ 41 ∷ u) (sym h.parts ∙ e) (symbol-all symbol h.is) (symbol-all other p) h.ends (segments-no_symbol x u those are) in
    fails u (segments.only x u those parts.1 are).1)

pub closing : (text symbol rest left : List ℕ) (ss : List Segment) → SymbolThen text symbol rest → SegmentsThen rest ss (41 ∷ left) → ReferenceThen (codes "$(" ++ text) (record { symbol = symbol; segments = ss }) left
closing text symbol rest left ss h segments =
    let x = segments.front in
    record {
      front = codes "$(" ++ (symbol ++ (x ++ codes ")"));
      parts = ap (λ t. 36 ∷ 40 ∷ t) (h.parts ∙ ap (λ t. symbol ++ t) (segments.parts ∙ sym (append_assoc x (41 ∷ []) left)) ∙ sym (append_assoc symbol (x ++ 41 ∷ []) left));
      is = IsReference.reference symbol x ss h.is segments.are;
    }

pub closed_reference : (text symbol copy rest open_end left : List ℕ) (ss : List Segment) → SymbolThen text symbol rest → SegmentsThen rest ss open_end → open_end ≡ 41 ∷ left → copy ≡ symbol
    → ReferenceThen (codes "$(" ++ text) (record { symbol = copy; segments = ss }) left
closed_reference text symbol copy rest open_end left ss h segments close is =
    subst (λ (s : List ℕ). ReferenceThen (codes "$(" ++ text) (record { symbol = s; segments = ss }) left) (sym is)
    (closing text symbol rest left ss h (subst (SegmentsThen rest ss) close segments))
