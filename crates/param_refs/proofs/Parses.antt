-- What `parsed` computes is the reading of the grammar.
use Rattle.std.proofs.Common.{◌≡◌, ◌≢◌, ℕ, zero, suc, ◌≤◌, Bool, true, false, true≢false, not, ◌==◌, ◌&&◌, ◌||◌, ◌⊎◌, inl, inr, List, [], ◌∷◌, ◌++◌, length, length-append, append_assoc, Option, Some, None, MatchOption, option_map, option_and_then, Result, Err, refl, sym, ap, subst, ◌∙◌, arith, codes}
use Rattle.std.specs.Char.{is_ascii_digit}
use Rattle.std.specs.List.{list_all, list_any}
use Rattle.std.specs.Option.{option_map_or}
use Rattle.std.proofs.lemmas.Bool.{eqb-true}
use Rattle.param_refs.specs.Grammar.{is_symbol_byte, is_symbol, is_number, AreSegments, opens, is_plain, is_end, is_escaped, BeginsNone, with_part, Reads, IsReading}
use Rattle.param_refs.specs.Parsed.{Front, run, past, after, symbol_front, closed, may_be_quoted, quoted_front, number_front, bracket_front, segment_front, segments_front, closed_reference, reference_front, plain_front, plain_past, part_front, parts_front, parsed}
use Rattle.param_refs.specs.inner.Scans.{first_passes, starts_symbol, SymbolThen, NoQuoted, QuotedThen, NoNumber, NumberThen, SegmentThen, NoSegment, SegmentsThen, ReferenceThen, PartThen}
use Rattle.param_refs.specs.declared.fault.RefFault.{RefFault}
use Rattle.param_refs.specs.declared.fault.RefFault.TheVariants.{NotAReference}
use Rattle.param_refs.specs.declared.template.Part.{Part}
use Rattle.param_refs.specs.declared.template.Part.TheVariants.{Plain, Referred}
use Rattle.param_refs.specs.declared.template.Reference.{Reference}
use Rattle.param_refs.specs.declared.template.Segment.{Segment}
use Rattle.param_refs.specs.declared.template.Segment.TheVariants.{Key, Index}
use Rattle.param_refs.proofs.Cut.{both, cut, differ, number-all, number-first}
use Rattle.param_refs.proofs.Scanned.{dotted_none, dotted_some, no_mark, bracket_none, quotes_open, quotes_closed, quotes_some, number_some, segment_shorter, peel, last, no_symbol, no_closing, closing}
use Rattle.param_refs.proofs.Settled.{reading_same}
use Rattle.param_refs.proofs.Readings.{opens-cases, no_reference_reads, referred_part}

pub tells : (b : Bool) → (b ≡ true) ⊎ (b ≡ false)
tells true = inl refl
tells false = inr refl

-- runs

run-all : (p : ℕ → Bool) (t : List ℕ) → list_all p (run p t) ≡ true
run-all p [] = refl
run-all p (b ∷ t) = elim (tells (p b)) [ inl h ↦ rw h (both (p b) (list_all p (run p t)) h (run-all p t)) | inr h ↦ rw h refl ]

run-past : (p : ℕ → Bool) (t : List ℕ) → run p t ++ past p t ≡ t
run-past p [] = refl
run-past p (b ∷ t) = elim (tells (p b)) [ inl h ↦ rw h (ap (λ x. b ∷ x) (run-past p t)) | inr h ↦ rw h refl ]

past-ends : (p : ℕ → Bool) (t : List ℕ) → first_passes p (past p t) ≡ false
past-ends p [] = refl
past-ends p (b ∷ t) = elim (tells (p b)) [ inl h ↦ rw h (past-ends p t) | inr h ↦ rw h h ]

-- one byte, and two

after-is : (c : ℕ) (t : List ℕ) → MatchOption (after c t) ((u : List ℕ) → t ≢ c ∷ u) (λ u. t ≡ c ∷ u)
after-is c [] = λ u e. cc
after-is c (b ∷ t) = elim (tells (b == c)) [ inl h ↦ let same : b ≡ c = eqb-true b c h in rw h (ap (λ x. x ∷ t) same) | inr h ↦ rw h (λ u e. differ b c t u e h) ]

after-second : (c d : ℕ) (t : List ℕ) (o : Option (List ℕ)) → MatchOption o ((u : List ℕ) → t ≢ c ∷ u) (λ u. t ≡ c ∷ u)
    → MatchOption (option_and_then (after d) o) ((u : List ℕ) → t ≢ c ∷ d ∷ u) (λ u. t ≡ c ∷ d ∷ u)
after-second c d t None none = λ u e. none (d ∷ u) e
after-second c d t (Some rest) is = second rest is (after d rest) (after-is d rest) where
  second : (rest : List ℕ) → t ≡ c ∷ rest → (o : Option (List ℕ)) → MatchOption o ((u : List ℕ) → rest ≢ d ∷ u) (λ u. rest ≡ d ∷ u) → MatchOption o ((u : List ℕ) → t ≢ c ∷ d ∷ u) (λ u. t ≡ c ∷ d ∷ u)
  second rest is None none = λ u e. let both_ways : c ∷ rest ≡ c ∷ d ∷ u = sym is ∙ e in let tail : rest ≡ d ∷ u = cc in none u tail
  second rest is (Some u) some = is ∙ ap (λ x. c ∷ x) some

after-two : (c d : ℕ) (t : List ℕ) → MatchOption (option_and_then (after d) (after c t)) ((u : List ℕ) → t ≢ c ∷ d ∷ u) (λ u. t ≡ c ∷ d ∷ u)
after-two c d t = after-second c d t (after c t) (after-is c t)

-- symbols

abbrev SymbolFound : List ℕ → Front (List ℕ) → Type 0
SymbolFound t found = MatchOption found (starts_symbol t ≡ false) (λ f. SymbolThen t f.0 f.1)

symbol-none : (t : List ℕ) → is_symbol (run is_symbol_byte t) ≡ false → starts_symbol t ≡ false
symbol-none [] h = refl
symbol-none (b ∷ t) h =
    elim (tells (is_symbol_byte b)) [
      | inl p ↦ absurd (true≢false (sym (both (is_symbol_byte b) (list_all is_symbol_byte (run is_symbol_byte t)) p (run-all is_symbol_byte t)) ∙ (rw p at h)))
      | inr p ↦ p
    ]

symbol-is : (t : List ℕ) → SymbolFound t (symbol_front t)
symbol-is t =
    elim (tells (is_symbol (run is_symbol_byte t))) [
      | inl h ↦ rw h (record { parts = sym (run-past is_symbol_byte t); is = h; ends = past-ends is_symbol_byte t })
      | inr h ↦ rw h (symbol-none t h)
    ]

-- between quotes

none_passes : (a c d : Bool) → (not a && d) ≡ true → (d ≡ true → not c ≡ true) → not (a || c) ≡ true
none_passes true c d h k = absurd (true≢false (sym h))
none_passes false c d h k = k h

not-any : (p : ℕ → Bool) (s : List ℕ) → list_all (λ b. not (p b)) s ≡ true → not (list_any p s) ≡ true
not-any p [] h = refl
not-any p (b ∷ s) h = none_passes (p b) (list_any p s) (list_all (λ c. not (p c)) s) h (not-any p s)

each_fails : (a c d : Bool) → not (a || c) ≡ true → (not c ≡ true → d ≡ true) → (not a && d) ≡ true
each_fails true c d h k = absurd (true≢false (sym h))
each_fails false c d h k = k h

all-not : (p : ℕ → Bool) (s : List ℕ) → not (list_any p s) ≡ true → list_all (λ b. not (p b)) s ≡ true
all-not p [] h = refl
all-not p (b ∷ s) h = each_fails (p b) (list_any p s) (list_all (λ c. not (p c)) s) h (all-not p s)

abbrev ends_quoted : ℕ → ℕ → Bool
ends_quoted q b = b == q || b == 92

abbrev QuotedFound : ℕ → List ℕ → Front Segment → Type 0
QuotedFound q t found = MatchOption found (NoQuoted q t) (λ f. (key : List ℕ) × (f.0 ≡ Key key) × QuotedThen q t key f.1)

quoted-at : (q : ℕ) (t key u : List ℕ) → may_be_quoted q q ≡ false → key ++ u ≡ t → list_all (may_be_quoted q) key ≡ true → first_passes (may_be_quoted q) u ≡ false
    → (o : Option (List ℕ)) → MatchOption o ((v : List ℕ) → u ≢ q ∷ 93 ∷ v) (λ v. u ≡ q ∷ 93 ∷ v) → QuotedFound q t (closed (Key key) o)
quoted-at q t key u stops parts all ends None none = λ quoted rest e p.
    let same = cut (may_be_quoted q) key u quoted (q ∷ 93 ∷ rest) (parts ∙ e) all (all-not (ends_quoted q) quoted p) ends stops in
    none rest same.1
quoted-at q t key u stops parts all ends (Some v) some = (key, refl, record { parts = sym parts ∙ ap (λ x. key ++ x) some; is = not-any (ends_quoted q) key all })

quoted-is : (q : ℕ) (t : List ℕ) → may_be_quoted q q ≡ false → QuotedFound q t (quoted_front q t)
quoted-is q t stops =
    quoted-at q t (run (may_be_quoted q) t) (past (may_be_quoted q) t) stops (run-past (may_be_quoted q) t) (run-all (may_be_quoted q) t) (past-ends (may_be_quoted q) t)
    (option_and_then (after 93) (after q (past (may_be_quoted q) t))) (after-two q 93 (past (may_be_quoted q) t))

-- digits

abbrev NumberFound : List ℕ → Front Segment → Type 0
NumberFound t found = MatchOption found (NoNumber t) (λ f. (digits : List ℕ) × (f.0 ≡ Index digits) × NumberThen t digits f.1)

no_digit : (b : ℕ) (t : List ℕ) → is_ascii_digit b ≡ false → NoNumber (b ∷ t)
no_digit b t fails digits rest e p = true≢false (sym (number-first digits (93 ∷ rest) p) ∙ sym (ap (first_passes is_ascii_digit) e) ∙ fails)

nothing_is_no_number : NoNumber []
nothing_is_no_number [] rest e p = true≢false (sym p)
nothing_is_no_number (d ∷ ds) rest e p = cc

number-at : (t digits u : List ℕ) → digits ++ u ≡ t → is_number digits ≡ true → first_passes is_ascii_digit u ≡ false
    → (o : Option (List ℕ)) → MatchOption o ((v : List ℕ) → u ≢ 93 ∷ v) (λ v. u ≡ 93 ∷ v) → NumberFound t (closed (Index digits) o)
number-at t digits u parts is ends None none = λ found rest e p.
    let same = cut is_ascii_digit digits u found (93 ∷ rest) (parts ∙ e) (number-all digits is) (number-all found p) ends refl in
    none rest same.1
number-at t digits u parts is ends (Some v) some = (digits, refl, record { parts = sym parts ∙ ap (λ x. digits ++ x) some; is = is })

number-none : (t digits u : List ℕ) → digits ++ u ≡ t → list_all is_ascii_digit digits ≡ true → first_passes is_ascii_digit u ≡ false → is_number digits ≡ false → NoNumber t
number-none t digits u parts all ends fails found rest e p =
    let same = cut is_ascii_digit digits u found (93 ∷ rest) (parts ∙ e) all (number-all found p) ends refl in
    true≢false (sym p ∙ sym (ap is_number same.0) ∙ fails)

number-is : (t : List ℕ) → NumberFound t (number_front t)
number-is t =
    elim (tells (is_number (run is_ascii_digit t))) [
      | inl h ↦ rw h (number-at t (run is_ascii_digit t) (past is_ascii_digit t) (run-past is_ascii_digit t) h (past-ends is_ascii_digit t) (after 93 (past is_ascii_digit t)) (after-is 93 (past is_ascii_digit t)))
      | inr h ↦ rw h (number-none t (run is_ascii_digit t) (past is_ascii_digit t) (run-past is_ascii_digit t) (run-all is_ascii_digit t) (past-ends is_ascii_digit t) h)
    ]

-- segments

abbrev SegmentFound : List ℕ → Front Segment → Type 0
SegmentFound t found = MatchOption found (NoSegment t) (λ f. SegmentThen t f.0 f.1)

dotted-is : (t : List ℕ) (found : Front (List ℕ)) → SymbolFound t found → SegmentFound (46 ∷ t) (option_map (λ f. (Key f.0, f.1)) found)
dotted-is t None none = dotted_none t none
dotted-is t (Some f) some = dotted_some t f.0 f.1 some

single-is : (t : List ℕ) (found : Front Segment) → QuotedFound 39 t found → SegmentFound (91 ∷ 39 ∷ t) found
single-is t None none = bracket_none (39 ∷ t) (quotes_open 39 (39 ∷ t) t refl none) (quotes_closed 34 (39 ∷ t) (λ u e. differ 39 34 t u e refl)) (no_digit 39 t refl)
single-is t (Some f) some = subst (λ (s : Segment). SegmentThen (91 ∷ 39 ∷ t) s f.1) (sym some.1) (quotes_some 39 (39 ∷ t) t some.0 f.1 (inl refl) refl some.2)

double-is : (t : List ℕ) (found : Front Segment) → QuotedFound 34 t found → SegmentFound (91 ∷ 34 ∷ t) found
double-is t None none = bracket_none (34 ∷ t) (quotes_closed 39 (34 ∷ t) (λ u e. differ 34 39 t u e refl)) (quotes_open 34 (34 ∷ t) t refl none) (no_digit 34 t refl)
double-is t (Some f) some = subst (λ (s : Segment). SegmentThen (91 ∷ 34 ∷ t) s f.1) (sym some.1) (quotes_some 34 (34 ∷ t) t some.0 f.1 (inr refl) refl some.2)

index-is : (b : ℕ) (t : List ℕ) (found : Front Segment) → (b == 39) ≡ false → (b == 34) ≡ false → NumberFound (b ∷ t) found → SegmentFound (91 ∷ b ∷ t) found
index-is b t None h k none = bracket_none (b ∷ t) (quotes_closed 39 (b ∷ t) (λ u e. differ b 39 t u e h)) (quotes_closed 34 (b ∷ t) (λ u e. differ b 34 t u e k)) none
index-is b t (Some f) h k some = subst (λ (s : Segment). SegmentThen (91 ∷ b ∷ t) s f.1) (sym some.1) (number_some (b ∷ t) some.0 f.1 some.2)

begins_not : (c : ℕ) (u : List ℕ) → [] ≢ c ∷ u
begins_not c u e = cc

bracket-is : (t : List ℕ) → SegmentFound (91 ∷ t) (bracket_front t)
bracket-is [] = bracket_none [] (quotes_closed 39 [] (begins_not 39)) (quotes_closed 34 [] (begins_not 34)) nothing_is_no_number
bracket-is (b ∷ t) =
    elim (tells (b == 39)) [
      | inl h ↦ subst (λ (k : ℕ). SegmentFound (91 ∷ k ∷ t) (bracket_front (k ∷ t))) (sym (eqb-true b 39 h)) (single-is t (quoted_front 39 t) (quoted-is 39 t refl))
      | inr h ↦
          elim (tells (b == 34)) [
            | inl k ↦ subst (λ (j : ℕ). SegmentFound (91 ∷ j ∷ t) (bracket_front (j ∷ t))) (sym (eqb-true b 34 k)) (double-is t (quoted_front 34 t) (quoted-is 34 t refl))
            | inr k ↦ rw (h, k) (index-is b t (number_front (b ∷ t)) h k (number-is (b ∷ t)))
          ]
    ]

segment-is : (t : List ℕ) → SegmentFound t (segment_front t)
segment-is [] = no_mark [] (begins_not 46) (begins_not 91)
segment-is (b ∷ t) =
    elim (tells (b == 46)) [
      | inl h ↦ subst (λ (k : ℕ). SegmentFound (k ∷ t) (segment_front (k ∷ t))) (sym (eqb-true b 46 h)) (dotted-is t (symbol_front t) (symbol-is t))
      | inr h ↦
          elim (tells (b == 91)) [
            | inl k ↦ subst (λ (j : ℕ). SegmentFound (j ∷ t) (segment_front (j ∷ t))) (sym (eqb-true b 91 k)) (bracket-is t)
            | inr k ↦ rw (h, k) (no_mark (b ∷ t) (λ r e. differ b 46 t r e h) (λ r e. differ b 91 t r e k))
          ]
    ]

no_more : (t : List ℕ) → NoSegment t → SegmentsThen t [] t
no_more t none = record { front = []; parts = refl; are = AreSegments.no_segment; only = λ x left those e are. last t none x left those e are }

one_more : (t u rest : List ℕ) (s : Segment) (ss : List Segment) → SegmentThen t s u → SegmentsThen u ss rest → SegmentsThen t (s ∷ ss) rest
one_more t u rest s ss next after = record {
  front = next.front ++ after.front;
  parts = next.parts ∙ ap (λ x. next.front ++ x) after.parts ∙ sym (append_assoc next.front after.front rest);
  are = AreSegments.segment next.front after.front s ss next.is after.are;
  only = λ x left those e are.
      let first = peel t u s next x left those e are in
      let others = after.only first.0 left first.1 first.3 first.4 in
      (first.2 ∙ ap (λ y. s ∷ y) others.0, others.1);
}

abbrev IsSegments : List ℕ → List Segment × List ℕ → Type 0
IsSegments t found = SegmentsThen t found.0 found.1

segments-of : (n : ℕ) (t : List ℕ) → ((u : List ℕ) → length u ≤ n → IsSegments u (segments_front n u)) → length t ≤ suc n → (found : Front Segment) → SegmentFound t found
    → IsSegments t (option_map_or (λ f. (f.0 ∷ (segments_front n f.1).0, (segments_front n f.1).1)) found ([], t))
segments-of n t others within None none = no_more t none
segments-of n t others within (Some f) some =
    let less : length f.1 ≤ n = omega (arith, segment_shorter t f.1 f.0 some) in
    one_more t f.1 (segments_front n f.1).1 f.0 (segments_front n f.1).0 some (others f.1 less)

segments-is : (n : ℕ) (t : List ℕ) → length t ≤ n → IsSegments t (segments_front n t)
segments-is zero [] within = no_more [] (segment-is [])
segments-is zero (b ∷ t) within = absurd (omega arith)
segments-is (suc n) t within = segments-of n t (segments-is n) within (segment_front t) (segment-is t)

-- references

abbrev ReferenceFound : List ℕ → Front Reference → Type 0
ReferenceFound t found = MatchOption found (BeginsNone (codes "$(" ++ t)) (λ f. ReferenceThen (codes "$(" ++ t) f.0 f.1)

reference-at : (t symbol rest u : List ℕ) (ss : List Segment) → SymbolThen t symbol rest → SegmentsThen rest ss u → (o : Option (List ℕ)) → MatchOption o ((v : List ℕ) → u ≢ 41 ∷ v) (λ v. u ≡ 41 ∷ v)
    → ReferenceFound t (option_map (λ v. (record { symbol = symbol; segments = ss }, v)) o)
reference-at t symbol rest u ss h segments None none = no_closing t symbol rest u ss h segments none
reference-at t symbol rest u ss h segments (Some v) some = closing t symbol rest v ss h (subst (SegmentsThen rest ss) some segments)

reference-of : (t : List ℕ) (found : Front (List ℕ)) → SymbolFound t found → ReferenceFound t (option_and_then (λ s. closed_reference s.0 (segments_front (length s.1) s.1)) found)
reference-of t None none = no_symbol t none
reference-of t (Some s) some =
    let segments = segments_front (length s.1) s.1 in
    reference-at t s.0 s.1 segments.1 segments.0 some (segments-is (length s.1) s.1 (omega arith)) (after 41 segments.1) (after-is 41 segments.1)

reference-is : (t : List ℕ) → ReferenceFound t (reference_front t)
reference-is t = reference-of t (symbol_front t) (symbol-is t)

-- plain parts

plain-parts : (t : List ℕ) → plain_front t ++ plain_past t ≡ t
plain-parts [] = refl
plain-parts (b ∷ t) = elim (tells (opens (b ∷ t))) [ inl h ↦ rw h refl | inr h ↦ rw h (ap (λ x. b ∷ x) (plain-parts t)) ]

still_plain : (b : ℕ) (t : List ℕ) → opens (b ∷ t) ≡ false → is_plain (plain_front t) (plain_past t) ≡ true → is_plain (b ∷ plain_front t) (plain_past t) ≡ true
still_plain b t h others =
    both (not (opens (b ∷ (plain_front t ++ plain_past t)))) (is_plain (plain_front t) (plain_past t)) (ap not (ap (λ (x : List ℕ). opens (b ∷ x)) (plain-parts t) ∙ h)) others

plain-is : (t : List ℕ) → is_plain (plain_front t) (plain_past t) ≡ true
plain-is [] = refl
plain-is (b ∷ t) = elim (tells (opens (b ∷ t))) [ inl h ↦ rw h refl | inr h ↦ rw h (still_plain b t h (plain-is t)) ]

plain-ends : (t : List ℕ) → is_end (plain_past t) ≡ true
plain-ends [] = refl
plain-ends (b ∷ t) = elim (tells (opens (b ∷ t))) [ inl h ↦ rw h h | inr h ↦ rw h (plain-ends t) ]

plain-part : (b : ℕ) (t : List ℕ) → opens (b ∷ t) ≡ false → PartThen (b ∷ t) (Plain (b ∷ plain_front t)) (plain_past t)
plain-part b t h =
    let lengths : length (plain_front t ++ plain_past t) ≡ length t = ap length (plain-parts t) in
    record {
      shorter = omega (arith, lengths, length-append (plain_front t) (plain_past t));
      reads = λ r reads.
          subst (λ (x : List ℕ). Reads (b ∷ x) (with_part (Plain (b ∷ plain_front t)) r)) (plain-parts t)
          (Reads.plain b (plain_front t) (plain_past t) r (still_plain b t h (plain-is t)) (plain-ends t) reads);
    }

-- parts

abbrev PartFound : List ℕ → Front Part → Type 0
PartFound t found = MatchOption found (Reads t (Err NotAReference)) (λ f. PartThen t f.0 f.1)

referred-is : (u : List ℕ) (found : Front Reference) → ReferenceFound u found → PartFound (36 ∷ 40 ∷ u) (option_map (λ f. (Referred f.0, f.1)) found)
referred-is u None none = no_reference_reads (36 ∷ 40 ∷ u) u refl none
referred-is u (Some f) some = referred_part (36 ∷ 40 ∷ u) u f.1 f.0 refl some

opened-is : (t : List ℕ) → opens t ≡ true → PartFound t (part_front t)
opened-is t h =
    elim (opens-cases t h) [
      | inl p ↦ subst (λ (x : List ℕ). PartFound x (part_front x)) (sym p.1) (referred-is p.0 (reference_front p.0) (reference-is p.0))
      | inr p ↦ subst (λ (x : List ℕ). PartFound x (part_front x)) (sym p.1) (Reads.expression p.0)
    ]

part-is : (b : ℕ) (t : List ℕ) → PartFound (b ∷ t) (part_front (b ∷ t))
part-is b t = elim (tells (opens (b ∷ t))) [ inl h ↦ opened-is (b ∷ t) h | inr h ↦ rw h (plain-part b t h) ]

parts-of : (n : ℕ) (t : List ℕ) → ((u : List ℕ) → length u ≤ n → Reads u (parts_front n u)) → length t ≤ suc n → (found : Front Part) → PartFound t found
    → Reads t (option_map_or (λ f. with_part f.0 (parts_front n f.1)) found (Err NotAReference))
parts-of n t others within None none = none
parts-of n t others within (Some f) some = some.reads (parts_front n f.1) (others f.1 (omega (arith, some.shorter)))

parts-is : (n : ℕ) (t : List ℕ) → length t ≤ n → Reads t (parts_front n t)
parts-is zero [] within = Reads.nothing
parts-is zero (b ∷ t) within = absurd (omega arith)
parts-is (suc n) [] within = Reads.nothing
parts-is (suc n) (b ∷ t) within = parts-of n (b ∷ t) (parts-is n) within (part_front (b ∷ t)) (part-is b t)

pub parsed-is : (text : List ℕ) → IsReading text (parsed text)
unfolding parsed
parsed-is text =
    elim (tells (is_escaped text)) [
      | inl h ↦ rw h (IsReading.escaped h)
      | inr h ↦ rw h (IsReading.unescaped (parts_front (length text) text) h (parts-is (length text) text (omega arith)))
    ]

-- and so it is any reading
pub parsed-settled : (text : List ℕ) (r : Result (List Part) RefFault) → IsReading text r → parsed text ≡ r
parsed-settled text r is = reading_same text (parsed text) r (parsed-is text) is
