-- What a text reads as, from its first part.
use Rattle.std.proofs.Common.{◌≡◌, ◌≢◌, ℕ, zero, suc, ◌+◌, ◌<◌, ◌≤◌, Bool, true, false, true≢false, not, ◌==◌, ◌||◌, List, [], ◌∷◌, ◌++◌, length, take, drop, get_or, length-take-le, take-append-drop, Option, Some, None, Bor, MatchOption, length-append, append_assoc, append-nil, Result, Ok, Err, ◌⊎◌, inl, inr, refl, sym, ap, subst, ◌∙◌, arith, codes}
use Rattle.std.proofs.lemmas.Bool.{eqb-true}
use Rattle.std.specs.Str.{IsCharBoundary}
use Rattle.std.proofs.Math.Seq.{drop-append_seam}
use Rattle.param_refs.specs.Grammar.{opens, has_opening, is_plain, is_end, IsReference, BeginsNone, with_part, Reads}
use Rattle.param_refs.specs.inner.Scans.{IsOpening, ReferenceThen, PartThen}
use Rattle.param_refs.specs.declared.fault.RefFault.{RefFault}
use Rattle.param_refs.specs.declared.fault.RefFault.TheVariants.{NotAReference}
use Rattle.param_refs.specs.declared.template.Part.{Part}
use Rattle.param_refs.specs.declared.template.Part.TheVariants.{Plain, Referred}
use Rattle.param_refs.specs.declared.template.Reference.{Reference}
use Rattle.param_refs.proofs.Cut.{both, both_first, both_second}

-- a plain part

is_plain-from : (s t : List ℕ) → ((k : ℕ) → k < length s → opens (drop k (s ++ t)) ≡ false) → is_plain s t ≡ true
is_plain-from [] t h = refl
is_plain-from (b ∷ s) t h = both (not (opens (b ∷ (s ++ t)))) (is_plain s t) (ap not (h 0 (omega arith))) (is_plain-from s t (λ k within. h (suc k) (omega arith)))

is_end-from : (t : List ℕ) → (0 < length t → opens t ≡ true) → is_end t ≡ true
is_end-from [] h = refl
is_end-from (b ∷ t) h = h (omega arith)

plain_reads : (s t : List ℕ) (r : Result (List Part) RefFault) → 0 < length s → is_plain s t ≡ true → is_end t ≡ true → Reads t r → Reads (s ++ t) (with_part (Plain s) r)
plain_reads [] t r some p q reads = absurd (omega arith)
plain_reads (b ∷ s) t r some p q reads = Reads.plain b s t r p q reads

pub plain_part : (text s t : List ℕ) → text ≡ s ++ t → 0 < length s → IsOpening text (length s) → PartThen text (Plain s) t
plain_part text s t parts some found =
    let lengths : length text ≡ length s + length t = ap length parts ∙ length-append s t in
    let seam : drop (length s) text ≡ t = ap (drop (length s)) parts ∙ drop-append_seam s t in
    let inside : is_plain s t ≡ true = is_plain-from s t (λ k within. ap (λ (x : List ℕ). opens (drop k x)) (sym parts) ∙ found.before k within) in
    let end : is_end t ≡ true = is_end-from t (λ left. ap opens (sym seam) ∙ found.here (omega arith)) in
    record {
      shorter = omega arith;
      reads = λ r reads. subst (λ (x : List ℕ). Reads x (with_part (Plain s) r)) (sym parts) (plain_reads s t r some inside end reads);
    }

pub nonzero : (n : ℕ) → (n == 0) ≡ false → 0 < n
nonzero zero h = absurd (true≢false h)
nonzero (suc n) h = omega arith

pub plain_found : (text front rest copy : List ℕ) (n : ℕ) → IsOpening text n → front ≡ take n text → rest ≡ drop n text → (length front == 0) ≡ false → copy ≡ front → PartThen text (Plain copy) rest
plain_found text front rest copy n h is_front is_rest some is_copy =
    let lengths : length (take n text) ≡ n = length-take-le n text h.within in
    let found : IsOpening text (length (take n text)) = subst (IsOpening text) (sym lengths) h in
    let nonempty : 0 < length (take n text) = nonzero (length (take n text)) (ap (λ x. length x == 0) (sym is_front) ∙ some) in
    let whole : PartThen text (Plain (take n text)) (drop n text) = plain_part text (take n text) (drop n text) (sym (take-append-drop n text)) nonempty found in
    subst (λ (x : List ℕ). PartThen text (Plain x) rest) (sym (is_copy ∙ is_front)) (subst (λ (x : List ℕ). PartThen text (Plain (take n text)) x) (sym is_rest) whole)

pub opened : (text front : List ℕ) (n : ℕ) → IsOpening text n → front ≡ take n text → (length front == 0) ≡ true → 0 < length text → opens text ≡ true
opened text front n h is none some =
    let lengths : length (take n text) ≡ n = length-take-le n text h.within in
    let empty : length (take n text) ≡ 0 = ap length (sym is) ∙ eqb-true (length front) 0 none in
    let at_start : n ≡ 0 = sym lengths ∙ empty in
    ap (λ k. opens (drop k text)) (sym at_start) ∙ h.here (omega arith)

-- what begins with `$(` or `${`

either : (a b : Bool) → (a || b) ≡ true → (a ≡ true) ⊎ (b ≡ true)
either true b h = inl refl
either false b h = inr h

pub opens-cases : (t : List ℕ) → opens t ≡ true → ((u : List ℕ) × (t ≡ 36 ∷ 40 ∷ u)) ⊎ ((u : List ℕ) × (t ≡ 36 ∷ 123 ∷ u))
opens-cases [] h = absurd (true≢false (sym h))
opens-cases (b ∷ []) h = absurd (true≢false (sym h))
opens-cases (b ∷ c ∷ t) h =
    let first : b ≡ 36 = eqb-true b 36 (both_first (b == 36) (c == 40 || c == 123) h) in
    elim (either (c == 40) (c == 123) (both_second (b == 36) (c == 40 || c == 123) h)) [
      | inl p ↦ let second : c ≡ 40 = eqb-true c 40 p in inl (t, cc)
      | inr p ↦ let second : c ≡ 123 = eqb-true c 123 p in inr (t, cc)
    ]

pub expression_reads : (text : List ℕ) → opens text ≡ true → ((u : List ℕ) → text ≢ 36 ∷ 40 ∷ u) → Reads text (Err NotAReference)
expression_reads text h fails =
    elim (opens-cases text h) [
      | inl p ↦ absurd (fails p.0 p.1)
      | inr p ↦ subst (λ (t : List ℕ). Reads t (Err NotAReference)) (sym p.1) (Reads.expression p.0)
    ]

pub no_reference_reads : (text inside : List ℕ) → text ≡ 36 ∷ 40 ∷ inside → BeginsNone (codes "$(" ++ inside) → Reads text (Err NotAReference)
no_reference_reads text inside e none = subst (λ (t : List ℕ). Reads t (Err NotAReference)) (sym e) (Reads.no_reference inside none)

reference-some : (x t : List ℕ) (r : Reference) → IsReference x r → length t < length (x ++ t)
reference-some x t r (IsReference.reference symbol y ss p are) = omega (arith, length-append (symbol ++ (y ++ 41 ∷ [])) t)

pub referred_part : (text inside rest : List ℕ) (r : Reference) → text ≡ 36 ∷ 40 ∷ inside → ReferenceThen (codes "$(" ++ inside) r rest → PartThen text (Referred r) rest
referred_part text inside rest r e h =
    let parts : text ≡ h.front ++ rest = e ∙ h.parts in
    record {
      shorter = subst (λ (t : List ℕ). length rest < length t) (sym parts) (reference-some h.front rest r h.is);
      reads = λ s reads. subst (λ (t : List ℕ). Reads t (with_part (Referred r) s)) (sym parts) (Reads.referred h.front rest r s h.is reads);
    }

-- parts, one after another

abbrev pub after_parts : List Part → Result (List Part) RefFault → Result (List Part) RefFault
after_parts ps (Ok qs) = Ok (ps ++ qs)
after_parts ps (Err e) = Err e

pub after_parts-nil : (r : Result (List Part) RefFault) → after_parts [] r ≡ r
after_parts-nil (Ok qs) = refl
after_parts-nil (Err e) = refl

pub after_parts-push : (ps : List Part) (p : Part) (r : Result (List Part) RefFault) → after_parts (ps ++ p ∷ []) r ≡ after_parts ps (with_part p r)
after_parts-push ps p (Ok qs) = ap Ok (append_assoc ps (p ∷ []) qs)
after_parts-push ps p (Err e) = refl

-- the text so far reads as these parts, and then as what is left does
pub record PartsSoFar (text : List ℕ) (ps : List Part) (rest : List ℕ) : Type 0 where
  pub reads : (r : Result (List Part) RefFault) → Reads rest r → Reads text (after_parts ps r)

pub parts_begin : (text : List ℕ) → PartsSoFar text [] text
parts_begin text = record { reads = λ r reads. subst (Reads text) (sym (after_parts-nil r)) reads }

pub parts_more : (text rest after : List ℕ) (ps : List Part) (p : Part) → PartsSoFar text ps rest → PartThen rest p after → PartsSoFar text (ps ++ p ∷ []) after
parts_more text rest after ps p h next =
    record { reads = λ r reads. subst (Reads text) (sym (after_parts-push ps p r)) (h.reads (with_part p r) (next.reads r reads)) }

pub parts_pushed : (text rest after : List ℕ) (ps qs : List Part) (p : Part) → PartsSoFar text ps rest → PartThen rest p after → qs ≡ ps ++ p ∷ [] → PartsSoFar text qs after
parts_pushed text rest after ps qs p h next is = subst (λ (rs : List Part). PartsSoFar text rs after) (sym is) (parts_more text rest after ps p h next)

pub parts_end : (text rest : List ℕ) (ps : List Part) → PartsSoFar text ps rest → length rest ≡ 0 → Reads text (Ok ps)
parts_end text [] ps h none = subst (Reads text) (ap Ok (append-nil ps)) (h.reads (Ok []) Reads.nothing)
parts_end text (b ∷ rest) ps h none = absurd (omega arith)

pub parts_stop : (text rest : List ℕ) (ps : List Part) (e : RefFault) → PartsSoFar text ps rest → Reads rest (Err e) → Reads text (Err e)
parts_stop text rest ps e h reads = h.reads (Err e) reads

-- an opening anywhere

or_second : (a b : Bool) → b ≡ true → (a || b) ≡ true
or_second true b h = refl
or_second false b h = h

pub has_opening-here : (text : List ℕ) (n : ℕ) → n < length text → opens (drop n text) ≡ true → has_opening text ≡ true
has_opening-here [] n within h = absurd (omega arith)
has_opening-here (b ∷ t) zero within h = rw h refl
has_opening-here (b ∷ t) (suc n) within h = or_second (opens (b ∷ t)) (has_opening t) (has_opening-here t n (omega arith) h)

pub has_opening-none : (text : List ℕ) → ((k : ℕ) → k < length text → opens (drop k text) ≡ false) → has_opening text ≡ false
has_opening-none [] h = refl
has_opening-none (b ∷ t) h =
    let first : opens (b ∷ t) ≡ false = h 0 (omega arith) in
    let rest : has_opening t ≡ false = has_opening-none t (λ k within. h (suc k) (omega arith)) in
    rw (first, rest) refl

pub has_opening-at : (text : List ℕ) (n : ℕ) → IsOpening text n → n < length text → has_opening text ≡ true
has_opening-at text n h within = has_opening-here text n within (h.here within)

pub has_opening-past : (text : List ℕ) (n : ℕ) → IsOpening text n → length text ≤ n → has_opening text ≡ false
has_opening-past text n h past = has_opening-none text (λ k within. h.before k (omega (arith, h.within)))

byte_at : (text u : List ℕ) (n c : ℕ) → n < length text → drop n text ≡ c ∷ u → get_or text n 0 ≡ c
byte_at [] u n c within e = absurd (omega arith)
byte_at (b ∷ t) u zero c within e = cc
byte_at (b ∷ t) u (suc n) c within e = byte_at t u n c (omega arith) e

-- the text may be cut there
pub opening_boundary : (text : List ℕ) (n : ℕ) → IsOpening text n → IsCharBoundary text n
opening_boundary text n h = (
  h.within,
  λ below high.
      elim (opens-cases (drop n text) (h.here below)) [
        | inl p ↦ let byte = byte_at text (40 ∷ p.0) n 36 below p.1 in absurd (omega (arith, byte))
        | inr p ↦ let byte = byte_at text (123 ∷ p.0) n 36 below p.1 in absurd (omega (arith, byte))
      ],
)

-- after the two bytes that begin a reference
pub after_dollar : (text rest : List ℕ) (r : Option (Bor (List ℕ))) → text ≡ 36 ∷ rest → MatchOption r ((t : List ℕ) → rest ≢ 40 ∷ t) (λ x. rest ≡ 40 ∷ x.now)
    → MatchOption r ((t : List ℕ) → text ≢ 36 ∷ 40 ∷ t) (λ x. text ≡ 36 ∷ 40 ∷ x.now)
after_dollar text rest None parts none = λ t e. let after : rest ≡ 40 ∷ t = cc in none t after
after_dollar text rest (Some x) parts some = parts ∙ ap (λ t. 36 ∷ t) some
