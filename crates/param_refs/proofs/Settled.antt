-- A text has one reading at most.
use Rattle.std.proofs.Common.{◌≡◌, ℕ, Bool, true, false, true≢false, not, List, [], ◌∷◌, ◌++◌, Result, refl, sym, ap, ◌∙◌}
use Rattle.param_refs.specs.Grammar.{opens, is_plain, is_end, is_escaped, IsReference, Reads, IsReading}
use Rattle.param_refs.specs.declared.fault.RefFault.{RefFault}
use Rattle.param_refs.specs.declared.template.Part.{Part}
use Rattle.param_refs.specs.declared.template.Part.TheVariants.{Plain, Referred}
use Rattle.param_refs.specs.declared.template.Reference.{Reference}
use Rattle.param_refs.proofs.Cut.{differ_next, both_first, both_second, reference_same}

never : (b : Bool) → b ≡ true → b ≡ false → ⊥
never b p q = true≢false (sym p ∙ q)

not-true : (b : Bool) → not b ≡ true → b ≡ false
not-true true h = sym h
not-true false h = refl

not_open : (b : ℕ) (s t : List ℕ) → is_plain (b ∷ s) t ≡ true → opens (b ∷ (s ++ t)) ≡ false
not_open b s t h = not-true (opens (b ∷ (s ++ t))) (both_first (not (opens (b ∷ (s ++ t)))) (is_plain s t) h)

-- an end of a plain part isn't inside another
no_end : (t : List ℕ) (b : ℕ) (s u : List ℕ) → t ≡ b ∷ (s ++ u) → is_end t ≡ true → is_plain (b ∷ s) u ≡ true → ⊥
no_end [] b s u e end plain = cc
no_end (c ∷ t) b s u e end plain = never (opens (c ∷ t)) end (ap opens e ∙ not_open b s u plain)

plain_same : (s t p q : List ℕ) → s ++ t ≡ p ++ q → is_plain s t ≡ true → is_plain p q ≡ true → is_end t ≡ true → is_end q ≡ true → (s ≡ p) × (t ≡ q)
plain_same [] t [] q e one other end_t end_q = (refl, e)
plain_same [] t (c ∷ p) q e one other end_t end_q = absurd (no_end t c p q e end_t other)
plain_same (b ∷ s) t [] q e one other end_t end_q = absurd (no_end q b s t (sym e) end_q one)
plain_same (b ∷ s) t (c ∷ p) q e one other end_t end_q =
    let head : b ≡ c = cc in
    let tail : s ++ t ≡ p ++ q = cc in
    let rest = plain_same s t p q tail (both_second (not (opens (b ∷ (s ++ t)))) (is_plain s t) one) (both_second (not (opens (c ∷ (p ++ q)))) (is_plain p q) other) end_t end_q in
    let same : s ≡ p = rest.0 in
    (cc, rest.1)

reference-opens : (x t : List ℕ) (r : Reference) → IsReference x r → opens (x ++ t) ≡ true
reference-opens x t r (IsReference.reference symbol y ss p are) = refl

reference-no_expression : (x t u : List ℕ) (r : Reference) → IsReference x r → x ++ t ≡ 36 ∷ 123 ∷ u → ⊥
reference-no_expression x t u r (IsReference.reference symbol y ss p are) e = absurd (differ_next _ 40 123 _ _ e refl)

-- plain text doesn't open
closed : (b : ℕ) (s t other : List ℕ) → is_plain (b ∷ s) t ≡ true → b ∷ (s ++ t) ≡ other → opens other ≡ true → ⊥
closed b s t other plain e h = never (opens other) h (ap opens (sym e) ∙ not_open b s t plain)

pub reads_same : (text other : List ℕ) (r s : Result (List Part) RefFault) → Reads text r → Reads other s → text ≡ other → r ≡ s
reads_same text other r s Reads.nothing Reads.nothing e = refl
reads_same text other r s Reads.nothing (Reads.plain c p q v plain end reads) e = cc
reads_same text other r s Reads.nothing (Reads.referred y u n v is reads) e = absurd (true≢false (sym (reference-opens y u n is) ∙ ap opens (sym e)))
reads_same text other r s Reads.nothing (Reads.expression u) e = cc
reads_same text other r s Reads.nothing (Reads.no_reference u none) e = cc
reads_same text other r s (Reads.plain b a t w plain end reads) Reads.nothing e = cc
reads_same text other r s (Reads.plain b a t w plain end reads) (Reads.plain c p q v plain' end' reads') e =
    let parts = plain_same (b ∷ a) t (c ∷ p) q e plain plain' end end' in
    let first : Plain (b ∷ a) ≡ Plain (c ∷ p) = ap Plain parts.0 in
    let rest : w ≡ v = reads_same t q w v reads reads' parts.1 in
    cc
reads_same text other r s (Reads.plain b a t w plain end reads) (Reads.referred y u n v is reads') e = absurd (closed b a t (y ++ u) plain e (reference-opens y u n is))
reads_same text other r s (Reads.plain b a t w plain end reads) (Reads.expression u) e = absurd (closed b a t _ plain e refl)
reads_same text other r s (Reads.plain b a t w plain end reads) (Reads.no_reference u none) e = absurd (closed b a t _ plain e refl)
reads_same text other r s (Reads.referred x t m w is reads) Reads.nothing e = absurd (true≢false (sym (reference-opens x t m is) ∙ ap opens e))
reads_same text other r s (Reads.referred x t m w is reads) (Reads.plain c p q v plain end reads') e = absurd (closed c p q (x ++ t) plain (sym e) (reference-opens x t m is))
reads_same text other r s (Reads.referred x t m w is reads) (Reads.referred y u n v is' reads') e =
    let parts = reference_same x t y u m n is is' e in
    let first : Referred m ≡ Referred n = ap Referred parts.0 in
    let rest : w ≡ v = reads_same t u w v reads reads' parts.1 in
    cc
reads_same text other r s (Reads.referred x t m w is reads) (Reads.expression u) e = absurd (reference-no_expression x t u m is e)
reads_same text other r s (Reads.referred x t m w is reads) (Reads.no_reference u none) e = absurd (none x t m (sym e) is)
reads_same text other r s (Reads.expression t) Reads.nothing e = cc
reads_same text other r s (Reads.expression t) (Reads.plain c p q v plain end reads) e = absurd (closed c p q _ plain (sym e) refl)
reads_same text other r s (Reads.expression t) (Reads.referred y u n v is reads) e = absurd (reference-no_expression y u t n is (sym e))
reads_same text other r s (Reads.expression t) (Reads.expression u) e = refl
reads_same text other r s (Reads.expression t) (Reads.no_reference u none) e = refl
reads_same text other r s (Reads.no_reference t none) Reads.nothing e = cc
reads_same text other r s (Reads.no_reference t none) (Reads.plain c p q v plain end reads) e = absurd (closed c p q _ plain (sym e) refl)
reads_same text other r s (Reads.no_reference t none) (Reads.referred y u n v is reads) e = absurd (none y u n e is)
reads_same text other r s (Reads.no_reference t none) (Reads.expression u) e = refl
reads_same text other r s (Reads.no_reference t none) (Reads.no_reference u none') e = refl

pub reading_same : (text : List ℕ) (one other : Result (List Part) RefFault) → IsReading text one → IsReading text other → one ≡ other
reading_same text one other (IsReading.escaped p) (IsReading.escaped q) = refl
reading_same text one other (IsReading.escaped p) (IsReading.unescaped s fails reads) = absurd (never (is_escaped text) p fails)
reading_same text one other (IsReading.unescaped r fails reads) (IsReading.escaped q) = absurd (never (is_escaped text) q fails)
reading_same text one other (IsReading.unescaped r fails reads) (IsReading.unescaped s no' reads') = reads_same text text r s reads reads' refl
