-- What the reader's steps find, put together.
use Rattle.std.proofs.Common.{◌≡◌, ℕ, suc, ◌+◌, Bool, true, false, true≢false, not, ◌&&◌, ◌==◌, List, [], ◌∷◌, ◌++◌, take, Some, None, Ok, Err, append_assoc, append-nil, refl, sym, ap, subst, ◌∙◌, inl, inr, eqb-true, arith}
use Rattle.std.specs.List.{list_all, list_any}
use Rattle.staging.specs.Reading.{body, Reads, Ranges, IsBracket, is_inside, is_plain, is_empty, has_close, is_closed, begins_range, fault_of, has_falling, IsReading}
use Rattle.staging.specs.inner.Scans.{begins_with, ItemThen, RangeThen, ClosesAt, MembersThen, BracketThen, single_item}
use Rattle.staging.specs.declared.item.CharRange.{CharRange}
use Rattle.staging.specs.declared.item.Bracket.{Bracket}
use Rattle.staging.specs.declared.item.PatternItem.{PatternItem}
use Rattle.staging.specs.declared.item.PatternItem.TheVariants.{Literal, OneOf}
use Rattle.staging.specs.declared.fault.GlobFault.{GlobFault}
use Rattle.staging.specs.declared.fault.GlobFault.TheVariants.{FallingRange}
use Rattle.staging.proofs.Greedy.{both, true-or_false}

-- items so far: what is left of the text decides the rest
abbrev pub ItemsSoFar : List ℕ → List PatternItem → List ℕ → Type 0
ItemsSoFar text items rest = (pattern : List PatternItem) → Reads rest pattern → Reads text (items ++ pattern)

pub items_pushed : (text rest after : List ℕ) (items more : List PatternItem) (i : PatternItem) → ItemsSoFar text items rest → ItemThen rest i after → more ≡ items ++ i ∷ [] → ItemsSoFar text more after
items_pushed text rest after items more i so_far next is pattern reads =
    subst (Reads text) (sym (append_assoc items (i ∷ []) pattern) ∙ ap (λ x. x ++ pattern) (sym is)) (so_far (i ∷ pattern) (next pattern reads))

pub items_end : (text rest : List ℕ) (items : List PatternItem) → ItemsSoFar text items rest → Reads rest [] → Reads text items
items_end text rest items so_far reads = subst (Reads text) (append-nil items) (so_far [] reads)

abbrev pub RangesSoFar : List ℕ → List CharRange → List ℕ → Type 0
RangesSoFar text ranges rest = (more : List CharRange) → Ranges rest more → Ranges text (ranges ++ more)

pub ranges_end : (text rest : List ℕ) (ranges : List CharRange) → RangesSoFar text ranges rest → rest ≡ [] → Ranges text ranges
ranges_end text rest ranges so_far none = subst (Ranges text) (append-nil ranges) (so_far [] (subst (λ (x : List ℕ). Ranges x []) (sym none) Ranges.nothing))

-- ranges

pub range_then : (text rest dashed after : List ℕ) (low hyphen high : ℕ) → text ≡ low ∷ rest → rest ≡ hyphen ∷ dashed → hyphen ≡ 45 → dashed ≡ high ∷ after → RangeThen text (record { low = low; high = high }) after
range_then text rest dashed after low hyphen high one two is three ranges reads =
    let parts : text ≡ low ∷ 45 ∷ high ∷ after = cc in
    subst (λ (x : List ℕ). Ranges x (record { low = low; high = high } ∷ ranges)) (sym parts) (Ranges.range reads)

pub single_range : (text rest : List ℕ) (low : ℕ) → text ≡ low ∷ rest → begins_range rest ≡ false → RangeThen text (record { low = low; high = low }) rest
single_range text rest low parts alone ranges reads =
    subst (λ (x : List ℕ). Ranges x (record { low = low; high = low } ∷ ranges)) (sym parts) (Ranges.single alone reads)

pub no_range-end : (rest : List ℕ) → rest ≡ [] → begins_range rest ≡ false
no_range-end rest none = ap begins_range none

pub no_range-last : (rest dashed : List ℕ) (c : ℕ) → rest ≡ c ∷ dashed → dashed ≡ [] → begins_range rest ≡ false
no_range-last rest dashed c one two = ap begins_range (one ∙ ap (λ x. c ∷ x) two)

pub no_range-other : (rest dashed : List ℕ) (c : ℕ) → rest ≡ c ∷ dashed → (c == 45) ≡ false → begins_range rest ≡ false
no_range-other rest [] c parts other = ap begins_range parts
no_range-other rest (high ∷ after) c parts other = ap begins_range parts ∙ other

-- the next `]`

pub record Closing (text : List ℕ) (count : ℕ) (rest : List ℕ) : Type 0 where
  pub same : has_close text ≡ has_close rest
  pub closes : (n : ℕ) (after : List ℕ) → ClosesAt rest n after → ClosesAt text (count + n) after

close_further : (c : ℕ) (text : List ℕ) → (c == 93) ≡ false → (c == 47) ≡ false → has_close (c ∷ text) ≡ has_close text
close_further c text p q = rw (p, q) refl

closes_further : (c : ℕ) (text : List ℕ) (n : ℕ) (after : List ℕ) → (c == 93) ≡ false → (c == 47) ≡ false → ClosesAt text n after → ClosesAt (c ∷ text) (suc n) after
closes_further c text n after p q h =
    record { parts = ap (λ x. c ∷ x) h.parts; inside = both (is_inside c) (list_all is_inside (take n text)) (both (not (c == 93)) (not (c == 47)) (ap not p) (ap not q)) h.inside }

pub closing-next : (text : List ℕ) (count : ℕ) (rest after : List ℕ) (c : ℕ) → Closing text count rest → rest ≡ c ∷ after → (c == 93) ≡ false → (c == 47) ≡ false → Closing text (count + 1) after
closing-next text count rest after c h parts p q =
    record {
      same = h.same ∙ ap has_close parts ∙ close_further c after p q;
      closes = λ n last closes.
          let on : count + suc n ≡ count + 1 + n = omega arith in
          subst (λ (k : ℕ). ClosesAt text k last) on (h.closes (suc n) last (subst (λ (x : List ℕ). ClosesAt x (suc n) last) (sym parts) (closes_further c after n last p q closes)));
    }

pub closing-found : (text : List ℕ) (count : ℕ) (rest after : List ℕ) (c : ℕ) → Closing text count rest → rest ≡ c ∷ after → c ≡ 93 → ClosesAt text count after
closing-found text count rest after c h parts is =
    let here : ClosesAt rest 0 after = record { parts = parts ∙ ap (λ x. x ∷ after) is; inside = refl } in
    let on : count + 0 ≡ count = omega arith in
    subst (λ (k : ℕ). ClosesAt text k after) on (h.closes 0 after here)

-- members and brackets

pub negated_then : (text listed rest : List ℕ) (ranges : List CharRange) → text ≡ 33 ∷ listed → MembersThen listed ranges rest → BracketThen text (record { negated = true; ranges = ranges }) rest
negated_then text listed rest ranges parts h =
    record { inside = 33 ∷ h.first ∷ h.others; parts = parts ∙ ap (λ x. 33 ∷ x) h.parts; is = IsBracket.other_than h.no_slash h.inside h.are }

pub listed_then : (text rest : List ℕ) (ranges : List CharRange) → begins_with 33 text ≡ false → MembersThen text ranges rest → BracketThen text (record { negated = false; ranges = ranges }) rest
listed_then text rest ranges plain h =
    record { inside = h.first ∷ h.others; parts = h.parts; is = IsBracket.one_of (sym (ap (begins_with 33) h.parts) ∙ plain) h.no_slash h.inside h.are }

-- items

pub end_reads : (text : List ℕ) → text ≡ [] → Reads text []
end_reads text none = subst (λ (x : List ℕ). Reads x []) (sym none) Reads.nothing

empty-nil : (text : List ℕ) → is_empty text ≡ true → text ≡ []
empty-nil [] h = refl
empty-nil (c ∷ text) h = absurd (true≢false (sym h))

pub last_slash_reads : (text rest : List ℕ) (c : ℕ) → text ≡ c ∷ rest → c ≡ 47 → is_empty rest ≡ true → Reads text []
last_slash_reads text rest c parts is none =
    let nil : rest ≡ [] = empty-nil rest none in
    let whole : text ≡ 47 ∷ [] = cc in
    subst (λ (x : List ℕ). Reads x []) (sym whole) Reads.last_slash

pub bracket_item : (text rest : List ℕ) (bracket : Bracket) → BracketThen text bracket rest → ItemThen (91 ∷ text) (OneOf bracket) rest
bracket_item text rest bracket h pattern reads =
    subst (λ (x : List ℕ). Reads x (OneOf bracket ∷ pattern)) (ap (λ x. 91 ∷ x) (sym h.parts)) (Reads.bracket h.is reads)

pub unclosed_item : (text : List ℕ) → is_closed text ≡ false → ItemThen (91 ∷ text) (Literal 91) text
unclosed_item text never pattern reads = Reads.unclosed never reads

single_reads : (c : ℕ) (rest : List ℕ) (pattern : List PatternItem) → (c == 91) ≡ false → (c == 47 && is_empty rest) ≡ false → Reads rest pattern → Reads (c ∷ rest) (single_item c ∷ pattern)
single_reads c rest pattern plain on reads =
    elim (true-or_false (c == 42)) [
      | inl p ↦
          let is : 42 ≡ c = sym (eqb-true c 42 p) in
          subst (λ (x : ℕ). Reads (x ∷ rest) (single_item x ∷ pattern)) is (Reads.star reads)
      | inr p ↦
          elim (true-or_false (c == 63)) [
            | inl q ↦
                let is : 63 ≡ c = sym (eqb-true c 63 q) in
                subst (λ (x : ℕ). Reads (x ∷ rest) (single_item x ∷ pattern)) is (Reads.question_mark reads)
            | inr q ↦
                let exact : is_plain c rest ≡ true = rw (p, q, plain, on) refl in
                rw (p, q) (Reads.plain exact reads)
          ]
    ]

pub single_then : (text rest : List ℕ) (c : ℕ) (i : PatternItem) → text ≡ c ∷ rest → i ≡ single_item c → (c == 91) ≡ false → (c == 47 && is_empty rest) ≡ false → ItemThen text i rest
single_then text rest c i parts is plain on pattern reads =
    subst (λ (x : List ℕ). Reads x (i ∷ pattern)) (sym parts) (subst (λ (x : PatternItem). Reads (c ∷ rest) (x ∷ pattern)) (sym is) (single_reads c rest pattern plain on reads))

-- what the whole reads as

pub refused : (text inner : List ℕ) (fault : GlobFault) → inner ≡ body text → fault_of inner ≡ Some fault → IsReading text (Err fault)
refused text inner fault is h = IsReading.refused (ap fault_of (sym is) ∙ h)

pub falling : (text inner : List ℕ) (pattern : List PatternItem) → inner ≡ body text → fault_of inner ≡ None → Reads inner pattern → list_any has_falling pattern ≡ true → IsReading text (Err FallingRange)
falling text inner pattern is clean reads falls = IsReading.falling (ap fault_of (sym is) ∙ clean) (subst (λ (x : List ℕ). Reads x pattern) is reads) falls

pub accepted : (text inner : List ℕ) (pattern : List PatternItem) → inner ≡ body text → fault_of inner ≡ None → Reads inner pattern → list_any has_falling pattern ≡ false → IsReading text (Ok pattern)
accepted text inner pattern is clean reads rises = IsReading.accepted (ap fault_of (sym is) ∙ clean) (subst (λ (x : List ℕ). Reads x pattern) is reads) rises

-- without a leading `./`

pub items_begin : (text : List ℕ) (items : List PatternItem) → items ≡ [] → ItemsSoFar text items text
items_begin text items is pattern reads = subst (λ (x : List PatternItem). Reads text (x ++ pattern)) (sym is) reads

pub and-left : (a b : Bool) → a ≡ false → (a && b) ≡ false
and-left a b h = ap (λ x. x && b) h

pub and-right : (a b : Bool) → b ≡ false → (a && b) ≡ false
and-right true b h = h
and-right false b h = refl
