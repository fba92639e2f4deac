use Rattle.std.proofs.Common.{◌≡◌, ◌≢◌, ℕ, suc, ◌+◌, List, [], ◌∷◌, ◌++◌, length, sym, refl, ap, ◌∙◌, subst, arith}
use Rattle.plan_checker.specs.declared.vertex.Vertex.{Vertex}
use Rattle.plan_checker.specs.declared.plan.Mark.{Mark}
use Rattle.plan_checker.specs.declared.plan.Plan.{Plan}
use Rattle.plan_checker.specs.declared.charges.Charges.{Charges}
use Rattle.plan_checker.specs.declared.certificate_error.CertificateError.{CertificateError}
use Rattle.plan_checker.specs.declared.certificate_error.CertificateError.TheVariants.{NotACertificate, OutOfMemory}
use Rattle.plan_checker.specs.Format.{title, last_line, HasGoodLines, IsFirstBad, IsRefusedText, IsTextOf}
use Rattle.plan_checker.specs.inner.Reading.{BeginsWithHead, BeginsWithLines, NoCount, StopsBy}
use Rattle.plan_checker.proofs.BadLines.{first_bad, none_good, title_needed, title_good, bad_count, rows_good, bad_row, bad_end, end_good, bad_tail, all_read}

bad_at : (text : List ℕ) (k number : ℕ) → number ≡ suc k → HasGoodLines text k → ¬ HasGoodLines text (suc k) → IsFirstBad text number
bad_at text k number e good bad = subst (IsFirstBad text) (sym e) (first_bad text k good bad)

-- the first line is bad
pub no_title : (text start : List ℕ) → start ≡ title → ((rest : List ℕ) → text ≢ start ++ rest) → IsFirstBad text 1
no_title text start s none =
    first_bad text 0 (none_good text) (λ good. let needed = title_needed text good in none needed.0 (needed.1 ∙ ap (λ t. t ++ needed.0) (sym s)))

-- the second line is bad
pub no_count : (text start rest : List ℕ) → start ≡ title → text ≡ start ++ rest → NoCount rest → IsFirstBad text 2
no_count text start rest s starts none =
    let e : text ≡ title ++ rest = starts ∙ ap (λ t. t ++ rest) s in
    first_bad text 1 (title_good text rest e) (bad_count text rest e none)

-- the line of a vertex is bad
pub stopped : (bytes text : List ℕ) (count : ℕ) (error : CertificateError) → BeginsWithHead bytes count text → StopsBy text count error → IsRefusedText bytes error
stopped bytes text count (NotACertificate number) head stops =
    let at : number ≡ suc (suc (suc (length stops.graph))) = omega (arith, stops.numbered) in
    bad_at bytes (suc (suc (length stops.graph))) number at
    (rows_good bytes text stops.rest count (length stops.graph) stops.graph stops.marks stops.charges head stops.read (omega (arith, stops.fewer)))
    (λ good. bad_row bytes text count number head stops (subst (HasGoodLines bytes) (sym at) good))
stopped bytes text count OutOfMemory head stops = tt

-- the last line is bad
pub no_end : (bytes text rest start : List ℕ) (count : ℕ) (g : List Vertex) (m : List Mark) (c : Charges) → BeginsWithHead bytes count text → BeginsWithLines text count g m c rest → start ≡ last_line → ((after : List ℕ) → rest ≢ start ++ after) → IsFirstBad bytes (count + 3)
no_end bytes text rest start count g m c head read s none =
    let at : count + 3 ≡ suc (suc (suc count)) = omega arith in
    let same : suc (suc (suc count)) ≡ suc (suc (count + 1)) = omega arith in
    bad_at bytes (suc (suc count)) (count + 3) at
    (rows_good bytes text rest count count g m c head read (omega arith))
    (λ good. bad_end bytes text rest count g m c head read (λ after e. none after (e ∙ ap (λ t. t ++ after) (sym s))) (subst (HasGoodLines bytes) same good))

last_read : (text rest start tail : List ℕ) (count : ℕ) (g : List Vertex) (m : List Mark) (c : Charges) → BeginsWithLines text count g m c rest → start ≡ last_line → rest ≡ start ++ tail → BeginsWithLines text count g m c (last_line ++ tail)
last_read text rest start tail count g m c read s ends = let with : List ℕ → Type 0 = λ x. BeginsWithLines text count g m c x in subst with (ends ∙ ap (λ t. t ++ tail) s) read

-- what follows the last line is bad
pub no_tail : (bytes text rest start tail : List ℕ) (count : ℕ) (g : List Vertex) (m : List Mark) (c : Charges) → BeginsWithHead bytes count text → BeginsWithLines text count g m c rest → start ≡ last_line → rest ≡ start ++ tail → length tail ≢ 0 → IsFirstBad bytes (count + 4)
no_tail bytes text rest start tail count g m c head read s ends some =
    let at : count + 4 ≡ suc (suc (suc (count + 1))) = omega arith in
    let same : suc (suc (suc (count + 1))) ≡ suc (suc (count + 2)) = omega arith in
    let all = last_read text rest start tail count g m c read s ends in
    bad_at bytes (suc (suc (count + 1))) (count + 4) at
    (end_good bytes text tail count g m c head all)
    (λ good. bad_tail bytes text tail count g m c head all (λ e. some (ap (λ (t : List ℕ). length t) e)) (subst (HasGoodLines bytes) same good))

empty_from_length : (text : List ℕ) → length text ≡ 0 → text ≡ []
empty_from_length [] h = refl
empty_from_length (b ∷ text) h = absurd (omega arith)

-- nothing follows it
pub all_of_it : (bytes text rest start tail : List ℕ) (count : ℕ) (g : List Vertex) (m : List Mark) (c : Charges) → BeginsWithHead bytes count text → BeginsWithLines text count g m c rest → start ≡ last_line → rest ≡ start ++ tail → length tail ≡ 0 → IsTextOf bytes g m c
all_of_it bytes text rest start tail count g m c head read s ends none =
    let all = last_read text rest start tail count g m c read s ends in
    let with : List ℕ → Type 0 = λ x. BeginsWithLines text count g m c (last_line ++ x) in
    all_read bytes text count g m c head (subst with (empty_from_length tail none) all)

-- and what is given out is what was read
pub all_given : (bytes text rest start tail : List ℕ) (count : ℕ) (g graph : List Vertex) (p plan : Plan) (c charges : Charges) → BeginsWithHead bytes count text → BeginsWithLines text count g p.marks c rest → start ≡ last_line → rest ≡ start ++ tail → length tail ≡ 0 → graph ≡ g → plan ≡ p → charges ≡ c → IsTextOf bytes graph plan.marks charges
all_given bytes text rest start tail count g graph p plan c charges head read s ends none gs ps cs =
    let one : List Vertex → Type 0 = λ x. IsTextOf bytes x p.marks c in
    let two : Plan → Type 0 = λ x. IsTextOf bytes graph x.marks c in
    let three : Charges → Type 0 = λ x. IsTextOf bytes graph plan.marks x in
    subst three (sym cs) (subst two (sym ps) (subst one (sym gs) (all_of_it bytes text rest start tail count g p.marks c head read s ends none)))
