use Rattle.std.proofs.Common.{◌≡◌, ◌≢◌, ℕ, suc, ◌+◌, ◌<◌, ◌≤◌, ◌^◌, List, [], ◌∷◌, ◌++◌, length, sym, refl, ap, ◌∙◌, subst, arith, ◌-◌}
use Rattle.std.proofs.lemmas.List.{append_assoc, append-nil, append_cancel_left}
use Rattle.plan_checker.specs.declared.vertex.Vertex.{Vertex}
use Rattle.plan_checker.specs.declared.plan.Mark.{Mark}
use Rattle.plan_checker.specs.declared.charges.Charges.{Charges}
use Rattle.plan_checker.specs.declared.row.Row.{Row}
use Rattle.plan_checker.specs.declared.graph.TheConstants.{MOST_VERTICES}
use Rattle.plan_checker.specs.Graph.{vertex, entries_below, FitsAt}
use Rattle.plan_checker.specs.Format.{row, line, lines, title, count_line, last_line, certificate_text, first_lines, IsTextOf, HasGoodLines, IsFirstBad}
use Rattle.plan_checker.specs.inner.Reading.{IsRow, BeginsWithHead, BeginsWithLines, NoCount, StopsAt}
use Rattle.plan_checker.proofs.FirstLines.{line_ahead, line_back, no_lines, first_first, row_is_line, title_is_line, count_is_line, last_is_line, IsLine}
use Rattle.plan_checker.proofs.Pushed.{whole_row, whole_none, extended, lines_same, entries_same, entries_more, fits_kept}
use Rattle.plan_checker.proofs.TextLines.{lines_from, lines_ahead, lines_once, count_once, head_ahead, text_grouped, text_ahead, few_vertices}

-- where the first k lines are good, so are fewer
pub good_before : (text : List ℕ) (k n : ℕ) → n ≤ k → HasGoodLines text k → HasGoodLines text n
good_before text k n le good = record {
  graph = good.graph;
  marks = good.marks;
  charges = good.charges;
  whole = good.whole;
  same =
      sym (first_first n k (certificate_text good.graph good.marks good.charges) le)
      ∙ ap (λ t. first_lines n t) good.same
      ∙ first_first n k text le;
}

-- a line behind good ones that is not good is the first bad one
pub first_bad : (text : List ℕ) (k : ℕ) → HasGoodLines text k → ¬ HasGoodLines text (suc k) → IsFirstBad text (suc k)
first_bad text k good bad = record { good_before = λ n l. good_before text k n (omega arith) good; bad = bad }

-- no line at all
pub none_good : (text : List ℕ) → HasGoodLines text 0
none_good text = record {
  graph = [];
  marks = [];
  charges = record { enter = []; through = []; pay = []; pass = [] };
  whole = whole_none;
  same = no_lines (certificate_text [] [] (record { enter = []; through = []; pay = []; pass = [] })) ∙ sym (no_lines text);
}

-- a text with a good first line begins with the title
pub title_needed : (text : List ℕ) → HasGoodLines text 1 → (rest : List ℕ) × (text ≡ title ++ rest)
title_needed text good =
    let more : List ℕ = count_line (length good.graph) ++ (lines good.graph good.marks good.charges (length good.graph) ++ last_line) in
    let is : first_lines 1 (certificate_text good.graph good.marks good.charges) ≡ title ++ [] =
    ap (λ t. first_lines 1 t) (text_grouped good.graph good.marks good.charges)
    ∙ line_ahead title more 0 title_is_line
    ∙ ap (λ t. title ++ t) (no_lines more)
    in
    let back = line_back title [] text 0 title_is_line (sym good.same ∙ is) in
    (back.0, back.1)

pub title_good : (text rest : List ℕ) → text ≡ title ++ rest → HasGoodLines text 1
title_good text rest e = record {
  graph = [];
  marks = [];
  charges = record { enter = []; through = []; pay = []; pass = [] };
  whole = whole_none;
  same =
      line_ahead title (count_line 0 ++ last_line) 0 title_is_line
      ∙ ap (λ t. title ++ t) (no_lines (count_line 0 ++ last_line) ∙ sym (no_lines rest))
      ∙ sym (line_ahead title rest 0 title_is_line)
      ∙ ap (λ t. first_lines 1 t) (sym e);
}

-- no second line
pub bad_count : (text rest : List ℕ) → text ≡ title ++ rest → NoCount rest → ¬ HasGoodLines text 2
bad_count text rest e none good =
    let count : ℕ = length good.graph in
    let few : count ≤ MOST_VERTICES = few_vertices good.graph good.marks good.charges good.whole in
    let small : count < 2 ^ 64 = omega arith in
    let more : List ℕ = lines good.graph good.marks good.charges count ++ last_line in
    let theirs : first_lines 2 (certificate_text good.graph good.marks good.charges) ≡ title ++ (count_line count ++ []) =
    ap (λ t. first_lines 2 t) (text_grouped good.graph good.marks good.charges)
    ∙ head_ahead count 0 more small
    ∙ ap (λ t. title ++ (count_line count ++ t)) (no_lines more)
    in
    let ours : first_lines 2 text ≡ title ++ first_lines 1 rest = ap (λ t. first_lines 2 t) e ∙ line_ahead title rest 1 title_is_line in
    let same : first_lines 1 rest ≡ count_line count ++ [] = append_cancel_left title (first_lines 1 rest) (count_line count ++ []) (sym ours ∙ sym good.same ∙ theirs) in
    let back = line_back (count_line count) [] rest 0 (count_is_line count small) same in
    none count back.0 (record { few = few; begins = back.1 })

-- a text with these first lines, and what its first lines are
pub ahead : (bytes text rest : List ℕ) (count n k : ℕ) (g : List Vertex) (m : List Mark) (c : Charges) → BeginsWithHead bytes count text → BeginsWithLines text n g m c rest → first_lines (suc (suc (n + k))) bytes ≡ title ++ (count_line count ++ (lines g m c n ++ first_lines k rest))
ahead bytes text rest count n k g m c head read =
    let small : count < 2 ^ 64 = omega (arith, head.few) in
    ap (λ t. first_lines (suc (suc (n + k))) t) (head.begins ∙ append_assoc title (count_line count) text)
    ∙ head_ahead count (n + k) text small
    ∙ ap (λ t. title ++ (count_line count ++ first_lines (n + k) t)) read.begins
    ∙ ap (λ t. title ++ (count_line count ++ t)) (lines_ahead g m c n k rest (λ i l. whole_row g m c i read.whole (omega (arith, read.counted))))

-- what is known of a certificate whose text has the same first lines
pub record Agrees (g : List Vertex) (m : List Mark) (c : Charges) (h : List Vertex) (o : List Mark) (d : Charges) (n k e count : ℕ) (rest : List ℕ) : Type 0 where
  pub counted : length h ≡ count
  pub rows : (i : ℕ) → i < n → row h o d i ≡ row g m c i
  pub behind : first_lines k (lines_from h o d n e ++ last_line) ≡ first_lines k rest

pub agrees : (bytes text rest : List ℕ) (count n k e : ℕ) (g : List Vertex) (m : List Mark) (c : Charges) → BeginsWithHead bytes count text → BeginsWithLines text n g m c rest → count ≡ n + e → (good : HasGoodLines bytes (suc (suc (n + k)))) → Agrees g m c good.graph good.marks good.charges n k e count rest
agrees bytes text rest count n k e g m c head read ce good =
    let h : List Vertex = good.graph in
    let o : List Mark = good.marks in
    let d : Charges = good.charges in
    let few : length h ≤ MOST_VERTICES = few_vertices h o d good.whole in
    let small : count < 2 ^ 64 = omega (arith, head.few) in
    let small_h : length h < 2 ^ 64 = omega arith in
    let ours = ahead bytes text rest count n k g m c head read in
    let first : first_lines (suc (suc (n + k))) (certificate_text h o d) ≡ title ++ (count_line (length h) ++ first_lines (n + k) (lines h o d (length h) ++ last_line)) =
    ap (λ t. first_lines (suc (suc (n + k))) t) (text_grouped h o d) ∙ head_ahead (length h) (n + k) (lines h o d (length h) ++ last_line) small_h
    in
    let counts : (length h ≡ count) × (first_lines (n + k) (lines h o d (length h) ++ last_line) ≡ lines g m c n ++ first_lines k rest) =
    count_once (length h) count _ _ small_h small (append_cancel_left title _ _ (sym first ∙ good.same ∙ ours))
    in
    let whole_count : length h ≡ n + e = counts.0 ∙ ce in
    let theirs = text_ahead h o d n e k good.whole whole_count in
    let both : lines h o d n ++ first_lines k (lines_from h o d n e ++ last_line) ≡ lines g m c n ++ first_lines k rest =
    (count_once (length h) count _ _ small_h small (append_cancel_left title _ _ (sym theirs ∙ good.same ∙ ours))).1
    in
    let parts : ((i : ℕ) → i < n → row h o d i ≡ row g m c i) × (first_lines k (lines_from h o d n e ++ last_line) ≡ first_lines k rest) =
    lines_once h g o m d c n _ _ (λ i l. whole_row h o d i good.whole (omega arith)) (λ i l. whole_row g m c i read.whole (omega (arith, read.counted))) both
    in
    record { counted = counts.0; rows = parts.0; behind = parts.1 }

-- the lines of vertices that were read are good
pub rows_good : (bytes text rest : List ℕ) (count n : ℕ) (g : List Vertex) (m : List Mark) (c : Charges) → BeginsWithHead bytes count text → BeginsWithLines text n g m c rest → n ≤ count → HasGoodLines bytes (suc (suc n))
rows_good bytes text rest count n g m c head read le =
    let k : ℕ = count - n in
    let ke : length g + k ≡ count = omega (arith, read.counted) in
    let more = extended g m c k read.whole (omega (arith, head.few)) in
    let counted : length more.graph ≡ n + k = omega (arith, more.counted, read.counted) in
    let e : n + 0 ≡ n = omega arith in
    let theirs : first_lines (suc (suc n)) (certificate_text more.graph more.marks more.charges) ≡ title ++ (count_line (length more.graph) ++ (lines more.graph more.marks more.charges n ++ [])) =
    ap (λ j. first_lines (suc (suc j)) (certificate_text more.graph more.marks more.charges)) (sym e)
    ∙ text_ahead more.graph more.marks more.charges n k 0 more.whole counted
    ∙ ap (λ t. title ++ (count_line (length more.graph) ++ (lines more.graph more.marks more.charges n ++ t))) (no_lines (lines_from more.graph more.marks more.charges n k ++ last_line))
    in
    let ours : first_lines (suc (suc n)) bytes ≡ title ++ (count_line count ++ (lines g m c n ++ [])) =
    ap (λ j. first_lines (suc (suc j)) bytes) (sym e)
    ∙ ahead bytes text rest count n 0 g m c head read
    ∙ ap (λ t. title ++ (count_line count ++ (lines g m c n ++ t))) (no_lines rest)
    in
    let count_is : length more.graph ≡ count = omega (arith, more.counted) in
    let lines_are : lines more.graph more.marks more.charges n ≡ lines g m c n =
    lines_same more.graph g more.marks m more.charges c n (λ i l. more.same i (omega (arith, read.counted)))
    in
    record {
      graph = more.graph;
      marks = more.marks;
      charges = more.charges;
      whole = more.whole;
      same =
          theirs
          ∙ ap (λ j. title ++ (count_line j ++ (lines more.graph more.marks more.charges n ++ []))) count_is
          ∙ ap (λ t. title ++ (count_line count ++ (t ++ []))) lines_are
          ∙ sym ours;
    }

-- no next row
pub bad_row : (bytes text : List ℕ) (count number : ℕ) → BeginsWithHead bytes count text → StopsAt text count number → ¬ HasGoodLines bytes number
bad_row bytes text count number head stops whole_good =
    let g : List Vertex = stops.graph in
    let m : List Mark = stops.marks in
    let c : Charges = stops.charges in
    let n : ℕ = length g in
    let d : ℕ = count - suc n in
    let ce : count ≡ n + suc d = omega (arith, stops.fewer) in
    let at : number ≡ suc (suc (n + 1)) = omega (arith, stops.numbered) in
    let good : HasGoodLines bytes (suc (suc (n + 1))) = subst (HasGoodLines bytes) at whole_good in
    let agreed = agrees bytes text stops.rest count n 1 (suc d) g m c head stops.read ce good in
    let theirs : List ℕ = line (row good.graph good.marks good.charges n) in
    let inside : n < length good.graph = omega (arith, agreed.counted, stops.fewer) in
    let is_row : IsRow (row good.graph good.marks good.charges n) = whole_row good.graph good.marks good.charges n good.whole inside in
    let their_line : IsLine theirs = row_is_line (row good.graph good.marks good.charges n) is_row in
    let others : List ℕ = lines_from good.graph good.marks good.charges (suc n) d ++ last_line in
    let behind : first_lines 1 stops.rest ≡ theirs ++ [] =
    sym agreed.behind
    ∙ ap (λ t. first_lines 1 t) (append_assoc theirs (lines_from good.graph good.marks good.charges (suc n) d) last_line)
    ∙ line_ahead theirs others 0 their_line
    ∙ ap (λ t. theirs ++ t) (no_lines others)
    in
    let back = line_back theirs [] stops.rest 0 their_line behind in
    let fits : FitsAt good.graph n = good.whole.graph_fits n inside in
    let entries : entries_below good.graph (n + 1) ≡ entries_below g n + length (vertex good.graph n).parents =
    entries_more good.graph n
    ∙ ap (λ a. a + length (vertex good.graph n).parents) (entries_same good.graph g n (λ i l. ap (λ (r : Row). r.job) (agreed.rows i l)))
    in
    stops.no_next (row good.graph good.marks good.charges n) back.0 (record { is_row = is_row; begins = back.1 }) (fits_kept n _ _ _ _ entries refl fits)

-- no last line
pub bad_end : (bytes text rest : List ℕ) (count : ℕ) (g : List Vertex) (m : List Mark) (c : Charges) → BeginsWithHead bytes count text → BeginsWithLines text count g m c rest → ((after : List ℕ) → rest ≢ last_line ++ after) → ¬ HasGoodLines bytes (suc (suc (count + 1)))
bad_end bytes text rest count g m c head read none good =
    let agreed = agrees bytes text rest count count 1 0 g m c head read (omega arith) good in
    let behind : first_lines 1 rest ≡ last_line ++ [] = sym agreed.behind ∙ line_ahead last_line [] 0 last_is_line in
    let back = line_back last_line [] rest 0 last_is_line behind in
    none back.0 back.1

first_empty : (text : List ℕ) → first_lines 1 text ≡ [] → text ≡ []
first_empty [] e = refl
first_empty (b ∷ text) e = absurd (cc)

-- the last line is good
pub end_good : (bytes text rest : List ℕ) (count : ℕ) (g : List Vertex) (m : List Mark) (c : Charges) → BeginsWithHead bytes count text → BeginsWithLines text count g m c (last_line ++ rest) → HasGoodLines bytes (suc (suc (count + 1)))
end_good bytes text rest count g m c head read =
    let same_count : length g ≡ count + 0 = omega (arith, read.counted) in
    record {
      graph = g;
      marks = m;
      charges = c;
      whole = read.whole;
      same =
          text_ahead g m c count 0 1 read.whole same_count
          ∙ ap (λ j. title ++ (count_line j ++ (lines g m c count ++ first_lines 1 last_line))) read.counted
          ∙ ap (λ t. title ++ (count_line count ++ (lines g m c count ++ t))) (line_ahead last_line [] 0 last_is_line ∙ ap (λ t. last_line ++ t) (sym (no_lines rest)) ∙ sym (line_ahead last_line rest 0 last_is_line))
          ∙ sym (ahead bytes text (last_line ++ rest) count count 1 g m c head read);
    }

-- something behind the last line
pub bad_tail : (bytes text rest : List ℕ) (count : ℕ) (g : List Vertex) (m : List Mark) (c : Charges) → BeginsWithHead bytes count text → BeginsWithLines text count g m c (last_line ++ rest) → rest ≢ [] → ¬ HasGoodLines bytes (suc (suc (count + 2)))
bad_tail bytes text rest count g m c head read some good =
    let agreed = agrees bytes text (last_line ++ rest) count count 2 0 g m c head read (omega arith) good in
    let behind : last_line ++ first_lines 1 rest ≡ last_line ++ [] =
    sym (line_ahead last_line rest 1 last_is_line) ∙ sym agreed.behind ∙ line_ahead last_line [] 1 last_is_line
    in
    some (first_empty rest (append_cancel_left last_line (first_lines 1 rest) [] behind))

-- all was read, and nothing follows
pub all_read : (bytes text : List ℕ) (count : ℕ) (g : List Vertex) (m : List Mark) (c : Charges) → BeginsWithHead bytes count text → BeginsWithLines text count g m c (last_line ++ []) → IsTextOf bytes g m c
all_read bytes text count g m c head read = record {
  whole = read.whole;
  written =
      head.begins
      ∙ append_assoc title (count_line count) text
      ∙ ap (λ t. title ++ (count_line count ++ t)) read.begins
      ∙ ap (λ t. title ++ (count_line count ++ (lines g m c count ++ t))) (append-nil last_line)
      ∙ ap (λ j. title ++ (count_line j ++ (lines g m c j ++ last_line))) (sym read.counted)
      ∙ sym (text_grouped g m c);
}
