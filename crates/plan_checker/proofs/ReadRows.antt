use Rattle.std.proofs.Common.{◌≡◌, ◌≢◌, ℕ, zero, suc, ◌+◌, ◌-◌, ◌*◌, ◌<◌, ◌≤◌, List, [], ◌∷◌, ◌++◌, length, get_or, All, Some, None, sym, refl, ap, ◌∙◌, subst, arith}
use Rattle.std.specs.Fmt.{decimal}
use Rattle.std.specs.List.Sorted.{IsStrictlyIncreasing}
use Rattle.std.proofs.lemmas.List.{append_assoc, append-nil, length-append}
use Rattle.plan_checker.specs.declared.vertex.Vertex.{Vertex}
use Rattle.plan_checker.specs.declared.plan.Mark.{Mark}
use Rattle.plan_checker.specs.declared.charges.Charges.{Charges}
use Rattle.plan_checker.specs.declared.row.Row.{Row}
use Rattle.plan_checker.specs.declared.row.Start.{Start}
use Rattle.plan_checker.specs.declared.row.Costs.{Costs}
use Rattle.plan_checker.specs.declared.graph.TheConstants.{MOST_VERTICES}
use Rattle.plan_checker.specs.Graph.{vertex, entries_below, Fits}
use Rattle.plan_checker.specs.Format.{spaced, pairs, row_numbers, line, lines, count_line}
use Rattle.plan_checker.specs.inner.Reading.{BeginsWithNumber, NoNumber, BeginsWithNumbers, BeginsWithCount, NoCount, NoLoadField, start_text, start_of, BeginsWithStart, NoStart, first_numbers, costs_of, NoCosts, NoPair, BeginsWithPairs, NoPairs, BeginsWithRow, NoRow, FitsNext, BeginsWithLines, StopsAt, more_charges}
use Rattle.plan_checker.proofs.Numbers.{numbers_end, feed_ends, number_once, numbers_read, first_read, others_follow}
use Rattle.plan_checker.proofs.Texts.{pairs-append}
use Rattle.plan_checker.proofs.Rows.{start_once, line_is, line_once}
use Rattle.plan_checker.proofs.Pushed.{whole_pushed, lines_pushed, entries_same, entries_more, vertex_before, vertex_at}

length-pairs : (ps ws : List ℕ) → length ws ≡ length ps → length (pairs ps ws) ≡ 2 * length ps
length-pairs [] [] h = refl
length-pairs [] (w ∷ ws) h = refl
length-pairs (p ∷ ps) [] h = absurd (omega arith)
length-pairs (p ∷ ps) (w ∷ ws) h = let rest = length-pairs ps ws (omega arith) in omega (arith, rest)

pub lengths_more : (ps ws parents amounts : List ℕ) (p w : ℕ) → length amounts ≡ length parents → ps ≡ parents ++ p ∷ [] → ws ≡ amounts ++ w ∷ [] → length ws ≡ length ps
lengths_more ps ws parents amounts p w one a b =
    let x : length ps ≡ length parents + 1 = ap (λ (t : List ℕ). length t) a ∙ length-append parents (p ∷ []) in
    let y : length ws ≡ length amounts + 1 = ap (λ (t : List ℕ). length t) b ∙ length-append amounts (w ∷ []) in
    omega (arith, x, y, one)

pub pairs_pushed : (old new : List ℕ) (p i : ℕ) → length old ≡ i → new ≡ old ++ p ∷ [] → length new ≡ i + 1
pairs_pushed old new p i counted is = let l : length new ≡ length old + 1 = ap (λ (t : List ℕ). length t) is ∙ length-append old (p ∷ []) in omega arith

-- one pair more
pub pair_read : (text parents amounts rest others ps ws : List ℕ) (p w : ℕ) → length amounts ≡ length parents → BeginsWithNumbers text (pairs parents amounts) rest → BeginsWithNumbers rest (p ∷ w ∷ []) others → ps ≡ parents ++ p ∷ [] → ws ≡ amounts ++ w ∷ [] → BeginsWithNumbers text (pairs ps ws) others
pair_read text parents amounts rest others ps ws p w one read next more_ps more_ws =
    let with : List ℕ → Type 0 = λ ns. BeginsWithNumbers text ns others in
    let pushed : pairs parents amounts ++ p ∷ w ∷ [] ≡ pairs ps ws =
    sym (pairs-append parents (p ∷ []) amounts (w ∷ []) (sym one))
    ∙ ap (λ t. pairs t (amounts ++ w ∷ [])) (sym more_ps)
    ∙ ap (λ t. pairs ps t) (sym more_ws)
    in
    subst with pushed (numbers_read text (pairs parents amounts) rest (p ∷ w ∷ []) others read next)

-- what follows pairs, where there are to be more
more_pairs : (text : List ℕ) (count : ℕ) (parents amounts rest ps ws x : List ℕ) → length amounts ≡ length parents → BeginsWithNumbers text (pairs parents amounts) rest → BeginsWithPairs text count ps ws x → length parents ≤ count → (others : List ℕ) × (length others ≡ 2 * (count - length parents)) × BeginsWithNumbers rest others (10 ∷ x)
more_pairs text count parents amounts rest ps ws x one read other few =
    let ours = length-pairs parents amounts one in
    let theirs = length-pairs ps ws other.one_each in
    let counted = other.counted in
    let follow = others_follow text (pairs parents amounts) (pairs ps ws) rest (10 ∷ x) read other.begins (omega arith) in
    let is : length (pairs ps ws) ≡ length (pairs parents amounts) + length follow.0 =
    ap (λ (t : List ℕ). length t) follow.1 ∙ length-append (pairs parents amounts) follow.0
    in
    (follow.0, omega arith, follow.2)

no_pair_in : (rest others b : List ℕ) → NoPair rest → 2 ≤ length others → ¬ BeginsWithNumbers rest others b
no_pair_in rest [] b none two read = absurd (omega arith)
no_pair_in rest (p ∷ []) b none two read = absurd (omega arith)
no_pair_in rest (p ∷ w ∷ others) b none two read = none p w (spaced others ++ b) (first_read rest (p ∷ w ∷ []) others b read)

-- a pair is missing
pub too_few_pairs : (text : List ℕ) (count : ℕ) (parents amounts rest : List ℕ) → length amounts ≡ length parents → BeginsWithNumbers text (pairs parents amounts) rest → length parents < count → NoPair rest → NoPairs text count
too_few_pairs text count parents amounts rest one read few none ps ws x other =
    let more = more_pairs text count parents amounts rest ps ws x one read other (omega arith) in
    no_pair_in rest more.0 (10 ∷ x) none (let many = more.1 in omega arith) more.2

no_feed_in : (rest feed others x : List ℕ) → feed ≡ 10 ∷ [] → ((after : List ℕ) → rest ≢ feed ++ after) → length others ≡ 0 → ¬ BeginsWithNumbers rest others (10 ∷ x)
no_feed_in rest feed [] x f none empty read = none x (read.begins ∙ ap (λ t. t ++ x) (sym f))
no_feed_in rest feed (n ∷ others) x f none empty read = absurd (omega arith)

-- the line goes on behind the last pair
pub line_goes_on : (text : List ℕ) (count : ℕ) (parents amounts rest feed : List ℕ) → length amounts ≡ length parents → BeginsWithNumbers text (pairs parents amounts) rest → length parents ≡ count → feed ≡ 10 ∷ [] → ((after : List ℕ) → rest ≢ feed ++ after) → NoPairs text count
line_goes_on text count parents amounts rest feed one read counted f none ps ws x other =
    let more = more_pairs text count parents amounts rest ps ws x one read other (omega arith) in
    no_feed_in rest feed more.0 x f none (let no_more = more.1 in omega arith) more.2

pub no_load : (text : List ℕ) → ((x : List ℕ) → text ≢ 32 ∷ 45 ∷ x) → NoNumber text → NoLoadField text
no_load text dash none (Some n) rest ends other =
    none n rest (record { small = other.small n refl; ends = ends; begins = other.begins ∙ ap (λ t. t ++ rest) (append-nil (32 ∷ decimal n)) })
no_load text dash none None rest ends other = dash rest other.begins

-- a row by its parts
pub row_start : (text : List ℕ) (row : Row) (rest : List ℕ) → BeginsWithRow text row rest → BeginsWithStart text (start_of row) (spaced (row_numbers row) ++ 10 ∷ rest)
row_start text row rest read = record {
  small = read.is_row.load_small;
  ends = λ n e. numbers_end (row_numbers row) rest;
  begins = read.begins ∙ line_is row rest;
}

pub no_row_start : (text : List ℕ) (most : ℕ) → NoStart text → NoRow text most
no_row_start text most none row rest few other = none (start_of row) (spaced (row_numbers row) ++ 10 ∷ rest) (numbers_end (row_numbers row) rest) (row_start text row rest other)

-- what follows the start of a row that a text begins with
behind_start : (text : List ℕ) (start : Start) (rest : List ℕ) (row : Row) (more : List ℕ) → BeginsWithStart text start rest → BeginsWithRow text row more → BeginsWithNumbers rest (first_numbers (costs_of row) ++ pairs row.job.parents row.amounts) (10 ∷ more)
behind_start text start rest row more read other =
    let theirs = row_start text row more other in
    record {
      small = other.is_row.numbers_small;
      ends = feed_ends more;
      begins = (start_once start (start_of row) rest (spaced (row_numbers row) ++ 10 ∷ more) read.small other.is_row.load_small read.ends theirs.ends (sym read.begins ∙ theirs.begins)).1;
    }

pub no_row_costs : (text : List ℕ) (most : ℕ) (start : Start) (rest : List ℕ) → BeginsWithStart text start rest → NoCosts rest → NoRow text most
no_row_costs text most start rest read none row more few other =
    none (costs_of row) (spaced (pairs row.job.parents row.amounts) ++ 10 ∷ more)
    (first_read rest (first_numbers (costs_of row)) (pairs row.job.parents row.amounts) (10 ∷ more) (behind_start text start rest row more read other))

-- what follows the costs of such a row: as many pairs as they say
behind_costs : (text : List ℕ) (start : Start) (rest : List ℕ) (costs : Costs) (after : List ℕ) (row : Row) (more : List ℕ) → BeginsWithStart text start rest → BeginsWithNumbers rest (first_numbers costs) after → BeginsWithRow text row more → BeginsWithPairs after costs.parents row.job.parents row.amounts more
behind_costs text start rest costs after row more read numbers other =
    let parts : List ℕ = pairs row.job.parents row.amounts in
    let follow = others_follow rest (first_numbers costs) (first_numbers (costs_of row) ++ parts) after (10 ∷ more) numbers (behind_start text start rest row more read other) (omega arith) in
    let is : first_numbers (costs_of row) ++ parts ≡ first_numbers costs ++ follow.0 = follow.1 in
    let same : follow.0 ≡ parts = cc in
    let with : List ℕ → Type 0 = λ ns. BeginsWithNumbers after ns (10 ∷ more) in
    record {
      counted = (cc);
      one_each = other.is_row.one_each;
      begins = subst with same follow.2;
    }

-- more parents than the vertex can have
pub many_parents : (text : List ℕ) (most : ℕ) (start : Start) (rest : List ℕ) (costs : Costs) (after : List ℕ) → BeginsWithStart text start rest → BeginsWithNumbers rest (first_numbers costs) after → most < costs.parents → NoRow text most
many_parents text most start rest costs after read numbers many row more few other =
    let counted = (behind_costs text start rest costs after row more read numbers other).counted in
    absurd (omega (arith, counted, many, few))

pub no_row_pairs : (text : List ℕ) (most : ℕ) (start : Start) (rest : List ℕ) (costs : Costs) (after : List ℕ) → BeginsWithStart text start rest → BeginsWithNumbers rest (first_numbers costs) after → NoPairs after costs.parents → NoRow text most
no_row_pairs text most start rest costs after read numbers none row more few other =
    none row.job.parents row.amounts more (behind_costs text start rest costs after row more read numbers other)

-- the row of these parts
abbrev pub row_of : Start → Costs → List ℕ → List ℕ → Row
row_of start costs parents amounts = record {
  job = record { load = start.load; compute = costs.compute; parents = parents; needed = start.needed };
  mark = start.mark;
  enter = costs.enter;
  through = costs.through;
  pay = costs.pay;
  amounts = amounts;
}

pub row_read : (text : List ℕ) (start : Start) (rest : List ℕ) (costs : Costs) (after parents amounts more : List ℕ) → BeginsWithStart text start rest → BeginsWithNumbers rest (first_numbers costs) after → BeginsWithPairs after costs.parents parents amounts more → BeginsWithRow text (row_of start costs parents amounts) more
row_read text start rest costs after parents amounts more read numbers last =
    let row : Row = row_of start costs parents amounts in
    let with : ℕ → Type 0 = λ k. BeginsWithNumbers rest (costs.compute ∷ costs.enter ∷ costs.through ∷ costs.pay ∷ k ∷ pairs parents amounts) (10 ∷ more) in
    let all : BeginsWithNumbers rest (row_numbers row) (10 ∷ more) =
    subst with (sym last.counted) (numbers_read rest (first_numbers costs) after (pairs parents amounts) (10 ∷ more) numbers last.begins)
    in
    record {
      is_row = record { one_each = last.one_each; load_small = read.small; numbers_small = all.small };
      begins = read.begins ∙ ap (λ t. start_text start ++ t) all.begins ∙ sym (line_is row more);
    }

abbrev pub jobs : List ℕ
jobs = 106 ∷ 111 ∷ 98 ∷ 115 ∷ []

-- no count
pub no_jobs : (text start : List ℕ) → start ≡ jobs → ((x : List ℕ) → text ≢ start ++ x) → NoCount text
no_jobs text start s none count rest other =
    none ((spaced (count ∷ []) ++ 10 ∷ []) ++ rest) (other.begins ∙ ap (λ t. t ++ ((spaced (count ∷ []) ++ 10 ∷ []) ++ rest)) (sym s))

behind_jobs : (text start t : List ℕ) (count : ℕ) (rest : List ℕ) → start ≡ jobs → text ≡ start ++ t → BeginsWithCount text count rest → BeginsWithNumber t count (10 ∷ rest)
behind_jobs text start t count rest s starts other =
    let whole : jobs ++ t ≡ count_line count ++ rest = sym (starts ∙ ap (λ x. x ++ t) s) ∙ other.begins in
    let tail : t ≡ (spaced (count ∷ []) ++ 10 ∷ []) ++ rest = cc in
    record {
      small = let few = other.few in omega arith;
      ends = feed_ends rest;
      begins = tail ∙ append_assoc (spaced (count ∷ [])) (10 ∷ []) rest ∙ ap (λ t. t ++ 10 ∷ rest) (append-nil (32 ∷ decimal count));
    }

both_counts : (text : List ℕ) (n count : ℕ) (more rest : List ℕ) → BeginsWithNumber text n more → BeginsWithNumber text count rest → (n ≡ count) × (more ≡ rest)
both_counts text n count more rest p q =
    let whole : (32 ∷ decimal n) ++ more ≡ (32 ∷ decimal count) ++ rest = sym p.begins ∙ q.begins in
    let tail : decimal n ++ more ≡ decimal count ++ rest = cc in
    number_once n count more rest p.small q.small p.ends q.ends tail

pub no_job_feed : (text start t feed : List ℕ) (n : ℕ) (more : List ℕ) → start ≡ jobs → text ≡ start ++ t → BeginsWithNumber t n more → feed ≡ 10 ∷ [] → ((x : List ℕ) → more ≢ feed ++ x) → NoCount text
no_job_feed text start t feed n more s starts read f none count rest other =
    none rest ((both_counts t n count more (10 ∷ rest) read (behind_jobs text start t count rest s starts other)).1 ∙ ap (λ x. x ++ rest) (sym f))

pub many_jobs : (text start t : List ℕ) (n : ℕ) (more : List ℕ) → start ≡ jobs → text ≡ start ++ t → BeginsWithNumber t n more → MOST_VERTICES < n → NoCount text
many_jobs text start t n more s starts read many count rest other =
    let same : n ≡ count = (both_counts t n count more (10 ∷ rest) read (behind_jobs text start t count rest s starts other)).0 in
    absurd (omega (arith, many, same, other.few))

-- one row more
pub rows_more : (text : List ℕ) (n : ℕ) (g new : List Vertex) (m marks : List Mark) (c charges : Charges) (rest : List ℕ) (row : Row) (after : List ℕ) → BeginsWithLines text n g m c rest → BeginsWithRow rest row after → FitsNext g row → new ≡ g ++ row.job ∷ [] → marks ≡ m ++ row.mark ∷ [] → charges ≡ more_charges c row → BeginsWithLines text (n + 1) new marks charges after
rows_more text n g new m marks c charges rest row after read next fits vs ms cs =
    let whole = whole_pushed g m c row read.whole next.is_row fits in
    let pushed : lines (g ++ row.job ∷ []) (m ++ row.mark ∷ []) (more_charges c row) (n + 1) ≡ lines g m c n ++ line row =
    let e : n + 1 ≡ suc (length g) = omega (arith, read.counted) in
    ap (λ k. lines (g ++ row.job ∷ []) (m ++ row.mark ∷ []) (more_charges c row) k) e
    ∙ lines_pushed g m c row read.whole.marks_counted read.whole.charges_counted
    ∙ ap (λ k. lines g m c k ++ line row) read.counted
    in
    let all : BeginsWithLines text (n + 1) (g ++ row.job ∷ []) (m ++ row.mark ∷ []) (more_charges c row) after = record {
      whole = whole;
      counted = omega (arith, length-append g (row.job ∷ []), read.counted);
      begins =
          read.begins
          ∙ ap (λ t. lines g m c n ++ t) next.begins
          ∙ sym (append_assoc (lines g m c n) (line row) after)
          ∙ ap (λ t. t ++ after) (sym pushed);
    } in
    let with_graph : List Vertex → Type 0 = λ x. BeginsWithLines text (n + 1) x (m ++ row.mark ∷ []) (more_charges c row) after in
    let with_marks : List Mark → Type 0 = λ x. BeginsWithLines text (n + 1) new x (more_charges c row) after in
    let with_charges : Charges → Type 0 = λ x. BeginsWithLines text (n + 1) new marks x after in
    subst with_charges (sym cs) (subst with_marks (sym ms) (subst with_graph (sym vs) all))

-- a row that does not fit
pub no_fit : (g : List Vertex) (rest : List ℕ) (row : Row) (after : List ℕ) → BeginsWithRow rest row after → ¬ FitsNext g row → (other : Row) (more : List ℕ) → BeginsWithRow rest other more → ¬ FitsNext g other
no_fit g rest row after read bad other more next fits =
    let same : row ≡ other = (line_once row other after more read.is_row next.is_row (sym read.begins ∙ next.begins)).0 in
    bad (subst (FitsNext g) (sym same) fits)

-- numbers that rise are at least their places
at_least_place : (xs : List ℕ) (k : ℕ) → IsStrictlyIncreasing xs → k < length xs → k ≤ get_or xs k 0
at_least_place xs zero rising here = omega arith
at_least_place xs (suc k) rising here =
    let before = at_least_place xs k rising (omega arith) in
    let next : get_or xs k 0 < get_or xs (k + 1) 0 = rising k (omega arith) in
    let same : get_or xs (k + 1) 0 ≡ get_or xs (suc k) 0 = ap (λ i. get_or xs i 0) (omega arith) in
    omega arith

-- a vertex has no more parents than there are vertices below it
few_parents : (n : ℕ) (parents : List ℕ) → All (λ p. p < n) parents → IsStrictlyIncreasing parents → length parents ≤ n
few_parents n [] below rising = omega arith
few_parents n (p ∷ parents) below rising =
    let last = at_least_place (p ∷ parents) (length parents) rising (omega arith) in
    let under = below (length parents) 0 (omega arith) in
    omega arith

-- there is no line of a next vertex
pub no_row_next : (text : List ℕ) (n count number : ℕ) (g : List Vertex) (m : List Mark) (c : Charges) (rest : List ℕ) → BeginsWithLines text n g m c rest → n < count → NoRow rest n → number ≡ n + 3 → StopsAt text count number
no_row_next text n count number g m c rest read fewer none at =
    let size : ℕ → Type 0 = λ k. BeginsWithLines text k g m c rest in
    let counted = read.counted in
    record {
      graph = g;
      marks = m;
      charges = c;
      rest = rest;
      read = subst size (sym read.counted) read;
      fewer = omega arith;
      no_next = λ row after next fits. none row after (let few = few_parents (length g) row.job.parents fits.below fits.rising in omega arith) next;
      numbered = omega arith;
    }

-- the row that was read does not fit
pub unfit : (text : List ℕ) (n count number : ℕ) (g : List Vertex) (m : List Mark) (c : Charges) (rest : List ℕ) (row : Row) (after : List ℕ) → BeginsWithLines text n g m c rest → n < count → BeginsWithRow rest row after → ¬ Fits n (entries_below g n + length row.job.parents) row.job → number ≡ n + 3 → StopsAt text count number
unfit text n count number g m c rest row after read fewer next bad at =
    let size : ℕ → Type 0 = λ k. BeginsWithLines text k g m c rest in
    let fits : ℕ → Type 0 = λ k. ¬ Fits k (entries_below g k + length row.job.parents) row.job in
    record {
      graph = g;
      marks = m;
      charges = c;
      rest = rest;
      read = subst size (sym read.counted) read;
      fewer = omega (arith, read.counted, fewer);
      no_next = no_fit g rest row after next (subst fits (sym read.counted) bad);
      numbered = omega (arith, read.counted, at);
    }

pub rows_fit : (text : List ℕ) (n : ℕ) (g new : List Vertex) (m marks : List Mark) (c charges : Charges) (rest : List ℕ) (row : Row) (after : List ℕ) → BeginsWithLines text n g m c rest → BeginsWithRow rest row after → Fits n (entries_below g n + length row.job.parents) row.job → new ≡ g ++ row.job ∷ [] → marks ≡ m ++ row.mark ∷ [] → charges ≡ more_charges c row → BeginsWithLines text (n + 1) new marks charges after
rows_fit text n g new m marks c charges rest row after read next fits vs ms cs =
    let at : ℕ → Type 0 = λ k. Fits k (entries_below g k + length row.job.parents) row.job in
    rows_more text n g new m marks c charges rest row after read next (subst at (sym read.counted) fits) vs ms cs

pub entries_pushed : (text : List ℕ) (n entries : ℕ) (g new : List Vertex) (m : List Mark) (c : Charges) (rest : List ℕ) (job : Vertex) → BeginsWithLines text n g m c rest → entries ≡ entries_below g n → new ≡ g ++ job ∷ [] → entries + length job.parents ≡ entries_below new (n + 1)
entries_pushed text n entries g new m c rest job read is more =
    let pushed : List Vertex = g ++ job ∷ [] in
    let same : entries_below g n ≡ entries_below pushed n = entries_same g pushed n (λ i l. sym (vertex_before g job i (omega (arith, read.counted)))) in
    let last : vertex pushed n ≡ job = ap (λ k. vertex pushed k) (sym read.counted) ∙ vertex_at g job in
    ap (λ e. e + length job.parents) (is ∙ same)
    ∙ ap (λ (v : Vertex). entries_below pushed n + length v.parents) (sym last)
    ∙ sym (entries_more pushed n)
    ∙ ap (λ t. entries_below t (n + 1)) (sym more)
