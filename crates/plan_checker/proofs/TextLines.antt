use Rattle.std.proofs.Common.{◌≡◌, ℕ, zero, suc, ◌+◌, ◌<◌, ◌≤◌, ◌^◌, inl, inr, List, [], ◌∷◌, ◌++◌, length, get_or, sym, ap, ◌∙◌, subst, arith, zero-add}
use Rattle.std.proofs.lemmas.List.{append_assoc, append-nil, append_cancel_left, ext_get_or}
use Rattle.plan_checker.specs.declared.vertex.Vertex.{Vertex}
use Rattle.plan_checker.specs.declared.plan.Mark.{Mark}
use Rattle.plan_checker.specs.declared.plan.Mark.TheVariants.{Prune}
use Rattle.plan_checker.specs.declared.charges.Charges.{Charges}
use Rattle.plan_checker.specs.declared.row.Row.{Row}
use Rattle.plan_checker.specs.declared.graph.TheConstants.{MOST_VERTICES}
use Rattle.plan_checker.specs.Graph.{no_vertex, FitsAt}
use Rattle.plan_checker.specs.Format.{IsSmall, spaced, row, line, lines, title, count_line, last_line, certificate_text, first_lines, IsWhole}
use Rattle.plan_checker.specs.inner.Reading.{IsRow}
use Rattle.plan_checker.proofs.SumsBelow.{below_or_last}
use Rattle.plan_checker.proofs.Numbers.{numbers_once}
use Rattle.std.proofs.lemmas.List.Elements.{All-cons, All-nil}
use Rattle.plan_checker.proofs.Rows.{line_once}
use Rattle.plan_checker.proofs.FirstLines.{line_ahead, row_is_line, title_is_line, count_is_line}
use Rattle.plan_checker.proofs.Pushed.{whole_row}

-- the lines of d vertices from the one of number k on
abbrev pub lines_from : List Vertex → List Mark → Charges → ℕ → ℕ → List ℕ
lines_from g m c k zero = []
lines_from g m c k (suc d) = line (row g m c k) ++ lines_from g m c (suc k) d

-- lines are the first ones and those after them
pub lines_split : (g : List Vertex) (m : List Mark) (c : Charges) (k d : ℕ) → lines g m c (k + d) ≡ lines g m c k ++ lines_from g m c k d
lines_split g m c k zero =
    let e : k + 0 ≡ k = omega arith in
    ap (λ n. lines g m c n) e ∙ sym (append-nil (lines g m c k))
lines_split g m c k (suc d) =
    let e : k + suc d ≡ suc k + d = omega arith in
    ap (λ n. lines g m c n) e
    ∙ lines_split g m c (suc k) d
    ∙ append_assoc (lines g m c k) (line (row g m c k)) (lines_from g m c (suc k) d)

-- the first lines behind k lines of vertices
pub lines_ahead : (g : List Vertex) (m : List Mark) (c : Charges) (k n : ℕ) (x : List ℕ) → ((i : ℕ) → i < k → IsRow (row g m c i)) → first_lines (k + n) (lines g m c k ++ x) ≡ lines g m c k ++ first_lines n x
lines_ahead g m c zero n x good = ap (λ j. first_lines j x) (zero-add n)
lines_ahead g m c (suc k) n x good =
    let e : suc k + n ≡ k + suc n = omega arith in
    let before : List ℕ = lines g m c k in
    let last : List ℕ = line (row g m c k) in
    ap (λ j. first_lines j ((before ++ last) ++ x)) e
    ∙ ap (λ t. first_lines (k + suc n) t) (append_assoc before last x)
    ∙ lines_ahead g m c k (suc n) (last ++ x) (λ i l. good i (omega arith))
    ∙ ap (λ t. before ++ t) (line_ahead last x n (row_is_line (row g m c k) (good k (omega arith))))
    ∙ sym (append_assoc before last (first_lines n x))

-- lines of vertices are read in one way
pub lines_once : (g h : List Vertex) (m o : List Mark) (c d : Charges) (n : ℕ) (x y : List ℕ) → ((i : ℕ) → i < n → IsRow (row g m c i)) → ((i : ℕ) → i < n → IsRow (row h o d i)) → lines g m c n ++ x ≡ lines h o d n ++ y → ((i : ℕ) → i < n → row g m c i ≡ row h o d i) × (x ≡ y)
lines_once g h m o c d zero x y p q e = ((λ i l. absurd (omega arith)), e)
lines_once g h m o c d (suc n) x y p q e =
    let grouped : lines g m c n ++ (line (row g m c n) ++ x) ≡ lines h o d n ++ (line (row h o d n) ++ y) =
    sym (append_assoc (lines g m c n) (line (row g m c n)) x) ∙ e ∙ append_assoc (lines h o d n) (line (row h o d n)) y
    in
    let before : ((i : ℕ) → i < n → row g m c i ≡ row h o d i) × (line (row g m c n) ++ x ≡ line (row h o d n) ++ y) =
    lines_once g h m o c d n _ _ (λ i l. p i (omega arith)) (λ i l. q i (omega arith)) grouped
    in
    let last : (row g m c n ≡ row h o d n) × (x ≡ y) = line_once (row g m c n) (row h o d n) x y (p n (omega arith)) (q n (omega arith)) before.1 in
    let equal : ℕ → Type 0 = λ i. row g m c i ≡ row h o d i in
    ((λ i l. elim (below_or_last n i l) [ inl lt ↦ before.0 i lt | inr e ↦ subst equal (sym e) last.0 ]), last.1)

-- the line of the count is read in one way
pub count_once : (n k : ℕ) (x y : List ℕ) → IsSmall n → IsSmall k → count_line n ++ x ≡ count_line k ++ y → (n ≡ k) × (x ≡ y)
count_once n k x y small_n small_k e =
    let tail : (spaced (n ∷ []) ++ 10 ∷ []) ++ x ≡ (spaced (k ∷ []) ++ 10 ∷ []) ++ y = cc in
    let grouped : spaced (n ∷ []) ++ 10 ∷ x ≡ spaced (k ∷ []) ++ 10 ∷ y =
    sym (append_assoc (spaced (n ∷ [])) (10 ∷ []) x) ∙ tail ∙ append_assoc (spaced (k ∷ [])) (10 ∷ []) y
    in
    let both : (n ∷ [] ≡ k ∷ []) × (x ≡ y) =
    numbers_once (n ∷ []) (k ∷ []) x y (All-cons IsSmall n [] small_n (All-nil IsSmall)) (All-cons IsSmall k [] small_k (All-nil IsSmall)) grouped
    in
    (ap (λ t. get_or t 0 0) both.0, both.1)

-- the first lines behind the first two
pub head_ahead : (count n : ℕ) (x : List ℕ) → IsSmall count → first_lines (suc (suc n)) (title ++ (count_line count ++ x)) ≡ title ++ (count_line count ++ first_lines n x)
head_ahead count n x small =
    line_ahead title (count_line count ++ x) (suc n) title_is_line ∙ ap (λ t. title ++ t) (line_ahead (count_line count) x n (count_is_line count small))

-- a certificate's text, grouped from its end
pub text_grouped : (g : List Vertex) (m : List Mark) (c : Charges) → certificate_text g m c ≡ title ++ (count_line (length g) ++ (lines g m c (length g) ++ last_line))
text_grouped g m c =
    append_assoc (title ++ count_line (length g)) (lines g m c (length g)) last_line
    ∙ append_assoc title (count_line (length g)) (lines g m c (length g) ++ last_line)

-- a whole certificate has no more vertices than any graph
pub few_vertices : (g : List Vertex) (m : List Mark) (c : Charges) → IsWhole g m c → length g ≤ MOST_VERTICES
few_vertices [] m c h = omega arith
few_vertices (v ∷ g) m c h =
    let fits : FitsAt (v ∷ g) (length g) = h.graph_fits (length g) (omega arith) in
    let few : length g < MOST_VERTICES = fits.few_vertices in
    omega arith

-- the first lines of a certificate's text behind its first k vertices
pub text_ahead : (g : List Vertex) (m : List Mark) (c : Charges) (k d n : ℕ) → IsWhole g m c → length g ≡ k + d → first_lines (suc (suc (k + n))) (certificate_text g m c) ≡ title ++ (count_line (length g) ++ (lines g m c k ++ first_lines n (lines_from g m c k d ++ last_line)))
text_ahead g m c k d n h e =
    let rest : List ℕ = lines_from g m c k d ++ last_line in
    let small : length g < 2 ^ 64 = let few = few_vertices g m c h in omega arith in
    let split : lines g m c (length g) ++ last_line ≡ lines g m c k ++ rest =
    ap (λ j. lines g m c j ++ last_line) e
    ∙ ap (λ t. t ++ last_line) (lines_split g m c k d)
    ∙ append_assoc (lines g m c k) (lines_from g m c k d) last_line
    in
    ap (λ t. first_lines (suc (suc (k + n))) t) (text_grouped g m c)
    ∙ head_ahead (length g) (k + n) (lines g m c (length g) ++ last_line) small
    ∙ ap (λ t. title ++ (count_line (length g) ++ first_lines (k + n) t)) split
    ∙ ap (λ t. title ++ (count_line (length g) ++ t)) (lines_ahead g m c k n rest (λ i l. whole_row g m c i h (omega arith)))

charges_from : List ℕ → List ℕ → List ℕ → List (List ℕ) → Charges
charges_from e t p w = record { enter = e; through = t; pay = p; pass = w }

charges_same : (c d : Charges) → c.enter ≡ d.enter → c.through ≡ d.through → c.pay ≡ d.pay → c.pass ≡ d.pass → c ≡ d
unfolding charges_from
charges_same c d e t p w =
    let same : charges_from c.enter c.through c.pay c.pass ≡ charges_from d.enter d.through d.pay d.pass =
    ap (λ x. charges_from x c.through c.pay c.pass) e
    ∙ ap (λ x. charges_from d.enter x c.pay c.pass) t
    ∙ ap (λ x. charges_from d.enter d.through x c.pass) p
    ∙ ap (λ x. charges_from d.enter d.through d.pay x) w
    in
    same

-- certificates of one text are one
pub texts_once : (g h : List Vertex) (m o : List Mark) (c d : Charges) → IsWhole g m c → IsWhole h o d → certificate_text g m c ≡ certificate_text h o d → (g ≡ h) × (m ≡ o) × (c ≡ d)
texts_once g h m o c d p q e =
    let small_g : length g < 2 ^ 64 = let few = few_vertices g m c p in omega arith in
    let small_h : length h < 2 ^ 64 = let few = few_vertices h o d q in omega arith in
    let counts : (length g ≡ length h) × (lines g m c (length g) ++ last_line ≡ lines h o d (length h) ++ last_line) =
    count_once (length g) (length h) _ _ small_g small_h (append_cancel_left title _ _ (sym (text_grouped g m c) ∙ e ∙ text_grouped h o d))
    in
    let n : length g ≡ length h = counts.0 in
    let again : lines g m c (length g) ++ last_line ≡ lines h o d (length g) ++ last_line =
    counts.1 ∙ ap (λ j. lines h o d j ++ last_line) (sym n)
    in
    let rows : (i : ℕ) → i < length g → row g m c i ≡ row h o d i =
    (lines_once g h m o c d (length g) last_line last_line (λ i l. whole_row g m c i p l) (λ i l. whole_row h o d i q (omega arith)) again).0
    in
    let enters : c.enter ≡ d.enter = ext_get_or 0 c.enter d.enter (omega (arith, p.charges_counted.enters, q.charges_counted.enters)) (λ i l. ap (λ (r : Row). r.enter) (rows i (omega (arith, p.charges_counted.enters)))) in
    let throughs : c.through ≡ d.through = ext_get_or 0 c.through d.through (omega (arith, p.charges_counted.throughs, q.charges_counted.throughs)) (λ i l. ap (λ (r : Row). r.through) (rows i (omega (arith, p.charges_counted.throughs)))) in
    let pays : c.pay ≡ d.pay = ext_get_or 0 c.pay d.pay (omega (arith, p.charges_counted.pays, q.charges_counted.pays)) (λ i l. ap (λ (r : Row). r.pay) (rows i (omega (arith, p.charges_counted.pays)))) in
    let passing : c.pass ≡ d.pass = ext_get_or [] c.pass d.pass (omega (arith, p.charges_counted.passing, q.charges_counted.passing)) (λ i l. ap (λ (r : Row). r.amounts) (rows i (omega (arith, p.charges_counted.passing)))) in (
      ext_get_or no_vertex g h n (λ i l. ap (λ (r : Row). r.job) (rows i l)),
      ext_get_or Prune m o (omega (arith, p.marks_counted, q.marks_counted)) (λ i l. ap (λ (r : Row). r.mark) (rows i (omega (arith, p.marks_counted)))),
      charges_same c d enters throughs pays passing,
    )
