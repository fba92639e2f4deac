use Rattle.std.proofs.Common.{◌≡◌, ℕ, zero, suc, ◌+◌, ◌<◌, ◌≤◌, inl, inr, false, List, [], ◌∷◌, ◌++◌, length, get_or, All, None, sym, refl, ap, ◌∙◌, subst, arith, rules}
use Rattle.std.proofs.lemmas.List.{length-append, get_or_append_left, get_or_push}
use Rattle.std.proofs.lemmas.List.Elements.{All-head, All-tail, All-cons, All-nil, All-push, All-get_or}
use Rattle.plan_checker.specs.declared.vertex.Vertex.{Vertex}
use Rattle.plan_checker.specs.declared.plan.Mark.{Mark}
use Rattle.plan_checker.specs.declared.plan.Mark.TheVariants.{Prune}
use Rattle.plan_checker.specs.declared.charges.Charges.{Charges}
use Rattle.plan_checker.specs.declared.row.Row.{Row}
use Rattle.plan_checker.specs.declared.graph.TheConstants.{MOST_VERTICES, MOST_ENTRIES}
use Rattle.plan_checker.specs.Graph.{vertex, no_vertex, entries_below, Fits, FitsAt, IsGraph}
use Rattle.plan_checker.specs.Plan.{mark}
use Rattle.plan_checker.specs.Charges.{passes, IsCounted}
use Rattle.plan_checker.specs.Format.{IsSmall, pairs, row_numbers, row, line, lines, IsWhole, AreSmall}
use Rattle.plan_checker.specs.inner.Reading.{IsRow, FitsNext, more_charges}
use Rattle.plan_checker.proofs.SumsBelow.{below_or_last, sum_below_same, sum_below_more}

pub entries_same : (g h : List Vertex) (n : ℕ) → ((i : ℕ) → i < n → vertex g i ≡ vertex h i) → entries_below g n ≡ entries_below h n
entries_same g h n same =
    sum_below_same n (λ i. length (vertex g i).parents) (λ i. length (vertex h i).parents) (λ i l. ap (λ (v : Vertex). length v.parents) (same i l))

pub entries_more : (g : List Vertex) (n : ℕ) → entries_below g (n + 1) ≡ entries_below g n + length (vertex g n).parents
entries_more g n = sum_below_more n (λ i. length (vertex g i).parents)

row_of : Vertex → Mark → ℕ → ℕ → ℕ → List ℕ → Row
row_of v m e t p ws = record { job = v; mark = m; enter = e; through = t; pay = p; amounts = ws }

rows_same : (v w : Vertex) (m n : Mark) (e f t u p q : ℕ) (ws bs : List ℕ) → v ≡ w → m ≡ n → e ≡ f → t ≡ u → p ≡ q → ws ≡ bs → row_of v m e t p ws ≡ row_of w n f u q bs
rows_same v w m n e f t u p q ws bs a b c d x y =
    ap (λ z. row_of z m e t p ws) a
    ∙ ap (λ z. row_of w z e t p ws) b
    ∙ ap (λ z. row_of w n z t p ws) c
    ∙ ap (λ z. row_of w n f z p ws) d
    ∙ ap (λ z. row_of w n f u z ws) x
    ∙ ap (λ z. row_of w n f u q z) y

pub vertex_before : (g : List Vertex) (v : Vertex) (i : ℕ) → i < length g → vertex (g ++ v ∷ []) i ≡ vertex g i
vertex_before g v i h = get_or_append_left g (v ∷ []) no_vertex i h

pub vertex_at : (g : List Vertex) (v : Vertex) → vertex (g ++ v ∷ []) (length g) ≡ v
vertex_at g v = get_or_push g v no_vertex (length g) refl

-- one row more leaves the rows before it
pub row_before : (g : List Vertex) (m : List Mark) (c : Charges) (r : Row) (i : ℕ) → length m ≡ length g → IsCounted g c → i < length g → row (g ++ r.job ∷ []) (m ++ r.mark ∷ []) (more_charges c r) i ≡ row g m c i
unfolding row_of
row_before g m c r i hm hc h =
    let im : i < length m = omega arith in
    let ie : i < length c.enter = omega (arith, hc.enters) in
    let it : i < length c.through = omega (arith, hc.throughs) in
    let ip : i < length c.pay = omega (arith, hc.pays) in
    let iw : i < length c.pass = omega (arith, hc.passing) in
    rows_same _ _ _ _ _ _ _ _ _ _ _ _
    (vertex_before g r.job i h)
    (get_or_append_left m (r.mark ∷ []) Prune i im)
    (get_or_append_left c.enter (r.enter ∷ []) 0 i ie)
    (get_or_append_left c.through (r.through ∷ []) 0 i it)
    (get_or_append_left c.pay (r.pay ∷ []) 0 i ip)
    (get_or_append_left c.pass (r.amounts ∷ []) [] i iw)

-- and is the last one
pub row_at : (g : List Vertex) (m : List Mark) (c : Charges) (r : Row) → length m ≡ length g → IsCounted g c → row (g ++ r.job ∷ []) (m ++ r.mark ∷ []) (more_charges c r) (length g) ≡ r
unfolding row_of
row_at g m c r hm hc =
    let same : row_of (vertex (g ++ r.job ∷ []) (length g)) (mark (m ++ r.mark ∷ []) (length g)) (get_or (more_charges c r).enter (length g) 0) (get_or (more_charges c r).through (length g) 0) (get_or (more_charges c r).pay (length g) 0) (passes (more_charges c r) (length g)) ≡ row_of r.job r.mark r.enter r.through r.pay r.amounts =
    rows_same _ _ _ _ _ _ _ _ _ _ _ _
    (vertex_at g r.job)
    (get_or_push m r.mark Prune (length g) hm)
    (get_or_push c.enter r.enter 0 (length g) hc.enters)
    (get_or_push c.through r.through 0 (length g) hc.throughs)
    (get_or_push c.pay r.pay 0 (length g) hc.pays)
    (get_or_push c.pass r.amounts [] (length g) hc.passing)
    in
    same

pub fits_kept : (i a b : ℕ) (v w : Vertex) → a ≡ b → v ≡ w → Fits i a v → Fits i b w
fits_kept i a b v w e s h =
    let at : Vertex → Type 0 = λ x. Fits i b x in
    let with : ℕ → Type 0 = λ x. Fits i x v in
    subst at s (subst with e h)

graph_pushed : (g : List Vertex) (r : Row) → IsGraph g → FitsNext g r → IsGraph (g ++ r.job ∷ [])
graph_pushed g r hg next i h =
    let inside : i < suc (length g) = omega (arith, length-append g (r.job ∷ [])) in
    elim (below_or_last (length g) i inside) [
      | inl before ↦
          let same : entries_below g (i + 1) ≡ entries_below (g ++ r.job ∷ []) (i + 1) =
          entries_same g (g ++ r.job ∷ []) (i + 1) (λ k l. sym (vertex_before g r.job k (omega arith)))
          in
          fits_kept i _ _ _ _ same (sym (vertex_before g r.job i before)) (hg i before)
      | inr last ↦
          let new : List Vertex = g ++ r.job ∷ [] in
          let same : entries_below g (length g) ≡ entries_below new (length g) =
          entries_same g new (length g) (λ k l. sym (vertex_before g r.job k l))
          in
          let all : entries_below g (length g) + length r.job.parents ≡ entries_below new (length g + 1) =
          ap (λ a. a + length r.job.parents) same
          ∙ ap (λ (v : Vertex). entries_below new (length g) + length v.parents) (sym (vertex_at g r.job))
          ∙ sym (entries_more new (length g))
          in
          let at : ℕ → Type 0 = λ k. FitsAt new k in
          subst at (sym last) (fits_kept (length g) _ _ _ _ all (sym (vertex_at g r.job)) next)
    ]

counted_pushed : (g : List Vertex) (c : Charges) (r : Row) → IsCounted g c → length r.amounts ≡ length r.job.parents → IsCounted (g ++ r.job ∷ []) (more_charges c r)
counted_pushed g c r hc one = record {
  enters = omega (arith, hc.enters, length-append c.enter (r.enter ∷ []), length-append g (r.job ∷ []));
  throughs = omega (arith, hc.throughs, length-append c.through (r.through ∷ []), length-append g (r.job ∷ []));
  pays = omega (arith, hc.pays, length-append c.pay (r.pay ∷ []), length-append g (r.job ∷ []));
  passing = omega (arith, hc.passing, length-append c.pass (r.amounts ∷ []), length-append g (r.job ∷ []));
  each_pass = λ i h.
      let inside : i < suc (length g) = omega (arith, length-append g (r.job ∷ [])) in
      elim (below_or_last (length g) i inside) [
        | inl before ↦
            let iw : i < length c.pass = omega (arith, hc.passing) in
            ap (λ (t : List ℕ). length t) (get_or_append_left c.pass (r.amounts ∷ []) [] i iw)
            ∙ hc.each_pass i before
            ∙ sym (ap (λ (v : Vertex). length v.parents) (vertex_before g r.job i before))
        | inr last ↦
            let at : ℕ → Type 0 = λ k. length (passes (more_charges c r) k) ≡ length (vertex (g ++ r.job ∷ []) k).parents in
            subst at (sym last) (ap (λ (t : List ℕ). length t) (get_or_push c.pass r.amounts [] (length g) hc.passing) ∙ one ∙ sym (ap (λ (v : Vertex). length v.parents) (vertex_at g r.job)))
      ];
}

amounts_small : (ps ws : List ℕ) → length ws ≡ length ps → All IsSmall (pairs ps ws) → All IsSmall ws
amounts_small [] [] h s = s
amounts_small [] (w ∷ ws) h s = absurd (omega arith)
amounts_small (p ∷ ps) [] h s = absurd (omega arith)
amounts_small (p ∷ ps) (w ∷ ws) h s =
    let rest : All IsSmall (w ∷ pairs ps ws) = All-tail IsSmall p (w ∷ pairs ps ws) s in
    All-cons IsSmall w ws (All-head IsSmall w (pairs ps ws) rest) (amounts_small ps ws (omega arith) (All-tail IsSmall w (pairs ps ws) rest))

pairs_small : (ps ws : List ℕ) → All IsSmall ps → All IsSmall ws → All IsSmall (pairs ps ws)
pairs_small [] ws p q = All-nil IsSmall
pairs_small (p ∷ ps) [] a b = All-nil IsSmall
pairs_small (p ∷ ps) (w ∷ ws) a b =
    All-cons IsSmall p (w ∷ pairs ps ws) (All-head IsSmall p ps a) (All-cons IsSmall w (pairs ps ws) (All-head IsSmall w ws b) (pairs_small ps ws (All-tail IsSmall p ps a) (All-tail IsSmall w ws b)))

small_pushed : (c : Charges) (r : Row) → AreSmall c → IsRow r → AreSmall (more_charges c r)
small_pushed c r hc hr =
    let s0 : All IsSmall (row_numbers r) = hr.numbers_small in
    let l5 : List ℕ = pairs r.job.parents r.amounts in
    let l4 : List ℕ = length r.job.parents ∷ l5 in
    let l3 : List ℕ = r.pay ∷ l4 in
    let l2 : List ℕ = r.through ∷ l3 in
    let l1 : List ℕ = r.enter ∷ l2 in
    let s1 : All IsSmall l1 = All-tail IsSmall r.job.compute l1 s0 in
    let s2 : All IsSmall l2 = All-tail IsSmall r.enter l2 s1 in
    let s3 : All IsSmall l3 = All-tail IsSmall r.through l3 s2 in
    let s4 : All IsSmall l4 = All-tail IsSmall r.pay l4 s3 in
    let s5 : All IsSmall l5 = All-tail IsSmall (length r.job.parents) l5 s4 in
    record {
      enters = All-push IsSmall c.enter r.enter hc.enters (All-head IsSmall r.enter l2 s1);
      throughs = All-push IsSmall c.through r.through hc.throughs (All-head IsSmall r.through l3 s2);
      pays = All-push IsSmall c.pay r.pay hc.pays (All-head IsSmall r.pay l4 s3);
      passing = All-push (All IsSmall) c.pass r.amounts hc.passing (amounts_small r.job.parents r.amounts hr.one_each s5);
    }

-- one row more that fits makes a whole certificate of a whole one
pub whole_pushed : (g : List Vertex) (m : List Mark) (c : Charges) (r : Row) → IsWhole g m c → IsRow r → FitsNext g r → IsWhole (g ++ r.job ∷ []) (m ++ r.mark ∷ []) (more_charges c r)
whole_pushed g m c r h hr next = record {
  graph_fits = graph_pushed g r h.graph_fits next;
  marks_counted = omega (arith, h.marks_counted, length-append m (r.mark ∷ []), length-append g (r.job ∷ []));
  charges_counted = counted_pushed g c r h.charges_counted hr.one_each;
  charges_small = small_pushed c r h.charges_small hr;
}

pub nothing : Charges
nothing = record { enter = []; through = []; pay = []; pass = [] }

-- the certificate of no vertices
pub whole_none : IsWhole [] [] (record { enter = []; through = []; pay = []; pass = [] })
whole_none = record {
  graph_fits = λ i h. absurd (omega arith);
  marks_counted = refl;
  charges_counted = record { enters = refl; throughs = refl; pays = refl; passing = refl; each_pass = λ i h. absurd (omega arith) };
  charges_small = record { enters = All-nil IsSmall; throughs = All-nil IsSmall; pays = All-nil IsSmall; passing = All-nil (All IsSmall) };
}

-- a whole certificate's rows can be written
pub whole_row : (g : List Vertex) (m : List Mark) (c : Charges) (i : ℕ) → IsWhole g m c → i < length g → IsRow (row g m c i)
whole_row g m c i h l =
    let fits : FitsAt g i = h.graph_fits i l in
    let one : length (passes c i) ≡ length (vertex g i).parents = h.charges_counted.each_pass i l in
    let ie : i < length c.enter = omega (arith, h.charges_counted.enters) in
    let it : i < length c.through = omega (arith, h.charges_counted.throughs) in
    let ip : i < length c.pay = omega (arith, h.charges_counted.pays) in
    let iw : i < length c.pass = omega (arith, h.charges_counted.passing) in
    let few : length (vertex g i).parents ≤ MOST_ENTRIES = omega (arith, fits.few_entries, entries_more g i) in
    let parents : All IsSmall (vertex g i).parents =
    λ k d lk. let below = fits.below k d lk in let vertices = fits.few_vertices in omega arith
    in
    let l5 : List ℕ = pairs (vertex g i).parents (passes c i) in
    let l4 : List ℕ = length (vertex g i).parents ∷ l5 in
    let l3 : List ℕ = get_or c.pay i 0 ∷ l4 in
    let l2 : List ℕ = get_or c.through i 0 ∷ l3 in
    let l1 : List ℕ = get_or c.enter i 0 ∷ l2 in
    record {
      one_each = one;
      load_small = λ n e. let cheap = fits.load_cost n e in omega arith;
      numbers_small =
          All-cons IsSmall (vertex g i).compute l1 (omega (arith, fits.compute_cost))
          (All-cons IsSmall (get_or c.enter i 0) l2 (All-get_or IsSmall c.enter i 0 ie h.charges_small.enters)
          (All-cons IsSmall (get_or c.through i 0) l3 (All-get_or IsSmall c.through i 0 it h.charges_small.throughs)
          (All-cons IsSmall (get_or c.pay i 0) l4 (All-get_or IsSmall c.pay i 0 ip h.charges_small.pays)
          (All-cons IsSmall (length (vertex g i).parents) l5 (omega arith)
          (pairs_small (vertex g i).parents (passes c i) parents (All-get_or (All IsSmall) c.pass i [] iw h.charges_small.passing))))));
    }

-- a job without parents
plain : Row
plain = record { job = record { load = None; compute = 1; parents = []; needed = false }; mark = Prune; enter = 0; through = 0; pay = 0; amounts = [] }

plain_row : IsRow plain
unfolding plain
plain_row = record {
  one_each = refl;
  load_small = λ n e. absurd (cc);
  numbers_small =
      All-cons IsSmall 1 (0 ∷ 0 ∷ 0 ∷ 0 ∷ []) (omega arith) (All-cons IsSmall 0 (0 ∷ 0 ∷ 0 ∷ []) (omega arith) (All-cons IsSmall 0 (0 ∷ 0 ∷ []) (omega arith) (All-cons IsSmall 0 (0 ∷ []) (omega arith) (All-cons IsSmall 0 [] (omega arith) (All-nil IsSmall)))));
}

few_entries_all : (g : List Vertex) (n : ℕ) → IsGraph g → n ≤ length g → entries_below g n ≤ MOST_ENTRIES
few_entries_all g zero h l = omega arith
few_entries_all g (suc n) h l =
    let fits : FitsAt g n = h n (omega arith) in
    let few : entries_below g (n + 1) ≤ MOST_ENTRIES = fits.few_entries in
    omega (arith, few, entries_more g n)

plain_fits : (g : List Vertex) → IsGraph g → length g < MOST_VERTICES → FitsNext g plain
unfolding plain
plain_fits g h few = record {
  few_vertices = few;
  few_entries = let all = few_entries_all g (length g) h (omega arith) in omega arith;
  load_cost = λ n e. absurd (cc);
  compute_cost = ((omega arith), (omega arith));
  below = All-nil (λ p. p < length g);
  rising = search rules;
}

-- a certificate of k vertices more with the same rows before them
pub record Extends (g : List Vertex) (m : List Mark) (c : Charges) (k : ℕ) : Type 0 where
  pub graph : List Vertex
  pub marks : List Mark
  pub charges : Charges
  pub whole : IsWhole graph marks charges
  pub counted : length graph ≡ length g + k
  pub same : (i : ℕ) → i < length g → row graph marks charges i ≡ row g m c i

-- there is one within the limit
pub extended : (g : List Vertex) (m : List Mark) (c : Charges) (k : ℕ) → IsWhole g m c → length g + k ≤ MOST_VERTICES → Extends g m c k
extended g m c zero h few = record { graph = g; marks = m; charges = c; whole = h; counted = omega arith; same = λ i l. refl }
extended g m c (suc k) h few =
    let new : List Vertex = g ++ plain.job ∷ [] in
    let longer : length new ≡ length g + 1 = length-append g (plain.job ∷ []) in
    let whole = whole_pushed g m c plain h plain_row (plain_fits g h.graph_fits (omega arith)) in
    let rest : Extends new (m ++ plain.mark ∷ []) (more_charges c plain) k =
    extended new (m ++ plain.mark ∷ []) (more_charges c plain) k whole (omega arith)
    in
    record {
      graph = rest.graph;
      marks = rest.marks;
      charges = rest.charges;
      whole = rest.whole;
      counted = omega (arith, rest.counted);
      same = λ i l. rest.same i (omega arith) ∙ row_before g m c plain i h.marks_counted h.charges_counted l;
    }

-- equal rows have equal lines
pub lines_same : (g h : List Vertex) (m n : List Mark) (c d : Charges) (k : ℕ) → ((i : ℕ) → i < k → row g m c i ≡ row h n d i) → lines g m c k ≡ lines h n d k
lines_same g h m n c d zero same = refl
lines_same g h m n c d (suc k) same =
    let before : lines g m c k ≡ lines h n d k = lines_same g h m n c d k (λ i l. same i (omega arith)) in
    let last : row g m c k ≡ row h n d k = same k (omega arith) in
    ap (λ t. t ++ line (row g m c k)) before ∙ ap (λ r. lines h n d k ++ line r) last

-- the lines with those of one row more
pub lines_pushed : (g : List Vertex) (m : List Mark) (c : Charges) (r : Row) → length m ≡ length g → IsCounted g c → lines (g ++ r.job ∷ []) (m ++ r.mark ∷ []) (more_charges c r) (suc (length g)) ≡ lines g m c (length g) ++ line r
lines_pushed g m c r hm hc =
    ap (λ t. t ++ line (row (g ++ r.job ∷ []) (m ++ r.mark ∷ []) (more_charges c r) (length g))) (lines_same _ g _ m _ c (length g) (λ i l. row_before g m c r i hm hc l))
    ∙ ap (λ x. lines g m c (length g) ++ line x) (row_at g m c r hm hc)
