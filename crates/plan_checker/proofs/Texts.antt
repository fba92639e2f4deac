use Rattle.std.proofs.Common.{◌≡◌, ℕ, suc, ◌+◌, ◌<◌, List, [], ◌∷◌, ◌++◌, length, get_or, take, sym, refl, ap, ◌∙◌, arith}
use Rattle.std.specs.Fmt.{decimal}
use Rattle.std.proofs.lemmas.List.{append_assoc, append-nil, take_more, length-take-le}
use Rattle.plan_checker.specs.declared.vertex.Vertex.{Vertex}
use Rattle.plan_checker.specs.declared.plan.Mark.{Mark}
use Rattle.plan_checker.specs.declared.charges.Charges.{Charges}
use Rattle.plan_checker.specs.Graph.{vertex}
use Rattle.plan_checker.specs.Plan.{mark}
use Rattle.plan_checker.specs.Charges.{passes}
use Rattle.plan_checker.specs.Format.{spaced, pairs, letter, flag, load_field, line, lines, row}

pub spaced-append : (xs ys : List ℕ) → spaced (xs ++ ys) ≡ spaced xs ++ spaced ys
spaced-append [] ys = refl
spaced-append (x ∷ xs) ys =
    ap (λ rest. (32 ∷ decimal x) ++ rest) (spaced-append xs ys) ∙ sym (append_assoc (32 ∷ decimal x) (spaced xs) (spaced ys))

pub pairs-append : (xs ys ws bs : List ℕ) → length xs ≡ length ws → pairs (xs ++ ys) (ws ++ bs) ≡ pairs xs ws ++ pairs ys bs
pairs-append [] ys [] bs e = refl
pairs-append [] ys (a ∷ ws) bs e = absurd (omega arith)
pairs-append (x ∷ xs) ys [] bs e = absurd (omega arith)
pairs-append (x ∷ xs) ys (a ∷ ws) bs e = ap (λ rest. x ∷ a ∷ rest) (pairs-append xs ys ws bs (omega arith))

pub pairs_more : (xs ws : List ℕ) (i : ℕ) → i < length xs → length ws ≡ length xs → pairs (take (i + 1) xs) (take (i + 1) ws) ≡ pairs (take i xs) (take i ws) ++ get_or xs i 0 ∷ get_or ws i 0 ∷ []
pairs_more xs ws i h e =
    ap (λ ps. pairs ps (take (i + 1) ws)) (take_more xs i 0 h)
    ∙ ap (λ amounts. pairs (take i xs ++ get_or xs i 0 ∷ []) amounts) (take_more ws i 0 (omega arith))
    ∙ pairs-append (take i xs) (get_or xs i 0 ∷ []) (take i ws) (get_or ws i 0 ∷ [])
    (length-take-le i xs (omega arith) ∙ sym (length-take-le i ws (omega arith)))

-- the pairs so far, one pair more, each number behind a space
pub spaced_pairs_more : (xs ws : List ℕ) (i : ℕ) → i < length xs → length ws ≡ length xs → spaced (pairs (take (i + 1) xs) (take (i + 1) ws)) ≡ (spaced (pairs (take i xs) (take i ws)) ++ spaced (get_or xs i 0 ∷ [])) ++ spaced (get_or ws i 0 ∷ [])
spaced_pairs_more xs ws i h e =
    ap spaced (pairs_more xs ws i h e)
    ∙ spaced-append (pairs (take i xs) (take i ws)) (get_or xs i 0 ∷ get_or ws i 0 ∷ [])
    ∙ ap (λ rest. spaced (pairs (take i xs) (take i ws)) ++ rest) (spaced-append (get_or xs i 0 ∷ []) (get_or ws i 0 ∷ []))
    ∙ sym (append_assoc (spaced (pairs (take i xs) (take i ws))) (spaced (get_or xs i 0 ∷ [])) (spaced (get_or ws i 0 ∷ [])))

pub pairs_step : (old cur mid new : List ℕ) (xs ws : List ℕ) (i : ℕ) → i < length xs → length ws ≡ length xs → cur ≡ old ++ spaced (pairs (take i xs) (take i ws)) → mid ≡ cur ++ spaced (get_or xs i 0 ∷ []) → new ≡ mid ++ spaced (get_or ws i 0 ∷ []) → new ≡ old ++ spaced (pairs (take (i + 1) xs) (take (i + 1) ws))
pairs_step old cur mid new xs ws i h e was one two =
    let so_far : List ℕ = spaced (pairs (take i xs) (take i ws)) in
    let p : List ℕ = spaced (get_or xs i 0 ∷ []) in
    let a : List ℕ = spaced (get_or ws i 0 ∷ []) in
    two
    ∙ ap (λ t. t ++ a) (one ∙ ap (λ t. t ++ p) was)
    ∙ ap (λ t. t ++ a) (append_assoc old so_far p)
    ∙ append_assoc old (so_far ++ p) a
    ∙ ap (λ t. old ++ t) (sym (spaced_pairs_more xs ws i h e))

-- a line, piece by piece
regroup : (t s l a b c d k p n : List ℕ) → ((((((((t ++ s) ++ l) ++ a) ++ b) ++ c) ++ d) ++ k) ++ p) ++ n ≡ t ++ (((s ++ l) ++ (a ++ (b ++ (c ++ (d ++ (k ++ p)))))) ++ n)
regroup t s l a b c d k p n = simp append_assoc

one_spaced : (n : ℕ) → spaced (n ∷ []) ≡ 32 ∷ decimal n
one_spaced n = append-nil (32 ∷ decimal n)

line_regroup : (t s l : List ℕ) (a b c d k : ℕ) (ps : List ℕ) → ((((((((t ++ s) ++ l) ++ spaced (a ∷ [])) ++ spaced (b ∷ [])) ++ spaced (c ∷ [])) ++ spaced (d ∷ [])) ++ spaced (k ∷ [])) ++ spaced ps) ++ 10 ∷ [] ≡ t ++ (((s ++ l) ++ spaced (a ∷ b ∷ c ∷ d ∷ k ∷ ps)) ++ 10 ∷ [])
line_regroup t s l a b c d k ps =
    let all : List ℕ → List ℕ → List ℕ → List ℕ → List ℕ → List ℕ = λ v w x y z. t ++ (((s ++ l) ++ (v ++ (w ++ (x ++ (y ++ (z ++ spaced ps)))))) ++ 10 ∷ []) in
    regroup t s l (spaced (a ∷ [])) (spaced (b ∷ [])) (spaced (c ∷ [])) (spaced (d ∷ [])) (spaced (k ∷ [])) (spaced ps) (10 ∷ [])
    ∙ ap (λ v. all v (spaced (b ∷ [])) (spaced (c ∷ [])) (spaced (d ∷ [])) (spaced (k ∷ []))) (one_spaced a)
    ∙ ap (λ w. all (32 ∷ decimal a) w (spaced (c ∷ [])) (spaced (d ∷ [])) (spaced (k ∷ []))) (one_spaced b)
    ∙ ap (λ x. all (32 ∷ decimal a) (32 ∷ decimal b) x (spaced (d ∷ [])) (spaced (k ∷ []))) (one_spaced c)
    ∙ ap (λ y. all (32 ∷ decimal a) (32 ∷ decimal b) (32 ∷ decimal c) y (spaced (k ∷ []))) (one_spaced d)
    ∙ ap (λ z. all (32 ∷ decimal a) (32 ∷ decimal b) (32 ∷ decimal c) (32 ∷ decimal d) z) (one_spaced k)

pub row_pushed : (t0 t1 t2 t3 t4 t5 t6 t7 t8 t9 : List ℕ) (graph : List Vertex) (marks : List Mark) (charges : Charges) (i : ℕ) (job : Vertex) (m : Mark) (e t p n : ℕ) (ps amounts : List ℕ) → job ≡ vertex graph i → m ≡ mark marks i → e ≡ get_or charges.enter i 0 → t ≡ get_or charges.through i 0 → p ≡ get_or charges.pay i 0 → n ≡ length job.parents → ps ≡ job.parents → amounts ≡ passes charges i → t1 ≡ t0 ++ letter m ∷ 32 ∷ flag job.needed ∷ [] → t2 ≡ t1 ++ load_field job.load → t3 ≡ t2 ++ spaced (job.compute ∷ []) → t4 ≡ t3 ++ spaced (e ∷ []) → t5 ≡ t4 ++ spaced (t ∷ []) → t6 ≡ t5 ++ spaced (p ∷ []) → t7 ≡ t6 ++ spaced (n ∷ []) → t8 ≡ t7 ++ spaced (pairs ps amounts) → t9 ≡ t8 ++ 10 ∷ [] → t9 ≡ t0 ++ line (row graph marks charges i)
row_pushed t0 t1 t2 t3 t4 t5 t6 t7 t8 t9 graph marks charges i job m e t p n ps amounts job_is m_is e_is t_is p_is n_is ps_is amounts_is a1 a2 a3 a4 a5 a6 a7 a8 a9 =
    let s : List ℕ = letter m ∷ 32 ∷ flag job.needed ∷ [] in
    let b2 = a2 ∙ ap (λ x. x ++ load_field job.load) a1 in
    let b3 = a3 ∙ ap (λ x. x ++ spaced (job.compute ∷ [])) b2 in
    let b4 = a4 ∙ ap (λ x. x ++ spaced (e ∷ [])) b3 in
    let b5 = a5 ∙ ap (λ x. x ++ spaced (t ∷ [])) b4 in
    let b6 = a6 ∙ ap (λ x. x ++ spaced (p ∷ [])) b5 in
    let b7 = a7 ∙ ap (λ x. x ++ spaced (n ∷ [])) b6 in
    let b8 = a8 ∙ ap (λ x. x ++ spaced (pairs ps amounts)) b7 in
    let b9 = a9 ∙ ap (λ x. x ++ 10 ∷ []) b8 in
    let make : Vertex → Mark → ℕ → ℕ → ℕ → ℕ → List ℕ → List ℕ → List ℕ =
    λ (job : Vertex) (m : Mark) (e : ℕ) (t : ℕ) (p : ℕ) (n : ℕ) (ps : List ℕ) (amounts : List ℕ). t0 ++ (((letter m ∷ 32 ∷ flag job.needed ∷ load_field job.load) ++ spaced (job.compute ∷ e ∷ t ∷ p ∷ n ∷ pairs ps amounts)) ++ 10 ∷ [])
    in
    b9
    ∙ line_regroup t0 s (load_field job.load) job.compute e t p n (pairs ps amounts)
    ∙ ap (λ x. make job m e t p x ps amounts) n_is
    ∙ ap (λ x. make job m e t p (length job.parents) x amounts) ps_is
    ∙ ap (λ (x : Vertex). make x m e t p (length x.parents) x.parents amounts) job_is
    ∙ ap (λ x. make (vertex graph i) x e t p (length (vertex graph i).parents) (vertex graph i).parents amounts) m_is
    ∙ ap (λ x. make (vertex graph i) (mark marks i) x t p (length (vertex graph i).parents) (vertex graph i).parents amounts) e_is
    ∙ ap (λ x. make (vertex graph i) (mark marks i) (get_or charges.enter i 0) x p (length (vertex graph i).parents) (vertex graph i).parents amounts) t_is
    ∙ ap (λ x. make (vertex graph i) (mark marks i) (get_or charges.enter i 0) (get_or charges.through i 0) x (length (vertex graph i).parents) (vertex graph i).parents amounts) p_is
    ∙ ap (λ x. make (vertex graph i) (mark marks i) (get_or charges.enter i 0) (get_or charges.through i 0) (get_or charges.pay i 0) (length (vertex graph i).parents) (vertex graph i).parents x) amounts_is

pub lines_more : (graph : List Vertex) (marks : List Mark) (charges : Charges) (i : ℕ) → lines graph marks charges (i + 1) ≡ lines graph marks charges i ++ line (row graph marks charges i)
lines_more graph marks charges i = let e : i + 1 ≡ suc i = omega arith in ap (lines graph marks charges) e

pub lines_step : (head cur new : List ℕ) (graph : List Vertex) (marks : List Mark) (charges : Charges) (i : ℕ) → cur ≡ head ++ lines graph marks charges i → new ≡ cur ++ line (row graph marks charges i) → new ≡ head ++ lines graph marks charges (i + 1)
lines_step head cur new graph marks charges i was more =
    more
    ∙ ap (λ t. t ++ line (row graph marks charges i)) was
    ∙ append_assoc head (lines graph marks charges i) (line (row graph marks charges i))
    ∙ ap (λ t. head ++ t) (sym (lines_more graph marks charges i))
