use Rattle.std.proofs.Common.{◌≡◌, ℕ, suc, ◌+◌, List, ◌++◌, sym, refl, ap, ◌∙◌, arith}
use Rattle.std.specs.Prelude.{Bool, codes}
use Rattle.std.proofs.lemmas.List.{append_assoc}
use Rattle.plan_checker.specs.declared.vertex.Vertex.{Vertex}
use Rattle.plan_checker.specs.declared.plan.Mark.{Mark}
use Rattle.plan_checker.specs.declared.plan.Mark.TheVariants.{Load, Prune}
use Rattle.plan_checker.specs.Graph.{vertex}
use Rattle.plan_checker.specs.Plan.{mark}
use Rattle.plan_words.specs.Lines.{texts_below}
use Rattle.plan_words.specs.Readers.{readers}
use Rattle.plan_words.specs.Reasons.{has_no_readers, job_start, known_of, pruned_words, readers_words, reason, reason_line}
use Rattle.plan_words.specs.declared.reasons.Known.{Known}

texts_below_more : (n : ℕ) (f : ℕ → List ℕ) → texts_below (n + 1) f ≡ texts_below n f ++ f n
texts_below_more n f = let e : n + 1 ≡ suc n = omega arith in rw e refl

-- one text more behind those so far
pub text_more : (head cur new : List ℕ) (f : ℕ → List ℕ) (i : ℕ) → cur ≡ head ++ texts_below i f → new ≡ cur ++ f i → new ≡ head ++ texts_below (i + 1) f
text_more head cur new f i was more =
    more
    ∙ ap (λ t. t ++ f i) was
    ∙ append_assoc head (texts_below i f) (f i)
    ∙ ap (λ t. head ++ t) (sym (texts_below_more i f))

-- the words on a job that is not needed, in two pieces
pub pruned_from : (old mid new : List ℕ) (loaded pruned : ℕ) (are_none : Bool) → mid ≡ old ++ codes "not needed: no output has its files, and " → are_none ≡ has_no_readers loaded pruned → new ≡ mid ++ readers_words loaded pruned are_none → new ≡ old ++ pruned_words loaded pruned
pruned_from old mid new loaded pruned are_none one none two =
    let rest : List ℕ = readers_words loaded pruned (has_no_readers loaded pruned) in
    two
    ∙ ap (λ (b : Bool). mid ++ readers_words loaded pruned b) none
    ∙ ap (λ t. t ++ rest) one
    ∙ append_assoc old (codes "not needed: no output has its files, and ") rest
