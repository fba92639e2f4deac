-- Places with different marks are different. Which of two places is named first makes no difference.
use Rattle.std.proofs.Common.{◌≡◌, ◌∙◌, Bool, true, false, ap, ap₂, refl, sym}
use Rattle.job_graph.specs.Words.{JobPlace, is_same_place}
use Rattle.job_graph.specs.inner.Marks.{mark_of}
use Rattle.job_graph.proofs.laws_of_walks.Known.{same_place}

by_answer : (p q : JobPlace) (answer : Bool) → is_same_place p q ≡ answer → (mark_of p ≡ mark_of q → ⊥) → answer ≡ false
by_answer p q true is other = absurd (other (ap mark_of (same_place p q is)))
by_answer p q false is other = refl

pub other_mark : (p q : JobPlace) → (mark_of p ≡ mark_of q → ⊥) → is_same_place p q ≡ false
other_mark p q other = by_answer p q (is_same_place p q) refl other

turned : (p q : JobPlace) → p ≡ q → is_same_place p q ≡ is_same_place q p
turned p q same = ap₂ is_same_place same (sym same)

by_both : (p q : JobPlace) (one other : Bool) → is_same_place p q ≡ one → is_same_place q p ≡ other → is_same_place p q ≡ is_same_place q p
by_both p q true other is back = turned p q (same_place p q is)
by_both p q false true is back = sym (turned q p (same_place q p back))
by_both p q false false is back = is ∙ sym back

pub same_either_way : (p q : JobPlace) → is_same_place p q ≡ is_same_place q p
same_either_way p q = by_both p q (is_same_place p q) (is_same_place q p) refl refl
