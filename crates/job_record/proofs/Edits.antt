-- What an edit leaves in the table.
use Rattle.std.proofs.Common.{◌≡◌, inl, inr, ℤ, Bool, true, false, not, List, [], ◌∷◌, refl, sym}
use Rattle.std.proofs.lemmas.Bool.{not-true}
use Rattle.std.proofs.Common.{cond}
use Rattle.sqlite.specs.declared.types.Value.{Value}
use Rattle.sqlite.specs.declared.types.Value.TheVariants.{Int}
use Rattle.sqlite.specs.Order.{Row}
use Rattle.sqlite.specs.Kind.TheVariants as kind
use Rattle.sqlite.specs.Cast.{cast}
use Rattle.sqlite.specs.Edit.{without_all}
use Rattle.sqlite_sql.specs.Ops.{unary}
use Rattle.sqlite.specs.Tree.{has_rowid, without_rowid}
use Rattle.sqlite_rules.specs.Lists.{Has}
use Rattle.sqlite_rules.proofs.ListLemmas.{has_filtered, has_kept}

either : (b : Bool) (x : Value) → cond b x x ≡ x
either true x = refl
either false x = refl

pub cast_int : (n : ℤ) → cast kind.Integer (Int n) ≡ Int n
unfolding unary
cast_int n = either _ (Int n)

not_false : (b : Bool) → b ≡ false → not b ≡ true
not_false true h = sym h
not_false false h = refl

pub left_has : (ids : List ℤ) (rows : List Row) (x : Row) → Has rows x → ((id : ℤ) → Has ids id → has_rowid id x ≡ false) → Has (without_all rows ids) x
left_has [] rows x h free = h
left_has (id ∷ ids) rows x h free = left_has ids (without_rowid id rows) x (has_kept _ rows x h (not_false _ (free id (inl refl)))) (λ i there. free i (inr there))

pub has_left : (ids : List ℤ) (rows : List Row) (x : Row) → Has (without_all rows ids) x → Has rows x × ((id : ℤ) → Has ids id → has_rowid id x ≡ false)
has_left [] rows x h = (h, λ id none. absurd none)
has_left (id ∷ ids) rows x h =
    let later = has_left ids (without_rowid id rows) x h in
    let here = has_filtered _ rows x later.0 in
    (here.0, λ i there. elim there [ inl same ↦ rw same (not-true _ here.1) | inr more ↦ later.1 i more ])
