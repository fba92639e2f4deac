-- Structural induction over values: what holds at each form, where it holds of the values inside, holds of every value.
use Rattle.std.proofs.Common.{ℕ, ℤ, Bool, List, [], ◌∷◌, map, Option, Some, None, subst, sym}
use Rattle.std.specs.List.{AllByRecursion}
use Rattle.std.specs.Option.{IfSome}
use Rattle.plain_data.specs.ByName.{map_values}
use denote.Hole.Holds.{Such}
use Rattle.cwl_value.specs.declared.value.Value.{Value, roll-Value, ind-Value, map-Value}
use Rattle.cwl_value.specs.declared.value.Value as value
use Rattle.cwl_value.specs.declared.value.Value.TheOpen.{Value-F, FileVal-F, DirVal-F}
use Rattle.cwl_value.specs.declared.value.Value.TheVariants.{rolls-Null, rolls-Bool, rolls-Whole, rolls-Text, rolls-FileVal, rolls-DirVal, rolls-List, rolls-Fields}
use Rattle.cwl_value.specs.declared.place.Place.{Place}
use Rattle.cwl_value.specs.declared.value.FileVal.{FileVal, roll-FileVal, map-FileVal, ind-FileVal}
use Rattle.cwl_value.specs.declared.value.DirVal.{DirVal, roll-DirVal, map-DirVal, ind-DirVal}

-- P of values, Q of Files, R of Directories
pub record Cases (P : Value → Type 0) (Q : FileVal → Type 0) (R : DirVal → Type 0) : Type 0 where
  pub null : P value.Null
  pub boolean : (b : Bool) → P (value.Bool b)
  pub whole : (n : ℤ) → P (value.Whole n)
  pub text : (s : List ℕ) → P (value.Text s)
  pub file : (f : FileVal) → Q f → P (value.FileVal f)
  pub dir : (d : DirVal) → R d → P (value.DirVal d)
  pub list : (vs : List Value) → AllByRecursion P vs → P (value.List vs)
  pub fields : (es : List (List ℕ × Value)) → AllByRecursion (λ (e : List ℕ × Value). P e.1) es → P (value.Fields es)
  pub a_file : (f : FileVal-F Value DirVal FileVal) → AllByRecursion P f.secondary → Q (roll-FileVal f)
  pub a_dir : (d : DirVal-F Value DirVal FileVal) → IfSome d.listing (AllByRecursion P) → R (roll-DirVal d)

abbrev values : (P : Value → Type 0) (Q : FileVal → Type 0) (R : DirVal → Type 0) → Type 0
values P Q R = Such value.TheBlock.the_family (value.TheFolds.claims P R Q) value.TheBlock.member-Value

abbrev files : (P : Value → Type 0) (Q : FileVal → Type 0) (R : DirVal → Type 0) → Type 0
files P Q R = Such value.TheBlock.the_family (value.TheFolds.claims P R Q) value.TheBlock.member-FileVal

abbrev dirs : (P : Value → Type 0) (Q : FileVal → Type 0) (R : DirVal → Type 0) → Type 0
dirs P Q R = Such value.TheBlock.the_family (value.TheFolds.claims P R Q) value.TheBlock.member-DirVal

module _ {P : Value → Type 0} {Q : FileVal → Type 0} {R : DirVal → Type 0} (cases : Cases P Q R) where
  each : (ys : List (values P Q R)) → AllByRecursion P (map (λ y. y.0) ys)
  each [] = tt
  each (y ∷ ys) = (y.1, each ys)

  each_field : (ys : List (List ℕ × values P Q R)) → AllByRecursion (λ (e : List ℕ × Value). P e.1) (map_values (λ y. y.0) ys)
  each_field [] = tt
  each_field (y ∷ ys) = (y.1.1, each_field ys)

  -- one level, without what is known of the values inside
  abbrev bare_value : Value-F (values P Q R) (dirs P Q R) (files P Q R) → Value-F Value DirVal FileVal
  bare_value = map-Value (values P Q R) (dirs P Q R) (files P Q R) Value DirVal FileVal (λ e. e.0) (λ e. e.0) (λ e. e.0)

  abbrev bare_dir : DirVal-F (values P Q R) (dirs P Q R) (files P Q R) → DirVal-F Value DirVal FileVal
  bare_dir = map-DirVal (values P Q R) (dirs P Q R) (files P Q R) Value DirVal FileVal (λ e. e.0) (λ e. e.0) (λ e. e.0)

  abbrev bare_file : FileVal-F (values P Q R) (dirs P Q R) (files P Q R) → FileVal-F Value DirVal FileVal
  bare_file = map-FileVal (values P Q R) (dirs P Q R) (files P Q R) Value DirVal FileVal (λ e. e.0) (λ e. e.0) (λ e. e.0)

  each_listed : (place : Place) (basename : Option (List ℕ)) (ys : Option (List (values P Q R)))
      → IfSome (bare_dir (record { place = place; basename = basename; listing = ys })).listing (AllByRecursion P)
  each_listed place basename None = tt
  each_listed place basename (Some ys) = each ys

  of_value : (y : Value-F (values P Q R) (dirs P Q R) (files P Q R)) → P (roll-Value (bare_value y))
  of_value Value-F.Null = subst P (sym rolls-Null) cases.null
  of_value (Value-F.Bool b) = subst P (sym (rolls-Bool b)) (cases.boolean b)
  of_value (Value-F.Whole n) = subst P (sym (rolls-Whole n)) (cases.whole n)
  of_value (Value-F.Text s) = subst P (sym (rolls-Text s)) (cases.text s)
  of_value (Value-F.FileVal y) = subst P (sym (rolls-FileVal y.0)) (cases.file y.0 y.1)
  of_value (Value-F.DirVal y) = subst P (sym (rolls-DirVal y.0)) (cases.dir y.0 y.1)
  of_value (Value-F.List ys) = subst P (sym (rolls-List (map (λ y. y.0) ys))) (cases.list (map (λ y. y.0) ys) (each ys))
  of_value (Value-F.Fields ys) = subst P (sym (rolls-Fields (map_values (λ y. y.0) ys))) (cases.fields (map_values (λ y. y.0) ys) (each_field ys))

  of_dir : (y : DirVal-F (values P Q R) (dirs P Q R) (files P Q R)) → R (roll-DirVal (bare_dir y))
  of_dir y = cases.a_dir (bare_dir y) (each_listed y.place y.basename y.listing)

  of_file : (y : FileVal-F (values P Q R) (dirs P Q R) (files P Q R)) → Q (roll-FileVal (bare_file y))
  of_file y = cases.a_file (bare_file y) (each y.secondary)

  pub induction : (v : Value) → P v
  induction v = ind-Value P R Q (λ x y e. subst (λ x. P (roll-Value x)) e (of_value y)) (λ x y e. subst (λ x. R (roll-DirVal x)) e (of_dir y)) (λ x y e. subst (λ x. Q (roll-FileVal x)) e (of_file y)) v

  pub file_induction : (f : FileVal) → Q f
  file_induction f = ind-FileVal P R Q (λ x y e. subst (λ x. P (roll-Value x)) e (of_value y)) (λ x y e. subst (λ x. R (roll-DirVal x)) e (of_dir y)) (λ x y e. subst (λ x. Q (roll-FileVal x)) e (of_file y)) f

  pub dir_induction : (d : DirVal) → R d
  dir_induction d = ind-DirVal P R Q (λ x y e. subst (λ x. P (roll-Value x)) e (of_value y)) (λ x y e. subst (λ x. R (roll-DirVal x)) e (of_dir y)) (λ x y e. subst (λ x. Q (roll-FileVal x)) e (of_file y)) d
