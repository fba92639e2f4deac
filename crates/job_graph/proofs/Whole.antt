-- The outputs that are there are all of them, where each is there.
use Rattle.std.proofs.Common.{◌≡◌, ◌∙◌, [], ◌∷◌, Bool, true, false, cond, Option, Some, None, refl, sym, ap, ap₂}
use Rattle.std.specs.Prelude.{◌&&◌, is_some}
use Rattle.std.specs.List.{list_all}
use Rattle.job_graph.specs.Words.{Fields, Name}
use Rattle.job_graph.specs.Jobs.{Outs, all_named, those_named, with_first}
use Rattle.cwl_value.specs.declared.value.Value.{Value}
use Rattle.job_graph.specs.inner.Outputs.{where_whole}

first_where : (name : Name) (value : Value) (all : Bool) (outs : Fields) → with_first (Some (name, value)) (where_whole all outs) ≡ where_whole all ((name, value) ∷ outs)
first_where name value true outs = refl
first_where name value false outs = refl

named_where : (outs : Outs) → all_named outs ≡ where_whole (list_all (λ out. is_some out.1) outs) (those_named outs)
named_where [] = refl
named_where ((name, None) ∷ outs) = refl
named_where ((name, Some value) ∷ outs) =
    ap (with_first (Some (name, value))) (named_where outs) ∙ first_where name value (list_all (λ out. is_some out.1) outs) (those_named outs)

both_where : (well all : Bool) (outs : Fields) → where_whole (well && all) outs ≡ cond well (where_whole all outs) None
both_where true all outs = refl
both_where false all outs = refl

-- there is a result where each job is well and each output is there
pub whole_where : (whole well : Bool) (named : Fields) (outs : Outs) → whole ≡ (well && list_all (λ out. is_some out.1) outs) → named ≡ those_named outs →
    where_whole whole named ≡ cond well (all_named outs) None
whole_where whole well named outs is named_is =
    ap₂ where_whole is named_is ∙ both_where well (list_all (λ out. is_some out.1) outs) (those_named outs)
    ∙ ap (λ (found : Option Fields). cond well found None) (sym (named_where outs))
