-- Tests of each item.
use Rattle.std.proofs.Common.{◌≡◌, ℕ, ◌+◌, ◌<◌, Bool, true, false, ◌&&◌, ◌||◌, List, [], ◌∷◌, ◌++◌, map, length, get_or, take, drop, take-append-drop, refl, sym, ap, ◌∙◌}
use Rattle.std.specs.List.{list_any}
use Rattle.std.specs.Map.{keys_of}
use Rattle.std.proofs.lemmas.List.{map-append, drop_more, take_more}
use Rattle.std.proofs.lemmas.List.Folds.{list_all-append, list_any_at}
use Rattle.std.proofs.lemmas.Simd.{map-map}
use Rattle.plain_data.specs.ByName.{map_values}
use Rattle.cwl_value.specs.declared.value.Value.{Value}
use Rattle.collected_outputs.specs.Checked.{every}

and_false : (b : Bool) → (b && false) ≡ false
and_false true = refl
and_false false = refl

-- one that fails
pub fails : {X : Type 0} (f : X → Bool) (xs slice : List X) (i : ℕ) (x : X) → slice ≡ xs → i < length slice → x ≡ get_or slice i x → f x ≡ false → false ≡ every (map f xs)
fails f xs slice i x same within is no_pass =
    let whole : slice ≡ take i slice ++ x ∷ drop (i + 1) slice = sym (take-append-drop i slice) ∙ ap (λ l. take i slice ++ l) (drop_more slice i x within ∙ ap (λ y. y ∷ drop (i + 1) slice) (sym is)) in
    sym (
    ap (λ l. every (map f l)) (sym same ∙ whole)
    ∙ ap every (map-append f (take i slice) (x ∷ drop (i + 1) slice))
    ∙ list_all-append (λ flag. flag) (map f (take i slice)) (f x ∷ map f (drop (i + 1) slice))
    ∙ ap (λ b. every (map f (take i slice)) && (b && every (map f (drop (i + 1) slice)))) no_pass
    ∙ and_false (every (map f (take i slice)))
    )

pub field_fails : (f : Value → Bool) (es slice : List (List ℕ × Value)) (i : ℕ) (e : List ℕ × Value) → slice ≡ es → i < length slice → e ≡ get_or slice i e → f e.1 ≡ false → false ≡ every (map (λ e. e.1) (map_values f es))
field_fails f es slice i e same within is no_pass =
    fails (λ (e : List ℕ × Value). f e.1) es slice i e same within is no_pass ∙ ap every (sym (map-map (λ (e : List ℕ × Bool). e.1) (λ (e : List ℕ × Value). (e.0, f e.1)) es))

keys-append : (es : List (List ℕ × Value)) (e : List ℕ × Value) → keys_of (es ++ e ∷ []) ≡ keys_of es ++ e.0 ∷ []
keys-append [] e = refl
keys-append (d ∷ es) e = ap (λ l. d.0 ∷ l) (keys-append es e)

-- fields that are built under the same names
pub same_names : (es : List (List ℕ × Value)) (i : ℕ) (e : List ℕ × Value) (found more : List (List ℕ × Value)) (name : List ℕ) (v : Value) → i < length es → e ≡ get_or es i e → name ≡ e.0 → more ≡ found ++ (name, v) ∷ []
    → keys_of found ≡ keys_of (take i es) → keys_of more ≡ keys_of (take (i + 1) es)
same_names es i e found more name v within is same pushed before =
    ap keys_of pushed
    ∙ keys-append found (name, v)
    ∙ ap (λ l. l ++ name ∷ []) before
    ∙ ap (λ n. keys_of (take i es) ++ n ∷ []) same
    ∙ sym (keys-append (take i es) e)
    ∙ ap keys_of (sym (take_more es i e within ∙ ap (λ y. take i es ++ y ∷ []) (sym is)))

-- one that passes
pub some_pass : {X : Type 0} (f : X → Bool) (xs slice : List X) (i : ℕ) (x : X) → slice ≡ xs → i < length slice → x ≡ get_or slice i x → f x ≡ true → true ≡ list_any f xs
some_pass f xs slice i x same within is passes = sym (ap (list_any f) (sym same) ∙ list_any_at f slice i x within (ap f (sym is) ∙ passes))

pub any_mapped : {X Y : Type 0} (p : Y → Bool) (f : X → Y) (xs : List X) → list_any p (map f xs) ≡ list_any (λ x. p (f x)) xs
any_mapped p f [] = refl
any_mapped p f (x ∷ xs) = ap (λ b. p (f x) || b) (any_mapped p f xs)
