-- A fold over what is made of the items, one more of them.
use Rattle.std.proofs.Common.{◌≡◌, ◌∙◌, ◌+◌, ◌<◌, ℕ, List, length, map, take, get_or, ap, sym}
use Rattle.std.specs.List.{fold}
use Rattle.std.proofs.lemmas.List.Folds.{fold-map}
use Rattle.std.proofs.lemmas.List.Sums.{fold_more}

pub fold_map_more : {X Y Z : Type 0} (f : Z → Y → Z) (h : X → Y) (a : Z) (xs : List X) (i : ℕ) (d : X) → i < length xs
    → fold f a (map h (take (i + 1) xs)) ≡ f (fold f a (map h (take i xs))) (h (get_or xs i d))
fold_map_more f h a xs i d within =
    fold-map f h a (take (i + 1) xs) ∙ fold_more (λ b x. f b (h x)) a xs i d within
    ∙ ap (λ z. f z (h (get_or xs i d))) (sym (fold-map f h a (take i xs)))
