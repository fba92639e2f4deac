-- Giving one after another, up to the first fault.
use Rattle.std.proofs.Common.{◌≡◌, ℕ, List, [], ◌∷◌, ◌++◌, append_assoc, ◌+◌, ◌<◌, length, get_or, take, drop, take-append-drop, map, Ok, Err, refl, sym, ap, ◌∙◌}
use Rattle.std.proofs.lemmas.List.{map-append, take_more, drop_more}
use Rattle.collected_outputs.specs.Gives.{Gives, and_map, and_then, all_given, Refuses}
use Rattle.collected_outputs.specs.declared.fault.CollectFault.{CollectFault}
use Rattle.collected_outputs.specs.declared.fault.Stop.{Stop}
use Rattle.collected_outputs.specs.declared.fault.Stop.TheVariants.{Refused, OutOfMemory}

-- a step's fault is that of the whole

pub refused_here : {S T : Type 0} (r : Gives S) (f : S → Gives T) (e : Stop) → Refuses r e → Refuses (and_then r f) e
refused_here r f OutOfMemory h = tt
refused_here r f (Refused fault) h = ap (λ r. and_then r f) h

pub refused_after : {S T : Type 0} (r : Gives S) (f : S → Gives T) (x : S) (e : Stop) → r ≡ Ok x → Refuses (f x) e → Refuses (and_then r f) e
refused_after r f x OutOfMemory before h = tt
refused_after r f x (Refused fault) before h = ap (λ r. and_then r f) before ∙ h

pub refused_map : {S T : Type 0} (f : S → T) (r : Gives S) (e : Stop) → Refuses r e → Refuses (and_map f r) e
refused_map f r OutOfMemory h = tt
refused_map f r (Refused fault) h = ap (and_map f) h

pub refused_as : {T : Type 0} (r s : Gives T) (e : Stop) → s ≡ r → Refuses r e → Refuses s e
refused_as r s OutOfMemory same h = tt
refused_as r s (Refused fault) same h = same ∙ h

module _ {T : Type 0} where
  alone : (s : Gives (List T)) → s ≡ and_map (λ ys. [] ++ ys) s
  alone (Ok ys) = refl
  alone (Err e) = refl

  joins : (x : T) (r s : Gives (List T)) → and_map (λ xs. x ∷ xs) (and_then r (λ xs. and_map (λ ys. xs ++ ys) s)) ≡ and_then (and_map (λ xs. x ∷ xs) r) (λ xs. and_map (λ ys. xs ++ ys) s)
  joins x (Ok xs) (Ok ys) = refl
  joins x (Ok xs) (Err e) = refl
  joins x (Err e) s = refl

  all_given-append : (rs ss : List (Gives T)) → all_given (rs ++ ss) ≡ and_then (all_given rs) (λ xs. and_map (λ ys. xs ++ ys) (all_given ss))
  all_given-append [] ss = alone (all_given ss)
  all_given-append (Ok x ∷ rs) ss = ap (and_map (λ xs. x ∷ xs)) (all_given-append rs ss) ∙ joins x (all_given rs) (all_given ss)
  all_given-append (Err e ∷ rs) ss = refl

  all_given-push : (rs : List (Gives T)) (r : Gives T) (xs : List T) (x : T) → all_given rs ≡ Ok xs → r ≡ Ok x → all_given (rs ++ r ∷ []) ≡ Ok (xs ++ x ∷ [])
  all_given-push rs r xs x before now = all_given-append rs (r ∷ []) ∙ rw (before, now) refl

  all_given-stop : (rs : List (Gives T)) (r : Gives T) (rest : List (Gives T)) (xs : List T) (e : CollectFault) → all_given rs ≡ Ok xs → r ≡ Err e → all_given (rs ++ r ∷ rest) ≡ Err e
  all_given-stop rs r rest xs e before now = all_given-append rs (r ∷ rest) ∙ rw (before, now) refl

module _ {S T : Type 0} (f : S → Gives T) where
  pub given_more : (done : List S) (x : S) (found more : List T) (y : T) → all_given (map f done) ≡ Ok found → f x ≡ Ok y → more ≡ found ++ y ∷ [] → all_given (map f (done ++ x ∷ [])) ≡ Ok more
  given_more done x found more y before now is = ap all_given (map-append f done (x ∷ [])) ∙ all_given-push (map f done) (f x) found y before now ∙ ap Ok (sym is)

  pub given_stop : (whole done left : List S) (x : S) (rest : List S) (found : List T) (e : Stop) → whole ≡ done ++ left → left ≡ x ∷ rest → all_given (map f done) ≡ Ok found → Refuses (f x) e → Refuses (all_given (map f whole)) e
  given_stop whole done left x rest found OutOfMemory split is before h = tt
  given_stop whole done left x rest found (Refused fault) split is before h =
      ap (λ xs. all_given (map f xs)) (split ∙ ap (λ xs. done ++ xs) is) ∙ ap all_given (map-append f done (x ∷ rest)) ∙ all_given-stop (map f done) (f x) (map f rest) found fault before h

  pub given_all : (whole done left : List S) (found : List T) → whole ≡ done ++ left → left ≡ [] → all_given (map f done) ≡ Ok found → all_given (map f whole) ≡ Ok found
  given_all whole done left found split none before =
      ap (λ xs. all_given (map f xs)) (split ∙ ap (λ xs. done ++ xs) none ∙ no_more done) ∙ before where
        no_more : (xs : List S) → xs ++ [] ≡ xs
        no_more [] = refl
        no_more (x ∷ xs) = ap (λ ys. x ∷ ys) (no_more xs)

pub whole_more : {S : Type 0} (whole done left rest : List S) (x : S) → whole ≡ done ++ left → left ≡ x ∷ rest → whole ≡ (done ++ x ∷ []) ++ rest
whole_more whole done left rest x split is = split ∙ ap (λ xs. done ++ xs) is ∙ sym (append_assoc done (x ∷ []) rest)

pub whole : {S : Type 0} (xs : List S) (k : ℕ) (x : S) → k < length xs → x ≡ get_or xs k x → xs ≡ take k xs ++ x ∷ drop (k + 1) xs
whole xs k x within is = sym (take-append-drop k xs) ∙ ap (λ l. take k xs ++ l) (drop_more xs k x within ∙ ap (λ y. y ∷ drop (k + 1) xs) (sym is))

-- at an index of a slice
module _ {S T : Type 0} (f : S → Gives T) where
  pub slice_more : (xs : List S) (k : ℕ) (x : S) (found more : List T) (y : T) → k < length xs → x ≡ get_or xs k x → all_given (map f (take k xs)) ≡ Ok found → f x ≡ Ok y → more ≡ found ++ y ∷ [] → all_given (map f (take (k + 1) xs)) ≡ Ok more
  slice_more xs k x found more y within is before now pushed =
      ap (λ l. all_given (map f l)) (take_more xs k x within ∙ ap (λ z. take k xs ++ z ∷ []) (sym is)) ∙ given_more f (take k xs) x found more y before now pushed

  pub slice_stop : (xs : List S) (k : ℕ) (x : S) (found : List T) (e : Stop) → k < length xs → x ≡ get_or xs k x → all_given (map f (take k xs)) ≡ Ok found → Refuses (f x) e → Refuses (all_given (map f xs)) e
  slice_stop xs k x found e within is before h =
      given_stop f xs (take k xs) (x ∷ drop (k + 1) xs) x (drop (k + 1) xs) found e (whole xs k x within is) refl before h
