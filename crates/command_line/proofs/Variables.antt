-- A loop that gathers what each element gives.
use Rattle.std.proofs.Common.{◌≡◌, ℕ, ◌+◌, ◌<◌, List, [], ◌∷◌, ◌++◌, Result, Ok, Err, length, get_or, drop, refl, sym, ap, ◌∙◌, append_assoc}
use Rattle.std.proofs.lemmas.List.{append-nil, drop_more}
use Rattle.command_line.specs.Results.{all_given, and_then}
use Rattle.command_line.specs.inner.Steps.{FaultOf}
use Rattle.command_line.specs.declared.fault.BuildFault.{BuildFault}
use Rattle.command_line.specs.declared.fault.BuildError.{BuildError}
use Rattle.command_line.specs.declared.fault.BuildError.TheVariants.{Refused, OutOfMemory}

-- values that are there already, and then others
abbrev pub after : {T E : Type 0} → List T → Result (List T) E → Result (List T) E
after done r = and_then r (λ vs. Ok (done ++ vs))

moved : {T E : Type 0} (done ys : List T) (rest : Result (List T) E) → after done (after ys rest) ≡ after (done ++ ys) rest
moved done ys (Ok zs) = ap Ok (sym (append_assoc done ys zs))
moved done ys (Err e) = refl

-- the values of one element more
pub one_more : {X T E : Type 0} (f : X → Result (List T) E) (whole : Result (List T) E) (done now ys : List T) (xs : List X) (i : ℕ) (x : X) → i < length xs → x ≡ get_or xs i x
    → after done (all_given f (drop i xs)) ≡ whole → f x ≡ Ok ys → now ≡ done ++ ys → after now (all_given f (drop (i + 1) xs)) ≡ whole
one_more f whole done now ys xs i x within is so_far says pushed =
    ap (λ vs. after vs (all_given f (drop (i + 1) xs))) pushed
    ∙ sym (moved done ys (all_given f (drop (i + 1) xs)))
    ∙ ap (λ r. after done (and_then r (λ vs. after vs (all_given f (drop (i + 1) xs))))) (sym says)
    ∙ ap (λ vs. after done (all_given f vs)) (sym (drop_more xs i x within ∙ ap (λ y. y ∷ drop (i + 1) xs) (sym is)))
    ∙ so_far

-- what has a cause first
pub fault_then : {S T : Type 0} (r : Result S BuildFault) (f : S → Result T BuildFault) (e : BuildError) → FaultOf r e → FaultOf (and_then r f) e
fault_then r f (Refused fault) is = ap (λ q. and_then q f) is
fault_then r f OutOfMemory is = tt

-- and what has it after a value
pub fault_after : {S T : Type 0} (r : Result S BuildFault) (f : S → Result T BuildFault) (x : S) (e : BuildError) → r ≡ Ok x → FaultOf (f x) e → FaultOf (and_then r f) e
fault_after r f x (Refused fault) there is = ap (λ q. and_then q f) there ∙ is
fault_after r f x OutOfMemory there is = tt

module _ {X T : Type 0} (f : X → Result (List T) BuildFault) (a b c : X) where
  pub three_ok : (xs ys zs : List T) → f a ≡ Ok xs → f b ≡ Ok ys → f c ≡ Ok zs → all_given f (a ∷ b ∷ c ∷ []) ≡ Ok ((xs ++ ys) ++ zs)
  three_ok xs ys zs p q r =
      ap (λ s. and_then s (λ us. and_then (all_given f (b ∷ c ∷ [])) (λ vs. Ok (us ++ vs)))) p
      ∙ ap (λ s. and_then (and_then s (λ us. and_then (all_given f (c ∷ [])) (λ vs. Ok (us ++ vs)))) (λ vs. Ok (xs ++ vs))) q
      ∙ ap (λ s. and_then (and_then (and_then s (λ us. Ok (us ++ []))) (λ vs. Ok (ys ++ vs))) (λ vs. Ok (xs ++ vs))) r
      ∙ ap (λ us. Ok (xs ++ (ys ++ us))) (append-nil zs)
      ∙ ap Ok (sym (append_assoc xs ys zs))

  pub second_fault : (xs : List T) (e : BuildError) → f a ≡ Ok xs → FaultOf (f b) e → FaultOf (all_given f (a ∷ b ∷ c ∷ [])) e
  second_fault xs e p is = fault_after (f a) (λ us. and_then (all_given f (b ∷ c ∷ [])) (λ vs. Ok (us ++ vs))) xs e p
      (fault_then (all_given f (b ∷ c ∷ [])) (λ vs. Ok (xs ++ vs)) e (fault_then (f b) (λ us. and_then (all_given f (c ∷ [])) (λ vs. Ok (us ++ vs))) e is))

  pub third_fault : (xs ys : List T) (e : BuildError) → f a ≡ Ok xs → f b ≡ Ok ys → FaultOf (f c) e → FaultOf (all_given f (a ∷ b ∷ c ∷ [])) e
  third_fault xs ys e p q is = fault_after (f a) (λ us. and_then (all_given f (b ∷ c ∷ [])) (λ vs. Ok (us ++ vs))) xs e p
      (fault_then (all_given f (b ∷ c ∷ [])) (λ vs. Ok (xs ++ vs)) e
      (fault_after (f b) (λ us. and_then (all_given f (c ∷ [])) (λ vs. Ok (us ++ vs))) ys e q
      (fault_then (all_given f (c ∷ [])) (λ vs. Ok (ys ++ vs)) e (fault_then (f c) (λ us. Ok (us ++ [])) e is))))
