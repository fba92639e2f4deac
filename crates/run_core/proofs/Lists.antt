-- What a result has where it is there, and lists by their last item.
use Rattle.std.proofs.Common.{◌≡◌, ◌∙◌, ◌==◌, ◌+◌, ◌-◌, ◌<◌, ◌≤◌, ℕ, true, false, true≢false, eq-eqb, List, [], ◌∷◌, ◌++◌, length, get_or, take, Result, Ok, Err, IfOk, OnErr, OnOk, refl, sym, ap, arith}
use Rattle.std.proofs.lemmas.Bool.{eqb-true}
use Rattle.std.proofs.lemmas.List.{take_more, take_all}

-- what holds of any result that is there
pub if_ok : {X E : Type 0} {P Q : X → Type 0} (result : Result X E) → ((x : X) → P x → Q x) → IfOk result P → IfOk result Q
if_ok (Ok x) gives holds = gives x holds
if_ok (Err error) gives holds = tt

pub also_ok : {X E : Type 0} {P R : X → Type 0} {Q : Type 0} (result : Result X E) → ((x : X) → P x → Q → R x) → IfOk result P → OnOk result Q → IfOk result R
also_ok (Ok x) gives holds too = gives x holds too
also_ok (Err error) gives holds too = tt

-- and where nothing is given
pub where_ok : {X E : Type 0} {P Q : Type 0} (result : Result X E) → (P → Q) → OnOk result P → OnOk result Q
where_ok (Ok x) leads holds = leads holds
where_ok (Err error) leads holds = tt

pub both_ok : {X E : Type 0} {P Q R : Type 0} (result : Result X E) → (P → Q → R) → OnOk result P → OnOk result Q → OnOk result R
both_ok (Ok x) leads some more = leads some more
both_ok (Err error) leads some more = tt

-- a list of none
pub none_in : {X : Type 0} (xs : List X) → length xs < 1 → xs ≡ []
none_in [] none = refl
none_in (x ∷ xs) none = absurd (omega arith)

-- a list with its last
pub with_last : {X : Type 0} (xs : List X) (x : X) → 1 ≤ length xs → x ≡ get_or xs (length xs - 1) x → xs ≡ take (length xs - 1) xs ++ x ∷ []
with_last xs x some is =
    let whole : take (length xs - 1 + 1) xs ≡ xs = take_all (length xs - 1 + 1) xs (omega arith) in
    sym whole ∙ take_more xs (length xs - 1) x (omega arith) ∙ ap (λ y. take (length xs - 1) xs ++ y ∷ []) (sym is)

-- a list whose length was found to be zero, and one whose length was not
pub counted : {X : Type 0} (xs : List X) (len : ℕ) → len ≡ length xs → (len == 0) ≡ true → xs ≡ []
counted [] len is none = refl
counted (x ∷ xs) len is none = let zero : len ≡ 0 = eqb-true len 0 none in absurd (omega (arith, is, zero))

pub uncounted : {X : Type 0} (xs : List X) (len : ℕ) → len ≡ length xs → (len == 0) ≡ false → xs ≡ [] → ⊥
uncounted [] len is some none = absurd (true≢false (sym (eq-eqb len 0 is) ∙ some))
uncounted (x ∷ xs) len is some none = cc

-- what holds anyway
pub on_ok : {X E P : Type 0} (result : Result X E) → P → OnOk result P
on_ok (Ok x) holds = holds
on_ok (Err error) holds = tt

pub on_err : {X E P : Type 0} (result : Result X E) → P → OnErr result P
on_err (Ok x) holds = tt
on_err (Err error) holds = holds
