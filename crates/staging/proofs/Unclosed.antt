-- Where no `]` is left in a component, none of its further brackets is closed.
use Rattle.std.proofs.Common.{◌≡◌, ℕ, Bool, true, false, true≢false, not, ◌&&◌, ◌||◌, ◌==◌, ◌⊎◌, inl, inr, List, [], ◌∷◌, refl, sym, ap, ◌∙◌, eqb-true}
use Rattle.staging.specs.Reading.{has_close, closes_later, is_closed}
use Rattle.staging.specs.inner.Scans.{none_closed}

tells : (b : Bool) → (b ≡ true) ⊎ (b ≡ false)
tells true = inl refl
tells false = inr refl

other_mark : (c d e : ℕ) → (c == d) ≡ true → (d == e) ≡ false → (c == e) ≡ false
other_mark c d e p q = ap (λ (x : ℕ). x == e) (eqb-true c d p) ∙ q

-- past a character that no `]` follows
later : (a b c : Bool) → (a || (not b && c)) ≡ false → b ≡ false → c ≡ false
later true b c h k = absurd (true≢false h)
later false true c h k = absurd (true≢false k)
later false false c h k = h

never_closes_later : (t : List ℕ) → has_close t ≡ false → closes_later t ≡ false
never_closes_later [] h = refl
never_closes_later (c ∷ t) h = elim (tells (c == 47)) [ inl p ↦ rw p refl | inr p ↦ rw p (later (c == 93) (c == 47) (has_close t) h p) ]

never_closed : (t : List ℕ) → has_close t ≡ false → is_closed t ≡ false
never_closed [] h = refl
never_closed (c ∷ t) h =
    elim (tells (c == 33)) [
      | inl p ↦ rw p (never_closes_later t (later (c == 93) (c == 47) (has_close t) h (other_mark c 33 47 p refl)))
      | inr p ↦ rw p (never_closes_later (c ∷ t) h)
    ]

none_more : (a b c : Bool) → b ≡ false → c ≡ true → (a || (not b && c)) ≡ true
none_more true b c p q = refl
none_more false b c p q = rw (p, q) refl

and-none : (a b : Bool) → b ≡ false → (a && b) ≡ false
and-none true b h = h
and-none false b h = refl

or-left : (a b : Bool) → a ≡ true → (a || b) ≡ true
or-left a b h = rw h refl

never_any : (t : List ℕ) → has_close t ≡ false → none_closed t ≡ true
never_any [] h = refl
never_any (c ∷ t) h =
    elim (tells (c == 47)) [
      | inl p ↦ or-left (c == 47) (not (c == 91 && is_closed t) && none_closed t) p
      | inr p ↦
          let after : has_close t ≡ false = later (c == 93) (c == 47) (has_close t) h p in
          none_more (c == 47) (c == 91 && is_closed t) (none_closed t) (and-none (c == 91) (is_closed t) (never_closed t after)) (never_any t after)
    ]

past_first : (first : ℕ) (t : List ℕ) → (not (first == 47) && has_close t) ≡ false → (first == 47) ≡ false → has_close t ≡ false
past_first first t h p = (rw p at h)

unclosed_later : (t : List ℕ) → closes_later t ≡ false → none_closed t ≡ true
unclosed_later [] h = refl
unclosed_later (c ∷ t) h =
    elim (tells (c == 47)) [
      | inl p ↦ or-left (c == 47) (not (c == 91 && is_closed t) && none_closed t) p
      | inr p ↦
          let after : has_close t ≡ false = past_first c t h p in
          none_more (c == 47) (c == 91 && is_closed t) (none_closed t) (and-none (c == 91) (is_closed t) (never_closed t after)) (never_any t after)
    ]

-- where one bracket isn't closed, none after it in the component is
pub none_after : (t : List ℕ) → is_closed t ≡ false → none_closed t ≡ true
none_after [] h = refl
none_after (c ∷ t) h =
    elim (tells (c == 33)) [
      | inl p ↦
          let after : closes_later t ≡ false = (rw p at h) in
          none_more (c == 47) (c == 91 && is_closed t) (none_closed t) (ap (λ (b : Bool). b && is_closed t) (other_mark c 33 91 p refl)) (unclosed_later t after)
      | inr p ↦ unclosed_later (c ∷ t) (rw p at h)
    ]

-- the bracket that begins here isn't closed
pub none_here : (t : List ℕ) → none_closed (91 ∷ t) ≡ true → is_closed t ≡ false
none_here t h = elim (tells (is_closed t)) [ inl p ↦ absurd (true≢false (sym h ∙ rw p refl)) | inr p ↦ p ]

last_fails : (a b : Bool) → (not a && b) ≡ true → b ≡ true
last_fails true b h = absurd (true≢false (sym h))
last_fails false b h = h

pub none_past : (c : ℕ) (t : List ℕ) → none_closed (c ∷ t) ≡ true → (c == 47) ≡ false → none_closed t ≡ true
none_past c t h p = last_fails (c == 91 && is_closed t) (none_closed t) (rw p at h)
