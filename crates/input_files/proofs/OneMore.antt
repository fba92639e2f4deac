-- An item more under a text.
use Rattle.std.proofs.Common.{◌≡◌, Bool, true, false, cond, List, [], ◌∷◌, ◌++◌, Option, Some, None, refl, ap, ◌∙◌}

-- what is found under a text once the items of one were taken out and put back with one more
pub one_more : {V T : Type 0} (under : Option V → List T) (test : Bool) (old mid new : Option V) (items : V) (item : T) → mid ≡ cond test None old → new ≡ cond test (Some items) mid
    → (test ≡ true → under (Some items) ≡ under old ++ item ∷ []) → under new ≡ cond test (under old ++ item ∷ []) (under old)
one_more under true old mid new items item taken put more = ap under put ∙ more refl
one_more under false old mid new items item taken put more = ap under (put ∙ taken)
