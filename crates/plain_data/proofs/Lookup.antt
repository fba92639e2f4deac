-- Looking names up.
use Rattle.std.proofs.Common.{◌≡◌, ℕ, List, [], ◌∷◌, Bool, true, false, cond, Option, Some, None, bytes_eq, refl, sym, ap, subst, ◌∙◌}
use Rattle.std.specs.declared.cmp.Ordering.{Ordering}
use Rattle.std.specs.declared.cmp.Ordering.TheVariants.{Less, Equal, Greater}
use Rattle.std.specs.Ordering.{is_eq}
use Rattle.std.specs.Option.{option_map}
use Rattle.std.specs.Cmp.Lexicographic.{texts_ties, bytes_decides}
use Rattle.std.specs.BTreeMap.{is_at}
use Rattle.std.specs.Map.{lookup}
use Rattle.std.proofs.lemmas.Map.Lookups.{exact_bytes}
use Rattle.plain_data.specs.ByName.{IsByName, names, name_cmp, value_at, with_value, by_name, map_values}
use Rattle.plain_data.proofs.ByName.{IsBelow, name_flip, below_trans, by_name_first, by_name_rest, order_by_name, put}

-- a name is the same as itself, and not as one that is less or greater
pub name_itself : (name : List ℕ) → bytes_eq name name ≡ true
name_itself name = (bytes_decides name name).1 refl

pub names_apart : (name other : List ℕ) (o : Ordering) → name_cmp name other ≡ o → is_eq o ≡ false → bytes_eq name other ≡ false
names_apart name other o is apart = texts_ties name other ∙ ap is_eq is ∙ apart

pub name_order_itself : (name : List ℕ) → name_cmp name name ≡ Equal
name_order_itself name = by (name_cmp name name) refl
  where
    by : (o : Ordering) → name_cmp name name ≡ o → o ≡ Equal
    by Less is = cc (name_itself name, names_apart name name Less is refl)
    by Equal is = refl
    by Greater is = cc (name_itself name, names_apart name name Greater is refl)

module _ {X : Type 0} where
  -- equal bytes are what the order calls equal
  pub value_at_is : (name : List ℕ) (entries : List (List ℕ × X)) → value_at name entries ≡ lookup (is_at (name_cmp name)) entries
  value_at_is name entries = λ i. lookup (λ other. texts_ties name other i) entries

  -- the first entry's value is beside its name
  pub value_at_first : (e : List ℕ × X) (es : List (List ℕ × X)) → value_at e.0 (e ∷ es) ≡ Some e.1
  value_at_first e es = ap (λ b. cond b (Some e.1) (value_at e.0 es)) (name_itself e.0)

  -- and no value of another name
  pub value_at_past : (name : List ℕ) (e : List ℕ × X) (es : List (List ℕ × X)) → bytes_eq name e.0 ≡ false → value_at name (e ∷ es) ≡ value_at name es
  value_at_past name e es apart = ap (λ b. cond b (Some e.1) (value_at name es)) apart

  -- a name below all others is not among them
  pub value_at_below : (low : List ℕ) (entries : List (List ℕ × X)) → IsBelow low (names entries) → value_at low entries ≡ None
  value_at_below low [] below = refl
  value_at_below low (e ∷ es) below = value_at_past low e es (names_apart low e.0 Less below.0 refl) ∙ value_at_below low es below.1

  agree_twice : (b : Bool) (v w : X) (rest : Option X) → cond b (Some v) rest ≡ cond b (Some v) (cond b (Some w) rest)
  agree_twice true v w rest = refl
  agree_twice false v w rest = refl

  agree_swapped : (b c : Bool) (v w : X) (rest : Option X) → (b ≡ true → c ≡ true → ⊥) → cond b (Some w) (cond c (Some v) rest) ≡ cond c (Some v) (cond b (Some w) rest)
  agree_swapped true true v w rest apart = absurd (apart refl refl)
  agree_swapped true false v w rest apart = refl
  agree_swapped false true v w rest apart = refl
  agree_swapped false false v w rest apart = refl

  value_at_put : (asked : List ℕ) (o : Ordering) (name : List ℕ) (value : X) (e : List ℕ × X) (es : List (List ℕ × X)) → name_cmp name e.0 ≡ o
      → value_at asked (with_value name value es) ≡ value_at asked ((name, value) ∷ es) → value_at asked (put o name value e es) ≡ value_at asked ((name, value) ∷ e ∷ es)
  value_at_put asked Less name value e es is later = refl
  value_at_put asked Equal name value e es is later =
      let same : name ≡ e.0 = exact_bytes name e.0 is in
      subst (λ (other : List ℕ). cond (bytes_eq asked e.0) (Some value) (value_at asked es) ≡ cond (bytes_eq asked other) (Some value) (cond (bytes_eq asked e.0) (Some e.1) (value_at asked es)))
      (sym same) (agree_twice (bytes_eq asked e.0) value e.1 (value_at asked es))
  value_at_put asked Greater name value e es is later =
      let apart : bytes_eq name e.0 ≡ false = names_apart name e.0 Greater is refl in
      ap (λ (rest : Option X). cond (bytes_eq asked e.0) (Some e.1) rest) later
      ∙ agree_swapped (bytes_eq asked e.0) (bytes_eq asked name) value e.1 (value_at asked es)
      (λ p q. let same : name ≡ e.0 = sym ((bytes_decides asked name).0 q) ∙ (bytes_decides asked e.0).0 p in
      let both : bytes_eq name e.0 ≡ true = (bytes_decides name e.0).1 same in cc)

  -- what a list holds after a value was put under a name
  pub value_at-with_value : (asked name : List ℕ) (value : X) (entries : List (List ℕ × X)) → value_at asked (with_value name value entries) ≡ value_at asked ((name, value) ∷ entries)
  value_at-with_value asked name value [] = refl
  value_at-with_value asked name value (e ∷ es) = value_at_put asked (name_cmp name e.0) name value e es refl (value_at-with_value asked name value es)

  -- putting a list in order changes no look-up
  pub value_at-by_name : (asked : List ℕ) (entries : List (List ℕ × X)) → value_at asked (by_name entries) ≡ value_at asked entries
  value_at-by_name asked [] = refl
  value_at-by_name asked (e ∷ es) = value_at-with_value asked e.0 e.1 (by_name es) ∙ ap (λ (rest : Option X). cond (bytes_eq asked e.0) (Some e.1) rest) (value_at-by_name asked es)

  pub some_one : (v w : X) → Some v ≡ Some w → v ≡ w
  some_one v w same = cc

  -- below equal first names, lists in order that agree go on to agree
  tails_agree : (name : List ℕ) (a b : List ℕ × X) (as' bs : List (List ℕ × X)) → a.0 ≡ b.0 → IsBelow a.0 (names as') → IsBelow b.0 (names bs)
      → value_at name (a ∷ as') ≡ value_at name (b ∷ bs) → (test : Bool) → bytes_eq name a.0 ≡ test → value_at name as' ≡ value_at name bs
  tails_agree name a b as' bs same below below' agree true is =
      let here : name ≡ a.0 = (bytes_decides name a.0).0 is in
      ap (λ other. value_at other as') here ∙ value_at_below a.0 as' below ∙ sym (ap (λ other. value_at other bs) (here ∙ same) ∙ value_at_below b.0 bs below')
  tails_agree name a b as' bs same below below' agree false is =
      sym (value_at_past name a as' is) ∙ agree ∙ value_at_past name b bs (ap (bytes_eq name) (sym same) ∙ is)

  -- two lists in order that agree on each name are one list
  pub same_by_name : (these those : List (List ℕ × X)) → IsByName these → IsByName those → ((name : List ℕ) → value_at name these ≡ value_at name those) → these ≡ those
  same_by_name [] [] order order' agree = refl
  same_by_name [] (b ∷ bs) order order' agree = cc (agree b.0, value_at_first b bs)
  same_by_name (a ∷ as') [] order order' agree = cc (agree a.0, value_at_first a as')
  same_by_name (a ∷ as') (b ∷ bs) order order' agree = by (name_cmp a.0 b.0) refl (λ tails. same_by_name as' bs (by_name_rest a as' order) (by_name_rest b bs order') tails)
    where
      by : (o : Ordering) → name_cmp a.0 b.0 ≡ o → (((name : List ℕ) → value_at name as' ≡ value_at name bs) → as' ≡ bs) → a ∷ as' ≡ b ∷ bs
      by Less is rest = cc (agree a.0, value_at_first a as', value_at_below a.0 (b ∷ bs) (is, below_trans a.0 b.0 (names bs) is (by_name_first b bs order')))
      by Greater is rest =
          let less : name_cmp b.0 a.0 ≡ Less = name_flip b.0 a.0 is in
          cc (agree b.0, value_at_first b bs, value_at_below b.0 (a ∷ as') (less, below_trans b.0 a.0 (names as') less (by_name_first a as' order)))
      by Equal is rest =
          let same : a.0 ≡ b.0 = exact_bytes a.0 b.0 is in
          let values : a.1 ≡ b.1 = some_one a.1 b.1 (sym (value_at_first a as') ∙ agree a.0 ∙ ap (λ name. value_at name (b ∷ bs)) same ∙ value_at_first b bs) in
          let tails : as' ≡ bs = rest (λ name. tails_agree name a b as' bs same (by_name_first a as' order) (by_name_first b bs order') (agree name) (bytes_eq name a.0) refl) in
          λ i. (same i, values i) ∷ tails i

  -- a list in order that holds what the entries hold is the entries in order
  pub by_name_only : (entries sorted : List (List ℕ × X)) → IsByName sorted → ((name : List ℕ) → value_at name sorted ≡ value_at name entries) → sorted ≡ by_name entries
  by_name_only entries sorted order agree = same_by_name sorted (by_name entries) order (order_by_name entries) (λ name. agree name ∙ sym (value_at-by_name name entries))

  -- a list in order stays as it is
  pub by_name_sorted : (entries : List (List ℕ × X)) → IsByName entries → by_name entries ≡ entries
  by_name_sorted entries order = sym (by_name_only entries entries order (λ name. refl))

module _ {X Y : Type 0} where
  map_chosen : (f : X → Y) (b : Bool) (v : X) (rest : Option X) → cond b (Some (f v)) (option_map f rest) ≡ option_map f (cond b (Some v) rest)
  map_chosen f true v rest = refl
  map_chosen f false v rest = refl

  -- a look-up among mapped values maps what it finds
  pub value_at-map_values : (f : X → Y) (name : List ℕ) (entries : List (List ℕ × X)) → value_at name (map_values f entries) ≡ option_map f (value_at name entries)
  value_at-map_values f name [] = refl
  value_at-map_values f name (e ∷ es) = ap (λ rest. cond (bytes_eq name e.0) (Some (f e.1)) rest) (value_at-map_values f name es) ∙ map_chosen f (bytes_eq name e.0) e.1 (value_at name es)
