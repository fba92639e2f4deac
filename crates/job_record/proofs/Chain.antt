-- One step after the other, and a whole transaction.
use Rattle.std.proofs.Common.{◌≡◌, ◌⊎◌, inl, inr, true, false, Ok, Err, Result, IsTrue, refl, sym, ap, subst, ◌∙◌, arith}
use Rattle.std.specs.Prelude.{IsOk}
use Rattle.sqlite.specs.Store.{Ghosts}
use Rattle.sqlite.specs.Tree.{Trees}
use Rattle.sqlite.specs.Effect.{Database, IsDatabase}
use Rattle.sqlite.specs.State.{State, HasCleanDisk, KeepsCommit, Survives}
use Rattle.sqlite.specs.Held.{Held, state}
use Rattle.sqlite.proofs.Callers.{survives_begin}
use Rattle.sqlite.proofs.StateLemmas.{survives_then}
use Rattle.job_record.specs.declared.fault.RecordFault.{RecordFault}
use Rattle.job_record.specs.Map.{KeyMap, HoldsMap}
use Rattle.job_record.specs.Opening.{begun}
use Rattle.job_record.specs.inner.Inside.{GoesOn, IsOfStore, Answer, Steps, Walks, WalksOn, Changes, LeavesBy, CrashesBy, IsStored, Spares, Ends}

pub was_clean : (old new : State) (P : Trees → Type 0) → Survives old new P → HasCleanDisk new → HasCleanDisk old
was_clean old new P s clean = omega (arith, s.clean, clean)

pub nothing_then : (a b c : State) → Survives a b (λ _. ⊥) → Survives b c (λ _. ⊥) → Survives a c (λ _. ⊥)
nothing_then a b c one two = survives_then a b c (λ _. ⊥) (λ _. ⊥) (λ _. ⊥) (λ _ db none. none) (λ _ db none. none) one two

pub goes_then : (a b c : State) → GoesOn a b → GoesOn b c → GoesOn a c
goes_then a b c one two = record { was_open = one.was_open; is_open = two.is_open; committed = two.committed ∙ one.committed; going = two.going }

pub goes_keeps : (a b : State) → GoesOn a b → KeepsCommit a b
goes_keeps a b g = record { was_open = λ _. g.was_open; committed = λ _. g.committed }

pub keeps_then : (a b c : State) → KeepsCommit a b → KeepsCommit b c → KeepsCommit a c
keeps_then a b c one two = record { was_open = λ now. one.was_open (two.was_open now); committed = λ now. two.committed now ∙ one.committed (two.was_open now) }

-- ---- steps that commit nothing

pub walk_of : {T : Type 0} (P : Type 0) (old new : State) (Given : KeyMap → Type 0) (Told : Answer T) (Why : KeyMap → RecordFault → Type 0) (result : Result T RecordFault) → Survives old new (λ _. ⊥) → (HasCleanDisk new → IsTrue old.in_transaction → Steps old new Given Told Why result)
    → Walks P old new Given Told Why result
walk_of P old new Given Told Why result survives step = (survives, λ clean going p. step clean going)

-- what two steps tell
abbrev pub Both : {A B : Type 0} → Answer A → A → Answer B → Answer B
Both Told1 value Told2 map answer last = (next : KeyMap) × Told1 map value next × Told2 next answer last

module _ {A B : Type 0} (P : Type 0) (old mid new : State) (Given1 : KeyMap → Type 0) (Told1 : Answer A) (Why1 : KeyMap → RecordFault → Type 0) (Given2 : KeyMap → Type 0) (Told2 : Answer B) (Why2 : KeyMap → RecordFault → Type 0)
    (Given : KeyMap → Type 0) (value : A) (one : Walks P old mid Given1 Told1 Why1 (Ok value)) (first : (map : KeyMap) → HoldsMap old.now map → Given map → Given1 map)
    (later : (map next : KeyMap) → HoldsMap old.now map → HoldsMap mid.now next → Given map → Told1 map value next → Given2 next) where
  private_clean : Survives mid new (λ _. ⊥) → HasCleanDisk new → HasCleanDisk mid
  private_clean two clean = omega (arith, two.clean, clean)

  pub walk_join : (Why : KeyMap → RecordFault → Type 0) (answer : B) → WalksOn mid new Given2 Told2 Why2 (Ok answer) → Walks P old new Given (Both Told1 value Told2) Why (Ok answer)
  walk_join Why answer two = (
    nothing_then old mid new one.0 two.0,
    λ clean going p.
        let s = one.1 (private_clean two.0 clean) going p in
        let t = two.1 clean s.0.going s.0.is_open in (
          goes_then old mid new s.0 t.0,
          λ map it given.
              let a = s.1 map it (first map it given) in
              let b = t.1 a.0 a.1 (later map a.0 it a.1 given a.2) in
              (b.0, b.1, (a.0, a.2, b.2)),
        ),
  )

  pub walk_join_fails : {C : Type 0} (Told : Answer C) (Why : KeyMap → RecordFault → Type 0) (fault : RecordFault) → WalksOn mid new Given2 Told2 Why2 (Err fault) → ((map next : KeyMap) → HoldsMap old.now map → Given map → Told1 map value next → Why2 next fault → Why map fault)
      → Walks P old new Given Told Why (Err fault)
  walk_join_fails Told Why fault two tells = (
    nothing_then old mid new one.0 two.0,
    λ clean going p.
        let s = one.1 (private_clean two.0 clean) going p in
        let t = two.1 clean s.0.going s.0.is_open in (
          keeps_then old mid new (goes_keeps old mid s.0) t.0,
          elim t.1 [ inl store ↦ inl store | inr open_then ↦ inr s.0.was_open ],
          λ map it given.
              let a = s.1 map it (first map it given) in
              elim (t.2 a.0 a.1 (later map a.0 it a.1 given a.2)) [ inl store ↦ inl store | inr why ↦ inr (tells map a.0 it given a.2 why) ],
        ),
  )

module _ {A B : Type 0} (P : Type 0) (old new : State) (Given1 : KeyMap → Type 0) (Told1 : Answer A) (Why1 : KeyMap → RecordFault → Type 0) (Given : KeyMap → Type 0) (Told : Answer B) (Why : KeyMap → RecordFault → Type 0)
    (first : (map : KeyMap) → HoldsMap old.now map → Given map → Given1 map) where
  -- told in other words
  pub walk_done : (value : A) (answer : B) → Walks P old new Given1 Told1 Why1 (Ok value) → ((map next : KeyMap) → HoldsMap old.now map → Given map → Told1 map value next → Told map answer next) → Walks P old new Given Told Why (Ok answer)
  walk_done value answer one tells = (one.0, λ clean going p. let s = one.1 clean going p in (s.0, λ map it given. let a = s.1 map it (first map it given) in (a.0, a.1, tells map a.0 it given a.2)))

  -- the command is refused after a step
  pub walk_refuses : (value : A) (fault : RecordFault) → Walks P old new Given1 Told1 Why1 (Ok value) → ((map next : KeyMap) → HoldsMap old.now map → Given map → Told1 map value next → IsOfStore fault ⊎ Why map fault) → Walks P old new Given Told Why (Err fault)
  walk_refuses value fault one tells = (
    one.0,
    λ clean going p.
        let s = one.1 clean going p in
        (goes_keeps old new s.0, inr s.0.was_open, λ map it given. let a = s.1 map it (first map it given) in tells map a.0 it given a.2),
  )

  -- a step is refused
  pub walk_fails : (fault : RecordFault) → Walks P old new Given1 Told1 Why1 (Err fault) → ((map : KeyMap) → Given map → Why1 map fault → Why map fault) → Walks P old new Given Told Why (Err fault)
  walk_fails fault one tells = (
    one.0,
    λ clean going p.
        let s = one.1 clean going p in
        (s.0, s.1, λ map it given. elim (s.2 map it (first map it given)) [ inl store ↦ inl store | inr why ↦ inr (tells map given why) ]),
  )

-- as the first step or as a later one
pub walk_later : {T : Type 0} (P : Type 0) (old new : State) (Given : KeyMap → Type 0) (Told : Answer T) (Why : KeyMap → RecordFault → Type 0) (result : Result T RecordFault) → Walks (Unit {0}) old new Given Told Why result → Walks P old new Given Told Why result
walk_later P old new Given Told Why result one = (one.0, λ clean going p. one.1 clean going tt)

-- ---- a whole transaction

pub left_trees : (db : Database) (trees : Trees) (map : KeyMap) → trees ≡ db.trees → HoldsMap db map → HoldsMap (record { schema = map.beside.schema; trees = trees }) map
left_trees db trees map same it = subst (λ t. HoldsMap (record { schema = map.beside.schema; trees = t }) map) (sym same) (record {
  schema = refl;
  has = it.has;
  beside = it.beside;
  sound = subst (λ s. IsDatabase (record { schema = s; trees = db.trees })) it.schema it.sound;
  keyed = it.keyed;
  kept = it.kept;
  ordered = it.ordered;
  rows = it.rows;
  archives = it.archives;
})

module _ {T : Type 0} (old last end : State) (Given : KeyMap → Type 0) (Told : Answer T) (Why : KeyMap → RecordFault → Type 0) where
  abbrev first : State
  first = record old { in_transaction = true }

  pub ends_as : (answer result : Result T RecordFault) → Steps first last Given Told Why answer → Ends last end answer result → end.in_transaction ≡ false → Changes old end Given Told Why result
  ends_as (Ok value) (Ok told) s e closed = (
    s.0.was_open,
    e.1.is_open,
    e.1.committed_is ∙ sym e.1.now_is,
    closed,
    λ map it given.
        let t = s.1 map it given in
        (t.0, subst (λ db. HoldsMap db t.0) (sym e.1.now_is) t.1, subst (λ v. Told map v t.0) (sym e.0) t.2),
  )
  ends_as (Ok value) (Err fault) s e closed = (
    λ now. let r = e.1 s.0.going in let u = r.undone now in (s.0.was_open, u.0 ∙ s.0.committed, u.1 ∙ s.0.committed),
    closed,
    inl (subst IsOfStore (sym e.0.1) tt),
    λ map it given. inl (subst IsOfStore (sym e.0.1) tt),
  )
  ends_as (Err why) (Ok told) s e closed = absurd (let same = e.0 in cc)
  ends_as (Err why) (Err fault) s e closed =
      let same : fault ≡ why = let all = e.0 in cc in (
        λ now. let u = e.1.undone now in let before = e.1.was_open now in (s.0.was_open before, u.0 ∙ s.0.committed before, u.1 ∙ s.0.committed before),
        closed,
        subst (λ f. IsOfStore f ⊎ IsTrue old.is_open) (sym same) s.1,
        λ map it given. subst (λ f. IsOfStore f ⊎ Why map f) (sym same) (s.2 map it given),
      )

  leaves : (answer : Result T RecordFault) → Steps first last Given Told Why answer → (trees : Trees) → IsOk answer → trees ≡ last.now.trees → IsTrue old.is_open × ((map : KeyMap) → HoldsMap old.now map → Given map → LeavesBy Told map trees)
  leaves (Ok value) s trees done same = (s.0.was_open, λ map it given. let t = s.1 map it given in (value, t.0, t.2, left_trees last.now trees t.0 same t.1))
  leaves (Err why) s trees done same = absurd (let e = done in cc)

  pub crashes_as : (answer : Result T RecordFault) → (HasCleanDisk last → Steps first last Given Told Why answer) → Survives first last (λ _. ⊥) → Survives last end (λ trees. IsOk answer × (trees ≡ last.now.trees))
      → Survives first end (λ trees. IsTrue old.is_open × ((map : KeyMap) → HoldsMap old.now map → Given map → LeavesBy Told map trees))
  crashes_as answer s one two =
      survives_then first last end (λ _. ⊥) (λ trees. IsOk answer × (trees ≡ last.now.trees)) _ (λ _ db none. absurd none)
      (λ clean db h. leaves answer (s (was_clean clean)) db h.0 h.1) one two
    where
      was_clean : HasCleanDisk end → HasCleanDisk last
      was_clean clean = omega (arith, two.clean, clean)

  pub spares_as : (answer result : Result T RecordFault) → Ends last end answer result → Survives first last (λ _. ⊥) → Survives last end (λ trees. IsOk answer × (trees ≡ last.now.trees)) → Spares first end result
  spares_as answer (Ok told) e one two = tt
  spares_as (Ok value) (Err fault) e one two = inl (subst IsStored (sym e.0.1) tt)
  spares_as (Err why) (Err fault) e one two =
      inr (survives_then first last end (λ _. ⊥) (λ trees. IsOk {T = T} {E = RecordFault} (Err why) × (trees ≡ last.now.trees)) (λ _. ⊥) (λ _ db none. absurd none) (λ _ db h. absurd (let e = h.0 in cc)) one two)

-- the same, of what a connection holds
module _ {T S : Type 0} (g : Ghosts S) (old first last end : Held S) (is : first ≡ begun g old) (Given : KeyMap → Type 0) (Told : Answer T) (Why : KeyMap → RecordFault → Type 0) where
  going : IsTrue (state g first).in_transaction
  going = ap (λ (h : Held S). h.in_transaction) is

  pub changes_by : (answer result : Result T RecordFault) → (IsTrue (state g first).in_transaction → Steps (state g first) (state g last) Given Told Why answer) → Ends (state g last) (state g end) answer result → (state g end).in_transaction ≡ false
      → Changes (state g old) (state g end) Given Told Why result
  changes_by answer result s e closed = ends_as (state g old) (state g last) (state g end) Given Told Why answer result (subst (λ h. Steps (state g h) (state g last) Given Told Why answer) is (s going)) e closed

  pub crashes_by : (answer : Result T RecordFault) → (HasCleanDisk (state g last) → IsTrue (state g first).in_transaction → Steps (state g first) (state g last) Given Told Why answer) → Survives (state g first) (state g last) (λ _. ⊥)
      → Survives (state g last) (state g end) (λ trees. IsOk answer × (trees ≡ (state g last).now.trees)) → CrashesBy (state g old) (state g end) Given Told
  crashes_by answer s one two =
      survives_begin g old (state g end) _ (crashes_as (state g old) (state g last) (state g end) Given Told Why answer
      (λ clean. subst (λ h. Steps (state g h) (state g last) Given Told Why answer) is (s clean going)) (subst (λ h. Survives (state g h) (state g last) (λ _. ⊥)) is one) two)

  pub spares_by : (answer result : Result T RecordFault) → Ends (state g last) (state g end) answer result → Survives (state g first) (state g last) (λ _. ⊥)
      → Survives (state g last) (state g end) (λ trees. IsOk answer × (trees ≡ (state g last).now.trees)) → Spares (state g old) (state g end) result
  spares_by answer result e one two =
      begins result (spares_as (state g old) (state g last) (state g end) Given Told Why answer result e (subst (λ h. Survives (state g h) (state g last) (λ _. ⊥)) is one) two)
    where
      begins : (result : Result T RecordFault) → Spares (state g (begun g old)) (state g end) result → Spares (state g old) (state g end) result
      begins (Ok told) h = tt
      begins (Err fault) (inl stored) = inl stored
      begins (Err fault) (inr s) = inr (survives_begin g old (state g end) (λ _. ⊥) s)
