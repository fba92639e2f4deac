-- How the steps of a workflow go on, where a job below one of them has ended.
use Rattle.std.specs.Prelude.{◌≡◌, ◌<◌, ◌++◌, ◌-◌, ◌⊎◌, ◌||◌, ℕ, Bool, true, false, get_or, length, List, [], ◌∷◌, map, not, Option, Some, None, bytes_eq, is_some, take, unwrap_or}
use Rattle.std.specs.BTreeMap.{BTreeMap, Updates, get}
use Rattle.std.specs.List.{list_all, list_any}
use Rattle.std.specs.Option.{option_map_or}
use Rattle.std.specs.Ordering.{nat_cmp}
use Rattle.cwl_process.specs.declared.links.Source.{Source}
use Rattle.document_links.specs.declared.process.Step.{Step, out-Step}
use Rattle.plain_data.specs.ByName.{value_at, with_value}
use Rattle.job_graph.specs.inner.Elements.{IsIn, stands_in}
use Rattle.job_graph.specs.Words.{Name, Fields, JobPlace}
use Rattle.job_graph.specs.Jobs.{Met}
use Rattle.job_graph.specs.Links.{Env}
use Rattle.job_graph.specs.declared.made.Facts.{Facts}
use Rattle.job_graph.specs.declared.made.Resolved.{Resolved as KeptResolved}
use Rattle.job_graph.specs.declared.walk.Met.{Met as KeptMet}
use Rattle.job_graph.specs.declared.readers.Readers.{Readers}
use Rattle.job_graph.specs.declared.waiting.Going.{Going}
use Rattle.job_graph.specs.inner.Counts.{IsCounted, Lowers, awaited_of, is_new, waits_for}
use Rattle.job_graph.specs.inner.Rounds.{EnvGrows, Keeps, MeetsBy, is_stuck, walk_at}
use Rattle.job_graph.specs.inner.Views.{met_of}

-- ---- what was known before the place that was learned last

abbrev pub earlier : {X : Type 0} → List X → List X
earlier xs = take (length xs - 1) xs

abbrev pub facts_before : Facts → Facts
facts_before facts = record facts { learned = earlier facts.learned }

-- that place goes on from this one by these segments
pub record EndedBelow (facts : Facts) (place ended : JobPlace) : Type 0 where
  pub last : KeptResolved
  pub is : facts.learned ≡ earlier facts.learned ++ last ∷ []
  pub at : last.at.place ≡ place ++ ended

-- whether it goes through a step of this id
abbrev pub goes_through : JobPlace → Name → Bool
goes_through [] id = false
goes_through (s ∷ rest) id = bytes_eq s.step id

-- ---- what is met, but for some of what an old walk met

pub data LeavesOut (old : List Met) : List Met → List Met → Type 0 where
  leaves_nothing : LeavesOut old [] []
  leaves_in : (m : Met) (xs ys : List Met) → LeavesOut old xs ys → LeavesOut old (m ∷ xs) (m ∷ ys)
  leaves_out : (m : Met) (xs ys : List Met) → IsIn m old → LeavesOut old xs ys → LeavesOut old xs (m ∷ ys)

-- ---- which steps read another

abbrev pub is_from : Name → Source → Bool
is_from id source = option_map_or (λ step. bytes_eq step id) source.step false

abbrev pub reads : Name → Step → Bool
reads id step = list_any (λ i. list_any (is_from id) (unwrap_or i.1.links.sources [])) (out-Step step).inputs

abbrev pub reads_one : List Name → Step → Bool
reads_one ids step = list_any (λ id. reads id step) ids

-- ---- while steps are walked

-- what a step met is kept where its outputs changed
abbrev pub IsKept : List Name → Name × Step → Option (List KeptMet) → Type 0
IsKept changed s None = list_any (bytes_eq s.0) changed ≡ false
IsKept changed s (Some met) = Unit {0}

abbrev pub AreKept : List Name → List (Name × Step) → BTreeMap ℕ (List KeptMet) → Type 0
AreKept changed steps met = (n : ℕ) (s : Name × Step) → n < length steps → s ≡ get_or steps n s → IsKept changed s (get nat_cmp met n)

abbrev pub AreNumbers : List (Name × Step) → List ℕ → Type 0
AreNumbers steps row = (m : ℕ) → stands_in m row ≡ true → m < length steps

-- each step can't be walked, or is to be walked next
abbrev pub ArePending : Env → List ℕ → List (Name × Step) → Type 0
ArePending env pending steps = (n : ℕ) (s : Name × Step) → n < length steps → s ≡ get_or steps n s → (is_stuck env s ≡ true) ⊎ (stands_in n pending ≡ true)

-- the known outputs of other steps are as they were
abbrev pub SameBut : List Name → Env → Env → Type 0
SameBut changed old new = (id : Name) → list_any (bytes_eq id) changed ≡ false → value_at id new ≡ value_at id old

-- a step that was walked and that the place goes through is among these
abbrev pub HasAbove : JobPlace → Env → List (Name × Step) → List Name → Type 0
HasAbove ended old steps changed =
    (s : Name × Step) → IsIn s steps → goes_through ended s.0 ≡ true → is_some (value_at s.0 old) ≡ true → list_any (bytes_eq s.0) changed ≡ true

-- the number of that step, if there is one
abbrev pub IsAbove : JobPlace → Env → List (Name × Step) → Option ℕ → Type 0
IsAbove ended env steps None = HasAbove ended env steps []
IsAbove ended env steps (Some n) =
    (n < length steps) × ((s : Name × Step) → s ≡ get_or steps n s → (goes_through ended s.0 ≡ true) × (is_some (value_at s.0 env) ≡ true))

module _ (facts : Facts) (place : JobPlace) (inputs : Fields) where
  -- `Rounds.Holds`, where what steps met is kept by their numbers
  pub record HoldsAt (steps : List (Name × Step)) (env : Env) (kept : BTreeMap ℕ (List KeptMet)) : Type 0 where
    pub keeps : Keeps facts place inputs steps env
    pub met : (n : ℕ) (s : Name × Step) → n < length steps → s ≡ get_or steps n s → MeetsBy facts place inputs env s (get nat_cmp kept n)
    pub within : (n : ℕ) → is_some (get nat_cmp kept n) ≡ true → n < length steps

  -- a step was walked, and the steps wait for its new outputs no more
  pub record WalksOne (readers : Readers) (s : Name × Step) (number : ℕ) (old new : Going) : Type 0 where
    pub met : List KeptMet
    pub is : map met_of met ≡ (walk_at facts place inputs old.env s).met
    pub env : new.env ≡ with_value s.0 (walk_at facts place inputs old.env s).outs old.env
    pub kept : Updates nat_cmp old.met new.met number (Some met)
    pub changed : new.changed ≡ old.changed ++ s.0 ∷ []
    pub lowers : Lowers (λ m. waits_for (is_new (unwrap_or (value_at s.0 old.env) []) (walk_at facts place inputs old.env s).outs) m (awaited_of s.0 readers.awaited)) old.waits new.waits

  module _ (steps : List (Name × Step)) where
    -- from old outputs
    pub record Goes (old : Env) (going : Going) : Type 0 where
      pub holds : HoldsAt steps going.env going.met
      pub grown : EnvGrows old going.env
      pub same : SameBut going.changed old going.env
      pub slots : AreKept going.changed steps going.met

    -- until each is stuck
    pub record HasGone (ended : JobPlace) (old : Env) (going : Going) : Type 0 where
      pub goes : Goes old going
      pub above : HasAbove ended old steps going.changed
      pub stuck : list_all (is_stuck going.env) steps ≡ true
      pub counted : IsCounted going.env steps going.waits.counts.items

    -- what is there is what the steps of these numbers meet
    pub record AreRight (env : Env) (met : BTreeMap ℕ (List KeptMet)) : Type 0 where
      pub right : (n : ℕ) (s : Name × Step) (one : List KeptMet) → n < length steps → s ≡ get_or steps n s → get nat_cmp met n ≡ Some one → map met_of one ≡ (walk_at facts place inputs env s).met
      pub within : (n : ℕ) → is_some (get nat_cmp met n) ≡ true → n < length steps

    -- with what those of these steps meet that were not walked
    pub record Hears (env : Env) (under : ℕ → Name × Step → Bool) (old new : BTreeMap ℕ (List KeptMet)) : Type 0 where
      pub right : AreRight env new
      pub stays : (n : ℕ) → is_some (get nat_cmp old n) ≡ true → is_some (get nat_cmp new n) ≡ true
      pub all : (n : ℕ) (s : Name × Step) → n < length steps → s ≡ get_or steps n s → under n s ≡ true
          → (is_some (value_at s.0 env) ≡ true) ⊎ (is_some (get nat_cmp new n) ≡ true)

    -- what the steps meet whose outputs did not change, and that read none of those that did or were walked, was met before
    abbrev pub WasMet : List Met → Env → List Name → Type 0
    WasMet old env changed =
        (s : Name × Step) → IsIn s steps → list_any (bytes_eq s.0) changed ≡ false → (not (reads_one changed s.1) || is_some (value_at s.0 env)) ≡ true
        → (m : Met) → IsIn m (walk_at facts place inputs env s).met → IsIn m old

  -- with what one step meets, if it was not walked
  pub record HearsOne (env : Env) (number : ℕ) (s : Name × Step) (old new : BTreeMap ℕ (List KeptMet)) : Type 0 where
    pub right : (n : ℕ) (one : List KeptMet) → get nat_cmp new n ≡ Some one → (get nat_cmp old n ≡ Some one) ⊎ ((n ≡ number) × (map met_of one ≡ (walk_at facts place inputs env s).met))
    pub stays : (n : ℕ) → is_some (get nat_cmp old n) ≡ true → is_some (get nat_cmp new n) ≡ true
    pub heard : (is_some (value_at s.0 env) ≡ true) ⊎ (is_some (get nat_cmp new number) ≡ true)
