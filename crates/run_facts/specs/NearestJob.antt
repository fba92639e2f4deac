-- Of the jobs that a record has, the one that is nearest to a job that it does not have, and how they differ.
use Rattle.std.specs.Prelude.{◌≡◌, ◌<◌, ◌≤◌, ◌+◌, ℕ, Bool, false, not, List, [], ◌∷◌, ◌++◌, Option, Some, None, bytes_eq, count_by, filter, is_none, map, nat_lt, slice_get, if◌then◌else◌}
use Rattle.plain_data.specs.ByName.{value_at}
use Rattle.run_facts.specs.declared.key_parts.KeyParts.{KeyParts}
use Rattle.run_facts.specs.declared.nearest_job.Alike.{Alike}
use Rattle.run_facts.specs.declared.nearest_job.Alike.TheVariants.{ToolAndEnvironment, Inputs}
use Rattle.run_facts.specs.declared.nearest_job.Best.{Best}
use Rattle.run_facts.specs.declared.nearest_job.Change.{Change}
use Rattle.run_facts.specs.declared.nearest_job.Near.{Near}
use Rattle.run_facts.specs.declared.nearest_job.Near.TheVariants as near

-- JSON texts under names
abbrev pub Texts : Type 0
Texts = List (List ℕ × List ℕ)

-- ---- what differs

abbrev pub is_text : Option (List ℕ) → List ℕ → Bool
is_text None text = false
is_text (Some other) text = bytes_eq other text

-- the others have not this text under this name
abbrev pub is_changed : (others : Texts) → List ℕ × List ℕ → Bool
is_changed others e = not (is_text (value_at e.0 others) e.1)

-- these have nothing under this name
abbrev pub is_gone : Texts → List ℕ × List ℕ → Bool
is_gone texts e = is_none (value_at e.0 texts)

abbrev pub change_of : (others : Texts) → List ℕ × List ℕ → Change
change_of others e = record { name = e.0; now = Some e.1; was = value_at e.0 others }

abbrev pub gone_of : List ℕ × List ℕ → Change
gone_of e = record { name = e.0; now = None; was = Some e.1 }

-- each name with another text, or with none among the others, and then each that the others alone have
abbrev pub changes : (texts others : Texts) → List Change
changes texts others = map (change_of others) (filter (is_changed others) texts) ++ map gone_of (filter (is_gone texts) others)

-- how many they are
abbrev pub count : (texts others : Texts) → ℕ
count texts others = count_by (is_changed others) texts + count_by (is_gone texts) others

-- ---- which is nearest

-- how many inputs differ, if the tool and the environment are the same
pub record InputsDiffer (own row : KeyParts) (n : ℕ) : Type 0 where
  pub env : own.env ≡ row.env
  pub tool : own.tool ≡ row.tool
  pub counted : n ≡ count own.inputs row.inputs

-- how many fields of the tool differ, if the inputs are the same
pub record FieldsDiffer (own row : KeyParts) (n : ℕ) : Type 0 where
  pub inputs : own.inputs ≡ row.inputs
  pub counted : n ≡ count own.tool row.tool

abbrev pub Differ : Alike → (own row : KeyParts) → ℕ → Type 0
Differ ToolAndEnvironment own row n = InputsDiffer own row n
Differ Inputs own row n = FieldsDiffer own row n

module _ (alike : Alike) (own : KeyParts) (rows : List KeyParts) where
  -- no row has this alike
  abbrev pub IsNoneAlike : Type 0
  IsNoneAlike = (k : ℕ) (row : KeyParts) (n : ℕ) → slice_get rows k ≡ Some row → Differ alike own row n → ⊥

  -- of the rows that have this alike the first one with the fewest differences
  pub record IsNearest (row : KeyParts) : Type 0 where
    pub index : ℕ
    pub least : ℕ
    pub there : slice_get rows index ≡ Some row
    pub differs : Differ alike own row least
    pub fewest : (k : ℕ) (other : KeyParts) (n : ℕ) → slice_get rows k ≡ Some other → Differ alike own other n → least ≤ n
    pub first : (k : ℕ) (other : KeyParts) (n : ℕ) → k < index → slice_get rows k ≡ Some other → Differ alike own other n → least < n

-- of the best so far and another row, with its differences if it is alike, the better one: the first if they are equal
abbrev pub nearer : Option Best → (index : ℕ) → Option ℕ → Option Best
nearer best index None = best
nearer None index (Some n) = Some (record { index = index; count = n })
nearer (Some best) index (Some n) = if nat_lt n best.count then Some (record { index = index; count = n }) else Some best

-- ---- how the job differs

abbrev pub near_tool : List Change → Near
near_tool [] = near.Environment
near_tool (field ∷ fields) = near.Tool (field ∷ fields)

-- the tool and the environment are looked for before the inputs
pub data IsNear (own : KeyParts) (rows : List KeyParts) : Near → Type 0 where
  inputs : (row : KeyParts) → IsNearest ToolAndEnvironment own rows row → IsNear own rows (near.Inputs (changes own.inputs row.inputs))
  fields : (row : KeyParts) → IsNoneAlike ToolAndEnvironment own rows → IsNearest Inputs own rows row → IsNear own rows (near_tool (changes own.tool row.tool))
  nothing : IsNoneAlike ToolAndEnvironment own rows → IsNoneAlike Inputs own rows → IsNear own rows near.Nothing
