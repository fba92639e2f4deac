-- A document has one process at most.
use Rattle.std.proofs.Common.{◌≡◌, ℕ, List, [], ◌∷◌, true, false, Some, None, Ok, refl, sym, ap, subst, ◌∙◌, codes}
use Rattle.std.proofs.lemmas.Bool.{true≢false}
use Rattle.std.proofs.lemmas.Option.{none-some, same_Some}
use Rattle.serde_json.specs.Data.{Data}
use Rattle.serde_json.specs.Find.{as_str, get}
use Rattle.document_table.specs.Packed.{Placed, item_named, root_of}
use Rattle.document_table.specs.Texts.{has_hash}
use Rattle.document_table.specs.declared.form.Kind.TheVariants as kind
use Rattle.cwl_process.specs.Acting.{asked_in}
use Rattle.cwl_process.specs.Processes.{is_workflow}
use Rattle.cwl_process.specs.Tools.{tool_in}
use Rattle.cwl_process.specs.Workflows.{own_id, step_parts_in}
use Rattle.cwl_process.specs.declared.tool.Asked.{Asked}
use Rattle.url.specs.Parts.{Parts}
use Rattle.document_links.specs.Defaults.{tool_on}
use Rattle.document_links.specs.Homes.{Home, home}
use Rattle.document_links.specs.Library.{Finds}
use Rattle.document_links.specs.Linked.{step_of}
use Rattle.document_links.specs.ProcessOf.{AreStepsOf, IsProcessOf, IsRunBy, objects_at, workflow_with}
use Rattle.document_links.specs.Urls.{joined, url_text}
use Rattle.document_links.specs.declared.process.Process.{Process}
use Rattle.document_links.specs.declared.process.Process as process
use Rattle.document_links.specs.declared.process.Step.{Step}
use Rattle.document_links.proofs.Related.{same_Ok}

-- ---- what is known of a second one, by the rule that the first has

a_tool : (find : Finds) (h : Home) (around : Asked) (d : Data) (p : Process) → IsProcessOf find h around d p → is_workflow d ≡ false → p ≡ process.Tool (tool_on h.url (tool_in around d))
a_tool find _ _ _ _ (IsProcessOf.tool h around d is placed) test = refl
a_tool find _ _ _ _ (IsProcessOf.workflow h around d steps is placed are) test = absurd (true≢false (sym is ∙ test))

a_workflow : (find : Finds) (h : Home) (around : Asked) (d : Data) (p : Process) → IsProcessOf find h around d p → is_workflow d ≡ true
    → (steps : List (List ℕ × Step)) × AreStepsOf find h (own_id d) (asked_in around d) (objects_at kind.Step (codes "steps") d) steps × (p ≡ workflow_with h.url d steps)
a_workflow find _ _ _ _ (IsProcessOf.tool h around d is placed) test = absurd (true≢false (sym test ∙ is))
a_workflow find _ _ _ _ (IsProcessOf.workflow h around d steps is placed are) test = (steps, are, refl)

none_more : (find : Finds) (h : Home) (id : List ℕ) (around : Asked) (steps : List (List ℕ × Step)) → AreStepsOf find h id around [] steps → steps ≡ []
none_more find _ _ _ _ (AreStepsOf.no_step h id around) = refl

one_more : (find : Finds) (h : Home) (id : List ℕ) (around : Asked) (e : List ℕ × Data) (es : List (List ℕ × Data)) (steps : List (List ℕ × Step))
    → AreStepsOf find h id around (e ∷ es) steps
    → (run : Data) × (p : Process) × (more : List (List ℕ × Step)) × (get (codes "run") e.1 ≡ Some run) × IsRunBy find h (asked_in around e.1) run p
    × AreStepsOf find h id around es more × (steps ≡ (e.0, step_of h.url p (step_parts_in id e.1)) ∷ more)
one_more find _ _ _ _ _ _ (AreStepsOf.one_step h id around e run p es more placed is runs are) = (run, p, more, is, runs, are, refl)

an_object : (find : Finds) (h : Home) (asked : Asked) (run : Data) (p : Process) → IsRunBy find h asked run p → as_str run ≡ None → IsProcessOf find h asked run p
an_object find _ _ _ _ (IsRunBy.embedded h asked run p none is) test = is
an_object find _ _ _ _ (IsRunBy.item h asked run name i p some hash at none is) test = absurd (none-some name (sym test ∙ some))
an_object find _ _ _ _ (IsRunBy.named h asked run name url d p some hash joins at is) test = absurd (none-some name (sym test ∙ some))

an_item : (find : Finds) (h : Home) (asked : Asked) (run : Data) (p : Process) → IsRunBy find h asked run p → (name : List ℕ) (i : Placed)
    → as_str run ≡ Some name → has_hash name ≡ true → item_named name h.document ≡ Some i → IsProcessOf find h asked i.process p
an_item find _ _ _ _ (IsRunBy.embedded h asked run p none is) name i test hash at = absurd (none-some name (sym none ∙ test))
an_item find _ _ _ _ (IsRunBy.item h asked run own its p some own_hash has none is) name i test hash at =
    let same_name : own ≡ name = same_Some own name (sym some ∙ test) in
    subst (λ j. IsProcessOf find h asked j.process p) (same_Some its i (sym has ∙ ap (λ n. item_named n h.document) same_name ∙ at)) is
an_item find _ _ _ _ (IsRunBy.named h asked run own url d p some own_hash joins has is) name i test hash at =
    absurd (true≢false (sym hash ∙ ap has_hash (sym (same_Some own name (sym some ∙ test))) ∙ own_hash))

a_name : (find : Finds) (h : Home) (asked : Asked) (run : Data) (p : Process) → IsRunBy find h asked run p → (name : List ℕ) (url : Parts) (d : Data)
    → as_str run ≡ Some name → has_hash name ≡ false → joined h.url name ≡ Some url → find (url_text url) ≡ Some (Ok d) → IsProcessOf find (home url d) asked (root_of d).process p
a_name find _ _ _ _ (IsRunBy.embedded h asked run p none is) name url d test hash joins at = absurd (none-some name (sym none ∙ test))
a_name find _ _ _ _ (IsRunBy.item h asked run own its p some own_hash has none is) name url d test hash joins at =
    absurd (true≢false (sym own_hash ∙ ap has_hash (same_Some own name (sym some ∙ test)) ∙ hash))
a_name find _ _ _ _ (IsRunBy.named h asked run own its json p some own_hash leads has is) name url d test hash joins at =
    let same_url : its ≡ url = same_Some its url (sym leads ∙ ap (joined h.url) (same_Some own name (sym some ∙ test)) ∙ joins) in
    let same_json : json ≡ d = same_Ok json d (same_Some (Ok json) (Ok d) (sym has ∙ ap (λ u. find (url_text u)) same_url ∙ at)) in
    subst (λ u. IsProcessOf find (home u d) asked (root_of d).process p) same_url (subst (λ j. IsProcessOf find (home its j) asked (root_of j).process p) same_json is)

-- ---- both are one

mutual
  pub same_process : (find : Finds) (q : Process) (h : Home) (around : Asked) (d : Data) (p : Process) → IsProcessOf find h around d p → IsProcessOf find h around d q → p ≡ q
  same_process find q _ _ _ _ (IsProcessOf.tool h around d test placed) other = sym (a_tool find h around d q other test)
  same_process find q _ _ _ _ (IsProcessOf.workflow h around d steps test placed are) other =
      let its = a_workflow find h around d q other test in
      ap (workflow_with h.url d) (same_steps find its.0 _ _ _ _ _ are its.1) ∙ sym its.2

  same_steps : (find : Finds) (others : List (List ℕ × Step)) (h : Home) (id : List ℕ) (around : Asked) (es : List (List ℕ × Data)) (steps : List (List ℕ × Step))
      → AreStepsOf find h id around es steps → AreStepsOf find h id around es others → steps ≡ others
  same_steps find others _ _ _ _ _ (AreStepsOf.no_step h id around) other = sym (none_more find h id around others other)
  same_steps find others _ _ _ _ _ (AreStepsOf.one_step h id around e run p es steps placed is runs are) other =
      let its = one_more find h id around e es others other in
      ap (λ p. (e.0, step_of h.url p (step_parts_in id e.1)) ∷ steps)
      (same_run find its.1 _ _ _ _ runs (subst (λ r. IsRunBy find h (asked_in around e.1) r its.1) (same_Some its.0 run (sym its.3 ∙ is)) its.4))
      ∙ ap (λ more. (e.0, step_of h.url its.1 (step_parts_in id e.1)) ∷ more) (same_steps find its.2 _ _ _ _ _ are its.5)
      ∙ sym its.6

  same_run : (find : Finds) (q : Process) (h : Home) (asked : Asked) (run : Data) (p : Process) → IsRunBy find h asked run p → IsRunBy find h asked run q → p ≡ q
  same_run find q _ _ _ _ (IsRunBy.embedded h asked run p none is) other = same_process find q _ _ _ _ is (an_object find h asked run q other none)
  same_run find q _ _ _ _ (IsRunBy.item h asked run name i p some hash at none is) other = same_process find q _ _ _ _ is (an_item find h asked run q other name i some hash at)
  same_run find q _ _ _ _ (IsRunBy.named h asked run name url d p some hash joins at is) other =
      same_process find q _ _ _ _ is (a_name find h asked run q other name url d some hash joins at)

pub one_process : (find : Finds) (h : Home) (around : Asked) (d : Data) (p q : Process) → IsProcessOf find h around d p → IsProcessOf find h around d q → p ≡ q
one_process find h around d p q is other = same_process find q h around d p is other
