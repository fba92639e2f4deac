-- The URLs that one process names, and what is wrong with a document whatever it names.
use Rattle.std.proofs.Common.{rules, ◌≡◌, ◌≢◌, ℕ, zero, suc, ◌-◌, List, [], ◌∷◌, ◌++◌, Bool, true, false, Option, Some, None, is_some, refl, sym, ap, ◌∙◌, inr, arith, bytes_eq, cond, ◌+◌, ◌<◌, length, drop, get_or, IsTrue}
use Rattle.std.specs.Prelude.{if◌then◌else◌, ◌||◌}
use Rattle.std.specs.Option.{IsSome}
use Rattle.std.proofs.lemmas.List.{append-nil, drop_more}
use Rattle.std.proofs.Math.Bool.{or-false, or-true}
use Rattle.std.proofs.lemmas.List.Folds.{list_any-append}
use Rattle.serde_json.specs.Data.{Data, null}
use Rattle.serde_json.specs.View.{view}
use Rattle.serde_json.specs.declared.value.Value as value
use Rattle.serde_json.specs.declared.value.Value.{the_lemmas}
use Rattle.document_table.specs.declared.indexed.Indexed.{Indexed}
use Rattle.plain_data.specs.ByName.{value_at, with_value}
use Rattle.plain_data.proofs.Lookup.{value_at-with_value}
use Rattle.cwl_process.specs.Documents as one
use Rattle.cwl_process.specs.Processes.{is_workflow}
use Rattle.url.specs.Parts.{Parts}
use Rattle.document_links.specs.Documents.{IsErrorOf, IsNotNeeding, bounded_by}
use Rattle.document_links.specs.Homes.{Home}
use Rattle.document_links.specs.Names.{added, alone, is_in, urls_in, workflow_urls}
use Rattle.document_links.specs.Targets.{leads_in, stands_in}
use Rattle.document_links.specs.declared.fault.LinkError.{LinkError}
use Rattle.document_links.specs.declared.fault.LinkError.TheVariants.{Refused, OutOfMemory}
use Rattle.document_links.specs.declared.library.Library.TheVariants.{Any}

before : (n : ℕ) → n ≡ suc n - 1
before n = omega arith

pub none_so_deep : (levels : ℕ) (h : Home) (d : Data) → levels ≡ 0 → urls_in levels h d ≡ []
unfolding urls_in
none_so_deep zero h d is = refl
none_so_deep (suc levels) h d is = absurd (omega (arith, is))

pub none_of_tool : (levels : ℕ) (h : Home) (d : Data) → is_workflow d ≡ false → urls_in levels h d ≡ []
unfolding urls_in
none_of_tool zero h d is = refl
none_of_tool (suc levels) h d is = ap (λ t. if t then workflow_urls (urls_in levels h) h d else []) is

pub of_workflow : (levels : ℕ) (h : Home) (d : Data) → levels ≢ 0 → is_workflow d ≡ true → urls_in levels h d ≡ workflow_urls (urls_in (levels - 1) h) h d
unfolding urls_in
of_workflow zero h d some is = absurd (some refl)
of_workflow (suc levels) h d some is =
    ap (λ t. if t then workflow_urls (urls_in levels h) h d else []) is ∙ ap (λ n. workflow_urls (urls_in n h) h d) (before levels)

-- nothing more
pub no_more : (urls more : List (List ℕ)) → more ≡ [] → urls ≡ urls ++ more
no_more urls more is = sym (ap (λ x. urls ++ x) is ∙ append-nil urls)

pub null_seen : view value.Null ≡ null
null_seen = search (rules, the_lemmas)

-- What is empty stands in for each document and each item.
pub leads_alone : (document : Indexed) → view document.json ≡ null → leads_in (Any document) ≡ alone
unfolding leads_in stands_in
leads_alone document is = ap stands_in is

pub not_needing : (bytes : List ℕ) (base : Parts) (d : Data) (e : LinkError) → one.IsSound bytes d → IsErrorOf (bounded_by alone base d) e → IsNotNeeding e bytes base
not_needing bytes base d (Refused fault) sound is = inr (d, sound, is)
not_needing bytes base d OutOfMemory sound is = tt

-- ---- each once

-- a URL that was found already
pub old_url : (urls : List (List ℕ)) (i : ℕ) (url : List ℕ) (once : List (List ℕ)) → i < length urls → url ≡ get_or urls i url → is_in url once ≡ true
    → added once (drop i urls) ≡ added [] urls → added once (drop (i + 1) urls) ≡ added [] urls
old_url urls i url once inside at is so_far =
    sym (ap (λ t. added (if t then once else once ++ url ∷ []) (drop (i + 1) urls)) is)
    ∙ sym (ap (added once) (drop_more urls i url inside ∙ ap (λ x. x ∷ drop (i + 1) urls) (sym at)))
    ∙ so_far

-- a new one
pub new_url : (urls : List (List ℕ)) (i : ℕ) (url : List ℕ) (once : List (List ℕ)) → i < length urls → url ≡ get_or urls i url → is_in url once ≡ false
    → added once (drop i urls) ≡ added [] urls → added (once ++ url ∷ []) (drop (i + 1) urls) ≡ added [] urls
new_url urls i url once inside at is so_far =
    sym (ap (λ t. added (if t then once else once ++ url ∷ []) (drop (i + 1) urls)) is)
    ∙ sym (ap (added once) (drop_more urls i url inside ∙ ap (λ x. x ∷ drop (i + 1) urls) (sym at)))
    ∙ so_far

one_more : (asked url : List ℕ) (o : Option Bool) (once : List (List ℕ)) (test : Bool) → bytes_eq asked url ≡ test → is_some o ≡ is_in asked once
    → is_some (cond test (Some true) o) ≡ (is_in asked once || (test || false))
one_more asked url o once true is same = sym (or-true (is_in asked once))
one_more asked url o once false is same = same ∙ sym (or-false (is_in asked once))

-- what is known of those that were found, once there is one more
pub known_more : (asked url : List ℕ) (known : List (List ℕ × Bool)) (once : List (List ℕ)) → is_some (value_at asked known) ≡ is_in asked once
    → is_some (value_at asked (with_value url true known)) ≡ is_in asked (once ++ url ∷ [])
known_more asked url known once same =
    ap is_some (value_at-with_value asked url true known)
    ∙ one_more asked url (value_at asked known) once (bytes_eq asked url) refl same
    ∙ sym (list_any-append (bytes_eq asked) once (url ∷ []))

pub has_it : {X : Type 0} (b : Bool) (o : Option X) → (IsTrue b → IsSome o) × (IsSome o → IsTrue b) → b ≡ is_some o
has_it true None both = sym (both.0 refl)
has_it true (Some x) both = refl
has_it false None both = refl
has_it false (Some x) both = both.1 refl
