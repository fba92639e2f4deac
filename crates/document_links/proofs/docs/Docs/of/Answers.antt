use Rattle.std.proofs.Common.{◌≡◌, [], ◌∷◌, ◌++◌, sym, ap, subst, ◌∙◌}
use Rattle.std.specs.Vec.Iter.{into_iter_items}
use Rattle.std.proofs.lemmas.List.{nil_from_length}
use Rattle.plain_data.specs.ByName.{IsByName}
use Rattle.document_links.specs.Library.{IsLookUp, finds_among}
use Rattle.document_links.specs.inner.Sound.{AllSound}
use Rattle.document_links.proofs.Made.{AreMade, all_held, all_made, all_sound, by_name, found_in, made_more, read_leads, whole_more}
use Rattle.document_links.proofs.docs.Docs.of.Goals as goal

pub loop-url-preserved : goal.loop-url-preserved
loop-url-preserved c =
    let yielded = c.loop-url.yielded in
    let url = c.in-Some.url in
    let parts = c.into_parts-bytes.result in
    record {
      whole = whole_more c.args.documents yielded (into_iter_items c.loop-url.url-iterator) (into_iter_items c.next.new.self) (url, c.in-Some.document) c.loop-url.invariant.whole c.in-Some.ensures.steps.0;
      kept =
          c.in_ok-push-2.ensures.items
          ∙ ap (λ held. held ++ (url, parts.0) ∷ []) c.loop-url.invariant.kept
          ∙ ap (λ bytes. yielded ++ (url, bytes) ∷ []) c.into_parts-bytes.ensures.bytes;
      made =
          subst (λ readings. AreMade (yielded ++ (url, c.in-Some.document) ∷ []) readings) (sym c.in_ok-push.ensures.items)
          (made_more yielded c.loop-url.readings.items (url, c.in-Some.document) (c.in_ok-name.name, parts.1) c.loop-url.invariant.made
          (c.in_ok-name.ensures, c.into_parts-bytes.ensures.read, c.into_parts-bytes.ensures.process));
    }

pub from_sorted-requires-2 : goal.from_sorted-requires-2
from_sorted-requires-2 c =
    let over : into_iter_items c.loop-url.url-iterator ≡ [] = nil_from_length (into_iter_items c.loop-url.url-iterator) (sym c.loop-url.url-iterator.rest.ok.0 ∙ c.in-None.ensures.steps.0) in
    let made = all_made c.args.documents c.loop-url.yielded (into_iter_items c.loop-url.url-iterator) c.loop-url.readings.items c.loop-url.invariant.whole over c.loop-url.invariant.made in
    by_name c.args.documents c.loop-url.readings.items made (subst IsByName c.into_entries-url-items.ensures.entries c.into_entries-url-items.ensures.order)

pub invariant_of-result : goal.invariant_of-result
invariant_of-result c =
    let over : into_iter_items c.loop-url.url-iterator ≡ [] = nil_from_length (into_iter_items c.loop-url.url-iterator) (sym c.loop-url.url-iterator.rest.ok.0 ∙ c.in-None.ensures.steps.0) in
    let held = all_held c.args.documents c.loop-url.yielded (into_iter_items c.loop-url.url-iterator) c.loop-url.held.items c.loop-url.invariant.whole over c.loop-url.invariant.kept in
    let made = all_made c.args.documents c.loop-url.yielded (into_iter_items c.loop-url.url-iterator) c.loop-url.readings.items c.loop-url.invariant.whole over c.loop-url.invariant.made in (
      subst (λ bytes. IsLookUp bytes (finds_among c.from_sorted-2.result)) (sym (c.from_sorted.ensures ∙ held))
          (subst (λ readings. IsLookUp c.args.documents (finds_among readings)) (sym c.from_sorted-2.ensures) (found_in c.args.documents c.loop-url.readings.items made)),
      subst AllSound (sym c.from_sorted-2.ensures) (all_sound c.args.documents c.loop-url.readings.items made),
      read_leads c.from_sorted-2.result,
    )
