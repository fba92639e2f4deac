use Rattle.std.proofs.Common.{◌≡◌, [], ◌∷◌, ◌++◌, ◌+◌, drop, is_some, true, sym, ap, subst, ◌∙◌}
use Rattle.plain_data.specs.ByName.{value_at, with_value}
use Rattle.document_links.specs.Names.{added, is_in}
use Rattle.document_links.proofs.Named.{has_it, known_more, new_url}
use Rattle.document_links.proofs.names.each_once.Goals as goal

pub loop-url-preserved : goal.loop-url-preserved
loop-url-preserved c =
    let url = c.url-item.result in
    let urls = c.args.urls.now in
    let once = c.loop-url.once in
    let known = c.loop-url.known in
    let pushed : c.push.new.self ≡ once ++ url ∷ [] = c.in_ok-push.ensures.ok ∙ ap (λ x. once ++ x ∷ []) c.in_ok-copied-2.ensures in
    record {
      rest =
          subst (λ found. added found (drop (c.loop-url.url-index + 1) urls) ≡ added [] urls) (sym pushed)
          (new_url urls c.loop-url.url-index url once c.loop-url-test.true c.url-item.is
          (sym (c.loop-url.invariant.known url) ∙ ap (λ n. is_some (value_at n known)) (sym c.as_str.ensures.bytes) ∙ sym (has_it _ _ c.contains.ensures) ∙ c.if-contains.false)
          c.loop-url.invariant.rest);
      known = λ asked.
          subst (λ entries. is_some (value_at asked entries) ≡ is_in asked c.push.new.self) (sym (c.in_ok-_new.ensures.new ∙ ap (λ n. with_value n true known) c.in_ok-copied.ensures))
          (subst (λ found. is_some (value_at asked (with_value url true known)) ≡ is_in asked found) (sym pushed) (known_more asked url known once (c.loop-url.invariant.known asked)));
    }
