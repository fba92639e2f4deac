use Rattle.std.proofs.Common.{◌≡◌, ℕ, List, [], drop, is_some}
use Rattle.plain_data.specs.ByName.{value_at}
use Rattle.document_links.specs.Names.{added, is_in}
use Rattle.document_links.proofs.names.each_once.Given as goal

abbrev pub invariant-loop-url : goal.invariant-loop-url
invariant-loop-url l = record {
  rest : added l.once (drop l.url-index l.urls) ≡ added [] l.urls;
  known : (url : List ℕ) → is_some (value_at url l.known) ≡ is_in url l.once;
}
