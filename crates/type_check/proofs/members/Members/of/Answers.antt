use Rattle.std.proofs.Common.{◌∙◌, sym}
use Rattle.cwl_types.specs.declared.types.MemberType.{out-MemberType}
use Rattle.type_check.specs.Depths.{lists_at}
use Rattle.type_check.specs.inner.Members.{lent, texts_at}
use Rattle.type_check.proofs.Tests.{any_mapped}
use Rattle.type_check.proofs.members.Members.of.Goals as goal

pub returns : goal.returns
returns c = record {
  plains = c.plains_of.ensures;
  lists = c.some_has_lists.ensures ∙ sym (any_mapped lent (λ m. lists_at (out-MemberType m)) c.args.members.now);
  texts = c.some_has_texts.ensures ∙ sym (any_mapped lent (λ m. texts_at (out-MemberType m)) c.args.members.now);
  order = c.in_ok-symbols.ensures.0;
  symbols = c.in_ok-symbols.ensures.1;
}
