use Rattle.std.proofs.Common.{subst}
use Rattle.document_links.specs.Documents.{IsRefused}
use Rattle.document_links.specs.declared.fault.LinkError.TheVariants.{Refused}
use Rattle.document_links.specs.declared.fault.LinkFault.{LinkFault}
use Rattle.run_given.proofs.Stops.{wrong_document}
use Rattle.run_given.proofs.documents.faulty.Goals as goal

pub returns-in-Document : goal.returns-in-Document
returns-in-Document c =
    wrong_document c.args._document.now c.args.base.now c.args.docs.now _ _
    (subst (λ (f : LinkFault). IsRefused (Refused f) c.args._document.now c.args.base.now c.args.docs.now) c.in-Document.is c.requires) tt c.wrong.ensures

pub returns-in-NoItem : goal.returns-in-NoItem
returns-in-NoItem c =
    wrong_document c.args._document.now c.args.base.now c.args.docs.now _ _
    (subst (λ (f : LinkFault). IsRefused (Refused f) c.args._document.now c.args.base.now c.args.docs.now) c.in-NoItem.is c.requires) tt c.wrong-in-NoItem.ensures

pub returns-in-TooDeep : goal.returns-in-TooDeep
returns-in-TooDeep c =
    wrong_document c.args._document.now c.args.base.now c.args.docs.now _ _
    (subst (λ (f : LinkFault). IsRefused (Refused f) c.args._document.now c.args.base.now c.args.docs.now) c.in-TooDeep.is c.requires) tt c.wrong-in-TooDeep.ensures

pub returns-in-TooMany : goal.returns-in-TooMany
returns-in-TooMany c =
    wrong_document c.args._document.now c.args.base.now c.args.docs.now _ _
    (subst (λ (f : LinkFault). IsRefused (Refused f) c.args._document.now c.args.base.now c.args.docs.now) c.in-TooMany.is c.requires) tt c.wrong-in-TooMany.ensures
