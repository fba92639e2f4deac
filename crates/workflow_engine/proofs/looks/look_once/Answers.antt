use Rattle.workflow_engine.proofs.LooksAlone.{looked_once, may_be_told, rests_on}
use Rattle.workflow_engine.proofs.looks.look_once.Goals as goal

pub tell-requires : goal.tell-requires
tell-requires g c =
    may_be_told c.args.core.now c.next.result.now c.ask_look-told.result c.next.ensures.asked c.requires.look c.requires.rest c.ask_look-told.ensures.answers

pub returns-clause-looks : goal.returns-clause-looks
returns-clause-looks g c =
    looked_once _ _ _ _ c.args.core.now _ _ _ _ c.tell.new.core c.next.result.now c.ask_look-told.result c.next.ensures.asked c.requires.look c.tell.ensures.told
    c.ask_look-told.ensures.logged c.ask_look-told.ensures.recorded c.ask_look-told.ensures.by_map

pub returns-clause-rest : goal.returns-clause-rest
returns-clause-rest g c =
    rests_on c.args.core.now c.tell.new.core c.next.result.now c.ask_look-told.result c.tell.result c.next.ensures.asked c.requires.look c.requires.rest
    c.ask_look-told.ensures.answers c.tell.ensures.told c.tell.ensures.ok
