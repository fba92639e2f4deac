use Rattle.std.proofs.Common.{◌∙◌, refl}
use Rattle.workflow_engine.proofs.LooksAlone.{looks_on, no_look}
use Rattle.workflow_engine.proofs.looks.look.Goals as goal

pub loop-host-init : goal.loop-host-init
loop-host-init g c = record { looks = no_look _ _ _ _ _; running = refl; rest = c.requires }

pub loop-host-preserved : goal.loop-host-preserved
loop-host-preserved g c = record {
  looks = looks_on _ _ _ _ _ _ _ _ _ _ _ _ _ _ _ c.loop-host.invariant.looks c.look_once.ensures.looks;
  running = c.look_once.ensures.running ∙ c.loop-host.invariant.running;
  rest = c.in_ok-look_once.ensures.rest;
}

pub returns-in_err-look_once-clause-looks : goal.returns-in_err-look_once-clause-looks
returns-in_err-look_once-clause-looks g c = looks_on _ _ _ _ _ _ _ _ _ _ _ _ _ _ _ c.loop-host.invariant.looks c.look_once.ensures.looks
