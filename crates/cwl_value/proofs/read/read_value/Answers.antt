use Rattle.std.proofs.Common.{true≢false, sym, ◌∙◌}
use Rattle.serde_json.specs.View.{view}
use Rattle.serde_json.specs.Errors.{IsMemory}
use Rattle.cwl_value.specs.Texts.{not_json}
use Rattle.cwl_value.proofs.ReadText.{as_read}
use Rattle.cwl_value.proofs.read.read_value.Goals as goal

pub returns-in-Ok : goal.returns-in-Ok
returns-in-Ok c = as_read c.args.bytes.now (view c.in-Ok.json) c.from_json.result c.in-Ok.ensures.ok.0 c.in-Ok.ensures.ok.1 c.from_json.ensures.ok c.from_json.ensures.err

pub returns-in-Err-2 : goal.returns-in-Err-2
returns-in-Err-2 c =
    let other : IsMemory c.in-Err.error → ⊥ = λ memory. true≢false (sym (c.is_memory.ensures.1 memory) ∙ c.if-is_memory.false) in
    λ never. not_json (c.in-Err.ensures.err other)
