-- From what JSON data reads as to what its text reads as.
use Rattle.std.proofs.Common.{◌≡◌, ◌≢◌, ℕ, List, Some, Ok, Err, IfOk, IfErr, ap, subst}
use Rattle.std.specs.Prelude.{IsUtf8}
use Rattle.serde_json.specs.Data.{Data}
use Rattle.serde_json.specs.Read as json
use Rattle.cwl_value.specs.Reading.{Reads, reading}
use Rattle.cwl_value.specs.Texts.{ReadsAs, as_json}
use Rattle.cwl_value.specs.declared.refusal.ValueRefusal.TheVariants.{OutOfMemory}
use Rattle.cwl_value.specs.declared.value.Value.{Value}

pub as_read : (bytes : List ℕ) (d : Data) (r : Reads Value) → IsUtf8 bytes → json.read bytes ≡ Some d → IfOk r (λ v. reading d ≡ Ok v) → IfErr r (λ e. e ≢ OutOfMemory → reading d ≡ Err e)
    → r ≢ Err OutOfMemory → ReadsAs bytes r
as_read bytes d (Ok v) text is ok err never = subst (ReadsAs bytes) ok (as_json d text is)
as_read bytes d (Err e) text is ok err never = subst (ReadsAs bytes) (err (λ same. never (ap Err same))) (as_json d text is)
