-- What the bytes of the output object read as.
use Rattle.std.proofs.Common.{◌≡◌, ◌≢◌, ℕ, Bool, true, false, true≢false, List, Ok, Err, refl, sym, ap, ◌∙◌}
use Rattle.std.specs.Str.{is_utf8}
use Rattle.std.proofs.lemmas.Str.{IsUtf8-from_is_utf8, is_utf8-from_IsUtf8}
use Rattle.cwl_value.specs.Reading.{Reads}
use Rattle.cwl_value.specs.Texts.{ReadsAs, as_json, not_json}
use Rattle.cwl_value.specs.declared.refusal.ValueRefusal.{ValueRefusal}
use Rattle.cwl_value.specs.declared.refusal.ValueRefusal.TheVariants as refusal
use Rattle.cwl_value.specs.declared.value.Value.{Value}
use Rattle.collected_outputs.specs.Gives.{Refuses}
use Rattle.collected_outputs.specs.Object.{bytes_read, fields_in}
use Rattle.collected_outputs.specs.inner.Written.{stop_of}

read_by : (bytes : List ℕ) (b : Bool) (r : Reads Value) → is_utf8 bytes ≡ b → ReadsAs bytes r → r ≡ bytes_read bytes
read_by bytes true _ is (not_json none) = rw (is, none (IsUtf8-from_is_utf8 bytes is)) refl
read_by bytes false _ is (not_json none) = rw is refl
read_by bytes true _ is (as_json d text reads) = rw (is, reads) refl
read_by bytes false _ is (as_json d text reads) = absurd (true≢false (sym (is_utf8-from_IsUtf8 bytes text) ∙ is))

pub read_as : (bytes : List ℕ) (r : Reads Value) → ReadsAs bytes r → r ≡ bytes_read bytes
read_as bytes r h = read_by bytes (is_utf8 bytes) r refl h

abbrev is_memory : Reads Value → Bool
is_memory (Err refusal.OutOfMemory) = true
is_memory _ = false

differs : (r : Reads Value) → is_memory r ≡ false → r ≢ Err refusal.OutOfMemory
differs r is same = true≢false (sym (ap is_memory same) ∙ is)

-- what reading says of its answer
abbrev pub Says : List ℕ → Reads Value → Type 0
Says bytes r = r ≢ Err refusal.OutOfMemory → ReadsAs bytes r

pub value_fields : (bytes : List ℕ) (v : Value) → Says bytes (Ok v) → fields_in (bytes_read bytes) ≡ fields_in (Ok v)
value_fields bytes v reads = ap fields_in (sym (read_as bytes (Ok v) (reads (differs (Ok v) refl))))

refused_fields : (bytes : List ℕ) (e : ValueRefusal) → is_memory (Err e) ≡ false → Says bytes (Err e) → fields_in (bytes_read bytes) ≡ fields_in (Err e)
refused_fields bytes e is reads = ap fields_in (sym (read_as bytes (Err e) (reads (differs (Err e) is))))

pub no_fields : (bytes : List ℕ) (e : ValueRefusal) → Says bytes (Err e) → Refuses (fields_in (bytes_read bytes)) (stop_of e)
no_fields bytes refusal.OutOfMemory reads = tt
no_fields bytes refusal.NotWhole reads = refused_fields bytes refusal.NotWhole refl reads
no_fields bytes refusal.OutOfRange reads = refused_fields bytes refusal.OutOfRange refl reads
no_fields bytes (refusal.BadFile field) reads = refused_fields bytes (refusal.BadFile field) refl reads
no_fields bytes refusal.NotJson reads = refused_fields bytes refusal.NotJson refl reads
no_fields bytes refusal.TooDeep reads = refused_fields bytes refusal.TooDeep refl reads
