use Rattle.std.proofs.Common.{◌≡◌, None, option_map, sym, ap, arith}
use Rattle.std.specs.Char.{encode_utf8}
use Rattle.param_refs.specs.Descent.{number_of}
use Rattle.param_refs.proofs.Characters.{no_character, character_is}
use Rattle.param_refs.proofs.index.character.Goals as goal

pub returns-then-index-len : goal.returns-then-index-len
returns-then-index-len c =
    sym (ap (option_map encode_utf8) (no_character c.args.text.now (number_of c.args.digits.now) c.as_str-characters.ensures.utf8 (omega (arith, c.index_of-index.ensures, c.len.ensures))))

pub returns-in-None : goal.returns-in-None
returns-in-None c =
    let same : number_of c.args.digits.now ≡ c.index_of-index.result = omega (arith, c.index_of-index.ensures, c.len.ensures, c.len.type_inv) in
    character_is c.args.text.now c.as_str-characters.result.now (number_of c.args.digits.now) c.index_of-index.result None c.as_str-characters.ensures.bytes same c.in-None.ensures
