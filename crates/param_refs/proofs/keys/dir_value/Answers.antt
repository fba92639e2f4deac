use Rattle.std.proofs.Common.{◌≡◌, false, codes, refl}
use Rattle.std.specs.Str.{bytes_eq}
use Rattle.param_refs.proofs.Absent.{apart}
use Rattle.param_refs.proofs.keys.dir_value.Goals as goal

pub returns-in_default : goal.returns-in_default
returns-in_default c =
    let key = c.args.key.now in
    let no_basename : bytes_eq key (codes "basename") ≡ false = search (apart, c.in_default.not-basename) in
    let no_class : bytes_eq key (codes "class") ≡ false = search (apart, c.in_default.not-class) in
    let no_listing : bytes_eq key (codes "listing") ≡ false = search (apart, c.in_default.not-listing) in
    let no_location : bytes_eq key (codes "location") ≡ false = search (apart, c.in_default.not-location) in
    let no_path : bytes_eq key (codes "path") ≡ false = search (apart, c.in_default.not-path) in
    rw (no_basename, no_class, no_listing, no_location, no_path) refl
