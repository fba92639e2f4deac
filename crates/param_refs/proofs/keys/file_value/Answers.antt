use Rattle.std.proofs.Common.{◌≡◌, false, codes, refl}
use Rattle.std.specs.Str.{bytes_eq}
use Rattle.param_refs.proofs.Absent.{apart}
use Rattle.param_refs.proofs.keys.file_value.Goals as goal

pub returns-in_default : goal.returns-in_default
returns-in_default c =
    let key = c.args.key.now in
    let no_basename : bytes_eq key (codes "basename") ≡ false = search (apart, c.in_default.not-basename) in
    let no_checksum : bytes_eq key (codes "checksum") ≡ false = search (apart, c.in_default.not-checksum) in
    let no_class : bytes_eq key (codes "class") ≡ false = search (apart, c.in_default.not-class) in
    let no_contents : bytes_eq key (codes "contents") ≡ false = search (apart, c.in_default.not-contents) in
    let no_dirname : bytes_eq key (codes "dirname") ≡ false = search (apart, c.in_default.not-dirname) in
    let no_location : bytes_eq key (codes "location") ≡ false = search (apart, c.in_default.not-location) in
    let no_nameext : bytes_eq key (codes "nameext") ≡ false = search (apart, c.in_default.not-nameext) in
    let no_nameroot : bytes_eq key (codes "nameroot") ≡ false = search (apart, c.in_default.not-nameroot) in
    let no_path : bytes_eq key (codes "path") ≡ false = search (apart, c.in_default.not-path) in
    let no_secondaryfiles : bytes_eq key (codes "secondaryFiles") ≡ false = search (apart, c.in_default.not-secondaryFiles) in
    let no_size : bytes_eq key (codes "size") ≡ false = search (apart, c.in_default.not-size) in
    rw (no_basename, no_checksum, no_class, no_contents, no_dirname, no_location, no_nameext, no_nameroot, no_path, no_secondaryfiles, no_size) refl
