use Rattle.std.proofs.Common.{Some, Bool, map, sym, ap, ◌∙◌}
use Rattle.std.specs.List.{find}
use Rattle.std.specs.Option.{option_copied, option_map}
use Rattle.std.specs.Str.{bytes_eq}
use Rattle.nesl_keys.specs.Entries.{Listed}
use Rattle.nesl_keys.specs.Shown.{kept_as}
use Rattle.nesl_keys.proofs.Files.{find-map}
use Rattle.nesl_keys.proofs.keys.Keys.entry_of.Goals as goal

pub returns-in-Some : goal.returns-in-Some
returns-in-Some c =
    let p : Listed → Bool = λ one. bytes_eq one.name c.args.name.now in
    ap (λ x. Some x) c.lend.ensures ∙ ap (λ r. option_map kept_as (option_copied r)) (sym c.in-Some.is)
    ∙ ap (λ r. option_map kept_as r) c.find_kept.ensures ∙ sym (find-map kept_as p c.as_slice.result.now)
    ∙ ap (λ xs. find p (map kept_as xs)) c.as_slice.ensures.value

pub returns-in-None : goal.returns-in-None
returns-in-None c =
    let p : Listed → Bool = λ one. bytes_eq one.name c.args.name.now in
    ap (λ r. option_map kept_as (option_copied r)) (sym c.in-None.is)
    ∙ ap (λ r. option_map kept_as r) c.find_kept.ensures ∙ sym (find-map kept_as p c.as_slice.result.now)
    ∙ ap (λ xs. find p (map kept_as xs)) c.as_slice.ensures.value
