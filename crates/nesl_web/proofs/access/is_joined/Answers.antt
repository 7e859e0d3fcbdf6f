use Rattle.std.proofs.Common.{◌++◌, Some, None, bytes_eq, sym, ◌∙◌, ap}
use Rattle.std.proofs.lemmas.Bool.Decides.{Decides-eqb}
use Rattle.std.proofs.lemmas.Slice.Eq.{strip_prefix_is}
use Rattle.nesl_web.proofs.AccessLemmas.{bytes_eq-same_front, unequal}
use Rattle.nesl_web.proofs.access.is_joined.Goals as goal

pub returns-in-Some : goal.returns-in-Some
returns-in-Some c =
    let whole = strip_prefix_is Decides-eqb c.args.text.now c.args.front.now (Some c.in-Some.found) c.in-Some.ensures.cases in
    c.eq.ensures ∙ sym (bytes_eq-same_front c.args.front.now c.in-Some.found.now c.args.rest.now)
    ∙ ap (λ text. bytes_eq text (c.args.front.now ++ c.args.rest.now)) (sym whole)

pub returns-in-None : goal.returns-in-None
returns-in-None c =
    let never = strip_prefix_is Decides-eqb c.args.text.now c.args.front.now None c.in-None.ensures.cases in
    unequal c.args.text.now (c.args.front.now ++ c.args.rest.now) (never c.args.rest.now)
