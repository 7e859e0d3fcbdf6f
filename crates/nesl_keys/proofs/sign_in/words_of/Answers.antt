use Rattle.std.proofs.Common.{◌≡◌, ◌∷◌, ◌++◌, codes, Some, ap, ◌∙◌, true}
use Rattle.std.proofs.lemmas.Bool.Decides.{Decides-eqb}
use Rattle.std.proofs.lemmas.Slice.Eq.{strip_prefix_is}
use Rattle.nesl_keys.specs.Admission.{keyed_line, user_line}
use Rattle.nesl_keys.specs.Names.{is_user_name}
use Rattle.nesl_keys.specs.Secrets.{is_secret}
use Rattle.nesl_keys.proofs.Words.{hex_length, one_key_line}
use Rattle.nesl_keys.proofs.sign_in.words_of.Goals as goal
use Rattle.nesl_keys.proofs.sign_in.words_of.Goals.{else-is_user_name-via-then-is_user_name+else-is_hex_text, else-is_user_name-via-else-is_user_name}

pub returns-in_default-clause-none : goal.returns-in_default-clause-none
returns-in_default-clause-none c =
    λ name key are said. c.in_default.ensures.none (user_line name) key (hex_length 32 key are.key_is) said

pub returns-else-is_user_name-clause-none : goal.returns-else-is_user_name-clause-none
returns-else-is_user_name-clause-none c =
    λ name key are said.
    let front = strip_prefix_is Decides-eqb c.in-Some.parts.front.now (codes "user ")
    (Some c.in-Some-strip_prefix.name) c.in-Some-strip_prefix.ensures.cases in
    let whole : c.args.line.now ≡ keyed_line c.in-Some-strip_prefix.name.now c.in-Some.parts.word.now =
    c.in-Some.ensures.some.0 ∙ ap (λ x. x ++ 32 ∷ c.in-Some.parts.word.now) front in
    let same = one_key_line c.args.line.now _ _ name key whole c.in-Some.ensures.some.1 are said in
    let named : is_user_name c.in-Some-strip_prefix.name.now ≡ true = ap is_user_name same.0 ∙ are.name_is in
    let secret : is_secret c.in-Some.parts.word.now ≡ true = ap is_secret same.1 ∙ are.key_is in
    elim c.else-is_user_name.branch [
      | else-is_user_name-via-then-is_user_name+else-is_hex_text w ↦ absurd (cc (w.is_hex_text.ensures, secret, w.if-is_hex_text.false))
      | else-is_user_name-via-else-is_user_name w ↦ absurd (cc (c.is_user_name.ensures, named, w.if-is_user_name.false))
    ]
