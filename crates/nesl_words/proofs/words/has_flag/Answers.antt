use Rattle.std.proofs.Common.{◌∙◌, ap, sym, slice_get, option_map}
use Rattle.std.specs.Prelude.{option_and_then}
use Rattle.std.specs.Option.{option_copied}
use Rattle.clap.specs.Matches.{found_of}
use Rattle.clap.proofs.WalkLemmas.{raw_values-rows}
use Rattle.nesl_words.proofs.Flags.{first_read}
use Rattle.nesl_words.specs.Words.{is_true}
use Rattle.nesl_words.proofs.words.has_flag.Goals as goal

pub returns-in-Some-first : goal.returns-in-Some-first
returns-in-Some-first c =
    c.eq.ensures ∙ ap (λ text. is_true (option_map (λ v. v.now) text)) (sym (ap option_copied c.in-Some-first.is) ∙ c.first.ensures.value)
    ∙ sym (ap (λ r. is_true (option_and_then (λ s. option_map (λ v. v.now) (slice_get s.now 0)) r)) c.in-Some.is) ∙ first_read (λ v. v.now) (λ s. s.now) c.get_strs.result _ (c.get_strs.ensures ∙ raw_values-rows (found_of c.args.matches.now) c.args.name.now)

pub returns-in-None-first : goal.returns-in-None-first
returns-in-None-first c =
    ap (λ text. is_true (option_map (λ v. v.now) text)) (sym (ap option_copied c.in-None-first.is) ∙ c.first.ensures.value)
    ∙ sym (ap (λ r. is_true (option_and_then (λ s. option_map (λ v. v.now) (slice_get s.now 0)) r)) c.in-Some.is) ∙ first_read (λ v. v.now) (λ s. s.now) c.get_strs.result _ (c.get_strs.ensures ∙ raw_values-rows (found_of c.args.matches.now) c.args.name.now)

pub returns-in-None : goal.returns-in-None
returns-in-None c = sym (ap (λ r. is_true (option_and_then (λ s. option_map (λ v. v.now) (slice_get s.now 0)) r)) c.in-None.is) ∙ first_read (λ v. v.now) (λ s. s.now) c.get_strs.result _ (c.get_strs.ensures ∙ raw_values-rows (found_of c.args.matches.now) c.args.name.now)
