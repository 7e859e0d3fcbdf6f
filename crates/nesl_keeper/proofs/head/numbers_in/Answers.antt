use Rattle.std.proofs.Common.{◌≡◌, ℕ, Option, Some, sym, ap, ◌∙◌}
use Rattle.std.proofs.lemmas.Option.{none-some, same_Some}
use Rattle.nesl_keeper.specs.declared.head.Numbers.{Numbers}
use Rattle.nesl_keeper.proofs.Heads.{after_version, blank_there, before_blank, after_blank}
use Rattle.nesl_keeper.proofs.head.numbers_in.Goals as goal

-- both numbers
these : {m n base cleared : ℕ} → m ≡ base → n ≡ cleared → ◌≡◌ {A = Option Numbers} (Some (record { base = m; cleared = n })) (Some (record { base = base; cleared = cleared }))
these {m} {n} {base} {cleared} one other = ap (λ (k : ℕ). Some (record { base = k; cleared = n })) one ∙ ap (λ (k : ℕ). Some (record { base = base; cleared = k })) other

pub returns-in_err-blank : goal.returns-in_err-blank
returns-in_err-blank c = λ base cleared few small is.
    let rest = after_version c.args.head.now c.in_ok-rest.rest.now base cleared c.in_ok-rest.ensures.cases.1 is in
    absurd (none-some _ (sym c.in_err-blank.was ∙ c.find_blank.ensures.place ∙ blank_there c.in_ok-rest.rest.now base cleared few rest))

pub returns-in_err-number_in : goal.returns-in_err-number_in
returns-in_err-number_in c = λ base cleared few small is.
    let rest = after_version c.args.head.now c.in_ok-rest.rest.now base cleared c.in_ok-rest.ensures.cases.1 is in
    let place = same_Some _ _ (sym c.in_ok-blank.was ∙ c.find_blank.ensures.place ∙ blank_there c.in_ok-rest.rest.now base cleared few rest) in
    absurd (none-some _ (sym c.in_err-number_in.was ∙ c.number_in.ensures base few (before_blank c.in_ok-rest.rest.now base cleared c.in_ok-blank.blank place rest)))

pub returns-in_err-number_in-2 : goal.returns-in_err-number_in-2
returns-in_err-number_in-2 c = λ base cleared few small is.
    let rest = after_version c.args.head.now c.in_ok-rest.rest.now base cleared c.in_ok-rest.ensures.cases.1 is in
    let place = same_Some _ _ (sym c.in_ok-blank.was ∙ c.find_blank.ensures.place ∙ blank_there c.in_ok-rest.rest.now base cleared few rest) in
    absurd (none-some _ (sym c.in_err-number_in-2.was ∙ c.number_in-2.ensures cleared small (after_blank c.in_ok-rest.rest.now base cleared c.in_ok-blank.blank place rest)))

pub returns : goal.returns
returns c = λ base cleared few small is.
    let rest = after_version c.args.head.now c.in_ok-rest.rest.now base cleared c.in_ok-rest.ensures.cases.1 is in
    let place = same_Some _ _ (sym c.in_ok-blank.was ∙ c.find_blank.ensures.place ∙ blank_there c.in_ok-rest.rest.now base cleared few rest) in
    let one = same_Some _ _ (sym c.in_ok-number_in.was ∙ c.number_in.ensures base few (before_blank c.in_ok-rest.rest.now base cleared c.in_ok-blank.blank place rest)) in
    let other = same_Some _ _ (sym c.in_ok-number_in-2.was ∙ c.number_in-2.ensures cleared small (after_blank c.in_ok-rest.rest.now base cleared c.in_ok-blank.blank place rest)) in
    these one other
