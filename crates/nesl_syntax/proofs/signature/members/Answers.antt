use Rattle.std.proofs.Common.{◌≡◌, Err, ap, ◌∙◌, arith, rules}
use Rattle.std.specs.Option.{option_map}
use Rattle.nesl_syntax.specs.Given.{behind_members}
use Rattle.nesl_syntax.proofs.Listings.{Four, listed_more, listed_last, listed_wrong, listed_none}
use Rattle.nesl_syntax.proofs.Members.{few_members}
use Rattle.nesl_syntax.proofs.signature.members.Goals as goal

pub returns : goal.returns
returns c = c.loop-rest.invariant.same ∙ ap (option_map (behind_members _)) (few_members c.loop-rest.rest.now (omega arith))

pub loop-rest-preserved : goal.loop-rest-preserved
loop-rest-preserved c =
    let f : Four c.loop-rest.rest.now c.name-item.result c.word-item.result c.class-item.result c.sign-item.result = record { is_a = c.name-item.is; is_b = c.word-item.is; is_c = c.class-item.is; is_d = c.sign-item.is; enough = c.in-len4-up.len_at_least } in
    rw c.in_ok-push.ensures.items (listed_more _ _ _ _ _ _ _ _ c.loop-rest.invariant f c.in_ok-member.ensures c.in-Semicolon.ensures)

pub returns-in-Close : goal.returns-in-Close
returns-in-Close c =
    let f : Four c.loop-rest.rest.now c.name-item.result c.word-item.result c.class-item.result c.sign-item.result = record { is_a = c.name-item.is; is_b = c.word-item.is; is_c = c.class-item.is; is_d = c.sign-item.is; enough = c.in-len4-up.len_at_least } in
    listed_last _ _ c.push.new.self _ _ _ _ _ _ c.loop-rest.invariant f c.in_ok-member.ensures c.in-Close.ensures c.in_ok-push.ensures.items

pub returns-in-Other : goal.returns-in-Other
returns-in-Other c =
    let f : Four c.loop-rest.rest.now c.name-item.result c.word-item.result c.class-item.result c.sign-item.result = record { is_a = c.name-item.is; is_b = c.word-item.is; is_c = c.class-item.is; is_d = c.sign-item.is; enough = c.in-len4-up.len_at_least } in
    listed_wrong _ _ _ _ _ _ _ c.loop-rest.invariant f c.in-Other.ensures

pub returns-in_err-member : goal.returns-in_err-member
returns-in_err-member c =
    let f : Four c.loop-rest.rest.now c.name-item.result c.word-item.result c.class-item.result c.sign-item.result = record { is_a = c.name-item.is; is_b = c.word-item.is; is_c = c.class-item.is; is_d = c.sign-item.is; enough = c.in-len4-up.len_at_least } in
    let k : c.from_residual.result ≡ Err c.in_err-member.field-0.0 = search rules in
    rw k (listed_none _ _ _ _ _ _ _ _ c.loop-rest.invariant f c.in_err-member.ensures)
