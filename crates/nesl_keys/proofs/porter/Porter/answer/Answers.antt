use Rattle.std.proofs.Common.{◌≡◌, ◌∷◌, ◌++◌, [], ap, ◌∙◌, sym, append_assoc}
use Rattle.nesl_keys.specs.Admission.{user_line}
use Rattle.nesl_keys.specs.Hearing.{heard_at, told, user_let_in, without_return}
use Rattle.nesl_keys.proofs.Hearings.{front_of_line}
use Rattle.nesl_keys.proofs.porter.Porter.answer.Goals as goal

pub returns-in-Ok : goal.returns-in-Ok
returns-in-Ok c =
    λ rest.
    let porter = c.args.self.now in
    let known = c.in-Ok.ensures.ok in
    let kept : c.without_return.result.now ≡ without_return porter.line.items =
    c.without_return.ensures ∙ ap without_return c.as_slice.ensures.value in
    let front = front_of_line c.in-Ok.length porter.line.items c.without_return.result.now (user_line known.0) kept known.3 known.2 in
    ap (λ x. x ++ rest) (c.push.ensures.items ∙ ap (λ x. x ++ 10 ∷ []) (c.truncate.ensures.items ∙ front))
    ∙ append_assoc (user_line known.0) (10 ∷ []) rest
    ∙ sym
    (ap (λ s. heard_at s porter (10 ∷ rest)) c.requires
    ∙ ap (λ found. told found rest) (ap (user_let_in porter.door) (sym kept) ∙ known.1))
