use Rattle.std.proofs.Common.{◌≡◌, ◌-◌, ◌++◌, ◌∷◌, [], List, ℕ, length, take, drop, true, inr, refl, sym, ap, ◌∙◌}
use Rattle.std.proofs.lemmas.List.{take-append-drop}
use Rattle.std.proofs.lemmas.Bool.Decides.{Decides-eqb}
use Rattle.std.proofs.lemmas.Slice.Eq.{slice_eq-Decides}
use Rattle.nesl_kept.proofs.rows.without_feed.Goals as goal

pub returns-in-Some : goal.returns-in-Some
returns-in-Some c =
    let s = c.args.answer.now in
    let p = c.as_slice.result.now in
    let n = length s - length p in
    let end : drop n s ≡ p = (slice_eq-Decides Decides-eqb (drop n s) p true (sym c.in-Some.ensures.cases.0)).0 refl in
    let feed : p ≡ 10 ∷ [] = c.as_slice.ensures in
    inr (sym (take-append-drop n s) ∙ ap (λ (x : List ℕ). take n s ++ x) (end ∙ feed) ∙ ap (λ (x : List ℕ). x ++ 10 ∷ []) (sym c.in-Some.ensures.cases.1))
