use Rattle.std.proofs.Common.{◌≡◌, ◌+◌, [], ◌∷◌, subst, ap, sym, ◌∙◌, List, drop, Err, rules}
use Rattle.std.proofs.lemmas.List.{at_drop_more, at_drop_all}
use Rattle.nesl_lex.specs.Tokens.{Placed, placed, placed_of}
use Rattle.nesl_lex.specs.declared.token.Token.{Token}
use Rattle.nesl_syntax.specs.Steps.{Runs}
use Rattle.nesl_syntax.proofs.StepLemmas.{run_turn, run_fails, run_ends}
use Rattle.nesl_syntax.proofs.parse.run.Goals as goal

pub loop-token-preserved : goal.loop-token-preserved
loop-token-preserved c = λ ws m s h.
    let xs = c.args.tokens.now in
    let i = c.loop-token.token-index in
    let t = c.token-item.result in
    let e : placed (drop i xs) ≡ placed_of t ∷ placed (drop (i + 1) xs) = at_drop_more placed xs i t c.loop-token-test.true ∙ ap (λ (x : Token). placed_of x ∷ placed (drop (i + 1) xs)) (sym c.token-item.is) in
    run_turn _ _ _ _ _ _ _ _ c.in_ok-mode.ensures (subst (λ (r : List Placed). Runs c.loop-token.stack.items c.loop-token.mode r (placed xs) (ws, m)) e (c.loop-token.invariant ws m s h))

pub returns-in_err-mode : goal.returns-in_err-mode
returns-in_err-mode c = λ ws m s h.
    let xs = c.args.tokens.now in
    let i = c.loop-token.token-index in
    let t = c.token-item.result in
    let e : placed (drop i xs) ≡ placed_of t ∷ placed (drop (i + 1) xs) = at_drop_more placed xs i t c.loop-token-test.true ∙ ap (λ (x : Token). placed_of x ∷ placed (drop (i + 1) xs)) (sym c.token-item.is) in
    let k : c.from_residual.result ≡ Err c.in_err-mode.field-0.0 = search rules in
    rw k (run_fails _ _ _ _ _ _ _ _ c.in_err-mode.ensures (subst (λ (r : List Placed). Runs c.loop-token.stack.items c.loop-token.mode r (placed xs) (ws, m)) e (c.loop-token.invariant ws m s h)))

pub returns : goal.returns
returns c = λ ws m s h.
    let xs = c.args.tokens.now in
    let e : placed (drop c.loop-token.token-index xs) ≡ [] = at_drop_all placed xs c.loop-token.token-index c.loop-token-test.false in
    run_ends _ _ _ _ (subst (λ (r : List Placed). Runs c.loop-token.stack.items c.loop-token.mode r (placed xs) (ws, m)) e (c.loop-token.invariant ws m s h))
