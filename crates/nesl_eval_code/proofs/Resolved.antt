-- Local names in the frames of an expression.
use Rattle.std.proofs.Common.{◌≡◌, ℕ, suc, refl, sym, ◌∙◌, ap, subst, rules, List, [], ◌∷◌, Option, Some, None, Result, Ok, Err, IfOk, Bor}
use Rattle.nesl_syntax_tree.specs.Trees.{PatternTree}
use Rattle.nesl_syntax_tree.specs.Views.{pattern_tree}
use Rattle.nesl_eval_code.specs.declared.frames.Parameter.{Parameter}
use Rattle.nesl_eval_code.specs.declared.frames.Frame.{Frame}
use Rattle.nesl_eval_code.specs.declared.layers.Layers as layers
use Rattle.nesl_eval_code.specs.declared.layers.Layers.{Layers, Top, Let, Row, the_lemmas}
use Rattle.nesl_eval_code.specs.declared.layers.LocalPlace.{LocalPlace}
use Rattle.nesl_eval_code.specs.declared.names.NamePlace.{NamePlace}
use Rattle.nesl_eval_meaning.specs.Names.{Name}
use Rattle.nesl_eval_code.specs.declared.code.Step.{Step}
use Rattle.nesl_eval_code.specs.Means.{Layer, bindings, binders, patterns_of, spot, IsSpotOf, IsNoLocal}
use Rattle.nesl_eval_code.specs.Frame.{FindsIn, patterns_before}
use Rattle.nesl_eval_code.specs.Resolving.{layers_of, FindsLocal}
use Rattle.nesl_eval_code.proofs.Framed.{spot_some, spot_none}
use Rattle.nesl_eval_code.proofs.Locals.{spot_here, spot_outside, none_here, none_at_top}

pub layers-Top : layers_of Top ≡ []
layers-Top = search (rules, the_lemmas)

pub layers-Parameter : (p : Bor Parameter) → layers_of (layers.Parameter p) ≡ bindings (pattern_tree p.now.pattern.now ∷ []) ∷ []
layers-Parameter p = search (rules, the_lemmas)

pub layers-Let : (f : Bor Frame) (outer : Bor Layers) →
    layers_of (Let f outer) ≡ bindings (patterns_before f.now.bound.now f.now.seen) ∷ layers_of outer.now
layers-Let f outer = search (rules, the_lemmas)

pub layers-Row : (f : Bor Frame) (outer : Bor Layers) →
    layers_of (Row f outer) ≡ binders (patterns_before f.now.bound.now f.now.seen) ∷ layers_of outer.now
layers-Row f outer = search (rules, the_lemmas)

pub found_in : (ls : List Layer) (l : Layer) (ms : List Layer) (x : Name) (n : NamePlace) (p : LocalPlace) → ls ≡ l ∷ ms →
    FindsIn (patterns_of l) x (Some n) → p.up ≡ 0 → p.index ≡ n.index → p.steps.items ≡ n.steps.items → FindsLocal ls x (Some p)
found_in ls l ms x n p e h u i t =
    let w = spot_some x (patterns_of l) n.index n.steps.items (sym h) in
    let here = spot_here l ms x n.index w.0 w.1 w.2 in
    let by_steps = subst (λ (y : List Step). IsSpotOf (l ∷ ms) x (spot 0 n.index y)) (sym (t ∙ w.3)) here in
    let by_index = subst (λ (k : ℕ). IsSpotOf (l ∷ ms) x (spot 0 k p.steps.items)) (sym i) by_steps in
    let by_frame = subst (λ (k : ℕ). IsSpotOf (l ∷ ms) x (spot k p.index p.steps.items)) (sym u) by_index in
    subst (λ (y : List Layer). IsSpotOf y x (spot p.up p.index p.steps.items)) (sym e) by_frame

pub found_out : (ls : List Layer) (l : Layer) (ms : List Layer) (x : Name) (p r : LocalPlace) → ls ≡ l ∷ ms →
    FindsIn (patterns_of l) x None → FindsLocal ms x (Some p) → r.up ≡ suc p.up → r.index ≡ p.index → r.steps.items ≡ p.steps.items →
    FindsLocal ls x (Some r)
found_out ls l ms x p r e g h u i t =
    let there = spot_outside l ms x (spot p.up p.index p.steps.items) (spot_none x (patterns_of l) (sym g)) h in
    let by_steps = subst (λ (y : List Step). IsSpotOf (l ∷ ms) x (spot (suc p.up) p.index y)) (sym t) there in
    let by_index = subst (λ (k : ℕ). IsSpotOf (l ∷ ms) x (spot (suc p.up) k r.steps.items)) (sym i) by_steps in
    let by_frame = subst (λ (k : ℕ). IsSpotOf (l ∷ ms) x (spot k r.index r.steps.items)) (sym u) by_index in
    subst (λ (y : List Layer). IsSpotOf y x (spot r.up r.index r.steps.items)) (sym e) by_frame

pub found_none : (ls : List Layer) (l : Layer) (ms : List Layer) (x : Name) → ls ≡ l ∷ ms →
    FindsIn (patterns_of l) x None → IsNoLocal ms x → IsNoLocal ls x
found_none ls l ms x e g h = subst (λ (y : List Layer). IsNoLocal y x) (sym e) (none_here l ms x (spot_none x (patterns_of l) (sym g)) h)

pub found_no_parameter : (ls : List Layer) (q : PatternTree) (x : Name) → ls ≡ bindings (q ∷ []) ∷ [] → FindsIn (q ∷ []) x None → IsNoLocal ls x
found_no_parameter ls q x e g = found_none ls (bindings (q ∷ [])) [] x e g (none_at_top x)

pub if_ok : {X E : Type 0} {P Q : X → Type 0} (r : Result X E) → IfOk r P → ((x : X) → P x → Q x) → IfOk r Q
if_ok (Ok x) h k = k x h
if_ok (Err e) h k = h
