-- What the code's list of open constructs means, with one more and one less.
use Rattle.std.proofs.Common.{◌≡◌, ℕ, ◌+◌, ◌-◌, ◌≤◌, ◌<◌, List, [], ◌∷◌, ◌++◌, length, take, get_or, reverse, slice_get, Some, refl, ap, sym, subst, ◌∙◌, arith}
use Rattle.std.proofs.lemmas.List.{reverse-append, take_more, take_all}
use Rattle.std.proofs.lemmas.Option.{get_or_from_slice_get}
use Rattle.nesl_syntax_open.specs.declared.pending.Pending.{Pending}
use Rattle.nesl_syntax_tree.specs.declared.parts.part.Part.{Part}
use Rattle.nesl_syntax_tree.specs.Trees.{Tree}
use Rattle.nesl_syntax_tree.specs.Parts.{Sees}
use Rattle.nesl_syntax_open.specs.Machine.{Waiting, rank, completed, folded}
use Rattle.nesl_syntax_open.proofs.Complete.{folded-once}
use Rattle.nesl_syntax_open.specs.Stack.{SeesPending, SeesEach, SeesStack, SeesNewest, Folds}

reverse_push : (ps : List Pending) (p : Pending) → reverse (ps ++ p ∷ []) ≡ p ∷ reverse ps
reverse_push ps p = reverse-append ps (p ∷ [])

pub stack_push : (ps : List Pending) (ws : List Waiting) (p : Pending) (w : Waiting) → SeesStack ps ws → SeesPending p w → SeesStack (ps ++ p ∷ []) (w ∷ ws)
stack_push ps ws p w s h = record { each = subst (λ (x : List Pending). SeesEach x (w ∷ ws)) (sym (reverse_push ps p)) (h, s.each) }

newest_of : (p : Pending) (ps : List Pending) (ws : List Waiting) → SeesEach (p ∷ reverse ps) ws → SeesNewest p ps ws
newest_of p ps [] h = absurd h
newest_of p ps (w ∷ ws) h = record { newest = w; others = ws; both = refl; sees = h.0; stack = record { each = h.1 } }

pub stack_pop : (p : Pending) (ps : List Pending) (ws : List Waiting) (all : List Pending) → all ≡ ps ++ p ∷ [] → SeesStack all ws → SeesNewest p ps ws
stack_pop p ps ws all h s = newest_of p ps ws (subst (λ (x : List Pending). SeesEach x ws) (ap reverse h ∙ reverse_push ps p) s.each)

each_none : (ws : List Waiting) → SeesEach [] ws → ws ≡ []
each_none [] h = refl
each_none (w ∷ ws) h = absurd h

pub stack_none : (ps : List Pending) (ws : List Waiting) → ps ≡ [] → SeesStack ps ws → ws ≡ []
stack_none ps ws h s = each_none ws (subst (λ (x : List Pending). SeesEach x ws) (ap reverse h) s.each)

-- a list that ends in an element
pub ends_in : (ps : List Pending) (p : Pending) → slice_get ps (length ps - 1) ≡ Some p → (us : List Pending) × (ps ≡ us ++ p ∷ [])
ends_in [] p h = cc
ends_in (q ∷ qs) p h =
    let n = length qs in
    let k : n < length (q ∷ qs) = omega arith in
    let e : length (q ∷ qs) - 1 ≡ n = omega arith in
    let g : get_or (q ∷ qs) n p ≡ p = get_or_from_slice_get (q ∷ qs) n p p (ap (slice_get (q ∷ qs)) (sym e) ∙ h) in
    (take n (q ∷ qs), sym (take_all (n + 1) (q ∷ qs) (omega arith)) ∙ take_more (q ∷ qs) n p k ∙ ap (λ (x : Pending). take n (q ∷ qs) ++ x ∷ []) g)

-- a turn of putting together
pub turn : (n : ℕ) (old new : List Pending) (p : Pending) (part r : Part) (ws : List Waiting) (x : Tree) → old ≡ new ++ p ∷ [] → ((w : Waiting) → SeesPending p w → n ≤ rank w) → ((w : Waiting) (y : Tree) → SeesPending p w → Sees part y → Sees r (completed w y)) → Folds n ws x old part → Folds n ws x new r
turn n old new p part r ws x e ranked put f =
    let t = stack_pop p new f.now old e f.stack in
    record {
      now = t.others;
      last = completed t.newest f.last;
      stack = t.stack;
      sees = put t.newest f.last t.sees f.sees;
      same = sym (folded-once n t.newest t.others f.last (ranked t.newest t.sees)) ∙ ap (λ (vs : List Waiting). folded n vs f.last) (sym t.both) ∙ f.same;
    }

-- and its end
pub turned : (n : ℕ) (ps : List Pending) (part : Part) (ws : List Waiting) (x : Tree) → ((vs : List Waiting) (y : Tree) → SeesStack ps vs → folded n vs y ≡ (vs, y)) → Folds n ws x ps part → SeesStack ps (folded n ws x).0 × Sees part (folded n ws x).1
turned n ps part ws x settled f =
    let e : (f.now, f.last) ≡ folded n ws x = sym (settled f.now f.last f.stack) ∙ f.same in
    subst (λ (r : List Waiting × Tree). SeesStack ps r.0 × Sees part r.1) e (f.stack, f.sees)
