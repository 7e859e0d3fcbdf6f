-- Copies of code are laid out as the code is.
use Rattle.std.proofs.Common.{◌≡◌, ℕ, suc, ◌+◌, ◌<◌, refl, sym, ◌∙◌, ap, rules, List, [], ◌∷◌, ◌++◌, length, take}
use Rattle.std.proofs.Common.{get_or, Option, Some, None, Vec, Box, Global, subst}
use Rattle.std.proofs.lemmas.List.{take_more}
use mathlib.Core.Path.{fun_ext}
use Rattle.nesl_lex.specs.declared.token.Span.{Span}
use Rattle.nesl_builtins.specs.declared.builtin.Builtin.{Builtin}
use Rattle.nesl_eval_code.specs.declared.code.Step.{Step}
use Rattle.nesl_eval_code.specs.declared.code.Code.{Code}
use Rattle.nesl_eval_code.specs.declared.code.Code as nodes
use Rattle.nesl_eval_code.specs.Block.{Block, enter, of_two, of_pair, pairing, placed, call, bind}
use Rattle.nesl_eval_code.specs.Flat.{Part, part, leaf_of, flat, making, applying, rest, deciding, forgetting, room}
use Rattle.nesl_eval_ops.specs.Lists.{part_on, binding_on}
use Rattle.nesl_eval_ops.specs.Copies.{IsLaidAs, AreLaidAs}
use Rattle.nesl_eval_ops.proofs.Lists.{flat-Let}

pub same : (c : Code) → IsLaidAs c c
same c = record { alone = λ h ks o. refl; leaf = λ ks. refl; applied = λ h ks s g f b. refl }

-- a part is the same as that of what is laid out as it is
pub part_same : (h : ℕ) (ks : List ℕ) (c d : Code) → IsLaidAs c d → part_on h ks c ≡ part_on h ks d
part_same h ks c d e =
    ap (λ l. part l (λ b. flat h ks c (Some b))) (e.leaf ks)
    ∙ ap (λ f. part (leaf_of ks d) f) (fun_ext (λ b. e.alone h ks (Some b)))

pub flat-Pair : (h : ℕ) (ks : List ℕ) (s : Span) (a d : Box Code Global) (o : Option Block) →
    flat h ks (nodes.Pair s a d) o ≡ enter h s
    (making (suc h) s pairing 0 (part_on (suc h) ks a.value ∷ part_on (suc h) ks d.value ∷ []) (rest o))
flat-Pair h ks s a d o = search (rules, nodes.the_lemmas)

pub applying-Pair : (h : ℕ) (ks : List ℕ) (s w : Span) (g : Builtin) (f : Block → Block) (a d : Box Code Global)
    (b : Block) →
    applying h ks s g f (nodes.Pair w a d) b
    ≡ enter h w (making (suc h) s (of_pair w g) 0 (part_on (suc h) ks a.value ∷ part_on (suc h) ks d.value ∷ []) b)
applying-Pair h ks s w g f a d b = search (rules, nodes.the_lemmas)

pub two_same : (h : ℕ) (ks : List ℕ) (F : List Part → Block) (a a' d d' : Code) → IsLaidAs a' a → IsLaidAs d' d →
    F (part_on h ks a' ∷ part_on h ks d' ∷ []) ≡ F (part_on h ks a ∷ part_on h ks d ∷ [])
two_same h ks F a a' d d' e f =
    ap (λ p. F (p ∷ part_on h ks d' ∷ [])) (part_same h ks a' a e)
    ∙ ap (λ p. F (part_on h ks a ∷ p ∷ [])) (part_same h ks d' d f)

pub pair_same : (s : Span) (a a' d d' : Box Code Global) → IsLaidAs a'.value a.value → IsLaidAs d'.value d.value →
    IsLaidAs (nodes.Pair s a' d') (nodes.Pair s a d)
pair_same s a a' d d' e f = record {
  alone = λ h ks o. flat-Pair h ks s a' d' o
      ∙ two_same (suc h) ks (λ ps. enter h s (making (suc h) s pairing 0 ps (rest o)))
      a.value a'.value d.value d'.value e f ∙ sym (flat-Pair h ks s a d o);
  leaf = λ ks. refl;
  applied = λ h ks t g k b. applying-Pair h ks t s g k a' d' b
      ∙ two_same (suc h) ks (λ ps. enter h s (making (suc h) t (of_pair s g) 0 ps b))
      a.value a'.value d.value d'.value e f ∙ sym (applying-Pair h ks t s g k a d b);
}

pub flat-ApplyTwo : (h : ℕ) (ks : List ℕ) (s : Span) (g : Builtin) (a d : Box Code Global) (o : Option Block) →
    flat h ks (nodes.ApplyTwo s g a d) o ≡ enter h s
    (making (suc h) s (of_two g) 0 (part_on (suc h) ks a.value ∷ part_on (suc h) ks d.value ∷ []) (rest o))
flat-ApplyTwo h ks s g a d o = search (rules, nodes.the_lemmas)

pub apply_two_same : (s : Span) (g : Builtin) (a a' d d' : Box Code Global) → IsLaidAs a'.value a.value →
    IsLaidAs d'.value d.value →
    IsLaidAs (nodes.ApplyTwo s g a' d') (nodes.ApplyTwo s g a d)
apply_two_same s g a a' d d' e f = record {
  alone = λ h ks o. flat-ApplyTwo h ks s g a' d' o
      ∙ two_same (suc h) ks (λ ps. enter h s (making (suc h) s (of_two g) 0 ps (rest o)))
      a.value a'.value d.value d'.value e f ∙ sym (flat-ApplyTwo h ks s g a d o);
  leaf = λ ks. refl;
  applied = λ h ks t i k b. refl;
}

pub flat-Apply : (h : ℕ) (ks : List ℕ) (s : Span) (g : Builtin) (a : Box Code Global) (o : Option Block) →
    flat h ks (nodes.Apply s g a) o ≡ enter h s
    (applying (suc h) ks s g (λ b. flat (suc h) ks a.value (Some b)) a.value (rest o))
flat-Apply h ks s g a o = search (rules, nodes.the_lemmas)

pub apply_same : (s : Span) (g : Builtin) (a a' : Box Code Global) → IsLaidAs a'.value a.value →
    IsLaidAs (nodes.Apply s g a') (nodes.Apply s g a)
apply_same s g a a' e = record {
  alone = λ h ks o. flat-Apply h ks s g a' o
      ∙ ap (λ f. enter h s (applying (suc h) ks s g f a'.value (rest o))) (fun_ext (λ b. e.alone (suc h) ks (Some b)))
      ∙ ap (enter h s) (e.applied (suc h) ks s g (λ b. flat (suc h) ks a.value (Some b)) (rest o))
      ∙ sym (flat-Apply h ks s g a o);
  leaf = λ ks. refl;
  applied = λ h ks t i k b. refl;
}

pub flat-Call : (h : ℕ) (ks : List ℕ) (s : Span) (k : ℕ) (a : Box Code Global) (o : Option Block) →
    flat h ks (nodes.Call s k a) o ≡ enter h s (flat (suc h) ks a.value (Some (call h s (placed k) (rest o))))
flat-Call h ks s k a o = search (rules, nodes.the_lemmas)

pub call_same : (s : Span) (k : ℕ) (a a' : Box Code Global) → IsLaidAs a'.value a.value →
    IsLaidAs (nodes.Call s k a') (nodes.Call s k a)
call_same s k a a' e = record {
  alone = λ h ks o. flat-Call h ks s k a' o
      ∙ ap (enter h s) (e.alone (suc h) ks (Some (call h s (placed k) (rest o))))
      ∙ sym (flat-Call h ks s k a o);
  leaf = λ ks. refl;
  applied = λ h ks t i j b. refl;
}

pub flat-Choice : (h : ℕ) (ks : List ℕ) (s : Span) (t y n : Box Code Global) (o : Option Block) →
    flat h ks (nodes.Choice s t y n) o ≡ enter h s
    (flat (suc h) ks t.value (Some (deciding (flat (suc h) ks y.value None) (flat (suc h) ks n.value None) o)))
flat-Choice h ks s t y n o = search (rules, nodes.the_lemmas)

pub choice_same : (s : Span) (t t' y y' n n' : Box Code Global) → IsLaidAs t'.value t.value →
    IsLaidAs y'.value y.value → IsLaidAs n'.value n.value →
    IsLaidAs (nodes.Choice s t' y' n') (nodes.Choice s t y n)
choice_same s t t' y y' n n' e f g = record {
  alone = λ h ks o. flat-Choice h ks s t' y' n' o
      ∙ ap (λ x. enter h s (flat (suc h) ks t'.value (Some (deciding x (flat (suc h) ks n'.value None) o))))
      (f.alone (suc h) ks None)
      ∙ ap (λ x. enter h s (flat (suc h) ks t'.value (Some (deciding (flat (suc h) ks y.value None) x o))))
      (g.alone (suc h) ks None)
      ∙ ap (enter h s) (e.alone (suc h) ks (Some
      (deciding (flat (suc h) ks y.value None) (flat (suc h) ks n.value None) o)))
      ∙ sym (flat-Choice h ks s t y n o);
  leaf = λ ks. refl;
  applied = λ h ks u i k b. refl;
}

pub bindings_same : (h : ℕ) (ks : List ℕ) (k : ℕ) (cs ds : List Code) (f g : ℕ → Block) → AreLaidAs cs ds →
    ((n : ℕ) → f n ≡ g n) →
    binding_on h ks k cs f ≡ binding_on h ks k ds g
bindings_same h ks k [] [] f g e is = is k
bindings_same h ks k [] (d ∷ ds) f g e is = elim e [ ]
bindings_same h ks k (c ∷ cs) [] f g e is = elim e [ ]
bindings_same h ks k (c ∷ cs) (d ∷ ds) f g e is =
    ap (λ b. flat h (k ∷ ks) c (Some (bind b))) (bindings_same h ks (suc k) cs ds f g e.1 is)
    ∙ e.0.alone h (k ∷ ks) (Some (bind (binding_on h ks (suc k) ds g)))

pub let_same : (s : Span) (cs cs' : Vec Code Global) (b b' : Box Code Global) → AreLaidAs cs'.items cs.items →
    IsLaidAs b'.value b.value →
    IsLaidAs (nodes.Let s cs' b') (nodes.Let s cs b)
let_same s cs cs' b b' e f = record {
  alone = λ h ks o. flat-Let h ks s cs' b' o
      ∙ ap (enter h s) (bindings_same (suc h) ks 0 cs'.items cs.items
      (λ k. flat (suc h) (k ∷ ks) b'.value (forgetting (room ks) o))
      (λ k. flat (suc h) (k ∷ ks) b.value (forgetting (room ks) o))
      e (λ k. f.alone (suc h) (k ∷ ks) (forgetting (room ks) o)))
      ∙ sym (flat-Let h ks s cs b o);
  leaf = λ ks. search (rules, nodes.the_lemmas);
  applied = λ h ks t i k x. search (rules, nodes.the_lemmas);
}

pub local_same : (s : Span) (up i : ℕ) (steps steps' : Vec Step Global) → steps'.items ≡ steps.items →
    IsLaidAs (nodes.Local s up i steps') (nodes.Local s up i steps)
local_same s up i steps steps' e = record {
  alone = λ h ks o. search (rules, e);
  leaf = λ ks. search (rules, e);
  applied = λ h ks t g k b. search (rules, e);
}

-- one more code, and one more copy
pub all_more : (xs ys : List Code) (c d : Code) → AreLaidAs xs ys → IsLaidAs c d →
    AreLaidAs (xs ++ c ∷ []) (ys ++ d ∷ [])
all_more [] [] c d e f = (f, tt)
all_more [] (y ∷ ys) c d e f = elim e [ ]
all_more (x ∷ xs) [] c d e f = elim e [ ]
all_more (x ∷ xs) (y ∷ ys) c d e f = (e.0, all_more xs ys c d e.1 f)

-- a turn of the loop that copies
pub copied_turn : (codes : List Code) (i : ℕ) (c d : Code) (xs ys : List Code) → i < length codes → c ≡ get_or codes i c
    → ys ≡ xs ++ d ∷ [] → IsLaidAs d c → AreLaidAs xs (take i codes) → AreLaidAs ys (take (i + 1) codes)
copied_turn codes i c d xs ys l e grown f all =
    let t : take i codes ++ c ∷ [] ≡ take (i + 1) codes = ap (λ y. take i codes ++ y ∷ []) e
    ∙ sym (take_more codes i c l) in
    let on : AreLaidAs ys (take i codes ++ c ∷ []) =
    subst (λ zs. AreLaidAs zs (take i codes ++ c ∷ [])) (sym grown) (all_more xs (take i codes) d c all f) in
    subst (AreLaidAs ys) t on

-- what was copied is laid out as what the code is
pub same_of : (c d e : Code) → IsLaidAs c d → e ≡ d → IsLaidAs c e
same_of c d e f is = subst (IsLaidAs c) (sym is) f
