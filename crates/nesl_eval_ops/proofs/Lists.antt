-- Blocks of lists of parts.
use Rattle.std.proofs.Common.{◌≡◌, ℕ, zero, suc, ◌+◌, ◌-◌, ◌<◌, ◌≤◌, refl, sym, ◌∙◌, ap, arith, rules, inl, inr, List}
use Rattle.std.proofs.Common.{[], ◌∷◌, ◌++◌, length, length-drop, take, drop, map, get_or, Option, Some, None, Vec, Box}
use Rattle.std.proofs.Common.{Global}
use Rattle.std.proofs.lemmas.List.{take_more, map-append}
use Rattle.std.proofs.Math.Seq.{take-length}
use Rattle.std.specs.Prelude.{slice_get}
use Rattle.nesl_lex.specs.declared.token.Span.{Span}
use Rattle.nesl_eval_code.specs.declared.code.Code.{Code, Pair', Row_of-Code, end_of-Code, more_of-Code}
use Rattle.nesl_eval_code.specs.declared.code.Code.{items-the_row-Code}
use Rattle.nesl_eval_code.specs.declared.code.Code as nodes
use Rattle.nesl_eval_code.specs.Block.{Block, Leaf, Maker, enter, make, bind, listing, each, filtered}
use Rattle.nesl_eval_code.specs.Flat.{Part, leaf_of, leaves_of, one_more, if_leaves, making, pushing, rest}
use Rattle.nesl_eval_code.specs.Flat.{forgetting, room, flat, parts_in, binding, length_of}
use Rattle.nesl_eval_ops.specs.declared.ops.Leaf as code
use Rattle.nesl_eval_ops.specs.View.{leaf_is}
use Rattle.nesl_eval_ops.specs.Lists.{part_on, parts_on, binding_on, IsNoLeaf, EndsAt}

pub parts_are : {m : _} (h : ℕ) (ks : List ℕ) (cs : Row_of-Code m) →
    parts_in h ks cs ≡ parts_on h ks (items-the_row-Code _ cs)
parts_are h ks end_of-Code = refl
parts_are h ks (more_of-Code c cs) = ap (λ ps. part_on h ks c ∷ ps) (parts_are h ks cs)

pub bindings_are : {m : _} (h : ℕ) (ks : List ℕ) (k : ℕ) (cs : Row_of-Code m) (f : ℕ → Block) →
    binding h ks k cs f ≡ binding_on h ks k (items-the_row-Code _ cs) f
bindings_are h ks k end_of-Code f = refl
bindings_are h ks k (more_of-Code c cs) f = ap (λ b. flat h (k ∷ ks) c (Some (bind b))) (bindings_are h ks (suc k) cs f)

pub length_is : {m : _} (cs : Row_of-Code m) → length_of cs ≡ length (items-the_row-Code _ cs)
length_is end_of-Code = refl
length_is (more_of-Code c cs) = ap suc (length_is cs)

pub flat-Sequence : (h : ℕ) (ks : List ℕ) (s : Span) (codes : Vec Code Global) (o : Option Block) →
    flat h ks (nodes.Sequence s codes) o ≡ enter h s
    (making (suc h) s listing 0 (parts_on (suc h) ks codes.items) (rest o))
flat-Sequence h ks s codes o = search (rules, nodes.the_lemmas, parts_are)

pub flat-Let : (h : ℕ) (ks : List ℕ) (s : Span) (codes : Vec Code Global) (body : Box Code Global) (o : Option Block) →
    flat h ks (nodes.Let s codes body) o
    ≡ enter h s (binding_on (suc h) ks 0 codes.items (λ k. flat (suc h) (k ∷ ks) body.value (forgetting (room ks) o)))
flat-Let h ks s codes body o = search (rules, nodes.the_lemmas, bindings_are)

pub flat-Each : (h : ℕ) (ks : List ℕ) (s : Span) (codes : Vec Code Global) (body : Box Code Global) (o : Option Block) →
    flat h ks (nodes.Each s codes body) o
    ≡ enter h s (pushing (parts_on (suc h) ks codes.items)
    (each s (length codes.items) (flat (suc h) (length codes.items ∷ ks) body.value None) (rest o)))
flat-Each h ks s codes body o = search (rules, nodes.the_lemmas, parts_are, length_is)

pub flat-FilteredEach : (h : ℕ) (ks : List ℕ) (s : Span) (codes : Vec Code Global) (body filter : Box Code Global)
    (o : Option Block) →
    flat h ks (nodes.FilteredEach s codes body filter) o
    ≡ enter h s (pushing (parts_on (suc h) ks codes.items)
    (filtered s (length codes.items) (flat (suc h) (length codes.items ∷ ks) body.value None)
    (flat (suc h) (length codes.items ∷ ks) filter.value None) (rest o)))
flat-FilteredEach h ks s codes body filter o = search (rules, nodes.the_lemmas, parts_are, length_is)

-- all parts are leaves, or the first one is pushed
pub all_leaves : (h : ℕ) (s : Span) (m : Maker) (k : ℕ) (p : Part) (ps : List Part) (b : Block) (ls : List Leaf) →
    leaves_of (p ∷ ps) ≡ Some ls →
    making h s m k (p ∷ ps) b ≡ make h s m k ls b
all_leaves h s m k p ps b ls e =
    ap (λ o. if_leaves o (λ ms. make h s m k ms b) (p.before (making h s m (suc k) ps b))) e

pub first_pushed : (h : ℕ) (s : Span) (m : Maker) (k : ℕ) (p : Part) (ps : List Part) (b : Block) →
    leaves_of (p ∷ ps) ≡ None →
    making h s m k (p ∷ ps) b ≡ p.before (making h s m (suc k) ps b)
first_pushed h s m k p ps b e = ap (λ o. if_leaves o (λ ms. make h s m k ms b) (p.before (making h s m (suc k) ps b))) e

pub none_first : (p : Part) (ps : List Part) → p.leaf ≡ None → leaves_of (p ∷ ps) ≡ None
none_first p ps e = ap (λ o. one_more o (leaves_of ps)) e

pub none_later : (p : Part) (ps : List Part) → leaves_of ps ≡ None → leaves_of (p ∷ ps) ≡ None
none_later p ps e = ap (one_more p.leaf) e ∙ no_more p.leaf
  where
    no_more : (o : Option Leaf) → one_more o None ≡ None
    no_more None = refl
    no_more (Some l) = refl

pub some_more : (p : Part) (ps : List Part) (l : Leaf) (ls : List Leaf) → p.leaf ≡ Some l → leaves_of ps ≡ Some ls →
    leaves_of (p ∷ ps) ≡ Some (l ∷ ls)
some_more p ps l ls e f = ap (λ o. one_more o (leaves_of ps)) e ∙ ap (one_more (Some l)) f

no_leaves : (h : ℕ) (ks : List ℕ) (cs : List Code) (i : ℕ) (c : Code) → slice_get cs i ≡ Some c → IsNoLeaf c →
    leaves_of (parts_on h ks cs) ≡ None
no_leaves h ks [] i c e none = absurd (cc e)
no_leaves h ks (d ∷ cs) zero c e none =
    let same : d ≡ c = cc e in
    none_first (part_on h ks d) (parts_on h ks cs) (ap (leaf_of ks) same ∙ none ks)
no_leaves h ks (d ∷ cs) (suc i) c e none = none_later (part_on h ks d) (parts_on h ks cs) (no_leaves h ks cs i c e none)

-- parts up to the last one that is no leaf are pushed
pub making_many : (h : ℕ) (ks : List ℕ) (s : Span) (m : Maker) (k : ℕ) (cs : List Code) (b : Block) (j : ℕ)
    (ls : List Leaf) → j ≤ length cs →
    leaves_of (parts_on h ks (drop j cs)) ≡ Some ls → EndsAt cs j →
    pushing (parts_on h ks (take j cs)) (make h s m (k + j) ls b) ≡ making h s m k (parts_on h ks cs) b
making_many h ks s m k [] b zero ls le e ends =
    let same : ls ≡ [] = cc e in
    let here : k + 0 ≡ k = omega arith in
    ap (λ i. make h s m i ls b) here ∙ ap (λ l. make h s m k l b) same
making_many h ks s m k [] b (suc j) ls le e ends = absurd (omega (arith, le))
making_many h ks s m k (c ∷ cs) b zero ls le e ends =
    let here : k + 0 ≡ k = omega arith in
    ap (λ i. make h s m i ls b) here ∙ sym (all_leaves h s m k (part_on h ks c) (parts_on h ks cs) b ls e)
making_many h ks s m k (c ∷ cs) b (suc j) ls le e ends =
    let over : k + suc j ≡ suc k + j = omega arith in
    let none : leaves_of (parts_on h ks (c ∷ cs)) ≡ None = by ends in
    ap (λ i. flat h ks c (Some (pushing (parts_on h ks (take j cs)) (make h s m i ls b)))) over
    ∙ ap (λ x. flat h ks c (Some x)) (making_many h ks s m (suc k) cs b j ls (omega (arith, le)) e (later j ends))
    ∙ sym (first_pushed h s m k (part_on h ks c) (parts_on h ks cs) b none)
  where
    by : EndsAt (c ∷ cs) (suc j) → leaves_of (parts_on h ks (c ∷ cs)) ≡ None
    by (inl x) = absurd (omega (arith, x))
    by (inr x) =
        let same : suc j - 1 ≡ j = omega arith in
        no_leaves h ks (c ∷ cs) j x.0 (ap (slice_get (c ∷ cs)) (sym same) ∙ x.1) x.2

    later : (i : ℕ) → EndsAt (c ∷ cs) (suc i) → EndsAt cs i
    later zero x = inl refl
    later (suc i) (inl x) = absurd (omega (arith, x))
    later (suc i) (inr x) =
        let same : suc (suc i) - 1 ≡ suc i = omega arith in
        let less : suc i - 1 ≡ i = omega arith in
        inr (x.0, ap (slice_get cs) less ∙ ap (slice_get (c ∷ cs)) (sym same) ∙ x.1, x.2)

drop_there : (cs : List Code) (i : ℕ) (c : Code) → slice_get cs i ≡ Some c → drop i cs ≡ c ∷ drop (suc i) cs
drop_there [] i c e = absurd (cc e)
drop_there (d ∷ cs) zero c e = let same : d ≡ c = cc e in ap (λ x. x ∷ cs) same
drop_there (d ∷ cs) (suc i) c e = drop_there cs i c e

-- one more part before those that are pushed already
pub one_pushed : (h : ℕ) (ks : List ℕ) (cs : List Code) (i : ℕ) (c : Code) (base b : Block) → slice_get cs i ≡ Some c →
    b ≡ pushing (parts_on h ks (drop (suc i) cs)) base → flat h ks c (Some b) ≡ pushing (parts_on h ks (drop i cs)) base
one_pushed h ks cs i c base b there e =
    ap (λ x. flat h ks c (Some x)) e ∙ ap (λ l. pushing (parts_on h ks l) base) (sym (drop_there cs i c there))

-- and one more binding
pub one_bound : (h : ℕ) (ks : List ℕ) (cs : List Code) (i : ℕ) (c : Code) (f : ℕ → Block) (b : Block) →
    slice_get cs i ≡ Some c →
    b ≡ binding_on h ks (suc i) (drop (suc i) cs) f →
    flat h (i ∷ ks) c (Some (bind b)) ≡ binding_on h ks i (drop i cs) f
one_bound h ks cs i c f b there e =
    ap (λ x. flat h (i ∷ ks) c (Some (bind x))) e ∙ ap (λ l. binding_on h ks i l f) (sym (drop_there cs i c there))

-- one more leaf
pub one_leaf : (ps : List Part) (ls : List Leaf) (p : Part) (l : Leaf) → leaves_of ps ≡ Some ls → p.leaf ≡ Some l →
    leaves_of (ps ++ p ∷ []) ≡ Some (ls ++ l ∷ [])
one_leaf [] ls p l e f =
    let same : ls ≡ [] = cc e in
    some_more p [] l [] f refl ∙ ap (λ x. Some (x ++ l ∷ [])) (sym same)
one_leaf (q ∷ ps) ls p l e f = by (λ ms b. one_leaf ps ms p l b f) q.leaf (leaves_of ps) refl refl e
  where
    by : ((ms : List Leaf) → leaves_of ps ≡ Some ms → leaves_of (ps ++ p ∷ []) ≡ Some (ms ++ l ∷ [])) →
        (x : Option Leaf) (y : Option (List Leaf)) → q.leaf ≡ x → leaves_of ps ≡ y → one_more x y ≡ Some ls →
        leaves_of (q ∷ (ps ++ p ∷ [])) ≡ Some (ls ++ l ∷ [])
    by ih None y a b c = absurd (cc c)
    by ih (Some m) None a b c = absurd (cc c)
    by ih (Some m) (Some ms) a b c =
        let same : ls ≡ m ∷ ms = cc c in
        some_more q (ps ++ p ∷ []) m (ms ++ l ∷ []) a (ih ms b) ∙ ap (λ x. Some (x ++ l ∷ [])) (sym same)

-- nodes with lists of parts, once they are laid out
pub sequence_laid : (h : ℕ) (ks : List ℕ) (s : Span) (codes : Vec Code Global) (cs : List Code) (code : Code)
    (o : Option Block) →
    cs ≡ codes.items → code ≡ nodes.Sequence s codes →
    enter h s (making (suc h) s listing 0 (parts_on (suc h) ks cs) (rest o)) ≡ flat h ks code o
sequence_laid h ks s codes cs code o e1 e2 =
    ap (λ x. enter h s (making (suc h) s listing 0 (parts_on (suc h) ks x) (rest o))) e1
    ∙ sym (flat-Sequence h ks s codes o)
    ∙ ap (λ x. flat h ks x o) (sym e2)

-- the blocks of a `let` at the height of its parts are those at one more than its own
pub let_above : (h h' : ℕ) (ks ks' : List ℕ) (s : Span) (cs : List Code) (c : Code) (made : Block) (o : Option Block) →
    h' ≡ suc h → ks' ≡ ks → made ≡ binding_on h' ks' 0 cs (λ k. flat h' (k ∷ ks') c (forgetting (room ks') o)) →
    enter h s made ≡ enter h s (binding_on (suc h) ks 0 cs (λ k. flat (suc h) (k ∷ ks) c (forgetting (room ks) o)))
let_above h h' ks ks' s cs c made o e1 e2 e3 =
    ap (enter h s) (e3
    ∙ ap (λ x. binding_on x ks' 0 cs (λ k. flat x (k ∷ ks') c (forgetting (room ks') o))) e1
    ∙ ap (λ x. binding_on (suc h) x 0 cs (λ k. flat (suc h) (k ∷ x) c (forgetting (room x) o))) e2)

pub let_laid : (h : ℕ) (ks : List ℕ) (s : Span) (codes : Vec Code Global) (body : Box Code Global) (cs : List Code)
    (c code : Code) (o : Option Block) →
    cs ≡ codes.items → c ≡ body.value → code ≡ nodes.Let s codes body →
    enter h s (binding_on (suc h) ks 0 cs (λ k. flat (suc h) (k ∷ ks) c (forgetting (room ks) o))) ≡ flat h ks code o
let_laid h ks s codes body cs c code o e1 e2 e3 =
    ap (λ x. enter h s (binding_on (suc h) ks 0 x (λ k. flat (suc h) (k ∷ ks) c (forgetting (room ks) o)))) e1
    ∙ ap (λ x. enter h s
    (binding_on (suc h) ks 0 codes.items (λ k. flat (suc h) (k ∷ ks) x (forgetting (room ks) o)))) e2
    ∙ sym (flat-Let h ks s codes body o)
    ∙ ap (λ x. flat h ks x o) (sym e3)

pub each_laid : (h : ℕ) (ks : List ℕ) (s : Span) (codes : Vec Code Global) (body : Box Code Global) (cs : List Code)
    (c code : Code) (o : Option Block) →
    cs ≡ codes.items → c ≡ body.value → code ≡ nodes.Each s codes body →
    enter h s (pushing (parts_on (suc h) ks cs) (each s (length cs) (flat (suc h) (length cs ∷ ks) c None) (rest o)))
    ≡ flat h ks code o
each_laid h ks s codes body cs c code o e3 e4 e6 =
    ap (λ x. enter h s (pushing (parts_on (suc h) ks x)
    (each s (length x) (flat (suc h) (length x ∷ ks) c None) (rest o)))) e3
    ∙ ap (λ x. enter h s (pushing (parts_on (suc h) ks codes.items)
    (each s (length codes.items) (flat (suc h) (length codes.items ∷ ks) x None) (rest o)))) e4
    ∙ sym (flat-Each h ks s codes body o)
    ∙ ap (λ x. flat h ks x o) (sym e6)

pub filtered_laid : (h : ℕ) (ks : List ℕ) (s : Span) (codes : Vec Code Global) (body filter : Box Code Global)
    (cs : List Code) (c d code : Code) (o : Option Block) →
    cs ≡ codes.items → c ≡ body.value → d ≡ filter.value → code ≡ nodes.FilteredEach s codes body filter →
    enter h s (pushing (parts_on (suc h) ks cs)
    (filtered s (length cs) (flat (suc h) (length cs ∷ ks) c None) (flat (suc h) (length cs ∷ ks) d None) (rest o)))
    ≡ flat h ks code o
filtered_laid h ks s codes body filter cs c d code o e3 e4 e5 e6 =
    ap (λ x. enter h s (pushing (parts_on (suc h) ks x)
    (filtered s (length x) (flat (suc h) (length x ∷ ks) c None) (flat (suc h) (length x ∷ ks) d None) (rest o)))) e3
    ∙ ap (λ x. enter h s (pushing (parts_on (suc h) ks codes.items)
    (filtered s (length codes.items) (flat (suc h) (length codes.items ∷ ks) x None)
    (flat (suc h) (length codes.items ∷ ks) d None) (rest o)))) e4
    ∙ ap (λ x. enter h s (pushing (parts_on (suc h) ks codes.items)
    (filtered s (length codes.items) (flat (suc h) (length codes.items ∷ ks) body.value None)
    (flat (suc h) (length codes.items ∷ ks) x None) (rest o)))) e5
    ∙ sym (flat-FilteredEach h ks s codes body filter o)
    ∙ ap (λ x. flat h ks x o) (sym e6)

pub leaf_more : (h : ℕ) (ks : List ℕ) (cs : List Code) (i : ℕ) (c : Code) (ls new : List code.Leaf) (l : code.Leaf) →
    i < length cs → c ≡ get_or cs i c →
    leaves_of (parts_on h ks (take i cs)) ≡ Some (map leaf_is ls) → leaf_of ks c ≡ Some (leaf_is l) →
    new ≡ ls ++ l ∷ [] →
    leaves_of (parts_on h ks (take (i + 1) cs)) ≡ Some (map leaf_is new)
leaf_more h ks cs i c ls new l within is before here grown =
    let longer : take (i + 1) cs ≡ take i cs ++ c ∷ [] = take_more cs i c within
    ∙ ap (λ x. take i cs ++ x ∷ []) (sym is) in
    ap (λ x. leaves_of (parts_on h ks x)) longer
    ∙ ap leaves_of (map-append (part_on h ks) (take i cs) (c ∷ []))
    ∙ one_leaf (parts_on h ks (take i cs)) (map leaf_is ls) (part_on h ks c) (leaf_is l) before here
    ∙ ap Some (sym (map-append leaf_is ls (l ∷ [])))
    ∙ ap (λ x. Some (map leaf_is x)) (sym grown)

-- two and three parts, of which the last is no leaf
pub two_pushed : (nh h : ℕ) (ks : List ℕ) (s : Span) (m : Maker) (a d : Code) (b tops after : Block) →
    leaf_of ks d ≡ None → tops ≡ make nh s m 2 [] b → after ≡ flat h ks d (Some tops) →
    flat h ks a (Some after) ≡ making nh s m 0 (part_on h ks a ∷ part_on h ks d ∷ []) b
two_pushed nh h ks s m a d b tops after none e f =
    ap (λ x. flat h ks a (Some x)) (f ∙ ap (λ x. flat h ks d (Some x)) e
    ∙ sym (first_pushed nh s m 1 (part_on h ks d) [] b (none_first (part_on h ks d) [] none)))
    ∙ sym (first_pushed nh s m 0 (part_on h ks a) (part_on h ks d ∷ []) b
    (none_later (part_on h ks a) (part_on h ks d ∷ []) (none_first (part_on h ks d) [] none)))

pub three_pushed : (nh h : ℕ) (ks : List ℕ) (s : Span) (m : Maker) (a d z : Code) (b tops after middle : Block)
    (ls : List code.Leaf) → leaf_of ks z ≡ None → ls ≡ [] →
    tops ≡ make nh s m 3 (map leaf_is ls) b → after ≡ flat h ks z (Some tops) → middle ≡ flat h ks d (Some after) →
    flat h ks a (Some middle) ≡ making nh s m 0 (part_on h ks a ∷ part_on h ks d ∷ part_on h ks z ∷ []) b
three_pushed nh h ks s m a d z b tops after middle ls none no_leaf e f g =
    let pa = part_on h ks a in
    let pd = part_on h ks d in
    let pz = part_on h ks z in
    let last : leaves_of (pz ∷ []) ≡ None = none_first pz [] none in
    let two : leaves_of (pd ∷ pz ∷ []) ≡ None = none_later pd (pz ∷ []) last in
    let three : leaves_of (pa ∷ pd ∷ pz ∷ []) ≡ None = none_later pa (pd ∷ pz ∷ []) two in
    ap (λ x. flat h ks a (Some x)) (g
    ∙ ap (λ x. flat h ks d (Some x)) (f ∙ ap (λ x. flat h ks z (Some x))
    (e ∙ ap (λ x. make nh s m 3 (map leaf_is x) b) no_leaf) ∙ sym (first_pushed nh s m 2 pz [] b last))
    ∙ sym (first_pushed nh s m 1 pd (pz ∷ []) b two))
    ∙ sym (first_pushed nh s m 0 pa (pd ∷ pz ∷ []) b three)

pub tail_is : (k : ℕ) (cs : List Code) → take (length cs - k) (drop k cs) ≡ drop k cs
tail_is k cs = ap (λ n. take n (drop k cs)) (sym (length-drop k cs)) ∙ take-length (drop k cs)

-- one turn from the last part to the first
pub pushed_turn : (h : ℕ) (ks : List ℕ) (cs : List Code) (turn : ℕ) (c : Code) (base b : Block) → turn < length cs →
    slice_get cs (length cs - 1 - turn) ≡ Some c →
    b ≡ pushing (parts_on h ks (drop (length cs - turn) cs)) base →
    flat h ks c (Some b) ≡ pushing (parts_on h ks (drop (length cs - (turn + 1)) cs)) base
pushed_turn h ks cs turn c base b more there e =
    let i = length cs - 1 - turn in
    let up : length cs - turn ≡ suc i = omega (arith, more) in
    let same : i ≡ length cs - (turn + 1) = omega (arith, more) in
    one_pushed h ks cs i c base b there (e ∙ ap (λ k. pushing (parts_on h ks (drop k cs)) base) up)
    ∙ ap (λ k. pushing (parts_on h ks (drop k cs)) base) same

pub bound_turn : (h : ℕ) (ks : List ℕ) (cs : List Code) (turn : ℕ) (c : Code) (f : ℕ → Block) (b later : Block) →
    turn < length cs → slice_get cs (length cs - 1 - turn) ≡ Some c →
    b ≡ binding_on h ks (length cs - turn) (drop (length cs - turn) cs) f → later ≡ bind b →
    flat h ((length cs - 1 - turn) ∷ ks) c (Some later)
    ≡ binding_on h ks (length cs - (turn + 1)) (drop (length cs - (turn + 1)) cs) f
bound_turn h ks cs turn c f b later more there e g =
    let i = length cs - 1 - turn in
    let up : length cs - turn ≡ suc i = omega (arith, more) in
    let same : i ≡ length cs - (turn + 1) = omega (arith, more) in
    ap (λ x. flat h (i ∷ ks) c (Some x)) g
    ∙ one_bound h ks cs i c f b there (e ∙ ap (λ k. binding_on h ks k (drop k cs) f) up)
    ∙ ap (λ k. binding_on h ks k (drop k cs) f) same

pub making_all : (h : ℕ) (ks : List ℕ) (s : Span) (m : Maker) (cs : List Code) (b : Block) (j : ℕ) (ls : List Leaf) →
    j ≤ length cs →
    leaves_of (parts_on h ks (drop j cs)) ≡ Some ls → EndsAt cs j →
    pushing (parts_on h ks (take j cs)) (make h s m j ls b) ≡ making h s m 0 (parts_on h ks cs) b
making_all h ks s m cs b j ls le e ends =
    let here : j ≡ 0 + j = omega arith in
    ap (λ i. pushing (parts_on h ks (take j cs)) (make h s m i ls b)) here ∙ making_many h ks s m 0 cs b j ls le e ends
