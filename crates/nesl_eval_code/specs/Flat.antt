-- The block of code: parts before their nodes, from left to right.
use Rattle.std.specs.Prelude.{ℕ, zero, suc, ◌+◌, nat_lt, List, [], ◌∷◌, Option, Some, None, option_map}
use Rattle.std.specs.Prelude.{if◌then◌else◌}
use Rattle.nesl_lex.specs.declared.token.Span.{Span}
use Rattle.nesl_builtins.specs.declared.builtin.Builtin.{Builtin}
use Rattle.nesl_eval_code.specs.declared.code.Step.{Step}
use Rattle.nesl_eval_code.specs.declared.code.Code.{Code, Number, Truth, Character, Text, Local, Top, Named, Pair'}
use Rattle.nesl_eval_code.specs.declared.code.Code.{Apply', ApplyTwo', ApplyThree', Call', CallNamed', Choice'}
use Rattle.nesl_eval_code.specs.declared.code.Code.{Sequence', Empty, Let', Each', FilteredEach', Row_of-Code}
use Rattle.nesl_eval_code.specs.declared.code.Code.{end_of-Code, more_of-Code}
use Rattle.nesl_eval_code.specs.Run.{code_span}
use Rattle.nesl_eval_code.specs.Block.{What, number, truth, character, text, empty, local, missing, top, by_name}
use Rattle.nesl_eval_code.specs.Block.{Leaf}
use Rattle.nesl_eval_code.specs.Block.{Maker, of_one, of_two, of_three, of_pair, pairing, listing, placed}
use Rattle.nesl_eval_code.specs.Block.{called_by, Block, finish, push, enter, make, choose, last, call, bind, forget}
use Rattle.nesl_eval_code.specs.Block.{each, filtered}

-- how many values frames of these sizes hold, the newest first
abbrev pub room : List ℕ → ℕ
room [] = 0
room (k ∷ ks) = room ks + k

-- the place of the value `up` frames up, at that index of the frame
abbrev pub place_of : List ℕ → ℕ → ℕ → Option ℕ
place_of [] up i = None
place_of (k ∷ ks) zero i = if nat_lt i k then Some (room ks + i) else None
place_of (k ∷ ks) (suc up) i = place_of ks up i

abbrev pub local_what : Option ℕ → List Step → What
local_what (Some k) steps = local k steps
local_what None steps = missing

-- what has no parts
abbrev pub what_of : List ℕ → Code → Option What
what_of ks (Number s z) = Some (number z)
what_of ks (Truth s b) = Some (truth b)
what_of ks (Character s c) = Some (character c)
what_of ks (Text s cs) = Some (text cs.items)
what_of ks (Empty s) = Some empty
what_of ks (Local s up i steps) = Some (local_what (place_of ks up i) steps.items)
what_of ks (Top s k) = Some (top k)
what_of ks (Named s x) = Some (by_name x.items)
what_of ks _ = None

abbrev pub leaf : Span → What → Leaf
leaf s w = record { span = s; what = w }

-- a part of a node: the leaf that it is, if it is one, and the block that pushes its value before another block
pub record Part : Type 0 where
  pub leaf : Option Leaf
  pub before : Block → Block

abbrev pub part : Option Leaf → (Block → Block) → Part
part l f = record { leaf = l; before = f }

-- the leaves that parts are, if all of them are leaves
abbrev pub one_more : Option Leaf → Option (List Leaf) → Option (List Leaf)
one_more (Some l) (Some ls) = Some (l ∷ ls)
one_more _ _ = None

abbrev pub leaves_of : List Part → Option (List Leaf)
leaves_of [] = Some []
leaves_of (p ∷ ps) = one_more p.leaf (leaves_of ps)

abbrev pub if_leaves : Option (List Leaf) → (List Leaf → Block) → Block → Block
if_leaves (Some ls) f b = f ls
if_leaves None f b = b

-- parts up to the last one that is no leaf are pushed, and the leaves after it are in the operation; `k` have been
-- pushed
abbrev pub making : ℕ → Span → Maker → ℕ → List Part → Block → Block
making h s m k [] b = make h s m k [] b
making h s m k (p ∷ ps) b =
    if_leaves (leaves_of (p ∷ ps)) (λ ls. make h s m k ls b) (p.before (making h s m (suc k) ps b))

-- all parts are pushed
abbrev pub pushing : List Part → Block → Block
pushing [] b = b
pushing (p ∷ ps) b = p.before (pushing ps b)

abbrev pub leaf_of : List ℕ → Code → Option Leaf
leaf_of ks c = option_map (leaf (code_span c)) (what_of ks c)

-- what comes after a block, if anything does
abbrev pub rest : Option Block → Block
rest None = finish
rest (Some b) = b

abbrev pub deciding : Block → Block → Option Block → Block
deciding c d None = last c d
deciding c d (Some b) = choose c d b

abbrev pub forgetting : ℕ → Option Block → Option Block
forgetting m None = None
forgetting m (Some b) = Some (forget m b)

-- the block of a node at this height, where frames have these sizes, and then others
abbrev mutual
  pub flat : ℕ → List ℕ → Code → Option Block → Block
  flat h ks (Number s z) o = push h (leaf s (number z)) (rest o)
  flat h ks (Truth s b) o = push h (leaf s (truth b)) (rest o)
  flat h ks (Character s c) o = push h (leaf s (character c)) (rest o)
  flat h ks (Text s cs) o = push h (leaf s (text cs.items)) (rest o)
  flat h ks (Empty s) o = push h (leaf s empty) (rest o)
  flat h ks (Local s up i steps) o = push h (leaf s (local_what (place_of ks up i) steps.items)) (rest o)
  flat h ks (Top s k) o = push h (leaf s (top k)) (rest o)
  flat h ks (Named s x) o = push h (leaf s (by_name x.items)) (rest o)
  flat h ks (Pair' s p a q d) o =
      enter h s (making (suc h) s pairing 0
      (part (leaf_of ks a) (λ b. flat (suc h) ks a (Some b))
      ∷ part (leaf_of ks d) (λ b. flat (suc h) ks d (Some b)) ∷ []) (rest o))
  flat h ks (Apply' s g p a) o =
      enter h s (applying (suc h) ks s g (λ b. flat (suc h) ks a (Some b)) a (rest o))
  flat h ks (ApplyTwo' s g p a q d) o =
      enter h s (making (suc h) s (of_two g) 0
      (part (leaf_of ks a) (λ b. flat (suc h) ks a (Some b))
      ∷ part (leaf_of ks d) (λ b. flat (suc h) ks d (Some b)) ∷ []) (rest o))
  flat h ks (ApplyThree' s g p a q d r e) o =
      enter h s (making (suc h) s (of_three g) 0
      (part (leaf_of ks a) (λ b. flat (suc h) ks a (Some b)) ∷ part (leaf_of ks d) (λ b. flat (suc h) ks d (Some b))
      ∷ part (leaf_of ks e) (λ b. flat (suc h) ks e (Some b)) ∷ []) (rest o))
  flat h ks (Call' s k p a) o = enter h s (flat (suc h) ks a (Some (call h s (placed k) (rest o))))
  flat h ks (CallNamed' s x p a) o = enter h s (flat (suc h) ks a (Some (call h s (called_by x.items) (rest o))))
  flat h ks (Choice' s p a q c r d) o =
      enter h s (flat (suc h) ks a (Some (deciding (flat (suc h) ks c None) (flat (suc h) ks d None) o)))
  flat h ks (Sequence' s v cs) o = enter h s (making (suc h) s listing 0 (parts_in (suc h) ks cs) (rest o))
  flat h ks (Let' s v cs p e) o =
      enter h s (binding (suc h) ks 0 cs (λ k. flat (suc h) (k ∷ ks) e (forgetting (room ks) o)))
  flat h ks (Each' s v cs p e) o =
      enter h s (pushing (parts_in (suc h) ks cs)
      (each s (length_of cs) (flat (suc h) (length_of cs ∷ ks) e None) (rest o)))
  flat h ks (FilteredEach' s v cs p e q c) o =
      enter h s (pushing (parts_in (suc h) ks cs)
      (filtered s (length_of cs) (flat (suc h) (length_of cs ∷ ks) e None) (flat (suc h) (length_of cs ∷ ks) c None)
      (rest o)))

  -- a function of one value, which is not built where it is a pair that is written out
  pub applying : ℕ → List ℕ → Span → Builtin → (Block → Block) → Code → Block → Block
  applying h ks s g f (Pair' w p a q d) b =
      enter h w (making (suc h) s (of_pair w g) 0
      (part (leaf_of ks a) (λ c. flat (suc h) ks a (Some c))
      ∷ part (leaf_of ks d) (λ c. flat (suc h) ks d (Some c)) ∷ []) b)
  applying h ks s g f a b = making h s (of_one g) 0 (part (leaf_of ks a) f ∷ []) b

  pub parts_in : {m : _} → ℕ → List ℕ → Row_of-Code m → List Part
  parts_in h ks end_of-Code = []
  parts_in h ks (more_of-Code c cs) = part (leaf_of ks c) (λ b. flat h ks c (Some b)) ∷ parts_in h ks cs

  -- bindings, each of which sees those before it, of which there are k, and then a block that sees them all
  pub binding : {m : _} → ℕ → List ℕ → ℕ → Row_of-Code m → (ℕ → Block) → Block
  binding h ks k end_of-Code f = f k
  binding h ks k (more_of-Code c cs) f = flat h (k ∷ ks) c (Some (bind (binding h ks (suc k) cs f)))

  pub length_of : {m : _} → Row_of-Code m → ℕ
  length_of end_of-Code = 0
  length_of (more_of-Code c cs) = suc (length_of cs)

-- the block of a whole expression or body, where frames have these sizes
abbrev pub block : List ℕ → Code → Block
block ks c = flat 0 ks c None
