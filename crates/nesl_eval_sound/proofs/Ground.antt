-- Types with int in the place of each variable.
use Rattle.std.proofs.Common.{◌≡◌, ℕ, inl, inr, refl, ap, arith}
use Rattle.nesl_types.specs.declared.classes.Class.{Class}
use Rattle.nesl_types.specs.declared.classes.Class.TheVariants.{Any, Ordinal, Number, Logical}
use Rattle.nesl_types_shared.specs.Term.{Term, int, bool, char, variable, seq_of, pair_of, named}
use Rattle.nesl_types.specs.Class.{IsMember, IsIn}
use Rattle.nesl_types_shared.specs.Substitution.{substitute}
use Rattle.std.proofs.Common.{Option}
use Rattle.nesl_values.specs.Tree.{ValueTree, ValueTrees, no_trees, tree_then}
use Rattle.nesl_values.specs.Tree as value
use Rattle.nesl_eval_sound.specs.HasType.{HasType, EachHasType}
use Rattle.nesl_eval_sound.specs.Sound.{ground, IsGround}

-- int is in each class
pub int_member : (c : Class) → IsMember c int
int_member Any = tt
int_member Ordinal = inl refl
int_member Number = refl
int_member Logical = inl refl

pub seq_member : (c : Class) (t u : Term) → IsMember c (seq_of t) → IsMember c (seq_of u)
seq_member Any t u h = tt
seq_member Ordinal t u (inl e) = cc
seq_member Ordinal t u (inr e) = cc
seq_member Number t u h = cc
seq_member Logical t u (inl e) = cc
seq_member Logical t u (inr e) = cc

pub both_member : (c : Class) (t u t' u' : Term) → IsMember c (pair_of t u) → IsMember c (pair_of t' u')
both_member Any t u t' u' h = tt
both_member Ordinal t u t' u' (inl e) = cc
both_member Ordinal t u t' u' (inr e) = cc
both_member Number t u t' u' h = cc
both_member Logical t u t' u' (inl e) = cc
both_member Logical t u t' u' (inr e) = cc

-- a type in a class stays in it
pub ground_member : (of : ℕ → Class) (c : Class) (t : Term) → IsIn of c t → IsMember c (ground t)
ground_member of c int h = h
ground_member of c bool h = h
ground_member of c char h = h
ground_member of c (variable v) h = int_member c
ground_member of c (seq_of t) h = seq_member c t (ground t) h
ground_member of c (pair_of t u) h = both_member c t u (ground t) (ground u) h
ground_member of c (named n) h = h

-- nothing changes in a type without variables
pub substitute-ground : (s : ℕ → Term) (t : Term) → IsGround t → substitute s t ≡ t
substitute-ground s int h = refl
substitute-ground s bool h = refl
substitute-ground s char h = refl
substitute-ground s (variable v) h = absurd (omega arith)
substitute-ground s (seq_of t) h = ap seq_of (substitute-ground s t h)
substitute-ground s (pair_of t u) h = let e = substitute-ground s t h.0 in let d = substitute-ground s u h.1 in cc
substitute-ground s (named n) h = refl

-- a value that has a type has each instance of it, since none has a variable as its type
mutual
  pub substituted : (held : ℕ → Option Term) (s : ℕ → Term) (v : ValueTree) (t : Term) → HasType held v t → HasType held v (substitute s t)
  substituted held s (value.int n) int h = h
  substituted held s (value.boolean b) bool h = h
  substituted held s (value.character c) char h = h
  substituted held s (value.pair l r) (pair_of t u) h = (substituted held s l t h.0, substituted held s r u h.1)
  substituted held s (value.seq vs) (seq_of t) h = each_substituted held s vs t h
  substituted held s (value.tagged n v) (named m) h = h
  substituted held s v t h = absurd h

  pub each_substituted : (held : ℕ → Option Term) (s : ℕ → Term) (vs : ValueTrees) (t : Term) → EachHasType held vs t → EachHasType held vs (substitute s t)
  each_substituted held s no_trees t h = tt
  each_substituted held s (tree_then v vs) t h = (substituted held s v t h.0, each_substituted held s vs t h.1)
