-- How the logic stores a tree: as a list of its nodes, each before its children.
use Rattle.std.specs.Prelude.{◌≡◌, ◌⊎◌, ℕ, ℤ, Bool, true, false, List, [], ◌∷◌, Option, Some, None, refl}
use Rattle.std.proofs.Common.{ap, ◌∙◌}
use Rattle.std.specs.Coded.{Coded, code_by, coded⊎, coded_ℕ, coded_ℤ, coded_bool, coded_list, coded_option}
use mathlib.Core.Logic.{inl, inr}
use Rattle.nesl_values.specs.Tree.{ValueTree, ValueTrees, int, boolean, character, pair, seq, tagged, no_trees}
use Rattle.nesl_values.specs.Tree.{tree_then}

-- a number, a truth value, a character, a tag; or a pair, and the two kinds of lists of trees
abbrev pub Word : Type 0
Word = (ℤ ⊎ Bool) ⊎ ((ℕ ⊎ ℕ) ⊎ Option Bool)

abbrev pub words_code : Coded (List Word)
words_code = coded_list (coded⊎ (coded⊎ coded_ℤ coded_bool) (coded⊎ (coded⊎ coded_ℕ coded_ℕ) (coded_option coded_bool)))

abbrev mutual
  pub words : ValueTree → List Word → List Word
  words (int n) ws = inl (inl n) ∷ ws
  words (boolean b) ws = inl (inr b) ∷ ws
  words (character c) ws = inr (inl (inl c)) ∷ ws
  words (tagged n t) ws = inr (inl (inr n)) ∷ words t ws
  words (pair l r) ws = inr (inr None) ∷ words l (words r ws)
  words (seq ts) ws = words_all ts ws

  pub words_all : ValueTrees → List Word → List Word
  words_all no_trees ws = inr (inr (Some false)) ∷ ws
  words_all (tree_then t ts) ws = inr (inr (Some true)) ∷ words t (words_all ts ws)

-- the tree before others, made of those before them
abbrev pub tag_first : ℕ → List ValueTree → List ValueTree
tag_first n [] = []
tag_first n (t ∷ ts) = tagged n t ∷ ts

abbrev pub pair_second : ValueTree → List ValueTree → List ValueTree
pair_second t [] = []
pair_second t (u ∷ ts) = pair t u ∷ ts

abbrev pub pair_first : List ValueTree → List ValueTree
pair_first [] = []
pair_first (t ∷ ts) = pair_second t ts

abbrev pub onto : ValueTree → ValueTree → ValueTree
onto t (seq us) = seq (tree_then t us)
onto t u = u

abbrev pub join_second : ValueTree → List ValueTree → List ValueTree
join_second t [] = []
join_second t (u ∷ ts) = onto t u ∷ ts

abbrev pub join_first : List ValueTree → List ValueTree
join_first [] = []
join_first (t ∷ ts) = join_second t ts

abbrev pub read : Word → List ValueTree → List ValueTree
read (inl (inl n)) ts = int n ∷ ts
read (inl (inr b)) ts = boolean b ∷ ts
read (inr (inl (inl c))) ts = character c ∷ ts
read (inr (inl (inr n))) ts = tag_first n ts
read (inr (inr None)) ts = pair_first ts
read (inr (inr (Some false))) ts = seq no_trees ∷ ts
read (inr (inr (Some true))) ts = join_first ts

abbrev pub read_all : List Word → List ValueTree
read_all [] = []
read_all (w ∷ ws) = read w (read_all ws)

abbrev pub first : List ValueTree → ValueTree
first [] = boolean false
first (t ∷ ts) = t

mutual
  pub read-words : (t : ValueTree) (ws : List Word) → read_all (words t ws) ≡ t ∷ read_all ws
  read-words (int n) ws = refl
  read-words (boolean b) ws = refl
  read-words (character c) ws = refl
  read-words (tagged n t) ws = ap (tag_first n) (read-words t ws)
  read-words (pair l r) ws = ap pair_first (read-words l (words r ws) ∙ ap (λ ts. l ∷ ts) (read-words r ws))
  read-words (seq ts) ws = read-words_all ts ws

  pub read-words_all : (ts : ValueTrees) (ws : List Word) → read_all (words_all ts ws) ≡ seq ts ∷ read_all ws
  read-words_all no_trees ws = refl
  read-words_all (tree_then t ts) ws =
      ap join_first (read-words t (words_all ts ws) ∙ ap (λ us. t ∷ us) (read-words_all ts ws))

abbrev pub tree_code : Coded ValueTree
tree_code =
    code_by (List Word) words_code (λ t. words t []) (λ ws. first (read_all ws)) (λ t. ap first (read-words t []))
