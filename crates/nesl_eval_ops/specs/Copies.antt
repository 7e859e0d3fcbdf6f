-- What a copy of code keeps.
use Rattle.std.specs.Prelude.{◌≡◌, ℕ, List, [], ◌∷◌, Option}
use Rattle.nesl_lex.specs.declared.token.Span.{Span}
use Rattle.nesl_builtins.specs.declared.builtin.Builtin.{Builtin}
use Rattle.nesl_eval_code.specs.declared.code.Code.{Code}
use Rattle.nesl_eval_code.specs.Block.{Block}
use Rattle.nesl_eval_code.specs.Flat.{flat, leaf_of, applying}

-- one code is laid out as the other is, wherever they are: with what comes after it, as a leaf, and as an argument
pub record IsLaidAs (c d : Code) : Type 0 where
  pub alone : (h : ℕ) (ks : List ℕ) (o : Option Block) → flat h ks c o ≡ flat h ks d o
  pub leaf : (ks : List ℕ) → leaf_of ks c ≡ leaf_of ks d
  pub applied : (h : ℕ) (ks : List ℕ) (s : Span) (g : Builtin) (f : Block → Block) (b : Block) →
      applying h ks s g f c b ≡ applying h ks s g f d b

-- as many codes, each laid out as the other at its place is
abbrev pub AreLaidAs : List Code → List Code → Type 0
AreLaidAs [] [] = Unit {0}
AreLaidAs (c ∷ cs) (d ∷ ds) = IsLaidAs c d × AreLaidAs cs ds
AreLaidAs _ _ = ⊥
