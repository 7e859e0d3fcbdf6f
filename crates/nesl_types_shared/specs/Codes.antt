-- A type is stored as the shapes of its nodes, each after those of its parts.
use Rattle.std.specs.Prelude.{◌≡◌, List, [], ◌∷◌}
use Rattle.std.proofs.Common.{ap, refl, ◌∙◌}
use Rattle.std.specs.Coded.{Coded, code_by, coded_list}
use Rattle.nesl_types_shared.specs.Term.{Term, int, bool, char, variable, seq_of, pair_of, named}
use Rattle.nesl_types_shared.specs.declared.shape.Shape.{Shape}
use Rattle.nesl_types_shared.specs.declared.shape.Shape.TheVariants.{Int, Bool, Char, Var, Named, SeqOf, Both}
use Rattle.nesl_types_shared.specs.contracts.shape.Shape as shape

-- the shapes of a type, in front of others
abbrev pub encoded : Term → List Shape → List Shape
encoded int rest = Int ∷ rest
encoded bool rest = Bool ∷ rest
encoded char rest = Char ∷ rest
encoded (variable v) rest = Var v ∷ rest
encoded (seq_of t) rest = encoded t (SeqOf 0 ∷ rest)
encoded (pair_of t u) rest = encoded t (encoded u (Both 0 0 ∷ rest))
encoded (named n) rest = Named n ∷ rest

-- the types that wait, with a node more
abbrev pub with_node : List Term → Shape → List Term
with_node ts Int = int ∷ ts
with_node ts Bool = bool ∷ ts
with_node ts Char = char ∷ ts
with_node ts (Var v) = variable v ∷ ts
with_node ts (Named n) = named n ∷ ts
with_node [] (SeqOf p) = []
with_node (t ∷ ts) (SeqOf p) = seq_of t ∷ ts
with_node [] (Both p q) = []
with_node (t ∷ []) (Both p q) = []
with_node (u ∷ (t ∷ ts)) (Both p q) = pair_of t u ∷ ts

abbrev pub decoded : List Term → List Shape → List Term
decoded ts [] = ts
decoded ts (n ∷ ns) = decoded (with_node ts n) ns

pub decoded-encoded : (t : Term) (ts : List Term) (rest : List Shape) →
    decoded ts (encoded t rest) ≡ decoded (t ∷ ts) rest
decoded-encoded int ts rest = refl
decoded-encoded bool ts rest = refl
decoded-encoded char ts rest = refl
decoded-encoded (variable v) ts rest = refl
decoded-encoded (seq_of t) ts rest = decoded-encoded t ts (SeqOf 0 ∷ rest)
decoded-encoded (pair_of t u) ts rest =
    decoded-encoded t ts (encoded u (Both 0 0 ∷ rest)) ∙ decoded-encoded u (t ∷ ts) (Both 0 0 ∷ rest)
decoded-encoded (named n) ts rest = refl

abbrev pub first_type : List Term → Term
first_type [] = int
first_type (t ∷ ts) = t

abbrev pub term_code : Coded Term
term_code =
    code_by (List Shape) (coded_list shape.the_row.coded) (λ t. encoded t []) (λ ns. first_type (decoded [] ns))
    (λ t. ap first_type (decoded-encoded t [] []))
