-- Where all names are known.
use Rattle.std.proofs.Common.{◌≡◌, ℕ, List, [], ◌∷◌, ◌++◌, refl}
use Rattle.std.specs.Prelude.{Option, Some, None}
use Rattle.std.specs.Option.{is_some}
use Rattle.nesl_lex.specs.declared.token.Span.{Span}
use Rattle.nesl_types_shared.specs.Term.{Term, int, bool, char, named, seq_of, pair_of}
use Rattle.nesl_syntax_tree.specs.Trees.{TypeTree, TypeShape, written}
use Rattle.nesl_syntax_tree.specs.Trees as trees
use Rattle.nesl_infer_names.specs.Names.{span_unless_known, unknown_types, unknown_types_in}
use Rattle.nesl_infer_names.specs.Firsts.{first}
use Rattle.nesl_infer_rules.specs.World.{DatatypesByName}
use Rattle.nesl_infer_rules.specs.Typing.{IsWritten, IsWrittenShape}

pub none_first : (ss : List Span) → None ≡ first ss → ss ≡ []
none_first [] e = refl
none_first (s ∷ ss) e = cc

both_empty : (ss rs : List Span) → ss ++ rs ≡ [] → (ss ≡ []) × (rs ≡ [])
both_empty [] rs e = (refl, e)
both_empty (s ∷ ss) rs e = cc

known_name : (ds : DatatypesByName) (x : List ℕ) (s : Span) (o : Option (ℕ × Term)) → ds x ≡ o → span_unless_known (is_some o) s ≡ [] → (u : Term) × IsWrittenShape ds (trees.named x s) u
known_name ds x s None e h = cc
known_name ds x s (Some d) e h = (named d.0, (d, e, refl))

mutual
  pub known-written : (ds : DatatypesByName) (a : TypeTree) → unknown_types ds a ≡ [] → (u : Term) × IsWritten ds a u
  known-written ds (written s k) h = known_shape-written ds k h

  known_shape-written : (ds : DatatypesByName) (k : TypeShape) → unknown_types_in ds k ≡ [] → (u : Term) × IsWrittenShape ds k u
  known_shape-written ds trees.int h = (int, refl)
  known_shape-written ds trees.bool h = (bool, refl)
  known_shape-written ds trees.char h = (char, refl)
  known_shape-written ds (trees.named x s) h = known_name ds x s (ds x) refl h
  known_shape-written ds (trees.sequence_type a) h = let k = known-written ds a h in (seq_of k.0, (k.0, k.1, refl))
  known_shape-written ds (trees.pair_type a b) h =
      let e = both_empty (unknown_types ds a) (unknown_types ds b) h in
      let k = known-written ds a e.0 in
      let l = known-written ds b e.1 in
      (pair_of k.0 l.0, (k.0, l.0, k.1, l.1, refl))
