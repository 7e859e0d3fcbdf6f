-- What is inferred keeps the bindings sound.
use Rattle.std.proofs.Common.{[], Some, option_map, ap, subst, sym}
use Rattle.nesl_types.specs.declared.bindings.Top.{Top}
use Rattle.nesl_types.specs.declared.bindings.Top.TheVariants as top
use Rattle.nesl_types_shared.specs.Numbering.{IsBelow}
use Rattle.nesl_types_shared.specs.Term.{Term, int}
use Rattle.nesl_syntax_tree.specs.Trees.{TypeTree, TypeShape, written}
use Rattle.nesl_syntax_tree.specs.Trees as trees
use Rattle.nesl_infer_names.specs.Names.{datatype_in}
use Rattle.nesl_infer_rules.specs.World.{DatatypesByName}
use Rattle.nesl_infer_rules.specs.Typing.{IsWritten, IsWrittenShape}
use Rattle.nesl_eval_meaning.specs.Names.{outside}
use Rattle.nesl_eval_meaning.specs.Names as evaluated
use Rattle.nesl_eval_meaning.specs.Outcome.{out}
use Rattle.nesl_eval_sound.specs.HasType.{HasType}
use Rattle.nesl_eval_sound.specs.Sound.{IsFine}
use Rattle.nesl_eval_sound.specs.Lines.{held_in, values_of}
use Rattle.nesl_eval_sound.specs.Inferred.{SoundIsClosed, InferredTypesAreKept, InferredVariablesStaySound, InferredFunctionsStaySound, WrittenDatatypesStaySound}
use Rattle.nesl_eval_sound.proofs.Ground.{substitute-ground}
use Rattle.nesl_eval_sound.proofs.Nodes.{types_kept}
use Rattle.nesl_eval_sound.proofs.Lines.{variables_stay, functions_stay, datatypes_stay}

mutual
  pub written_ground : (ns : DatatypesByName) (a : TypeTree) (t : Term) → IsWritten ns a t → IsBelow 0 t
  written_ground ns (written s k) t h = shape_ground ns k t h

  shape_ground : (ns : DatatypesByName) (k : TypeShape) (t : Term) → IsWrittenShape ns k t → IsBelow 0 t
  shape_ground ns trees.int t h = subst (IsBelow 0) (sym h) tt
  shape_ground ns trees.bool t h = subst (IsBelow 0) (sym h) tt
  shape_ground ns trees.char t h = subst (IsBelow 0) (sym h) tt
  shape_ground ns (trees.named x s) t (d, e, q) = subst (IsBelow 0) (sym q) tt
  shape_ground ns (trees.sequence_type a) t (u, h, q) = subst (IsBelow 0) (sym q) (written_ground ns a u h)
  shape_ground ns (trees.pair_type a b) t (u, v, h, k, q) = subst (IsBelow 0) (sym q) (written_ground ns a u h, written_ground ns b v k)

module _ {P : Type 0} (seen : Top → P → evaluated.Top) where
  pub sound_closed : SoundIsClosed seen
  sound_closed bs sound x (top.Variable t) q e = ((sound.typed x).variables t (ap (option_map (λ b. b.0)) e)).1
  sound_closed bs sound x (top.Function s) q e = tt
  sound_closed bs sound x (top.Datatype tag t) q e = ((sound.typed x).datatypes tag t (ap (option_map (λ b. b.0)) e)).2

  pub inferred_kept : InferredTypesAreKept seen
  inferred_kept bs sound e t (classes, p) closed n =
      subst (λ u. IsFine (λ v. HasType (held_in bs) v u) (out n (values_of seen bs) (outside []) e)) (substitute-ground (λ x. int) t closed)
      (types_kept bs (held_in bs) (values_of seen bs) sound.typed classes (Some 4096) e t p.fits n)

  pub inferred_variables : InferredVariablesStaySound seen
  inferred_variables bs sound x e t (classes, p) closed can n w d v k q z = variables_stay seen bs sound x t e classes (Some 4096) p.fits closed can n w d v k q z

  pub inferred_functions : InferredFunctionsStaySound seen
  inferred_functions bs sound x p sig e s h can q z =
      functions_stay seen bs sound x s p e (Some 4096) (record { parts = h.fits.parts; taken = h.fits.taken; signed = tt; given = h.fits.given }) can q z

  pub written_datatypes : WrittenDatatypesStaySound seen
  written_datatypes bs sound x a t h e q z = datatypes_stay seen bs sound x t (written_ground (datatype_in bs) a t h) e q z
