-- Bindings that are sound, so the laws speak of something.
use Rattle.std.proofs.Common.{◌≡◌, ℕ, zero, suc, [], ◌∷◌, ◌++◌, Some, None, refl, subst, sym, ap, ◌∙◌}
use Rattle.std.specs.Prelude.{codes}
use Rattle.nesl_types.specs.declared.classes.Class.{Class}
use Rattle.nesl_types.specs.declared.classes.Class.TheVariants.{Any, Number}
use Rattle.nesl_types.specs.declared.schemes.Scheme.{Scheme}
use Rattle.nesl_types.specs.Class.{IsIn, class_at}
use Rattle.nesl_types_shared.specs.Substitution.{substitute}
use Rattle.nesl_types_shared.specs.Term as type
use Rattle.nesl_syntax_tree.specs.declared.tree.Operator.TheVariants as sign
use Rattle.nesl_types_shared.specs.Term.{Term, int, bool, char, seq_of, pair_of}
use Rattle.nesl_builtins.specs.Named.{builtin_named, infix_builtin}
use Rattle.nesl_builtins.specs.FunctionTypes.{function_type, builtin_type}
use Rattle.nesl_infer_names.specs.Names.{built_in_or, as_function, top_in}
use Rattle.nesl_infer_rules.specs.World.{general, callable_of, Assumptions, single, IsAllowed}
use Rattle.nesl_infer_rules.specs.Typing.{HasType, IsInstanceOf, NameTakes, IsVariable, BindingsAdd, local_type, name, element, LocalTypes, PatternAdds}
use Rattle.nesl_eval_meaning.specs.Names.{function_of, datatype_of}
use Rattle.nesl_types_shared.specs.Numbering.{IsBelow}
use Rattle.nesl_eval_sound.proofs.Ground.{int_member}
use Rattle.nesl_eval_sound.specs.Sound.{HasBodyType, world}
use Rattle.nesl_eval_sound.specs.Lines.{IsSound, held_in, values_of}
use Rattle.nesl_eval_sound.specs.Worked.{parameter, body, as_it_is, Bindings, with_identity, IsIdentity, two_calls, their_type, IdentityIsSound, with_point, point_of_two, point_taken_apart, PointIsSound}
use Rattle.nesl_eval_sound.specs.Worked.{nothing_bound, nested, NestedIsSound, doublings, growing, with_growing, IsTest, growing_call, GrowingIsSound}
use Rattle.nesl_eval_sound.proofs.Lines.{functions_stay, nothing_sound, datatypes_stay}
use Rattle.nesl_eval_sound.proofs.Nodes.{types_kept}

abbrev unbound : Bindings
unbound = []

any_at : (v : ℕ) → class_at (Any ∷ []) v ≡ Any
any_at zero = refl
any_at (suc v) = refl

no_built_in : builtin_named (codes "id") ≡ None
unfolding builtin_named
no_built_in = refl

module _ (s : Scheme) (h : IsIdentity s) where
  body_typed : HasBodyType (world unbound (class_at s.classes.items) None) (codes "id") parameter body s.argument s.result
  body_typed = record { parts = (name (codes "x"), s.argument) ∷ []; taken = (tt, refl); signed = tt; given = (tt, h.1 ∙ sym h.0) }

  bindings_sound : IsSound as_it_is (with_identity s)
  bindings_sound =
      functions_stay as_it_is unbound (nothing_sound as_it_is) (codes "id") s parameter body None body_typed (record { no_datatype = λ n u h. cc; no_retype = λ r. tt }) (function_of parameter body) refl

  any_instance : (of : ℕ → Class) (t : Term) → ((c : Class) → c ≡ Any → IsIn of c t) → IsInstanceOf (function_type s) of t t
  any_instance of t k = record {
    put = λ v. t;
    within = λ v. k (class_at s.classes.items v) (ap (λ cs. class_at cs v) h.2 ∙ any_at v);
    argument = ap (substitute (λ v. t)) (sym h.0);
    result = ap (substitute (λ v. t)) (sym h.1);
  }

  applied : (of : ℕ → Class) (t : Term) → ((c : Class) → c ≡ Any → IsIn of c t) → NameTakes (world (with_identity s) of None None).names of (codes "id") t t
  applied of t k =
      (general (function_type s), ap (λ b. callable_of None (built_in_or b (as_function (top_in (with_identity s) (codes "id"))))) no_built_in, any_instance of t k)

  typed : (of : ℕ → Class) → HasType (world (with_identity s) of None None) [] two_calls their_type
  typed of = (
    tt,
    (
      pair_of int bool,
      seq_of char,
      (tt, (pair_of int bool, (tt, (int, bool, (tt, refl), (tt, refl), refl)), applied of (pair_of int bool) (λ c e. subst (λ c. IsIn of c (pair_of int bool)) (sym e) tt))),
      (tt, (seq_of char, (tt, refl), applied of (seq_of char) (λ c e. subst (λ c. IsIn of c (seq_of char)) (sym e) tt))),
      refl,
    ),
  )

pub identity_sound : IdentityIsSound
identity_sound s h =
    (bindings_sound s h, λ n. types_kept (with_identity s) (held_in (with_identity s)) (values_of as_it_is (with_identity s)) (bindings_sound s h).typed (λ v. Any) None two_calls their_type (typed s h (λ v. Any)) n)

no_built_in_point : builtin_named (codes "point") ≡ None
unfolding builtin_named
no_built_in_point = refl

module _ (t : Term) (h : t ≡ pair_of int int) where
  point_bound : IsSound as_it_is (with_point t)
  point_bound = datatypes_stay as_it_is unbound (nothing_sound as_it_is) (codes "point") t (subst (IsBelow 0) (sym h) (tt, tt)) refl (datatype_of 0) refl

  module _ (of : ℕ → Class) where
    abbrev w : Assumptions
    w = world (with_point t) of None None

    abbrev parts : LocalTypes
    parts = (name (codes "b"), int) ∷ (name (codes "a"), int) ∷ []

    made : NameTakes w.names of (codes "point") (pair_of int int) (type.named 0)
    made = (single t (type.named 0), ap (λ b. callable_of None (built_in_or b (as_function (top_in (with_point t) (codes "point"))))) no_built_in_point, (sym h, refl))

    taken_apart : PatternAdds w point_of_two (type.named 0) parts
    taken_apart = (tt, (pair_of int int, ((0, t), refl, refl, sym h), (tt, (int, int, (name (codes "a"), int) ∷ [], (name (codes "b"), int) ∷ [], refl, (tt, refl), (tt, refl), refl))))

    added_up : IsInstanceOf (builtin_type (infix_builtin sign.Plus)) of (pair_of int int) int
    added_up = record { put = λ v. int; within = λ v. int_member (class_at (Number ∷ []) v); argument = refl; result = refl }

    sum_typed : HasType w [] point_taken_apart int
    sum_typed = (
      tt,
      (
        parts,
        (type.named 0, parts, [], (tt, (pair_of int int, (tt, (int, int, (tt, refl), (tt, refl), refl)), made)), taken_apart, refl, refl),
        (tt, (int, int, (tt, refl), (tt, refl), added_up)),
      ),
    )

pub point_sound : PointIsSound
point_sound t h =
    (point_bound t h, λ n. types_kept (with_point t) (held_in (with_point t)) (values_of as_it_is (with_point t)) (point_bound t h).typed (λ v. Any) None point_taken_apart int (sum_typed t h (λ v. Any)) n)

module _ (of : ℕ → Class) where
  abbrev bare : Assumptions
  bare = world nothing_bound of None None

  abbrev rows : LocalTypes
  rows = (name (codes "v"), seq_of int) ∷ (element, seq_of int) ∷ []

  abbrev cells : LocalTypes
  cells = (name (codes "a"), int) ∷ (element, int) ∷ []

  sums_typed : IsInstanceOf (builtin_type (infix_builtin sign.Plus)) of (pair_of int int) int
  sums_typed = record { put = λ v. int; within = λ v. int_member (class_at (Number ∷ []) v); argument = refl; result = refl }

  nested_typed : HasType bare [] nested (seq_of (seq_of int))
  nested_typed = (
    tt,
    (
      seq_of int ∷ [],
      rows,
      seq_of int,
      ((tt, (seq_of int, ((tt, (int, ((tt, refl), ((tt, refl), tt)), refl)), ((tt, (int, ((tt, refl), tt), refl)), tt)), refl)), tt),
      ((name (codes "v"), seq_of int) ∷ [], ((name (codes "v"), seq_of int) ∷ [], [], (tt, refl), refl, refl), refl),
      (
        tt,
        (
          int ∷ [],
          cells,
          int,
          ((tt, refl), tt),
          ((name (codes "a"), int) ∷ [], ((name (codes "a"), int) ∷ [], [], (tt, refl), refl, refl), refl),
          (tt, (int, int, (tt, refl), (tt, refl), sums_typed)),
          refl,
        ),
      ),
      refl,
    ),
  )

pub nested_sound : NestedIsSound
nested_sound n =
    types_kept nothing_bound (held_in nothing_bound) (values_of as_it_is nothing_bound) (nothing_sound as_it_is).typed (λ v. Any) None nested (seq_of (seq_of int)) (nested_typed (λ v. Any)) n

no_built_in_grow : builtin_named (codes "grow") ≡ None
unfolding builtin_named
no_built_in_grow = refl

-- each binding of the body doubles the type of the one before it
doublings_bind : (w : Assumptions) → w.limit ≡ None → (k : ℕ) (sc : LocalTypes) (t : Term) → local_type (codes "x") sc ≡ Some t → (ns : LocalTypes) × BindingsAdd w sc (doublings k) ns
doublings_bind w free zero sc t e = ([], refl)
doublings_bind w free (suc k) sc t e =
    let more = doublings_bind w free k ((name (codes "x"), pair_of t t) ∷ sc) (pair_of t t) refl in
    let given : IsVariable w (codes "x") (local_type (codes "x") sc) t = subst (λ o. IsVariable w (codes "x") o t) (sym e) refl in
    let allowed : (u : Term) → IsAllowed w.limit u = λ u. subst (λ l. IsAllowed l u) (sym free) tt in (
      more.0 ++ (name (codes "x"), pair_of t t) ∷ [],
      (
        pair_of t t,
        (name (codes "x"), pair_of t t) ∷ [],
        more.0,
        (allowed (pair_of t t), (t, t, (allowed t, given), (allowed t, given), refl)),
        (allowed (pair_of t t), refl),
        more.1,
        refl,
      ),
    )

module _ (k : ℕ) (s : Scheme) (h : IsTest s) where
  growing_typed : HasBodyType (world unbound (class_at s.classes.items) None) (codes "grow") parameter (growing k) s.argument s.result
  growing_typed =
      let w = world unbound (class_at s.classes.items) None (Some (codes "grow", s.argument, s.result)) in
      let all = doublings_bind w refl k ((name (codes "x"), s.argument) ∷ []) s.argument refl in
      record { parts = (name (codes "x"), s.argument) ∷ []; taken = (tt, refl); signed = tt; given = (tt, (all.0, all.1, (tt, h.1))) }

  growing_sound : IsSound as_it_is (with_growing k s)
  growing_sound =
      functions_stay as_it_is unbound (nothing_sound as_it_is) (codes "grow") s parameter (growing k) None growing_typed (record { no_datatype = λ n u h. cc; no_retype = λ r. tt }) (function_of parameter (growing k)) refl

  test_instance : (of : ℕ → Class) → IsInstanceOf (function_type s) of (pair_of int bool) bool
  test_instance of = record {
    put = λ v. pair_of int bool;
    within = λ v. subst (λ c. IsIn of c (pair_of int bool)) (sym (ap (λ cs. class_at cs v) h.2 ∙ any_at v)) tt;
    argument = ap (substitute (λ v. pair_of int bool)) (sym h.0);
    result = ap (substitute (λ v. pair_of int bool)) (sym h.1);
  }

  called_typed : (of : ℕ → Class) → HasType (world (with_growing k s) of None None) [] growing_call bool
  called_typed of = (
    tt,
    (
      pair_of int bool,
      (tt, (int, bool, (tt, refl), (tt, refl), refl)),
      (general (function_type s), ap (λ b. callable_of None (built_in_or b (as_function (top_in (with_growing k s) (codes "grow"))))) no_built_in_grow, test_instance of),
    ),
  )

pub growing_is_sound : GrowingIsSound
growing_is_sound = record {
  sound = λ k s h. (growing_sound k s h, λ n. types_kept (with_growing k s) (held_in (with_growing k s)) (values_of as_it_is (with_growing k s)) (growing_sound k s h).typed (λ v. Any) None growing_call bool (called_typed k s h (λ v. Any)) n);
  defined = refl;
  called = refl;
}
