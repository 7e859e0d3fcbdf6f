-- Expressions of integers have one type alone.
use Rattle.std.proofs.Common.{◌≡◌, ℕ, zero, suc, List, [], ◌∷◌, refl, sym, ◌∙◌, subst}
use Rattle.std.proofs.Common.{lit≤}
use Rattle.std.specs.Prelude.{None, Some}
use Rattle.nesl_lex.specs.declared.token.Span.{Span}
use Rattle.nesl_types.specs.declared.bindings.Top.{Top}
use Rattle.nesl_types.specs.declared.classes.Class.{Class}
use Rattle.nesl_types.specs.declared.classes.Class.TheVariants.{Any, Number}
use Rattle.nesl_types.specs.Class.{IsIn, class_at}
use Rattle.nesl_types_shared.specs.Term.{Term, int, pair_of}
use Rattle.nesl_types_shared.specs.Substitution.{substitute}
use Rattle.nesl_syntax_tree.specs.declared.tree.Operator.{Operator}
use Rattle.nesl_syntax_tree.specs.Trees.{Tree, Shape, node}
use Rattle.nesl_syntax_tree.specs.Trees as trees
use Rattle.nesl_builtins.specs.Named.{infix_builtin}
use Rattle.nesl_builtins.specs.FunctionTypes.{FunctionType, a, builtin_type, in_class}
use Rattle.nesl_infer_rules.specs.World.{meanings_in}
use Rattle.nesl_infer_rules.specs.Typing.{IsInstanceOf, HasShapeType}
use Rattle.nesl_infer_rules.specs.Principal.{bounded, IsPrincipalType, Typed}
use Rattle.nesl_infer.specs.Only.{IsOnlyType}

-- the one type is a principal one
pub only_principal : {P : Type 0} (context : List (List ℕ × Top × P)) (e : Tree) (t : Term) → ((put : ℕ → Term) → substitute put t ≡ t) → IsOnlyType context e t → IsPrincipalType (Typed context e) t
only_principal context e t closed h = (
  λ v. Any,
  record {
    fits = h.fits (λ v. Any);
    most_general = λ of u k. record {
      put = λ v. int;
      same = h.only of u k ∙ sym (closed (λ v. int));
      within = λ v. tt;
    };
  },
)

module _ {P : Type 0} (context : List (List ℕ × Top × P)) where
  -- a node holds just an integer
  abbrev Shows : Shape → (ℕ → Class) → Term → Type 0
  Shows k of t = HasShapeType (bounded (meanings_in context None) of) [] k t

  only_node : (s : Span) (k : Shape) → ((of : ℕ → Class) → Shows k of int) → ((of : ℕ → Class) (u : Term) → Shows k of u → u ≡ int) → IsOnlyType context (node s k) int
  only_node s k f o = record {
    fits = λ of. (lit≤ tt, f of);
    only = λ of u h. o of u h.1;
  }

  pub only_number : (s : Span) (n : ℕ) → IsOnlyType context (node s (trees.number n)) int
  only_number s n = only_node s (trees.number n) (λ of. refl) (λ of u h. h)

  same_some : (t u : Term) → Some t ≡ Some u → u ≡ t
  same_some t u e = cc

  pub only_variable : (s : Span) (x : List ℕ) → (meanings_in context None).variables x ≡ Some int → IsOnlyType context (node s (trees.variable x)) int
  only_variable s x e = only_node s (trees.variable x) (λ of. e) (λ of u h. same_some int u (sym e ∙ h))

  in_numbers : (of : ℕ → Class) (v : ℕ) → IsIn of (class_at (Number ∷ []) v) int
  in_numbers of zero = refl
  in_numbers of (suc v) = tt

  put_both : (f : ℕ → Term) → pair_of int int ≡ pair_of (f 0) (f 0) → f 0 ≡ int
  put_both f e = cc

  pub only_infix : (s : Span) (o : Operator) (l r : Tree) → builtin_type (infix_builtin o) ≡ in_class Number (pair_of a a) a → IsOnlyType context l int → IsOnlyType context r int →
      IsOnlyType context (node s (trees.infix_of o l r)) int
  only_infix s o l r e h k =
      let F : FunctionType = in_class Number (pair_of a a) a in
      only_node s (trees.infix_of o l r)
      (λ of.
      let i : IsInstanceOf F of (pair_of int int) int = record { put = λ v. int; within = in_numbers of; argument = refl; result = refl } in
      (int, int, h.fits of, k.fits of, subst (λ (f : FunctionType). IsInstanceOf f of (pair_of int int) int) (sym e) i))
      (λ of u g.
      let one = h.only of g.0 g.2 in
      let two = k.only of g.1 g.3 in
      let i : IsInstanceOf F of (pair_of g.0 g.1) u = subst (λ (f : FunctionType). IsInstanceOf f of (pair_of g.0 g.1) u) e g.4 in
      let j : IsInstanceOf F of (pair_of int int) u = subst (λ (t : Term). IsInstanceOf F of (pair_of t int) u) one (subst (λ (t : Term). IsInstanceOf F of (pair_of g.0 t) u) two i) in
      j.result ∙ put_both j.put j.argument)
