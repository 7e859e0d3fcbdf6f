-- The type of a sum of two numbers, and its value.
use Rattle.std.proofs.Common.{◌≡◌, ℕ, zero, suc, [], ◌∷◌, Option, None, List, refl, sym, subst, ◌∙◌, lit≤}
use Rattle.std.specs.Prelude.{pos}
use Rattle.nesl_lex.specs.declared.token.Span.{Span}
use Rattle.nesl_types.specs.declared.classes.Class.{Class}
use Rattle.nesl_types.specs.declared.classes.Class.TheVariants.{Any, Number}
use Rattle.nesl_types.specs.Class.{IsIn, class_at}
use Rattle.nesl_types_shared.specs.Term.{Term, int, pair_of}
use Rattle.nesl_values.specs.Tree as values
use Rattle.nesl_syntax_tree.specs.declared.tree.Operator.TheVariants as ops
use Rattle.nesl_syntax_tree.specs.Trees.{Tree, node}
use Rattle.nesl_syntax_tree.specs.Trees as trees
use Rattle.nesl_builtins.specs.Named.{infix_builtin}
use Rattle.nesl_builtins.specs.FunctionTypes.{builtin_type}
use Rattle.nesl_infer_names.specs.Names.{Names}
use Rattle.nesl_infer_rules.specs.Typing.{IsInstanceOf}
use Rattle.nesl_infer_rules.specs.Principal.{IsTypeInstance, TypedBy}
use Rattle.nesl_infer.specs.Verdicts.{typed, IsTypeBy}
use Rattle.nesl_eval_meaning.specs.Names.{Value, Environment, outside}
use Rattle.nesl_eval_meaning.specs.Out.{Out, value, within}
use Rattle.nesl_eval_meaning.specs.Outcome.{out}
use Rattle.nesl_session_bindings.specs.Known.{known, environment}
use Rattle.nesl_session_bindings.specs.Redefinition.{a_variable, RefusesDefinition, it}
use Rattle.nesl_session_meaning.specs.declared.limits.Limits.{Limits}
use Rattle.nesl_session_meaning.specs.State.{State}
use Rattle.nesl_session_meaning.specs.Reading.{form}
use Rattle.nesl_session_meaning.specs.Finding.{Finding, FindsReading, FindsOutcome, budget, evaluated, of_expression, has_tree}

-- two numbers with `+` between them, wherever they stand
abbrev pub plus : (s r q : Span) (n m : ℕ) → Tree
plus s r q n m = node s (trees.infix_of ops.Plus (node r (trees.number n)) (node q (trees.number m)))

int_within : (of : ℕ → Class) (v : ℕ) → IsIn of (class_at (Number ∷ []) v) int
int_within of zero = refl
int_within of (suc v) = tt

plus_takes : (of : ℕ → Class) → IsInstanceOf (builtin_type (infix_builtin ops.Plus)) of (pair_of int int) int
plus_takes of = record { put = λ v. int; within = int_within of; argument = refl; result = refl }

left_same : (a b c d : Term) → pair_of a b ≡ pair_of c d → a ≡ c
left_same a b c d e = cc

plus_gives : (of : ℕ → Class) (t u v : Term) → t ≡ int → IsInstanceOf (builtin_type (infix_builtin ops.Plus)) of (pair_of t u) v → v ≡ int
plus_gives of t u v e i = i.result ∙ sym (left_same _ _ _ _ i.argument) ∙ e

plus_typed : (ns : Option (List ℕ) → Names) (s r q : Span) (n m : ℕ) (of : ℕ → Class) → TypedBy ns (plus s r q n m) of int
plus_typed ns s r q n m of = (lit≤ tt, (int, int, (lit≤ tt, refl), (lit≤ tt, refl), plus_takes of))

plus_principal : (ns : Option (List ℕ) → Names) (s r q : Span) (n m : ℕ) (of : ℕ → Class) (t : Term) → TypedBy ns (plus s r q n m) of t → IsTypeInstance int (λ v. Any) of t
plus_principal ns s r q n m of t h = record { put = λ v. int; same = plus_gives of h.1.0 h.1.1 t h.1.2.1 h.1.4; within = λ v. tt }

pub plus_type : (ns : Option (List ℕ) → Names) (s r q : Span) (n m : ℕ) → IsTypeBy ns (plus s r q n m) (typed int)
plus_type ns s r q n m = (refl, (λ v. Any, record { fits = plus_typed ns s r q n m (λ v. Any); most_general = plus_principal ns s r q n m }), refl)

-- with two levels and more
two_at : (n : ℕ) (env : Environment) (s r q : Span) → out (suc (suc n)) env (outside []) (plus s r q 1 1) ≡ value (values.int (pos 2)) 3 3
unfolding out
two_at n env s r q = refl

pub two : (env : Environment) (s r q : Span) → out 1000 env (outside []) (plus s r q 1 1) ≡ value (values.int (pos 2)) 3 3
two env s r q = two_at 998 env s r q

-- what is found of an expression that is a number
pub finds_number : (limits : Limits) (s : State) (e : Tree) (o : Out Value) (f : Finding) → IsTypeBy (known s.bindings) e (typed int) → RefusesDefinition s.bindings it (a_variable int) None
    → out 1000 (environment s.bindings) (outside []) e ≡ o → FindsOutcome limits s it int (within (budget limits s) o) f → FindsReading limits s (form (trees.evaluate e)) f
finds_number limits s e o f t free c h =
    let P : Out Value → Type 0 = λ x. FindsOutcome limits s it int (within (budget limits s) x) f in
    has_tree (of_expression (evaluated t free (subst P (sym c) h)))
