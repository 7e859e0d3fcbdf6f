-- What the code's own types mean: the entries of an environment as bindings, and what is kept of them.
use Rattle.std.specs.Prelude.{◌≡◌, ℕ, List, [], ◌∷◌, map}
use Rattle.nesl_types.specs.declared.bindings.Top as kinds
use Rattle.nesl_types.specs.declared.bindings.Top.TheVariants as kind
use Rattle.nesl_types_shared.specs.Term.{Term, int}
use Rattle.nesl_values.specs.View.{tree_of}
use Rattle.nesl_syntax_tree.specs.Views as syntax
use Rattle.nesl_syntax_tree.specs.Trees.{Tree}
use Rattle.nesl_builtins.specs.FunctionTypes.{function_type}
use Rattle.nesl_infer.specs.Verdicts.{IsTypeBy, typed}
use Rattle.nesl_eval_top_level.specs.declared.env.Payload.{Payload}
use Rattle.nesl_eval_top_level.specs.declared.env.Payload.TheVariants as payload
use Rattle.nesl_eval_meaning.specs.Names.{Value, outside}
use Rattle.nesl_eval_meaning.specs.Out.{value}
use Rattle.nesl_eval_meaning.specs.Outcome.{out}
use Rattle.nesl_eval_top_level.specs.Stored.{Entry, top_of}
use Rattle.nesl_eval_sound.specs.Lines.{IsSound}
use Rattle.nesl_session_bindings.specs.declared.kind.Kind.{Kind}
use Rattle.nesl_session_bindings.specs.Meanings.{Meaning, Binding, variable, function, datatype, elements_of}
use Rattle.nesl_session_bindings.specs.Known.{known, environment}
use Rattle.nesl_session_bindings.specs.Redefinition as redefinition
use Rattle.nesl_session_bindings.specs.Redefinition.{a_variable, a_function, a_datatype}

-- a variable's type goes with a value, a function's with a parameter and a body, a datatype's tag with nothing
abbrev pub PayloadFits : kinds.Top → Payload → Type 0
PayloadFits (kind.Variable t) (payload.Variable v) = Unit {0}
PayloadFits (kind.Function s) (payload.Function p e) = Unit {0}
PayloadFits (kind.Datatype tag t) payload.Datatype = Unit {0}
PayloadFits _ _ = ⊥

-- what they mean if they fit, and anything if they don't
abbrev pub meaning_of : kinds.Top → Payload → Meaning
meaning_of (kind.Variable t) (payload.Variable v) = variable t (tree_of v)
meaning_of (kind.Function s) (payload.Function p e) =
    function (function_type s) (syntax.pattern_tree p) (syntax.tree_of e)
meaning_of (kind.Datatype tag t) payload.Datatype = datatype tag t
meaning_of _ _ = datatype 0 int

abbrev pub binding_of : Entry → Binding
binding_of b = record { name = b.0; meaning = meaning_of b.1 b.2 }

abbrev pub bindings_of : List Entry → List Binding
bindings_of bs = map binding_of bs

abbrev pub AllFit : List Entry → Type 0
AllFit [] = Unit {0}
AllFit (b ∷ bs) = PayloadFits b.1 b.2 × AllFit bs

-- the entries fit, each name means what its type promises, and this is the number of their elements
pub record AreKept (bs : List Entry) (elements : ℕ) : Type 0 where
  pub fit : AllFit bs
  pub sound : IsSound top_of bs
  pub counted : elements_of (bindings_of bs) ≡ elements

-- an expression of that type evaluates to that value
abbrev pub IsComputed : List Binding → Term → Value → Type 0
IsComputed bs t v =
    (e : Tree) × (n : ℕ) × (w : ℕ) × (d : ℕ) × IsTypeBy (known bs) e (typed t) ×
    (out n (environment bs) (outside []) e ≡ value v w d)

-- what a definition makes of a name, by a `Kind` of the code
abbrev pub kind_of : Kind → redefinition.Definition
kind_of (Kind.Variable t) = a_variable t.now
kind_of (Kind.Function s) = a_function (function_type s.now)
kind_of Kind.Datatype = a_datatype
