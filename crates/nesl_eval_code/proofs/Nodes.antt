-- The code of a node means the node, where the codes of its parts mean its parts.
use Rattle.std.proofs.Common.{◌≡◌, ℕ, zero, suc, refl, sym, ◌∙◌, ap, subst, List, map, Some, None, Bool, ℤ}
use Rattle.std.proofs.Common.{Vec, Box, Global}
use Rattle.std.specs.Prelude.{length}
use Rattle.nesl_lex.specs.declared.token.Span.{Span}
use Rattle.nesl_syntax_tree.specs.Trees.{Tree, Trees, Binders, PatternTree, node, span_of, none, more, no_binders, binder}
use Rattle.nesl_syntax_tree.specs.Trees as trees
use Rattle.nesl_syntax_tree.specs.declared.tree.Operator.{Operator}
use Rattle.nesl_syntax_tree.specs.declared.tree.Prefix.{Prefix}
use Rattle.nesl_values.specs.Tree as values
use Rattle.nesl_values.specs.Parts.{as_bool}
use Rattle.nesl_scalars.specs.declared.trap.Trap.TheVariants.{Deep}
use Rattle.nesl_seqs_base.specs.declared.seq_fn.SeqFn.TheVariants as seq
use Rattle.nesl_builtins.specs.declared.builtin.Builtin.{Builtin}
use Rattle.nesl_builtins.specs.declared.builtin.Builtin.TheVariants.{OfSequences}
use Rattle.nesl_builtins.specs.Named.{builtin_named, infix_builtin, prefix_builtin, look_up}
use Rattle.nesl_eval_code.specs.declared.code.Code.{Code, the_lemmas}
use Rattle.nesl_eval_code.specs.declared.code.Code as code
use Rattle.nesl_eval_code.specs.declared.code.Step.{Step}
use Rattle.nesl_eval_meaning.specs.Names.{Name, Value, Scope, Environment}
use Rattle.nesl_eval_code.specs.Frames.{Frames, local_at}
use Rattle.nesl_eval_meaning.specs.Out.{Out, value, fault, given}
use Rattle.nesl_eval_meaning.specs.Outcome.{out, node_of, denoted, two_parts, variable_in, call_name}
use Rattle.nesl_eval_meaning.specs.Outcome.{apply_builtin, small_enough}
use Rattle.nesl_eval_code.specs.Run.{Table, run, run_node, run_top, run_called, run_two, code_span, slot_at}
use Rattle.nesl_eval_code.specs.Means.{Agrees, Means, Layer, FramesShow, IsTableOf, Begins, place_of, Spot, IsSpotOf, IsNoLocal, IsElementSpot}
use Rattle.nesl_eval_code.proofs.Agreement.{same, equal, agrees_added, agrees_then, agrees_branch}
use Rattle.nesl_eval_code.proofs.Tables.{fewer, found_named, found_placed, same_variable, agrees_called, placed_in}

module _ (names : List Name) (ls : List Layer) where
  -- a node, on one level more than its parts
  abbrev pub NodeMeans : Code → Tree → Type 0
  NodeMeans c e =
      (n : ℕ) (t : Table) (env : Environment) → Begins names t → IsTableOf (suc n) env t →
      (fs : Frames) (sc : Scope) → FramesShow ls fs sc → Agrees (run_node (run n t) t fs c) (node_of (out n env) env sc e)

  pub node_means : (c : Code) (e : Tree) → code_span c ≡ span_of e → NodeMeans c e → Means names ls c e
  unfolding run out
  node_means c e s h zero t env b at fs sc sh = λ n. ap (λ x. fault Deep x 0) s
  node_means c e s h (suc n) t env b at fs sc sh = agrees_added 1 1 _ _ (h n t env b at fs sc sh)

  -- leaves
  pub means_number : (s : Span) (n : ℕ) (z : ℤ) → z ≡ denoted n → Means names ls (code.Number s z) (node s (trees.number n))
  means_number s n z e = node_means _ _ refl (λ m t env b at fs sc sh n. ap (λ y. value (values.int y) 0 0) e)

  pub means_truth : (s : Span) (q : Bool) → Means names ls (code.Truth s q) (node s (trees.truth q))
  means_truth s q = node_means _ _ refl (λ m t env b at fs sc sh. same _)

  pub means_character : (s : Span) (c : ℕ) → Means names ls (code.Character s c) (node s (trees.character c))
  means_character s c = node_means _ _ refl (λ m t env b at fs sc sh. same _)

  pub means_text : (s : Span) (v : Vec ℕ Global) (cs : List ℕ) → v.items ≡ cs → Means names ls (code.Text s v) (node s (trees.text cs))
  means_text s v cs e =
      node_means _ _ refl (λ m t env b at fs sc sh n. ap (λ x. value (values.sequence (map values.character x)) (length x) 0) e)

  pub means_empty : (s : Span) (a : trees.TypeTree) → Means names ls (code.Empty s) (node s (trees.empty a))
  means_empty s a = node_means _ _ refl (λ m t env b at fs sc sh. same _)

  -- names
  pub means_local : (s : Span) (x : Name) (up i : ℕ) (steps : Vec Step Global) (p : Spot) → IsSpotOf ls x p → up ≡ p.up → i ≡ p.index →
      steps.items ≡ p.steps → Means names ls (code.Local s up i steps) (node s (trees.variable x))
  means_local s x up i steps p h e f g =
      node_means _ _ refl (λ m t env b at fs sc sh n.
      let w = h fs sc sh in
      let l : local_at fs up i steps.items ≡ Some w.0 =
      ap (λ k. local_at fs k i steps.items) e ∙ ap (λ k. local_at fs p.up k steps.items) f ∙ ap (local_at fs p.up p.index) g ∙ w.2 in
      ap (λ o. given o (λ v. value v 0 0)) l ∙ sym (ap (λ o. variable_in o (look_up env x)) w.1))

  pub means_element : (s : Span) (up i : ℕ) (steps : Vec Step Global) (p : Spot) → IsElementSpot ls p → up ≡ p.up → i ≡ p.index →
      steps.items ≡ p.steps → Means names ls (code.Local s up i steps) (node s trees.element)
  means_element s up i steps p h e f g =
      node_means _ _ refl (λ m t env b at fs sc sh n.
      ap (λ o. given o (λ v. value v 0 0))
      (ap (λ k. local_at fs k i steps.items) e ∙ ap (λ k. local_at fs p.up k steps.items) f ∙ ap (local_at fs p.up p.index) g ∙ h fs sc sh))

  pub means_top : (s : Span) (x : Name) (k : ℕ) → IsNoLocal ls x → place_of names x ≡ Some k → Means names ls (code.Top s k) (node s (trees.variable x))
  means_top s x k h p =
      node_means _ _ refl (λ m t env b at fs sc sh n.
      same_variable (suc m) t env (slot_at t k) (look_up env x) (found_placed (suc m) t env t env x k at (placed_in names t x k b p))
      ∙ sym (ap (λ o. variable_in o (look_up env x)) (h fs sc sh)))

  pub means_named : (s : Span) (x : Name) (v : Vec ℕ Global) → v.items ≡ x → IsNoLocal ls x → Means names ls (code.Named s v) (node s (trees.variable x))
  means_named s x v e h =
      node_means _ _ refl (λ m t env b at fs sc sh n.
      ap (λ y. run_top (look_up t y)) e
      ∙ same_variable (suc m) t env (look_up t x) (look_up env x) (found_named (suc m) t env t env x at)
      ∙ sym (ap (λ o. variable_in o (look_up env x)) (h fs sc sh)))

  -- calls
  pub means_builtin : (s : Span) (x : Name) (g : Builtin) (a : Box Code Global) (e : Tree) → builtin_named x ≡ Some g → Means names ls a.value e →
      Means names ls (code.Apply s g a) (node s (trees.call x e))
  means_builtin s x g a e q h =
      node_means _ _ refl (λ m t env b at fs sc sh.
      agrees_then _ _ _ _ (h m t env b (fewer m env t at) fs sc sh)
      (λ v. equal (same (apply_builtin s g v)) (sym (ap (λ o. call_name (out m env) s o (look_up env x) v) q))))

  pub means_call : (s : Span) (x : Name) (k : ℕ) (a : Box Code Global) (e : Tree) → builtin_named x ≡ None → place_of names x ≡ Some k →
      Means names ls a.value e → Means names ls (code.Call s k a) (node s (trees.call x e))
  means_call s x k a e q p h =
      node_means _ _ refl (λ m t env b at fs sc sh.
      agrees_then _ _ _ _ (h m t env b (fewer m env t at) fs sc sh)
      (λ v. equal (agrees_called m t env s (slot_at t k) (look_up env x) v (found_placed (suc m) t env t env x k at (placed_in names t x k b p)))
      (sym (ap (λ o. call_name (out m env) s o (look_up env x) v) q))))

  pub means_call_named : (s : Span) (x : Name) (y : Vec ℕ Global) (a : Box Code Global) (e : Tree) → builtin_named x ≡ None → y.items ≡ x →
      Means names ls a.value e → Means names ls (code.CallNamed s y a) (node s (trees.call x e))
  means_call_named s x y a e q p h =
      node_means _ _ refl (λ m t env b at fs sc sh.
      agrees_then _ _ _ _ (h m t env b (fewer m env t at) fs sc sh)
      (λ v. equal (let F : Name → Type 0 = λ z. Agrees (run_called (run m t) s (look_up t z) v) (call_name (out m env) s None (look_up env x) v) in
      subst F (sym p) (agrees_called m t env s (look_up t x) (look_up env x) v (found_named (suc m) t env t env x at)))
      (sym (ap (λ o. call_name (out m env) s o (look_up env x) v) q))))

  -- nodes of one to three parts
  pub two_mean : (a c : Code) (l r : Tree) (k : Value → Value → Out Value) → Means names ls a l → Means names ls c r →
      (n : ℕ) (t : Table) (env : Environment) → Begins names t → IsTableOf n env t → (fs : Frames) (sc : Scope) → FramesShow ls fs sc →
      Agrees (run_two (run n t) fs a c k) (two_parts (out n env) sc l r k)
  two_mean a c l r k h i n t env b at fs sc sh =
      agrees_then _ _ _ _ (h n t env b at fs sc sh) (λ x. agrees_then _ _ _ _ (i n t env b at fs sc sh) (λ y. same _))

  pub means_pair : (s : Span) (a c : Box Code Global) (l r : Tree) → Means names ls a.value l → Means names ls c.value r →
      Means names ls (code.Pair s a c) (node s (trees.pair l r))
  means_pair s a c l r h i =
      node_means _ _ refl (λ m t env b at fs sc sh. two_mean a.value c.value l r (λ x y. small_enough s (values.pair x y)) h i m t env b (fewer m env t at) fs sc sh)

  pub means_prefix : (s : Span) (o : Prefix) (a : Box Code Global) (e : Tree) → Means names ls a.value e →
      Means names ls (code.Apply s (prefix_builtin o) a) (node s (trees.prefix_of o e))
  means_prefix s o a e h =
      node_means _ _ refl (λ m t env b at fs sc sh. agrees_then _ _ _ _ (h m t env b (fewer m env t at) fs sc sh) (λ v. same _))

  pub means_infix : (s : Span) (o : Operator) (a c : Box Code Global) (l r : Tree) → Means names ls a.value l → Means names ls c.value r →
      Means names ls (code.ApplyTwo s (infix_builtin o) a c) (node s (trees.infix_of o l r))
  means_infix s o a c l r h i =
      node_means _ _ refl (λ m t env b at fs sc sh. two_mean a.value c.value l r (λ x y. apply_builtin s (infix_builtin o) (values.pair x y)) h i m t env b (fewer m env t at) fs sc sh)

  pub means_index : (s : Span) (a c : Box Code Global) (l r : Tree) → Means names ls a.value l → Means names ls c.value r →
      Means names ls (code.ApplyTwo s (OfSequences seq.ElementAt) a c) (node s (trees.index l r))
  means_index s a c l r h i =
      node_means _ _ refl (λ m t env b at fs sc sh. two_mean a.value c.value l r (λ x y. apply_builtin s (OfSequences seq.ElementAt) (values.pair x y)) h i m t env b (fewer m env t at) fs sc sh)

  pub means_range : (s : Span) (a c : Box Code Global) (l r : Tree) → Means names ls a.value l → Means names ls c.value r →
      Means names ls (code.ApplyTwo s (OfSequences seq.Range) a c) (node s (trees.range l r))
  means_range s a c l r h i =
      node_means _ _ refl (λ m t env b at fs sc sh. two_mean a.value c.value l r (λ x y. apply_builtin s (OfSequences seq.Range) (values.pair x y)) h i m t env b (fewer m env t at) fs sc sh)

  pub means_strided : (s : Span) (a c d : Box Code Global) (l r u : Tree) → Means names ls a.value l → Means names ls c.value r → Means names ls d.value u →
      Means names ls (code.ApplyThree s (OfSequences seq.RangeBy) a c d) (node s (trees.strided_range l r u))
  means_strided s a c d l r u h i j =
      node_means _ _ refl (λ m t env b at fs sc sh.
      agrees_then _ _ _ _ (h m t env b (fewer m env t at) fs sc sh)
      (λ x. two_mean c.value d.value r u (λ y z. apply_builtin s (OfSequences seq.RangeBy) (values.pair x (values.pair y z))) i j m t env b (fewer m env t at) fs sc sh))

  pub means_choice : (s : Span) (a c d : Box Code Global) (l r u : Tree) → Means names ls a.value l → Means names ls c.value r → Means names ls d.value u →
      Means names ls (code.Choice s a c d) (node s (trees.choice l r u))
  means_choice s a c d l r u h i j =
      node_means _ _ refl (λ m t env b at fs sc sh.
      agrees_then _ _ _ _ (h m t env b (fewer m env t at) fs sc sh)
      (λ x. agrees_branch (as_bool x) _ _ _ _ (i m t env b (fewer m env t at) fs sc sh) (j m t env b (fewer m env t at) fs sc sh)))
