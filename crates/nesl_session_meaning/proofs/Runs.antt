-- Steps and runs of one session have one outcome, and go on from one another.
use Rattle.std.proofs.Common.{◌≡◌, ℕ, List, [], ◌∷◌, ◌++◌, ◌+◌, Bool, true, false, Option, Some, None, nat_lt, length, refl, sym, ap, ◌∙◌, subst, ◌<◌, ◌≤◌, arith}
use Rattle.std.specs.Bool.{MatchBool}
use Rattle.std.proofs.lemmas.Bool.{lt-ltb, le-ltb}
use Rattle.nesl_lex.specs.Tokens.{Placed}
use Rattle.nesl_lex.specs.Lexemes.{HasTokens}
use Rattle.nesl_lex.specs.Laws.{OneList, OnePlace, NotBoth}
use Rattle.nesl_types_shared.specs.Term.{Term}
use Rattle.nesl_syntax_tree.specs.Trees.{FormTree, form_height}
use Rattle.nesl_syntax_tree.specs.Trees as trees
use Rattle.nesl_syntax_tree.specs.Lines.{IsForm}
use Rattle.nesl_infer.specs.Verdicts.{Verdict, typed, unknown_at, ill_typed, ambiguous}
use Rattle.nesl_infer.specs.Laws.{ExpressionsHaveOneVerdict, FunctionsHaveOneVerdict, ContentsHaveOneVerdict}
use Rattle.nesl_builtins.specs.FunctionTypes.{FunctionType}
use Rattle.nesl_eval_meaning.specs.Names.{Name, Value, outside}
use Rattle.nesl_eval_meaning.specs.Out.{Budgeted, fits_budget, exceeds_budget, value, fault, stuck as no_value, within}
use Rattle.nesl_eval_meaning.specs.Outcome.{out}
use Rattle.nesl_reply.specs.Replies.{Report}
use Rattle.nesl_reply.specs.Replies as replies
use Rattle.nesl_reply.specs.declared.fault.Fault.{Fault}
use Rattle.nesl_reply.specs.declared.fault.Fault.TheVariants as faults
use Rattle.nesl_session_bindings.specs.Meanings.{Binding, function, datatype}
use Rattle.nesl_session_bindings.specs.Known.{known, environment, datatype_count}
use Rattle.nesl_session_bindings.specs.declared.refusal.Refusal.{Refusal}
use Rattle.nesl_session_bindings.specs.declared.refusal.Refusal.TheVariants.{Retype, Taken}
use Rattle.nesl_session_bindings.specs.Redefinition.{Definition, RefusesDefinition, a_variable, a_function, a_datatype, it}
use Rattle.nesl_session_meaning.specs.declared.limits.Limits.{Limits}
use Rattle.nesl_session_meaning.specs.State.{State, Log, opening}
use Rattle.nesl_session_meaning.specs.Reading.{Reading, HasReading, no_token, no_form, too_high, form, has_no_token, has_no_form, has_high_form, has_form}
use Rattle.nesl_session_meaning.specs.Response.{Reply}
use Rattle.nesl_session_meaning.specs.Finding.{Finding, unread, reset, part, refused, answered, budget, RefusesTyping, refusal_fault, FindsRoom, FindsDefinition, FindsOutcome, FindsVariable}
use Rattle.nesl_session_meaning.specs.Finding.{FindsForm, FindsReading, an_unknown_name, no_type, two_types, room, no_room, definition_refused, definition_free}
use Rattle.nesl_session_meaning.specs.Finding.{too_much_work, a_fault, a_value, variable_untyped, variable_refused, evaluated}
use Rattle.nesl_session_meaning.specs.Finding.{of_nothing, of_function, of_no_function, of_datatype, of_no_datatype, of_variable, of_expression, of_names, of_budget, of_type, of_no_type, lexical, syntax, nested, has_tree}
use Rattle.nesl_session_meaning.specs.Step.{Step, Finds, reply_of, after, is_reset, is_full, is_part, longest, most_recorded, recorded_by_reset}
use Rattle.nesl_session_meaning.specs.Step.{reset_too_often, resets, transcript_full, too_long, one_part, is_read}
use Rattle.nesl_session_meaning.specs.Solo.{SessionRuns, Replays, SessionAnswers}
use Rattle.nesl_session_meaning.proofs.Replayed.{solo_append, log_at, log_same}

-- what is known of tokens, of trees and of verdicts
pub record Laws : Type 0 where
  pub one_list : OneList
  pub one_place : OnePlace
  pub not_both : NotBoth
  pub one_form : (ts : List Placed) (a b : FormTree) → IsForm ts a → IsForm ts b → a ≡ b
  pub expressions : ExpressionsHaveOneVerdict
  pub functions : FunctionsHaveOneVerdict
  pub contents : ContentsHaveOneVerdict

-- a line that has a tree has it for whatever tokens it has
formed : Laws → {line : List ℕ} {ts us : List Placed} {l : FormTree} → HasTokens line ts → HasTokens line us → IsForm us l → IsForm ts l
formed laws {line} {ts} {us} {l} t u f = let P : List Placed → Type 0 = λ x. IsForm x l in subst P (laws.one_list line ts us t u) f

same_line : Laws → {line : List ℕ} {ts us : List Placed} {l k : FormTree} → HasTokens line ts → HasTokens line us → IsForm ts l → IsForm us k → l ≡ k
same_line laws {line} {ts} {us} {l} {k} t u f g = laws.one_form ts l k f (formed laws t u g)

no_height : (l k : FormTree) → l ≡ k → 100 < form_height l → form_height k ≤ 100 → ⊥
no_height l k e h g = let P : FormTree → Type 0 = λ x. 100 < form_height x in let too_high : 100 < form_height k = subst P e h in omega (arith, too_high, g)

-- a line means one thing
pub means_unique : Laws → (line : List ℕ) (m n : Reading) → HasReading line m → HasReading line n → m ≡ n
means_unique laws line (no_token a) (no_token b) (has_no_token s) (has_no_token t) = ap no_token (laws.one_place line b a t s)
means_unique laws line (no_token a) no_form (has_no_token s) (has_no_form t n) = absurd (laws.not_both line _ a t s)
means_unique laws line (no_token a) too_high (has_no_token s) (has_high_form t f h) = absurd (laws.not_both line _ a t s)
means_unique laws line (no_token a) (form l) (has_no_token s) (has_form t f h) = absurd (laws.not_both line _ a t s)
means_unique laws line no_form (no_token b) (has_no_form t n) (has_no_token s) = absurd (laws.not_both line _ b t s)
means_unique laws line no_form no_form (has_no_form t n) (has_no_form u m) = refl
means_unique laws line no_form too_high (has_no_form t n) (has_high_form u f h) = absurd (n _ (formed laws t u f))
means_unique laws line no_form (form l) (has_no_form t n) (has_form u f h) = absurd (n l (formed laws t u f))
means_unique laws line too_high (no_token b) (has_high_form t f h) (has_no_token s) = absurd (laws.not_both line _ b t s)
means_unique laws line too_high no_form (has_high_form t f h) (has_no_form u n) = absurd (n _ (formed laws u t f))
means_unique laws line too_high too_high (has_high_form t f h) (has_high_form u g k) = refl
means_unique laws line too_high (form l) (has_high_form t f h) (has_form u g k) = absurd (no_height _ l (same_line laws t u f g) h k)
means_unique laws line (form l) (no_token b) (has_form t f h) (has_no_token s) = absurd (laws.not_both line _ b t s)
means_unique laws line (form l) no_form (has_form t f h) (has_no_form u n) = absurd (n l (formed laws u t f))
means_unique laws line (form l) too_high (has_form t f h) (has_high_form u g k) = absurd (no_height _ l (same_line laws u t g f) k h)
means_unique laws line (form l) (form k) (has_form t f h) (has_form u g i) = ap form (same_line laws t u f g)

-- at most one thing is found so
abbrev One : (Finding → Type 0) → Type 0
One K = (f g : Finding) → K f → K g → f ≡ g

-- a verdict refuses a line by one fault, and one with a type by none
one_fault : {T : Type 0} (v : Verdict T) (k l : Fault) → RefusesTyping v k → RefusesTyping v l → k ≡ l
one_fault (unknown_at at) k l an_unknown_name an_unknown_name = refl
one_fault ill_typed k l no_type no_type = refl
one_fault ambiguous k l two_types two_types = refl
one_fault (typed t) k l r q = elim r [ ]

not_refused : {T : Type 0} (v : Verdict T) (t : T) (k : Fault) → v ≡ typed t → RefusesTyping v k → ⊥
not_refused (unknown_at at) t k e r = cc
not_refused ill_typed t k e r = cc
not_refused ambiguous t k e r = cc
not_refused (typed u) t k e r = elim r [ ]

same_typed : {T : Type 0} (t u : T) → typed t ≡ typed u → t ≡ u
same_typed t u e = cc

-- where there is one verdict
one_refused : {T : Type 0} (v u : Verdict T) (k l : Fault) → v ≡ u → RefusesTyping v k → RefusesTyping u l → refused k 0 ≡ refused l 0
one_refused {T} v u k l e r q = let P : Verdict T → Type 0 = λ w. RefusesTyping w l in ap (λ z. refused z 0) (one_fault v k l r (subst P (sym e) q))

both_ways : (b : Bool) → b ≡ true → b ≡ false → ⊥
both_ways true e d = cc
both_ways false e d = cc

-- a definition is refused for one reason, or not at all
one_refusal : (s : State) (x : Name) (d : Definition) (o p : Option Refusal) → RefusesDefinition s.bindings x d o → RefusesDefinition s.bindings x d p → o ≡ p
one_refusal s x d (Some Retype) (Some Retype) a b = refl
one_refusal s x d (Some Retype) (Some Taken) a b = absurd (b.0 a)
one_refusal s x d (Some Retype) None a b = absurd (b.0 a)
one_refusal s x d (Some Taken) (Some Retype) a b = absurd (a.0 b)
one_refusal s x d (Some Taken) (Some Taken) a b = refl
one_refusal s x d (Some Taken) None a b = absurd (both_ways _ a.1 b.1)
one_refusal s x d None (Some Retype) a b = absurd (a.0 b)
one_refusal s x d None (Some Taken) a b = absurd (both_ways _ b.1 a.1)
one_refusal s x d None None a b = refl

no_refusal : (r : Refusal) → Some r ≡ None → ⊥
no_refusal r e = cc

same_refusal : (r q : Refusal) → Some r ≡ Some q → refused (refusal_fault r) 0 ≡ refused (refusal_fault q) 0
same_refusal r q e = cc

one_room : (limits : Limits) (s : State) (t : Report) (w : ℕ) (b : Binding) → One (FindsRoom limits s t w b)
one_room limits s t w b f g (room le) (room other) = refl
one_room limits s t w b f g (room le) (no_room over) = absurd (omega (arith, le, over))
one_room limits s t w b f g (no_room over) (room le) = absurd (omega (arith, le, over))
one_room limits s t w b f g (no_room over) (no_room other) = refl

one_definition : (limits : Limits) (s : State) (k : Definition) (t : Report) (b : Binding) → One (FindsDefinition limits s k t b)
one_definition limits s k t b f g (definition_refused r h) (definition_refused q i) = same_refusal r q (one_refusal s b.name k (Some r) (Some q) h i)
one_definition limits s k t b f g (definition_refused r h) (definition_free i p) = absurd (no_refusal r (one_refusal s b.name k (Some r) None h i))
one_definition limits s k t b f g (definition_free h o) (definition_refused q i) = absurd (no_refusal q (one_refusal s b.name k (Some q) None i h))
one_definition limits s k t b f g (definition_free {f = x} h o) (definition_free {f = y} i p) = one_room limits s t 0 b x y o p

one_outcome : (limits : Limits) (s : State) (x : Name) (t : Term) (o : Budgeted Value) → One (FindsOutcome limits s x t o)
one_outcome limits s x t exceeds_budget f g too_much_work too_much_work = refl
one_outcome limits s x t (fits_budget (fault k at w)) f g a_fault a_fault = refl
one_outcome limits s x t (fits_budget (value v w d)) f g (a_value {f = y} a) (a_value {f = z} b) = one_room limits s _ w _ y z a b
one_outcome limits s x t (fits_budget no_value) f g a b = elim a [ ]

one_variable : Laws → (limits : Limits) (s : State) (x : Name) (e : trees.Tree) → One (FindsVariable limits s x e)
one_variable laws limits s x e f g (variable_untyped {v = v} {k = k} h r) (variable_untyped {v = u} {k = l} i q) = one_refused v u k l (laws.expressions (known s.bindings) e v u h i) r q
one_variable laws limits s x e f g (variable_untyped {v = v} {k = k} h r) (variable_refused {t = t} _ i b) = absurd (not_refused v t k (laws.expressions (known s.bindings) e v (typed t) h i) r)
one_variable laws limits s x e f g (variable_untyped {v = v} {k = k} h r) (evaluated {t = t} i b p) = absurd (not_refused v t k (laws.expressions (known s.bindings) e v (typed t) h i) r)
one_variable laws limits s x e f g (variable_refused {t = t} _ h a) (variable_untyped {v = v} {k = k} i q) = absurd (not_refused v t k (laws.expressions (known s.bindings) e v (typed t) i h) q)
one_variable laws limits s x e f g (variable_refused {t = t} r h a) (variable_refused {t = u} q i b) =
    let P : Term → Type 0 = λ y. RefusesDefinition s.bindings x (a_variable y) (Some q) in
    let same = same_typed t u (laws.expressions (known s.bindings) e (typed t) (typed u) h i) in
    same_refusal r q (one_refusal s x (a_variable t) (Some r) (Some q) a (subst P (sym same) b))
one_variable laws limits s x e f g (variable_refused {t = t} r h a) (evaluated {t = u} i b p) =
    let P : Term → Type 0 = λ y. RefusesDefinition s.bindings x (a_variable y) None in
    let same = same_typed t u (laws.expressions (known s.bindings) e (typed t) (typed u) h i) in
    absurd (no_refusal r (one_refusal s x (a_variable t) (Some r) None a (subst P (sym same) b)))
one_variable laws limits s x e f g (evaluated {t = t} h a o) (variable_untyped {v = v} {k = k} i q) = absurd (not_refused v t k (laws.expressions (known s.bindings) e v (typed t) i h) q)
one_variable laws limits s x e f g (evaluated {t = t} h a o) (variable_refused {t = u} q i b) =
    let P : Term → Type 0 = λ y. RefusesDefinition s.bindings x (a_variable y) (Some q) in
    let same = same_typed t u (laws.expressions (known s.bindings) e (typed t) (typed u) h i) in
    absurd (no_refusal q (one_refusal s x (a_variable t) (Some q) None (subst P (sym same) b) a))
one_variable laws limits s x e f g (evaluated {t = t} {f = y} h a o) (evaluated {t = u} {f = z} i b p) =
    let P : Term → Type 0 = λ ty. FindsOutcome limits s x ty (within (budget limits s) (out 1000 (environment s.bindings) (outside []) e)) z in
    let same = same_typed t u (laws.expressions (known s.bindings) e (typed t) (typed u) h i) in
    one_outcome limits s x t (within (budget limits s) (out 1000 (environment s.bindings) (outside []) e)) y z o (subst P (sym same) p)

one_line : Laws → (limits : Limits) (s : State) (l : FormTree) → One (FindsForm limits s l)
one_line laws limits s trees.nothing f g of_nothing of_nothing = refl
one_line laws limits s (trees.function x p h e) f g (of_no_function {v = v} {k = k} a r) (of_no_function {v = u} {k = l} b q) = one_refused v u k l (laws.functions (known s.bindings) x p h e v u a b) r q
one_line laws limits s (trees.function x p h e) f g (of_no_function {v = v} {k = k} a r) (of_function {t = t} b d) = absurd (not_refused v t k (laws.functions (known s.bindings) x p h e v (typed t) a b) r)
one_line laws limits s (trees.function x p h e) f g (of_function {t = t} a d) (of_no_function {v = v} {k = k} b r) = absurd (not_refused v t k (laws.functions (known s.bindings) x p h e v (typed t) b a) r)
one_line laws limits s (trees.function x p h e) f g (of_function {t = t} {f = y} a c) (of_function {t = u} {f = z} b d) =
    let P : FunctionType → Type 0 = λ k. FindsDefinition limits s (a_function k) (replies.function x k.argument k.result k.classes) (record { name = x; meaning = function k p e }) z in
    one_definition limits s (a_function t) (replies.function x t.argument t.result t.classes) (record { name = x; meaning = function t p e }) y z c
    (subst P (sym (same_typed t u (laws.functions (known s.bindings) x p h e (typed t) (typed u) a b))) d)
one_line laws limits s (trees.datatype x w) f g (of_no_datatype {v = v} {k = k} a r) (of_no_datatype {v = u} {k = l} b q) = one_refused v u k l (laws.contents (known s.bindings) w v u a b) r q
one_line laws limits s (trees.datatype x w) f g (of_no_datatype {v = v} {k = k} a r) (of_datatype {t = t} b d) = absurd (not_refused v t k (laws.contents (known s.bindings) w v (typed t) a b) r)
one_line laws limits s (trees.datatype x w) f g (of_datatype {t = t} a d) (of_no_datatype {v = v} {k = k} b r) = absurd (not_refused v t k (laws.contents (known s.bindings) w v (typed t) b a) r)
one_line laws limits s (trees.datatype x w) f g (of_datatype {t = t} {f = y} a c) (of_datatype {t = u} {f = z} b d) =
    let P : Term → Type 0 = λ k. FindsDefinition limits s a_datatype (replies.datatype x k) (record { name = x; meaning = datatype (datatype_count s.bindings) k }) z in
    one_definition limits s a_datatype (replies.datatype x t) (record { name = x; meaning = datatype (datatype_count s.bindings) t }) y z c
    (subst P (sym (same_typed t u (laws.contents (known s.bindings) w (typed t) (typed u) a b))) d)
one_line laws limits s (trees.bind x e) f g (of_variable {f = y} a) (of_variable {f = z} b) = one_variable laws limits s x e y z a b
one_line laws limits s (trees.evaluate e) f g (of_expression {f = y} a) (of_expression {f = z} b) = one_variable laws limits s it e y z a b
one_line laws limits s trees.show_names f g of_names of_names = refl
one_line laws limits s trees.show_budget f g of_budget of_budget = refl
one_line laws limits s (trees.show_type e) f g (of_type {t = t} a) (of_type {t = u} b) = ap (λ z. answered (replies.shown z) 0 None) (same_typed t u (laws.expressions (known s.bindings) e (typed t) (typed u) a b))
one_line laws limits s (trees.show_type e) f g (of_type {t = t} a) (of_no_type {v = v} {k = k} b r) = absurd (not_refused v t k (laws.expressions (known s.bindings) e v (typed t) b a) r)
one_line laws limits s (trees.show_type e) f g (of_no_type {v = v} {k = k} a r) (of_type {t = t} b) = absurd (not_refused v t k (laws.expressions (known s.bindings) e v (typed t) a b) r)
one_line laws limits s (trees.show_type e) f g (of_no_type {v = v} {k = k} a r) (of_no_type {v = u} {k = l} b q) = one_refused v u k l (laws.expressions (known s.bindings) e v u a b) r q

one_of_reading : Laws → (limits : Limits) (s : State) (m : Reading) → One (FindsReading limits s m)
one_of_reading laws limits s (no_token at) f g lexical lexical = refl
one_of_reading laws limits s no_form f g syntax syntax = refl
one_of_reading laws limits s too_high f g nested nested = refl
one_of_reading laws limits s (form l) f g (has_tree {f = y} a) (has_tree {f = z} b) = one_line laws limits s l y z a b

-- the reading of the text, and what is found by it
abbrev Readings : Limits → State → List ℕ → Finding → Type 0
Readings limits s line f = (reading : Reading) × HasReading (s.pending ++ line) reading × FindsReading limits s reading f

one_by_reading : Laws → (limits : Limits) (s : State) (line : List ℕ) → One (Readings limits s line)
one_by_reading laws limits s line f g a b =
    let P : Reading → Type 0 = λ m. FindsReading limits s m g in
    one_of_reading laws limits s a.0 f g a.2 (subst P (means_unique laws (s.pending ++ line) b.0 a.0 b.1 a.1) b.2)

-- what is found by the answers of the checks, in their order
abbrev Checks : (is_reset is_late is_full is_long is_part : Bool) (K : Finding → Type 0) → Finding → Type 0
Checks a e b c d K f =
    MatchBool a (MatchBool e (f ≡ unread faults.Transcript) (f ≡ reset))
    (MatchBool b (f ≡ unread faults.Transcript) (MatchBool c (f ≡ unread faults.Long) (MatchBool d (f ≡ part) (K f))))

one_check : (a e b c d : Bool) (K : Finding → Type 0) → One K → One (Checks a e b c d K)
one_check true true b c d K k f g h i = h ∙ sym i
one_check true false b c d K k f g h i = h ∙ sym i
one_check false e true c d K k f g h i = h ∙ sym i
one_check false e false true d K k f g h i = h ∙ sym i
one_check false e false false true K k f g h i = h ∙ sym i
one_check false e false false false K k f g h i = k f g h i

at_true : {P : Type 0} (Q : Type 0) (b : Bool) → b ≡ true → P → MatchBool b P Q
at_true Q true e p = p
at_true Q false e p = absurd cc

at_false : (P : Type 0) {Q : Type 0} (b : Bool) → b ≡ false → Q → MatchBool b P Q
at_false P true e q = absurd cc
at_false P false e q = q

abbrev late : State → Bool
late s = nat_lt most_recorded (recorded_by_reset s)

abbrev long : State → List ℕ → Bool
long s line = nat_lt longest (length s.pending + length line)

finds_checks : (limits : Limits) (s : State) (line : List ℕ) (f : Finding) → Finds limits s line f → Checks (is_reset line) (late s) (is_full limits s line) (long s line) (is_part line) (Readings limits s line) f
finds_checks limits s line f (reset_too_often e o) = at_true _ (is_reset line) e (at_true _ (late s) (lt-ltb most_recorded (recorded_by_reset s) o) refl)
finds_checks limits s line f (resets e o) = at_true _ (is_reset line) e (at_false _ (late s) (le-ltb most_recorded (recorded_by_reset s) o) refl)
finds_checks limits s line f (transcript_full e o) = at_false _ (is_reset line) e (at_true _ (is_full limits s line) o refl)
finds_checks limits s line f (too_long e o p) =
    at_false _ (is_reset line) e (at_false _ (is_full limits s line) o (at_true _ (long s line) (lt-ltb longest (length s.pending + length line) p) refl))
finds_checks limits s line f (one_part e o p q) =
    at_false _ (is_reset line) e (at_false _ (is_full limits s line) o (at_false _ (long s line) (le-ltb longest (length s.pending + length line) p) (at_true _ (is_part line) q refl)))
finds_checks limits s line f (is_read {reading = m} e o p q h r) =
    at_false _ (is_reset line) e (at_false _ (is_full limits s line) o (at_false _ (long s line) (le-ltb longest (length s.pending + length line) p) (at_false _ (is_part line) q (m, h, r))))

-- one thing is found
pub finds_unique : Laws → (limits : Limits) (s : State) (line : List ℕ) (x y : Finding) → Finds limits s line x → Finds limits s line y → x ≡ y
finds_unique laws limits s line x y a b =
    one_check (is_reset line) (late s) (is_full limits s line) (long s line) (is_part line) (Readings limits s line) (one_by_reading laws limits s line) x y
    (finds_checks limits s line x a) (finds_checks limits s line y b)

-- in one state a line has one answer, and leaves one state
pub step_unique : Laws → (limits : Limits) (s t u : State) (line : List ℕ) (q r : Reply) → Step limits s line q t → Step limits s line r u → (q ≡ r) × (t ≡ u)
unfolding Step
step_unique laws limits s t u line q r a b =
    let same = finds_unique laws limits s line a.0 b.0 a.1 b.1 in
    (a.2 ∙ ap (reply_of s) same ∙ sym b.2, a.3 ∙ ap (after line s) same ∙ sym b.3)

-- so has a run
pub solo_unique : Laws → (limits : Limits) (s t u : State) (lines : List (List ℕ)) (qs rs : List Reply) → SessionRuns limits s lines qs t → SessionRuns limits s lines rs u → (qs ≡ rs) × (t ≡ u)
solo_unique laws limits s t u [] [] [] a b = (refl, a ∙ sym b)
solo_unique laws limits s t u [] (q ∷ qs) rs a b = absurd a
solo_unique laws limits s t u [] [] (r ∷ rs) a b = absurd b
solo_unique laws limits s t u (line ∷ lines) [] rs a b = absurd a
solo_unique laws limits s t u (line ∷ lines) (q ∷ qs) [] a b = absurd b
solo_unique laws limits s t u (line ∷ lines) (q ∷ qs) (r ∷ rs) a b =
    let e = step_unique laws limits s a.0 b.0 line q r a.1 b.1 in
    let P : State → Type 0 = λ x. SessionRuns limits x lines rs u in
    let rest = solo_unique laws limits a.0 t u lines qs rs a.2 (subst P (sym e.1) b.2) in
    (λ i. e.0 i ∷ rest.0 i, rest.1)

-- a session has one state
pub replays_unique : Laws → (log : Log) (s t : State) → Replays log s → Replays log t → s ≡ t
replays_unique laws log s t a b = (solo_unique laws log.limits (opening log.base log.cleared) s t log.lines a.replies b.replies a.run b.run).1

-- alone, the same lines have one outcome
pub alone_unique : Laws → (old new other : Log) (lines : List (List ℕ)) (replies others : List Reply) → SessionAnswers old lines replies new → SessionAnswers old lines others other → (replies ≡ others) × (new ≡ other)
alone_unique laws old new other lines replies others a b =
    let P : State → Type 0 = λ x. SessionRuns old.limits x lines others b.after in
    let e = solo_unique laws old.limits a.before a.after b.after lines replies others a.run (subst P (replays_unique laws old b.before a.before b.starts a.starts) b.run) in
    (e.0, sym (log_same new a.after a.ends) ∙ (λ i. log_at ((a.limits ∙ sym b.limits) i) (e.1 i)) ∙ log_same other b.after b.ends)

-- after further lines, it goes on from there
pub alone_then : Laws → (a b c : Log) (xs ys : List (List ℕ)) (qs rs : List Reply) → SessionAnswers a xs qs b → SessionAnswers b ys rs c → SessionAnswers a (xs ++ ys) (qs ++ rs) c
alone_then laws a b c xs ys qs rs p q =
    let same : q.before ≡ p.after = replays_unique laws b q.before p.after q.starts p.ends in
    let P : State → Type 0 = λ x. SessionRuns b.limits x ys rs q.after in
    let Q : Limits → Type 0 = λ l. SessionRuns l p.after ys rs q.after in
    record {
      before = p.before;
      after = q.after;
      starts = p.starts;
      run = solo_append a.limits p.before p.after q.after xs ys qs rs p.run (subst Q p.limits (subst P same q.run));
      ends = q.ends;
      limits = q.limits ∙ p.limits;
    }
