-- What the list of what is open gives is a tree of the grammar.
use Rattle.std.proofs.Common.{◌≡◌, ℕ, zero, suc, ◌+◌, ◌-◌, ◌≤◌, Bool, true, false, cond, List, [], ◌∷◌, ◌++◌, Option, Some, None, refl, ap, sym, subst, ◌∙◌, arith, leb, append_assoc, append-nil}
use Rattle.std.specs.Option.{option_and_then}
use Rattle.std.proofs.lemmas.Bool.{leb-true}
use Rattle.std.proofs.lemmas.Option.{option_and_then_some, cond_some}
use Rattle.nesl_lex.specs.Tokens.{Placed, Lexeme, reserved, symbol}
use Rattle.nesl_lex.specs.Tokens as tokens
use Rattle.nesl_lex.specs.declared.token.Span.{Span}
use Rattle.nesl_lex.specs.declared.token.Word.TheVariants as word
use Rattle.nesl_lex.specs.declared.token.Sign.TheVariants as sign
use Rattle.nesl_syntax_tree.specs.declared.tree.Operator.{Operator}
use Rattle.nesl_syntax_tree.specs.declared.tree.Prefix.{Prefix}
use Rattle.nesl_syntax_tree.specs.declared.tree.Prefix.TheVariants as prefix
use Rattle.nesl_syntax_open.specs.declared.mark.Mark.{Mark}
use Rattle.nesl_syntax_open.specs.declared.mark.Mark.TheVariants as mark
use Rattle.nesl_syntax_open.specs.declared.mark.Follow.{Follow}
use Rattle.nesl_syntax_open.specs.declared.mark.Follow.TheVariants as follow
use Rattle.nesl_syntax_tree.specs.Trees.{Tree, Shape, Trees, Binders, PatternTree, TypeTree, node, span_of, tree_on, with_last, with_last_binder, none, no_binders, binder}
use Rattle.nesl_syntax_tree.specs.Trees as trees
use Rattle.nesl_syntax_open.specs.Marks.{follow_of}
use Rattle.nesl_syntax_tree.specs.Grammar as grammar
use Rattle.nesl_syntax_tree.specs.Grammar.{operator_token, level_of, prefix_sign, spanning, token_at, sign_at, word_at, name_at, IsType, AreTypes, IsPattern, IsExpression, looser, AreElements, AreBinders, IsBody, unwritten_body}
use Rattle.nesl_syntax_tree.specs.Made.{type_pair}
use Rattle.nesl_syntax_open.specs.Machine.{Group, let_group, each_group, Opening, round, call, index_of, test, branch, list, range_from, range_to, brace, binders, value, filter, empty_at, type_list, type_round, type_comma, Waiting, open_at, comma_behind, else_behind, body_of, prefix_at, sign_behind, type_at, opening_begins, wanted_by, begun_by, rank, completed, wanted, folded, Mode, before, behind, typing, typed, State, opened, called, Turn, becomes, ends, bound, turned, taken_up, marked, separated, mark_level, followed, let_closed, emptied, begun_with, type_done, typed_with, type_separated, type_bracketed, type_closed, typed_on, step, run, alone, tree_left_in, tree_left, expression, type_alone, type_left_in, type_left, written_type}
use Rattle.nesl_syntax_open.proofs.Complete.{wanted_small, level_low, level_high, separator}
use Rattle.nesl_syntax.proofs.Patterns.{pattern_of_phrase}
use Rattle.nesl_syntax_tree.specs.Patterns.{pattern_in}

-- the token that ends a part so
abbrev mark_token : Mark → Lexeme
mark_token mark.CloseParenthesis = symbol sign.CloseParenthesis
mark_token mark.CloseBracket = symbol sign.CloseBracket
mark_token mark.CloseBrace = symbol sign.CloseBrace
mark_token mark.Colon = symbol sign.Colon
mark_token mark.Semicolon = symbol sign.Semicolon
mark_token mark.Bar = symbol sign.Bar
mark_token mark.Equal = symbol sign.Equal
mark_token mark.Then = reserved word.Then
mark_token mark.Else = reserved word.Else
mark_token mark.In = reserved word.In

-- the tokens that open a group
pub data Opens : Group → List Placed → Type 0 where
  let_opens : (s : Span) → Opens (let_group s) (word_at word.Let s ∷ [])
  bare_opens : (s : Span) → Opens (each_group s None) (sign_at sign.OpenBrace s ∷ [])
  body_opens : {us : List Placed} {e : Tree} (s c : Span) → IsExpression 2 us e → Opens (each_group s (Some e)) (sign_at sign.OpenBrace s ∷ (us ++ (sign_at sign.Colon c ∷ [])))

-- the binders so far, with a ; after them
pub data SoFar : Lexeme → List Placed → Binders → Type 0 where
  none_so_far : {x : Lexeme} → SoFar x [] no_binders
  some_so_far : {x : Lexeme} {us : List Placed} {bs : Binders} (c : Span) → AreBinders x us bs → SoFar x (us ++ (sign_at sign.Semicolon c ∷ [])) bs

-- the tokens of what waits, with its parts so far
pub data Stands : Waiting → List Placed → Type 0 where
  round_stands : (s : Span) → Stands (open_at (round s)) (sign_at sign.OpenParenthesis s ∷ [])
  call_stands : (x : List ℕ) (s t : Span) → Stands (open_at (call x s)) (name_at x s ∷ (sign_at sign.OpenParenthesis t ∷ []))
  index_stands : {us : List Placed} {a : Tree} (s : Span) → IsExpression 9 us a → Stands (open_at (index_of a)) (us ++ (sign_at sign.OpenBracket s ∷ []))
  test_stands : (s : Span) → Stands (open_at (test s)) (word_at word.If s ∷ [])
  branch_stands : {us : List Placed} {a : Tree} (s t : Span) → IsExpression 2 us a → Stands (open_at (branch s a)) (word_at word.If s ∷ (us ++ (word_at word.Then t ∷ [])))
  list_stands : (s : Span) → Stands (open_at (list s none)) (sign_at sign.OpenBracket s ∷ [])
  lists_stand : {us : List Placed} {xs : Trees} (s c : Span) → AreElements us xs → Stands (open_at (list s xs)) (sign_at sign.OpenBracket s ∷ (us ++ (sign_at sign.Comma c ∷ [])))
  from_stands : {us : List Placed} {a : Tree} (s c : Span) → IsExpression 2 us a → Stands (open_at (range_from s a)) (sign_at sign.OpenBracket s ∷ (us ++ (sign_at sign.Colon c ∷ [])))
  to_stands : {us vs : List Placed} {a b : Tree} (s c d : Span) → IsExpression 2 us a → IsExpression 2 vs b → Stands (open_at (range_to s a b)) (sign_at sign.OpenBracket s ∷ (us ++ (sign_at sign.Colon c ∷ (vs ++ (sign_at sign.Colon d ∷ [])))))
  brace_stands : (s : Span) → Stands (open_at (brace s)) (sign_at sign.OpenBrace s ∷ [])
  binders_stand : {g : Group} {us vs : List Placed} {bs : Binders} → Opens g us → SoFar (separator g) vs bs → Stands (open_at (binders g bs)) (us ++ vs)
  value_stands : {g : Group} {us vs ws : List Placed} {bs : Binders} {p : PatternTree} (s : Span) → Opens g us → SoFar (separator g) vs bs → IsPattern ws p → Stands (open_at (value g bs p)) (us ++ (vs ++ (ws ++ (token_at (separator g) s ∷ []))))
  filter_stands : {s : Span} {b : Option Tree} {us vs : List Placed} {bs : Binders} (c : Span) → Opens (each_group s b) us → AreBinders (reserved word.In) vs bs → Stands (open_at (filter s b bs)) (us ++ (vs ++ (sign_at sign.Bar c ∷ [])))
  comma_stands : {us : List Placed} {a : Tree} (s : Span) → IsExpression 2 us a → Stands (comma_behind a) (us ++ (sign_at sign.Comma s ∷ []))
  else_stands : {us vs : List Placed} {a b : Tree} (s t l : Span) → IsExpression 2 us a → IsExpression 2 vs b → Stands (else_behind s a b) (word_at word.If s ∷ (us ++ (word_at word.Then t ∷ (vs ++ (word_at word.Else l ∷ [])))))
  body_stands : {us : List Placed} {bs : Binders} (s t : Span) → AreBinders (symbol sign.Equal) us bs → Stands (body_of s bs) (word_at word.Let s ∷ (us ++ (word_at word.In t ∷ [])))
  closed_body_stands : {us : List Placed} {bs : Binders} (s c t : Span) → AreBinders (symbol sign.Equal) us bs → Stands (body_of s bs) (word_at word.Let s ∷ (us ++ (sign_at sign.Semicolon c ∷ (word_at word.In t ∷ []))))
  prefix_stands : (o : Prefix) (s : Span) → Stands (prefix_at o s) (sign_at (prefix_sign o) s ∷ [])
  sign_stands : {us : List Placed} {a : Tree} (o : Operator) (s : Span) → IsExpression (level_of o) us a → Stands (sign_behind o a) (us ++ (token_at (operator_token o) s ∷ []))
  empty_stands : (s t : Span) → Stands (type_at (empty_at s)) (sign_at sign.OpenBracket s ∷ (sign_at sign.CloseBracket t ∷ []))
  type_list_stands : (s : Span) → Stands (type_at (type_list s)) (sign_at sign.OpenBracket s ∷ [])
  type_round_stands : (s : Span) → Stands (type_at (type_round s)) (sign_at sign.OpenParenthesis s ∷ [])
  type_comma_stands : {us : List Placed} {a : TypeTree} (s : Span) → IsType us a → Stands (type_at (type_comma a)) (us ++ (sign_at sign.Comma s ∷ []))

-- the tokens of all that waits, each where it may come
pub data Line_so_far : List Waiting → List Placed → Type 0 where
  nothing_waits : Line_so_far [] []
  waits : {ws : List Waiting} {w : Waiting} {us vs : List Placed} → Line_so_far ws us → Stands w vs → wanted ws ≤ begun_by w → Line_so_far (w ∷ ws) (us ++ vs)

-- a name alone
pub record IsName (ts : List Placed) (e : Tree) : Type 0 where
  pub name : List ℕ
  pub at : Span
  pub tokens_are : ts ≡ name_at name at ∷ []
  pub tree_is : e ≡ node at (trees.variable name)

-- what waits, and after it a phrase of a level that may come there
pub record Splits (n : ℕ) (ts : List Placed) (ws : List Waiting) (e : Tree) : Type 0 where
  pub first : List Placed
  pub rest : List Placed
  pub level : ℕ
  pub whole : ts ≡ first ++ rest
  pub so_far : Line_so_far ws first
  pub phrase : IsExpression level rest e
  pub fits : wanted ws ≤ level
  pub tight : n ≤ level

-- a phrase that ends in a token of its own, where it may come
pub record Tight (ws : List Waiting) (ts : List Placed) (e : Tree) : Type 0 where
  pub level : ℕ
  pub phrase : IsExpression level ts e
  pub fits : wanted ws ≤ level
  pub tight : 9 ≤ level

-- the state that these tokens leave
pub data Means : List Waiting → Mode → List Placed → Type 0 where
  means_before : {ws : List Waiting} {ts : List Placed} → Line_so_far ws ts → Means ws before ts
  means_behind : {ws : List Waiting} {us vs : List Placed} {e : Tree} (b : Bool) → Line_so_far ws us → Tight ws vs e → (b ≡ true → IsName vs e) → Means ws (behind b e) (us ++ vs)
  means_typing : {ws : List Waiting} {ts : List Placed} → Line_so_far ws ts → Means ws typing ts
  means_typed : {ws : List Waiting} {us vs : List Placed} {a : TypeTree} → Line_so_far ws us → IsType vs a → Means ws (typed a) (us ++ vs)

-- `None` isn't a value
none_is : {A B : Type 0} (x : A) → None ≡ Some x → B
none_is x h = cc

-- a phrase is one of each looser level
loosened_by : (k m : ℕ) (ts : List Placed) (e : Tree) → IsExpression (m + k) ts e → IsExpression m ts e
loosened_by zero m ts e p = let h : m + zero ≡ m = omega arith in subst (λ (n : ℕ). IsExpression n ts e) h p
loosened_by (suc k) m ts e p = let h : m + suc k ≡ suc (m + k) = omega arith in loosened_by k m ts e (looser (subst (λ (n : ℕ). IsExpression n ts e) h p))

pub loosened : {n : ℕ} {ts : List Placed} {e : Tree} → IsExpression n ts e → (m : ℕ) → m ≤ n → IsExpression m ts e
loosened {n = n} {ts = ts} {e = e} p m h = let k : n ≡ m + (n - m) = omega arith in loosened_by (n - m) m ts e (subst (λ (x : ℕ). IsExpression x ts e) k p)

-- what waits, with its last part
put : {w : Waiting} {us : List Placed} → Stands w us → (vs : List Placed) (e : Tree) → IsExpression (wanted_by w) vs e → 1 ≤ rank w → IsExpression (rank w) (us ++ vs) (completed w e)
put (comma_stands s q) vs e p h = simp append_assoc (grammar.pairs s q p)
put (else_stands s t l q r) vs e p h = simp append_assoc (grammar.chooses s t l q r p)
put (body_stands s t q) vs e p h = simp append_assoc (grammar.lets s t q p)
put (closed_body_stands s c t q) vs e p h = simp append_assoc (grammar.closed_lets s c t q p)
put (prefix_stands o s) vs e p h = grammar.prefixes o s p
put (sign_stands o s q) vs e p h = simp append_assoc (grammar.joins o s q p)
put _ vs e p h = absurd (omega arith)

begun_rank : (w : Waiting) → 1 ≤ rank w → begun_by w ≡ rank w
begun_rank (open_at o) h = absurd (omega arith)
begun_rank (comma_behind a) h = refl
begun_rank (else_behind s a b) h = refl
begun_rank (body_of s bs) h = refl
begun_rank (prefix_at o s) h = refl
begun_rank (sign_behind o a) h = refl
begun_rank (type_at o) h = absurd (omega arith)

-- the newest that waits, apart from the others
record Newest (w : Waiting) (ws : List Waiting) (ts : List Placed) : Type 0 where
  under : List Placed
  own : List Placed
  whole : ts ≡ under ++ own
  line : Line_so_far ws under
  stands : Stands w own
  fits : wanted ws ≤ begun_by w

newest : {w : Waiting} {ws : List Waiting} {ts : List Placed} → Line_so_far (w ∷ ws) ts → Newest w ws ts
newest (waits {us = us} {vs = vs} l s k) = record { under = us; own = vs; whole = refl; line = l; stands = s; fits = k }

folded_once : (n : ℕ) (ts : List Placed) (w : Waiting) (ws : List Waiting) (e : Tree) → 1 ≤ n → n ≤ rank w → Splits n ts (w ∷ ws) e → Splits n ts ws (completed w e)
folded_once n ts w ws e i k s =
    let t = newest s.so_far in
    record {
      first = t.under;
      rest = t.own ++ s.rest;
      level = rank w;
      whole = s.whole ∙ ap (λ (us : List Placed). us ++ s.rest) t.whole ∙ append_assoc t.under t.own s.rest;
      so_far = t.line;
      phrase = put t.stands s.rest e (loosened s.phrase (wanted_by w) s.fits) (omega arith);
      fits = omega (arith, t.fits, begun_rank w (omega arith));
      tight = k;
    }

folded_either : (n : ℕ) (ts : List Placed) (w : Waiting) (ws : List Waiting) (e : Tree) (b : Bool) → leb n (rank w) ≡ b → Splits n ts (w ∷ ws) e
    → (n ≤ rank w → Splits n ts (folded n ws (completed w e)).0 (folded n ws (completed w e)).1)
    → Splits n ts (cond b (folded n ws (completed w e)) (w ∷ ws, e)).0 (cond b (folded n ws (completed w e)) (w ∷ ws, e)).1
folded_either n ts w ws e true h s f = f (leb-true n (rank w) h)
folded_either n ts w ws e false h s f = s

-- putting together keeps the tokens
pub folded_splits : (n : ℕ) (ts : List Placed) (ws : List Waiting) (e : Tree) → 1 ≤ n → Splits n ts ws e → Splits n ts (folded n ws e).0 (folded n ws e).1
folded_splits n ts [] e i s = s
folded_splits n ts (w ∷ ws) e i s = folded_either n ts w ws e (leb n (rank w)) refl s (λ k. folded_splits n ts ws (completed w e) i (folded_once n ts w ws e i k s))

splits_behind : (n : ℕ) {ws : List Waiting} {us vs : List Placed} {e : Tree} → n ≤ 9 → Line_so_far ws us → Tight ws vs e → Splits n (us ++ vs) ws e
splits_behind n {us = us} {vs = vs} h l p = record { first = us; rest = vs; level = p.level; whole = refl; so_far = l; phrase = p.phrase; fits = p.fits; tight = omega (arith, p.tight) }

means_at : {p : State} (q : State) {ts : List Placed} → Means p.0 p.1 ts → Some p ≡ Some q → Means q.0 q.1 ts
means_at {p = p} q {ts = ts} m h = let e : p ≡ q = cc in subst (λ (x : State). Means x.0 x.1 ts) e m

opened_means : {ws : List Waiting} {ts us : List Placed} (w : Waiting) (q : State) → Line_so_far ws ts → Stands w us → opened w ws ≡ Some q → Means q.0 q.1 (ts ++ us)
opened_means {ws = ws} {ts = ts} {us = us} w q l s h =
    let e = cond_some (leb (wanted ws) (begun_by w)) (w ∷ ws, before) q h in
    subst (λ (x : State). Means x.0 x.1 (ts ++ us)) e.1 (means_before (waits l s (leb-true _ _ e.0)))

moved : (q : State) (us vs : List Placed) → us ≡ vs → Means q.0 q.1 us → Means q.0 q.1 vs
moved q us vs h m = subst (λ (x : List Placed). Means q.0 q.1 x) h m

atom : {ws : List Waiting} {ts : List Placed} {e : Tree} → IsExpression 10 ts e → Tight ws ts e
atom {ws = ws} p = record { level = 10; phrase = p; fits = wanted_small ws; tight = omega arith }

let_closed_is : (i : Span) (ws : List Waiting) (bs : Binders) (q : State) → let_closed (open_at (binders (let_group i) bs) ∷ ws) ≡ Some q → (body_of i bs ∷ ws, before) ≡ q
let_closed_is i ws no_binders q h = cc
let_closed_is i ws (binder p e bs) q h = cc

means_from : {p : State} (q : State) {ts : List Placed} → Means p.0 p.1 ts → p ≡ q → Means q.0 q.1 ts
means_from q {ts = ts} m e = subst (λ (x : State). Means x.0 x.1 ts) e m

-- in after a ;
let_closed_means : {ws : List Waiting} {us : List Placed} → Line_so_far ws us → (s : Span) (q : State) → let_closed ws ≡ Some q → Means q.0 q.1 (us ++ (word_at word.In s ∷ []))
let_closed_means (waits {ws = ws} l (binders_stand {bs = bs} (let_opens i) (some_so_far c b)) k) s q h = means_from q (simp append_assoc (means_before (waits l (closed_body_stands i c s b) k))) (let_closed_is i ws bs q h)
let_closed_means _ s q h = none_is q h

-- ] directly after [
emptied_means : {ws : List Waiting} {us : List Placed} → Line_so_far ws us → (s : Span) (q : State) → emptied ws ≡ Some q → Means q.0 q.1 (us ++ (sign_at sign.CloseBracket s ∷ []))
emptied_means (waits l (list_stands i) k) s q h = means_at q (simp append_assoc (means_typing (waits l (empty_stands i s) k))) h
emptied_means (waits {ws = ws} l (lists_stand {xs = xs} i c e) k) s q h = absurd (no_elements i ws xs e q h)
  where
    no_more : (i : Span) (ws : List Waiting) (xs : Trees) (a : Tree) (q : State) → emptied (open_at (list i (with_last xs a)) ∷ ws) ≡ Some q → ⊥
    no_more i ws none a q h = cc
    no_more i ws (trees.more b xs) a q h = cc

    no_elements : {us : List Placed} (i : Span) (ws : List Waiting) (xs : Trees) → AreElements us xs → (q : State) → emptied (open_at (list i xs) ∷ ws) ≡ Some q → ⊥
    no_elements i ws xs (grammar.one_element p) q h = cc
    no_elements i ws xs (grammar.more_elements {xs = ys} {a = a} d p r) q h = no_more i ws ys a q h
emptied_means _ s q h = none_is q h

begun_means : (ws : List Waiting) (s : Span) (x : Lexeme) (q : State) (ts : List Placed) → Line_so_far ws ts → begun_with ws s x ≡ Some q → Means q.0 q.1 (ts ++ (token_at x s ∷ []))
begun_means ws s (tokens.number n) q ts l h = means_at q (means_behind false l (atom (grammar.numbers n s)) (λ k. cc)) h
begun_means ws s (tokens.truth b) q ts l h = means_at q (means_behind false l (atom (grammar.truths b s)) (λ k. cc)) h
begun_means ws s (tokens.character c) q ts l h = means_at q (means_behind false l (atom (grammar.characters c s)) (λ k. cc)) h
begun_means ws s (tokens.quoted bytes) q ts l h = means_at q (means_behind false l (atom (grammar.texts bytes s)) (λ k. cc)) h
begun_means ws s (tokens.name x) q ts l h = means_at q (means_behind true l (atom (grammar.names x s)) (λ k. record { name = x; at = s; tokens_are = refl; tree_is = refl })) h
begun_means ws s (reserved word.If) q ts l h = opened_means (open_at (test s)) q l (test_stands s) h
begun_means ws s (reserved word.Let) q ts l h = opened_means (open_at (binders (let_group s) no_binders)) q l (binders_stand (let_opens s) none_so_far) h
begun_means ws s (reserved word.In) q ts l h = let_closed_means l s q h
begun_means ws s (symbol sign.OpenParenthesis) q ts l h = opened_means (open_at (round s)) q l (round_stands s) h
begun_means ws s (symbol sign.OpenBracket) q ts l h = opened_means (open_at (list s none)) q l (list_stands s) h
begun_means ws s (symbol sign.OpenBrace) q ts l h = opened_means (open_at (brace s)) q l (brace_stands s) h
begun_means ws s (symbol sign.CloseBracket) q ts l h = emptied_means l s q h
begun_means ws s (symbol sign.Hash) q ts l h = opened_means (prefix_at prefix.Length s) q l (prefix_stands prefix.Length s) h
begun_means ws s (symbol sign.Minus) q ts l h = opened_means (prefix_at prefix.Negate s) q l (prefix_stands prefix.Negate s) h
begun_means ws s _ q ts l h = none_is q h

-- one more binder
grown : {x : Lexeme} {us ps vs : List Placed} {bs : Binders} {p : PatternTree} {e : Tree} (s : Span) → SoFar x us bs → IsPattern ps p → IsExpression 2 vs e → AreBinders x (us ++ (ps ++ (token_at x s ∷ vs))) (with_last_binder bs p e)
grown s none_so_far i q = grammar.one_binder s i q
grown s (some_so_far c b) i q = simp append_assoc (grammar.more_binders c s b i q)

-- what a turn leaves: something in the place of the opening, or a phrase
pub data Turned : Opening → List Placed → Turn → Type 0 where
  becomes_so : {o : Opening} {ts : List Placed} {w : Waiting} → Stands w ts → begun_by w ≡ opening_begins o → Turned o ts (becomes w)
  ends_so : {o : Opening} {ts : List Placed} {e : Tree} → IsExpression (opening_begins o) ts e → 9 ≤ opening_begins o → Turned o ts (ends e)

turned_at : {o : Opening} {ts : List Placed} {p : Turn} (q : Turn) → Turned o ts p → Some p ≡ Some q → Turned o ts q
turned_at {o = o} {ts = ts} {p = p} q t h = let e : p ≡ q = cc in subst (λ (x : Turn). Turned o ts x) e t

bound_is : {o : Opening} {ts : List Placed} (g : Group) (bs : Binders) (m : Option PatternTree) (q : Turn) → ((p : PatternTree) → m ≡ Some p → Turned o ts (becomes (open_at (value g bs p)))) → bound g bs m ≡ Some q → Turned o ts q
bound_is g bs (Some p) q f h = turned_at q (f p refl) h
bound_is g bs None q f h = cc

no_range_more : (t s : Span) (xs : Trees) (a e : Tree) (q : Turn) → turned mark.Colon t (list s (with_last xs a)) e ≡ Some q → ⊥
no_range_more t s none a e q h = cc
no_range_more t s (trees.more b xs) a e q h = cc

no_range : {us : List Placed} (t s : Span) (xs : Trees) → AreElements us xs → (e : Tree) (q : Turn) → turned mark.Colon t (list s xs) e ≡ Some q → ⊥
no_range t s xs (grammar.one_element p) e q h = cc
no_range t s xs (grammar.more_elements {xs = ys} {a = a} d p r) e q h = no_range_more t s ys a e q h

pattern_from : {vs : List Placed} {e : Tree} → IsExpression 2 vs e → (p : PatternTree) → pattern_in e ≡ Some p → IsPattern vs p
pattern_from q p h = (pattern_of_phrase q (omega arith) p h).alone (omega arith)

turned_means : {o : Opening} {us : List Placed} → Stands (open_at o) us → (m : Mark) (t : Span) (vs : List Placed) (e : Tree) (q : Turn) → IsExpression (mark_level m) vs e → turned m t o e ≡ Some q → Turned o (us ++ (vs ++ (token_at (mark_token m) t ∷ []))) q
turned_means (round_stands s) mark.CloseParenthesis t vs e q p h = turned_at q (ends_so (grammar.rounds s t p) (omega arith)) h
turned_means (call_stands x s u) mark.CloseParenthesis t vs e q p h = turned_at q (ends_so (grammar.calls x s u t p) (omega arith)) h
turned_means (index_stands s r) mark.CloseBracket t vs e q p h = turned_at q (ends_so (simp append_assoc (grammar.picks s t r p)) (omega arith)) h
turned_means (test_stands s) mark.Then t vs e q p h = turned_at q (becomes_so (branch_stands s t p) refl) h
turned_means (branch_stands s u r) mark.Else t vs e q p h = turned_at q (becomes_so (simp append_assoc (else_stands s u t r p)) refl) h
turned_means (list_stands s) mark.CloseBracket t vs e q p h = turned_at q (ends_so (grammar.sequences s t (grammar.one_element p)) (omega arith)) h
turned_means (list_stands s) mark.Colon t vs e q p h = turned_at q (becomes_so (from_stands s t p) refl) h
turned_means (lists_stand s c r) mark.CloseBracket t vs e q p h = turned_at q (ends_so (simp append_assoc (simp append_assoc at (grammar.sequences s t (grammar.more_elements c r p)))) (omega arith)) h
turned_means (lists_stand {xs = xs} s c r) mark.Colon t vs e q p h = absurd (no_range t s xs r e q h)
turned_means (from_stands s c r) mark.Colon t vs e q p h = turned_at q (becomes_so (simp append_assoc (to_stands s c t r p)) refl) h
turned_means (from_stands s c r) mark.CloseBracket t vs e q p h = turned_at q (ends_so (simp append_assoc (grammar.ranges s c t r p)) (omega arith)) h
turned_means (to_stands s c d r f) mark.CloseBracket t vs e q p h = turned_at q (ends_so (simp append_assoc (grammar.strides s c d t r f p)) (omega arith)) h
turned_means (brace_stands s) mark.Colon t vs e q p h = turned_at q (becomes_so (simp append-nil at (binders_stand (body_opens s t p) (none_so_far {x = reserved word.In}))) refl) h
turned_means (brace_stands s) mark.In t vs e q p h = bound_is (each_group s None) no_binders (pattern_in e) q (λ x k. becomes_so (value_stands t (bare_opens s) none_so_far (pattern_from p x k)) refl) h
turned_means (binders_stand {bs = bs} (let_opens s) f) mark.Equal t vs e q p h = bound_is (let_group s) bs (pattern_in e) q (λ x k. becomes_so (simp append_assoc (value_stands t (let_opens s) f (pattern_from p x k))) refl) h
turned_means (binders_stand {bs = bs} (bare_opens s) f) mark.In t vs e q p h = bound_is (each_group s None) bs (pattern_in e) q (λ x k. becomes_so (simp append_assoc (value_stands t (bare_opens s) f (pattern_from p x k))) refl) h
turned_means (binders_stand {bs = bs} (body_opens {e = y} s c r) f) mark.In t vs e q p h = bound_is (each_group s (Some y)) bs (pattern_in e) q (λ x k. becomes_so (simp append_assoc (simp append_assoc at (value_stands t (body_opens s c r) f (pattern_from p x k)))) refl) h
turned_means (value_stands s o f i) mark.Semicolon t vs e q p h = turned_at q (becomes_so (simp append_assoc (simp append_assoc at (binders_stand o (some_so_far t (grown s f i p))))) refl) h
turned_means (value_stands s (let_opens j) f i) mark.In t vs e q p h = turned_at q (becomes_so (simp append_assoc (simp append_assoc at (body_stands j t (grown s f i p)))) refl) h
turned_means (value_stands s (bare_opens j) f i) mark.Bar t vs e q p h = turned_at q (becomes_so (simp append_assoc (simp append_assoc at (filter_stands t (bare_opens j) (grown s f i p)))) refl) h
turned_means (value_stands s (body_opens j c r) f i) mark.Bar t vs e q p h = turned_at q (becomes_so (simp append_assoc (simp append_assoc at (filter_stands t (body_opens j c r) (grown s f i p)))) refl) h
turned_means (value_stands s (bare_opens j) f i) mark.CloseBrace t vs e q p h = turned_at q (ends_so (simp append_assoc (simp append_assoc at (grammar.eaches j t grammar.bodiless (grown s f i p)))) (omega arith)) h
turned_means (value_stands s (body_opens j c r) f i) mark.CloseBrace t vs e q p h = turned_at q (ends_so (simp append_assoc (simp append_assoc at (grammar.eaches j t (grammar.body c r) (grown s f i p)))) (omega arith)) h
turned_means (filter_stands c (bare_opens j) b) mark.CloseBrace t vs e q p h = turned_at q (ends_so (simp append_assoc (grammar.filters j c t grammar.bodiless b p)) (omega arith)) h
turned_means (filter_stands c (body_opens j d r) b) mark.CloseBrace t vs e q p h = turned_at q (ends_so (simp append_assoc (simp append_assoc at (grammar.filters j c t (grammar.body d r) b p))) (omega arith)) h
turned_means _ _ t vs e q p h = none_is q h

took_means : {ws : List Waiting} {o : Opening} {us ts : List Placed} (r : Option Turn) (q : State) → Line_so_far ws us → wanted ws ≤ opening_begins o → ((t : Turn) → r ≡ Some t → Turned o ts t) → taken_up ws r ≡ Some q → Means q.0 q.1 (us ++ ts)
took_means None q l k f h = cc
took_means {o = o} (Some t) q l k f h = turn_means t q (f t refl) l k h
  where
    turn_means : {ws : List Waiting} {o : Opening} {us ts : List Placed} (t : Turn) (q : State) → Turned o ts t → Line_so_far ws us → wanted ws ≤ opening_begins o → taken_up ws (Some t) ≡ Some q → Means q.0 q.1 (us ++ ts)
    turn_means (becomes w) q (becomes_so s e) l k h = means_at q (means_before (waits l s (omega arith))) h
    turn_means {o = o} (ends x) q (ends_so p i) l k h = means_at q (means_behind false l (record { level = opening_begins o; phrase = p; fits = k; tight = i }) (λ j. cc)) h

marked_means : {ws : List Waiting} {us : List Placed} → Line_so_far ws us → (m : Mark) (t : Span) (vs : List Placed) (e : Tree) (q : State) → IsExpression (mark_level m) vs e → marked m t ws e ≡ Some q → Means q.0 q.1 ((us ++ vs) ++ (token_at (mark_token m) t ∷ []))
marked_means (waits {w = open_at o} {us = us} {vs = own} l s k) m t vs e q p h =
    moved q _ _ (sym (append_assoc us own (vs ++ (token_at (mark_token m) t ∷ []))) ∙ sym (append_assoc (us ++ own) vs (token_at (mark_token m) t ∷ []))) (took_means (turned m t o e) q l k (λ x y. turned_means s m t vs e x p y) h)
marked_means _ m t vs e q p h = none_is q h

-- after a comma
separated_means : {ws : List Waiting} {us : List Placed} → Line_so_far ws us → (t : Span) (vs : List Placed) (e : Tree) (q : State) → IsExpression 2 vs e → separated ws e ≡ Some q → Means q.0 q.1 ((us ++ vs) ++ (sign_at sign.Comma t ∷ []))
separated_means (waits l (list_stands s) k) t vs e q p h = means_at q (simp append_assoc (means_before (waits l (lists_stand s t (grammar.one_element p)) k))) h
separated_means (waits l (lists_stand s c r) k) t vs e q p h = means_at q (simp append_assoc (simp append_assoc at (means_before (waits l (lists_stand s t (grammar.more_elements c r p)) k)))) h
separated_means {us = us} l t vs e q p h = moved q _ _ (sym (append_assoc us vs (sign_at sign.Comma t ∷ []))) (opened_means (comma_behind e) q l (comma_stands t p) h)

called_means : {ws : List Waiting} {us vs : List Placed} (e : Tree) (s : Span) (q : State) → Line_so_far ws us → IsName vs e → called ws e ≡ Some q → Means q.0 q.1 ((us ++ vs) ++ (sign_at sign.OpenParenthesis s ∷ []))
called_means {ws = ws} {us = us} {vs = vs} e s q l n h =
    let k : opened (open_at (call n.name n.at)) ws ≡ Some q = sym (ap (called ws) n.tree_is) ∙ h in
    moved q _ _ (sym (append_assoc us (name_at n.name n.at ∷ []) (sign_at sign.OpenParenthesis s ∷ [])) ∙ ap (λ (x : List Placed). (us ++ x) ++ (sign_at sign.OpenParenthesis s ∷ [])) (sym n.tokens_are)) (opened_means (open_at (call n.name n.at)) q l (call_stands n.name n.at s) k)

fresh_means : {ws : List Waiting} {us vs : List Placed} (b : Bool) (e : Tree) (s : Span) (q : State) → Line_so_far ws us → (b ≡ true → IsName vs e) → cond b (called ws e) None ≡ Some q → Means q.0 q.1 ((us ++ vs) ++ (sign_at sign.OpenParenthesis s ∷ []))
fresh_means true e s q l n h = called_means e s q l (n refl) h
fresh_means false e s q l n h = cc

-- the token that does this after an expression
abbrev follow_token : Follow → Option Lexeme
follow_token follow.Call = Some (symbol sign.OpenParenthesis)
follow_token follow.Index = Some (symbol sign.OpenBracket)
follow_token follow.Comma = Some (symbol sign.Comma)
follow_token (follow.Operator o) = Some (operator_token o)
follow_token (follow.Mark m) = Some (mark_token m)
follow_token follow.Nothing = None

data IsKnown (x : Lexeme) : Type 0 where
  known : follow_token (follow_of x) ≡ Some x → IsKnown x
  unknown : follow_of x ≡ follow.Nothing → IsKnown x

is_known : (x : Lexeme) → IsKnown x
is_known (symbol sign.OpenParenthesis) = known refl
is_known (symbol sign.OpenBracket) = known refl
is_known (symbol sign.Comma) = known refl
is_known (symbol sign.CloseParenthesis) = known refl
is_known (symbol sign.CloseBracket) = known refl
is_known (symbol sign.CloseBrace) = known refl
is_known (symbol sign.Colon) = known refl
is_known (symbol sign.Semicolon) = known refl
is_known (symbol sign.Bar) = known refl
is_known (symbol sign.Equal) = known refl
is_known (symbol sign.DoubleEqual) = known refl
is_known (symbol sign.NotEqual) = known refl
is_known (symbol sign.Less) = known refl
is_known (symbol sign.Greater) = known refl
is_known (symbol sign.LessOrEqual) = known refl
is_known (symbol sign.GreaterOrEqual) = known refl
is_known (symbol sign.Plus) = known refl
is_known (symbol sign.DoublePlus) = known refl
is_known (symbol sign.Minus) = known refl
is_known (symbol sign.LeftArrow) = known refl
is_known (symbol sign.RightArrow) = known refl
is_known (symbol sign.Star) = known refl
is_known (symbol sign.Slash) = known refl
is_known (reserved word.Then) = known refl
is_known (reserved word.Else) = known refl
is_known (reserved word.In) = known refl
is_known (reserved word.Or) = known refl
is_known (reserved word.Nor) = known refl
is_known (reserved word.Xor) = known refl
is_known (reserved word.And) = known refl
is_known (reserved word.Nand) = known refl
is_known _ = unknown refl

-- the tokens so far, put together at a level
module _ (ws : List Waiting) (us vs : List Placed) (e : Tree) (l : Line_so_far ws us) (p : Tight ws vs e) where
  split_at : (n : ℕ) → 1 ≤ n → n ≤ 9 → Splits n (us ++ vs) (folded n ws e).0 (folded n ws e).1
  split_at n i k = folded_splits n (us ++ vs) ws e i (splits_behind n k l p)

  mark_low : (m : Mark) → (1 ≤ mark_level m) × (mark_level m ≤ 9)
  mark_low mark.CloseParenthesis = (omega arith, omega arith)
  mark_low _ = (omega arith, omega arith)

  -- after a phrase that may have an index after it
  pick_level : (w : Waiting) (q : State) → opened w ws ≡ Some q → wanted ws ≤ begun_by w
  pick_level w q h = let e = cond_some (leb (wanted ws) (begun_by w)) (w ∷ ws, before) q h in leb-true _ _ e.0

  followed_means : (f : Follow) (x : Lexeme) (b : Bool) (s : Span) (q : State) → follow_token f ≡ Some x → (b ≡ true → IsName vs e) → followed f ws b e s ≡ Some q → Means q.0 q.1 ((us ++ vs) ++ (token_at x s ∷ []))
  followed_means follow.Call x b s q k f h =
      let y : symbol sign.OpenParenthesis ≡ x = cc in
      subst (λ (z : Lexeme). Means q.0 q.1 ((us ++ vs) ++ (token_at z s ∷ []))) y (fresh_means b e s q l f h)
  followed_means follow.Index x b s q k f h =
      let y : symbol sign.OpenBracket ≡ x = cc in
      let fits = pick_level (open_at (index_of e)) q h in
      subst (λ (z : Lexeme). Means q.0 q.1 ((us ++ vs) ++ (token_at z s ∷ []))) y (moved q _ _ (sym (append_assoc us vs (sign_at sign.OpenBracket s ∷ []))) (opened_means (open_at (index_of e)) q l (index_stands s (loosened p.phrase 9 p.tight)) h))
  followed_means follow.Comma x b s q k f h =
      let y : symbol sign.Comma ≡ x = cc in
      let c = split_at 2 (omega arith) (omega arith) in
      subst (λ (z : Lexeme). Means q.0 q.1 ((us ++ vs) ++ (token_at z s ∷ []))) y (moved q _ _ (ap (λ (z : List Placed). z ++ (sign_at sign.Comma s ∷ [])) (sym c.whole)) (separated_means c.so_far s c.rest _ q (loosened c.phrase 2 c.tight) h))
  followed_means (follow.Operator o) x b s q k f h =
      let y : operator_token o ≡ x = cc in
      let c = split_at (level_of o) (omega (arith, level_low o)) (omega (arith, level_high o)) in
      subst (λ (z : Lexeme). Means q.0 q.1 ((us ++ vs) ++ (token_at z s ∷ []))) y
      (moved q _ _ (sym (append_assoc c.first c.rest (token_at (operator_token o) s ∷ [])) ∙ ap (λ (z : List Placed). z ++ (token_at (operator_token o) s ∷ [])) (sym c.whole)) (opened_means (sign_behind o (folded (level_of o) ws e).1) q c.so_far (sign_stands o s (loosened c.phrase (level_of o) c.tight)) h))
  followed_means (follow.Mark m) x b s q k f h =
      let y : mark_token m ≡ x = cc in
      let i = mark_low m in
      let c = split_at (mark_level m) i.0 i.1 in
      subst (λ (z : Lexeme). Means q.0 q.1 ((us ++ vs) ++ (token_at z s ∷ []))) y (moved q _ _ (ap (λ (z : List Placed). z ++ (token_at (mark_token m) s ∷ [])) (sym c.whole)) (marked_means c.so_far m s c.rest _ q (loosened c.phrase (mark_level m) c.tight) h))
  followed_means follow.Nothing x b s q k f h = cc

  gone_on_means : (x : Lexeme) (b : Bool) (s : Span) (q : State) → IsKnown x → (b ≡ true → IsName vs e) → followed (follow_of x) ws b e s ≡ Some q → Means q.0 q.1 ((us ++ vs) ++ (token_at x s ∷ []))
  gone_on_means x b s q (known k) f h = followed_means (follow_of x) x b s q k f h
  gone_on_means x b s q (unknown k) f h = let j : followed follow.Nothing ws b e s ≡ Some q = ap (λ (y : Follow). followed y ws b e s) (sym k) ∙ h in cc

-- a type
type_done_means : {ws : List Waiting} {us vs : List Placed} {a : TypeTree} → Line_so_far ws us → (q : State) → IsType vs a → type_done ws a ≡ q → Means q.0 q.1 (us ++ vs)
type_done_means (waits l (empty_stands s t) k) q i h = means_from q (simp append_assoc (means_behind false l (atom (grammar.empties s t i)) (λ j. cc))) h
type_done_means l q i h = means_from q (means_typed l i) h

typed_with_means : (ws : List Waiting) (s : Span) (x : Lexeme) (q : State) (ts : List Placed) → Line_so_far ws ts → typed_with ws s x ≡ Some q → Means q.0 q.1 (ts ++ (token_at x s ∷ []))
typed_with_means ws s (reserved word.Int) q ts l h = type_done_means l q (grammar.type_int s) cc
typed_with_means ws s (reserved word.Bool) q ts l h = type_done_means l q (grammar.type_bool s) cc
typed_with_means ws s (reserved word.Char) q ts l h = type_done_means l q (grammar.type_char s) cc
typed_with_means ws s (tokens.name x) q ts l h = type_done_means l q (grammar.type_name x s) cc
typed_with_means ws s (symbol sign.OpenBracket) q ts l h = means_at q (means_typing (waits l (type_list_stands s) (wanted_small ws))) h
typed_with_means ws s (symbol sign.OpenParenthesis) q ts l h = means_at q (means_typing (waits l (type_round_stands s) (wanted_small ws))) h
typed_with_means ws s _ q ts l h = none_is q h

type_separated_means : {ws : List Waiting} {us vs : List Placed} {a : TypeTree} → Line_so_far ws us → (s : Span) (q : State) → IsType vs a → type_separated ws a ≡ Some q → Means q.0 q.1 ((us ++ vs) ++ (sign_at sign.Comma s ∷ []))
type_separated_means (waits {ws = ws} l (type_round_stands r) k) s q i h = means_at q (simp append_assoc (simp append_assoc at (means_typing (waits (waits l (type_round_stands r) k) (type_comma_stands s i) (omega arith))))) h
type_separated_means (waits {ws = ws} l (type_comma_stands r j) k) s q i h = means_at q (simp append_assoc (simp append_assoc at (means_typing (waits (waits l (type_comma_stands r j) k) (type_comma_stands s i) (omega arith))))) h
type_separated_means _ s q i h = none_is q h

type_bracketed_means : {ws : List Waiting} {us vs : List Placed} {a : TypeTree} → Line_so_far ws us → (s : Span) (q : State) → IsType vs a → type_bracketed ws s a ≡ Some q → Means q.0 q.1 ((us ++ vs) ++ (sign_at sign.CloseBracket s ∷ []))
type_bracketed_means (waits {ws = ws} l (type_list_stands r) k) s q i h = simp append_assoc (type_done_means l q (grammar.type_sequence r s i) cc)
type_bracketed_means _ s q i h = none_is q h

type_closed_means : {ws : List Waiting} {us : List Placed} → Line_so_far ws us → (vs : List Placed) (a : TypeTree) (s : Span) (q : State) → AreTypes vs a → type_closed ws s a ≡ Some q → Means q.0 q.1 ((us ++ vs) ++ (sign_at sign.CloseParenthesis s ∷ []))
type_closed_means (waits l (type_comma_stands {us = own} {a = b} r j) k) vs a s q i h = simp append_assoc (simp append_assoc at (type_closed_means l (own ++ (sign_at sign.Comma r ∷ vs)) (type_pair b a) s q (grammar.type_pairs r j i) h))
type_closed_means (waits l (type_round_stands r) k) vs a s q i h = simp append_assoc (type_done_means l q (grammar.type_rounds r s i) cc)
type_closed_means _ vs a s q i h = none_is q h

typed_on_means : (ws : List Waiting) (us vs : List Placed) (a : TypeTree) (s : Span) (x : Lexeme) (q : State) → Line_so_far ws us → IsType vs a → typed_on ws a s x ≡ Some q → Means q.0 q.1 ((us ++ vs) ++ (token_at x s ∷ []))
typed_on_means ws us vs a s (symbol sign.Comma) q l i h = type_separated_means l s q i h
typed_on_means ws us vs a s (symbol sign.CloseBracket) q l i h = type_bracketed_means l s q i h
typed_on_means ws us vs a s (symbol sign.CloseParenthesis) q l i h = type_closed_means l vs a s q (grammar.one_type i) h
typed_on_means ws us vs a s _ q l i h = none_is q h

pub step_means : (ws : List Waiting) (m : Mode) (t : Placed) (q : State) (ts : List Placed) → Means ws m ts → step ws m t ≡ Some q → Means q.0 q.1 (ts ++ (t ∷ []))
step_means ws m t q ts (means_before l) h = begun_means ws t.span t.lexeme q ts l h
step_means ws m t q ts (means_behind {us = us} {vs = vs} {e = e} b l p f) h = gone_on_means ws us vs e l p t.lexeme b t.span q (is_known t.lexeme) f h
step_means ws m t q ts (means_typing l) h = typed_with_means ws t.span t.lexeme q ts l h
step_means ws m t q ts (means_typed {us = us} {vs = vs} {a = a} l i) h = typed_on_means ws us vs a t.span t.lexeme q l i h

run_next : (ts us : List Placed) (t : Placed) (ws : List Waiting) (m : Mode) (p : State) (o : Option State) → step ws m t ≡ o → Means ws m ts → ((q : State) → Means q.0 q.1 (ts ++ (t ∷ [])) → run q us ≡ Some p → Means p.0 p.1 ((ts ++ (t ∷ [])) ++ us)) → option_and_then (λ q. run q us) o ≡ Some p → Means p.0 p.1 (ts ++ (t ∷ us))
run_next ts us t ws m p None k n f h = cc
run_next ts us t ws m p (Some q) k n f h = moved p _ _ (append_assoc ts (t ∷ []) us) (f q (step_means ws m t q ts n k) h)

pub run_means : (ts us : List Placed) (q p : State) → Means q.0 q.1 ts → run q us ≡ Some p → Means p.0 p.1 (ts ++ us)
run_means ts [] q p m h = let e : q ≡ p = cc in subst (λ (x : State). Means x.0 x.1 (ts ++ [])) e (moved q ts (ts ++ []) (sym (append-nil ts)) m)
run_means ts (t ∷ us) q p m h = run_next ts us t q.0 q.1 p (step q.0 q.1 t) refl m (λ x n k. run_means (ts ++ (t ∷ [])) us x p n k) h

alone_parses : {ws : List Waiting} {us : List Placed} → Line_so_far ws us → (vs : List Placed) (e x : Tree) → IsExpression 2 vs e → alone ws e ≡ Some x → IsExpression 2 (us ++ vs) x
alone_parses nothing_waits vs e x p h = let k : e ≡ x = cc in subst (λ (y : Tree). IsExpression 2 vs y) k p
alone_parses (waits l s k) vs e x p h = cc

finished_parses : (ws : List Waiting) (m : Mode) (ts : List Placed) (x : Tree) → Means ws m ts → tree_left_in ws m ≡ Some x → IsExpression 2 ts x
finished_parses ws m ts x (means_behind {us = us} {vs = vs} {e = e} b l p f) h =
    let c = split_at ws us vs e l p 2 (omega arith) (omega arith) in
    subst (λ (y : List Placed). IsExpression 2 y x) (sym c.whole) (alone_parses c.so_far c.rest _ x (loosened c.phrase 2 c.tight) h)
finished_parses ws m ts x _ h = cc

-- what is read is in the grammar
pub is_read : (ts : List Placed) (x : Tree) → expression ts ≡ Some x → IsExpression 2 ts x
is_read ts x h = option_and_then_some tree_left (run ([], before) ts) x h (λ q k e. finished_parses q.0 q.1 ts x (run_means [] ts ([], before) q (means_before nothing_waits) k) e)

pub is_pattern_read : (ts : List Placed) (p : PatternTree) → option_and_then pattern_in (expression ts) ≡ Some p → IsPattern ts p
is_pattern_read ts p h = option_and_then_some pattern_in (expression ts) p h (λ e k i. pattern_from (is_read ts e k) p i)

type_alone_is : {ws : List Waiting} {us vs : List Placed} {a b : TypeTree} → Line_so_far ws us → IsType vs b → type_alone ws b ≡ Some a → IsType (us ++ vs) a
type_alone_is {vs = vs} {a = a} {b = b} nothing_waits i h = let e : b ≡ a = cc in subst (λ (y : TypeTree). IsType vs y) e i
type_alone_is (waits l s k) i h = cc

type_finished_is : (ws : List Waiting) (m : Mode) (ts : List Placed) (a : TypeTree) → Means ws m ts → type_left_in ws m ≡ Some a → IsType ts a
type_finished_is ws m ts a (means_typed l i) h = type_alone_is l i h
type_finished_is ws m ts a _ h = cc

pub is_type_read : (ts : List Placed) (a : TypeTree) → written_type ts ≡ Some a → IsType ts a
is_type_read ts a h = option_and_then_some type_left (run ([], typing) ts) a h (λ q k e. type_finished_is q.0 q.1 ts a (run_means [] ts ([], typing) q (means_typing nothing_waits) k) e)
