-- The grammar: which tokens are which tree, a case for each production.
-- Levels of an expression, from the loosest: 1 expressions with commas between, 2 an expression, 3 to 7 the operators,
-- 8 an operator before, 9 an index after, 10 an atom. A phrase of a tighter level is one of each looser level.
-- The form of expressions is the NESL report's; the levels of the operators and the forms of lines are this profile's.
use Rattle.std.specs.Prelude.{ℕ, suc, List, [], ◌∷◌, ◌++◌, Bool}
use Rattle.nesl_lex.specs.Tokens.{Placed, Lexeme, reserved, symbol}
use Rattle.nesl_lex.specs.Tokens as tokens
use Rattle.nesl_lex.specs.declared.token.Span.{Span}
use Rattle.nesl_lex.specs.declared.token.Word.{Word}
use Rattle.nesl_lex.specs.declared.token.Word.TheVariants as word
use Rattle.nesl_lex.specs.declared.token.Sign.{Sign}
use Rattle.nesl_lex.specs.declared.token.Sign.TheVariants as sign
use Rattle.nesl_syntax_tree.specs.declared.tree.Operator.{Operator}
use Rattle.nesl_syntax_tree.specs.declared.tree.Operator.TheVariants as operator
use Rattle.nesl_syntax_tree.specs.declared.tree.Prefix.{Prefix}
use Rattle.nesl_syntax_tree.specs.declared.tree.Prefix.TheVariants as prefix
use Rattle.nesl_syntax_tree.specs.Trees.{Tree, Shape, Trees, Binders, PatternTree, TypeTree, node, pattern, written}
use Rattle.nesl_syntax_tree.specs.Trees.{span_of}
use Rattle.nesl_syntax_tree.specs.Trees.{pattern_span, type_span, tree_on, pattern_on, type_on, with_last}
use Rattle.nesl_syntax_tree.specs.Trees.{with_last_binder}
use Rattle.nesl_syntax_tree.specs.Trees.{none, no_binders}
use Rattle.nesl_syntax_tree.specs.Trees as trees

-- or, nor and xor are the loosest
abbrev pub level_of : Operator → ℕ
level_of operator.Or = 3
level_of operator.Nor = 3
level_of operator.Xor = 3
level_of operator.And = 4
level_of operator.Nand = 4
level_of operator.Equal = 5
level_of operator.NotEqual = 5
level_of operator.Less = 5
level_of operator.Greater = 5
level_of operator.LessOrEqual = 5
level_of operator.GreaterOrEqual = 5
level_of operator.Plus = 6
level_of operator.Minus = 6
level_of operator.Append = 6
level_of operator.Write = 6
level_of operator.Times = 7
level_of operator.Divide = 7
level_of operator.Read = 7

abbrev pub operator_token : Operator → Lexeme
operator_token operator.Or = reserved word.Or
operator_token operator.Nor = reserved word.Nor
operator_token operator.Xor = reserved word.Xor
operator_token operator.And = reserved word.And
operator_token operator.Nand = reserved word.Nand
operator_token operator.Equal = symbol sign.DoubleEqual
operator_token operator.NotEqual = symbol sign.NotEqual
operator_token operator.Less = symbol sign.Less
operator_token operator.Greater = symbol sign.Greater
operator_token operator.LessOrEqual = symbol sign.LessOrEqual
operator_token operator.GreaterOrEqual = symbol sign.GreaterOrEqual
operator_token operator.Plus = symbol sign.Plus
operator_token operator.Minus = symbol sign.Minus
operator_token operator.Append = symbol sign.DoublePlus
operator_token operator.Write = symbol sign.LeftArrow
operator_token operator.Times = symbol sign.Star
operator_token operator.Divide = symbol sign.Slash
operator_token operator.Read = symbol sign.RightArrow

abbrev pub prefix_sign : Prefix → Sign
prefix_sign prefix.Length = sign.Hash
prefix_sign prefix.Negate = sign.Minus

-- from the first byte of one to the last of the other
abbrev pub spanning : Span → Span → Span
spanning s t = record { start = s.start; end = t.end }

abbrev pub token_at : Lexeme → Span → Placed
token_at x s = record { lexeme = x; span = s }

abbrev pub sign_at : Sign → Span → Placed
sign_at g s = token_at (symbol g) s

abbrev pub word_at : Word → Span → Placed
word_at w s = token_at (reserved w) s

abbrev pub name_at : List ℕ → Span → Placed
name_at x s = token_at (tokens.name x) s

-- these tokens are this type; parentheses widen its span
mutual
  pub data IsType : List Placed → TypeTree → Type 0 where
    type_int : (s : Span) → IsType (word_at word.Int s ∷ []) (written s trees.int)
    type_bool : (s : Span) → IsType (word_at word.Bool s ∷ []) (written s trees.bool)
    type_char : (s : Span) → IsType (word_at word.Char s ∷ []) (written s trees.char)
    type_name : (x : List ℕ) (s : Span) → IsType (name_at x s ∷ []) (written s (trees.named x s))
    type_sequence : {us : List Placed} {a : TypeTree} (s t : Span)
        → IsType us a
        → IsType (sign_at sign.OpenBracket s ∷ (us ++ (sign_at sign.CloseBracket t ∷ [])))
        (written (spanning s t) (trees.sequence_type a))
    type_rounds : {us : List Placed} {a : TypeTree} (s t : Span)
        → AreTypes us a
        → IsType (sign_at sign.OpenParenthesis s ∷ (us ++ (sign_at sign.CloseParenthesis t ∷ [])))
        (type_on (spanning s t) a)

  -- types with commas between
  pub data AreTypes : List Placed → TypeTree → Type 0 where
    one_type : {us : List Placed} {a : TypeTree} → IsType us a → AreTypes us a
    type_pairs : {us vs : List Placed} {a b : TypeTree} (s : Span)
        → IsType us a → AreTypes vs b
        → AreTypes (us ++ (sign_at sign.Comma s ∷ vs))
        (written (spanning (type_span a) (type_span b)) (trees.pair_type a b))

-- these tokens are this pattern
mutual
  pub data IsPattern : List Placed → PatternTree → Type 0 where
    pattern_name : (x : List ℕ) (s : Span) → IsPattern (name_at x s ∷ []) (pattern s (trees.name_pattern x))
    pattern_record : {us : List Placed} {p : PatternTree} (x : List ℕ) (s t u : Span)
        → ArePatterns us p
        → IsPattern (name_at x s ∷ (sign_at sign.OpenParenthesis t ∷ (us ++ (sign_at sign.CloseParenthesis u ∷ []))))
        (pattern (spanning s u) (trees.record_pattern x p))
    pattern_rounds : {us : List Placed} {p : PatternTree} (s t : Span)
        → ArePatterns us p
        → IsPattern (sign_at sign.OpenParenthesis s ∷ (us ++ (sign_at sign.CloseParenthesis t ∷ [])))
        (pattern_on (spanning s t) p)

  -- patterns with commas between
  pub data ArePatterns : List Placed → PatternTree → Type 0 where
    one_pattern : {us : List Placed} {p : PatternTree} → IsPattern us p → ArePatterns us p
    pattern_pairs : {us vs : List Placed} {p q : PatternTree} (s : Span)
        → IsPattern us p → ArePatterns vs q
        → ArePatterns (us ++ (sign_at sign.Comma s ∷ vs))
        (pattern (spanning (pattern_span p) (pattern_span q)) (trees.pair_pattern p q))

-- a node for an apply-to-each without a body, whose body has the first pattern's span
abbrev pub unwritten_body : Binders → Tree
unwritten_body no_binders = node (record { start = 0; end = 0 }) trees.element
unwritten_body (trees.binder p e bs) = node (pattern_span p) trees.element

-- at this level these tokens are this tree
mutual
  pub data IsExpression : ℕ → List Placed → Tree → Type 0 where
    looser : {n : ℕ} {ts : List Placed} {e : Tree} → IsExpression (suc n) ts e → IsExpression n ts e
    pairs : {us vs : List Placed} {a b : Tree} (s : Span)
        → IsExpression 2 us a → IsExpression 1 vs b
        → IsExpression 1 (us ++ (sign_at sign.Comma s ∷ vs)) (node (spanning (span_of a) (span_of b)) (trees.pair a b))
    lets : {us vs : List Placed} {bs : Binders} {e : Tree} (i t : Span)
        → AreBinders (symbol sign.Equal) us bs → IsExpression 2 vs e
        → IsExpression 2 (word_at word.Let i ∷ (us ++ (word_at word.In t ∷ vs)))
        (node (spanning i (span_of e)) (trees.let_in bs e))
    -- a ; may come before in
    closed_lets : {us vs : List Placed} {bs : Binders} {e : Tree} (i s t : Span)
        → AreBinders (symbol sign.Equal) us bs → IsExpression 2 vs e
        → IsExpression 2 (word_at word.Let i ∷ (us ++ (sign_at sign.Semicolon s ∷ (word_at word.In t ∷ vs))))
        (node (spanning i (span_of e)) (trees.let_in bs e))
    chooses : {us vs ws : List Placed} {a b c : Tree} (i t l : Span)
        → IsExpression 2 us a → IsExpression 2 vs b → IsExpression 2 ws c
        → IsExpression 2 (word_at word.If i ∷ (us ++ (word_at word.Then t ∷ (vs ++ (word_at word.Else l ∷ ws)))))
        (node (spanning i (span_of c)) (trees.choice a b c))
    joins : {us vs : List Placed} {a b : Tree} (o : Operator) (s : Span)
        → IsExpression (level_of o) us a → IsExpression (suc (level_of o)) vs b
        → IsExpression (level_of o) (us ++ (token_at (operator_token o) s ∷ vs))
        (node (spanning (span_of a) (span_of b)) (trees.infix_of o a b))
    prefixes : {us : List Placed} {a : Tree} (o : Prefix) (s : Span)
        → IsExpression 8 us a
        → IsExpression 8 (sign_at (prefix_sign o) s ∷ us) (node (spanning s (span_of a)) (trees.prefix_of o a))
    picks : {us vs : List Placed} {a b : Tree} (s t : Span)
        → IsExpression 9 us a → IsExpression 2 vs b
        → IsExpression 9 (us ++ (sign_at sign.OpenBracket s ∷ (vs ++ (sign_at sign.CloseBracket t ∷ []))))
        (node (spanning (span_of a) t) (trees.index a b))
    numbers : (n : ℕ) (s : Span) → IsExpression 10 (token_at (tokens.number n) s ∷ []) (node s (trees.number n))
    truths : (b : Bool) (s : Span) → IsExpression 10 (token_at (tokens.truth b) s ∷ []) (node s (trees.truth b))
    characters : (c : ℕ) (s : Span)
        → IsExpression 10 (token_at (tokens.character c) s ∷ []) (node s (trees.character c))
    texts : (bytes : List ℕ) (s : Span)
        → IsExpression 10 (token_at (tokens.quoted bytes) s ∷ []) (node s (trees.text bytes))
    names : (x : List ℕ) (s : Span) → IsExpression 10 (name_at x s ∷ []) (node s (trees.variable x))
    calls : {us : List Placed} {a : Tree} (x : List ℕ) (s t u : Span)
        → IsExpression 1 us a
        → IsExpression 10
        (name_at x s ∷ (sign_at sign.OpenParenthesis t ∷ (us ++ (sign_at sign.CloseParenthesis u ∷ []))))
        (node (spanning s u) (trees.call x a))
    -- parentheses round an expression widen its span
    rounds : {us : List Placed} {a : Tree} (s t : Span)
        → IsExpression 1 us a
        → IsExpression 10 (sign_at sign.OpenParenthesis s ∷ (us ++ (sign_at sign.CloseParenthesis t ∷ [])))
        (tree_on (spanning s t) a)
    empties : {us : List Placed} {a : TypeTree} (s t : Span)
        → IsType us a
        → IsExpression 10 (sign_at sign.OpenBracket s ∷ (sign_at sign.CloseBracket t ∷ us))
        (node (spanning s (type_span a)) (trees.empty a))
    sequences : {us : List Placed} {xs : Trees} (s t : Span)
        → AreElements us xs
        → IsExpression 10 (sign_at sign.OpenBracket s ∷ (us ++ (sign_at sign.CloseBracket t ∷ [])))
        (node (spanning s t) (trees.sequence xs))
    ranges : {us vs : List Placed} {a b : Tree} (s c t : Span)
        → IsExpression 2 us a → IsExpression 2 vs b
        → IsExpression 10
        (sign_at sign.OpenBracket s ∷ (us ++ (sign_at sign.Colon c ∷ (vs ++ (sign_at sign.CloseBracket t ∷ [])))))
        (node (spanning s t) (trees.range a b))
    strides : {us vs ws : List Placed} {a b e : Tree} (s c d t : Span)
        → IsExpression 2 us a → IsExpression 2 vs b → IsExpression 2 ws e
        → IsExpression 10
        (sign_at sign.OpenBracket s ∷ (us ++ (sign_at sign.Colon c ∷ (vs
        ++ (sign_at sign.Colon d ∷ (ws ++ (sign_at sign.CloseBracket t ∷ [])))))))
        (node (spanning s t) (trees.strided_range a b e))
    eaches : {us vs : List Placed} {e : Tree} {bs : Binders} (s t : Span)
        → IsBody us bs e → AreBinders (reserved word.In) vs bs
        → IsExpression 10 (sign_at sign.OpenBrace s ∷ (us ++ (vs ++ (sign_at sign.CloseBrace t ∷ []))))
        (node (spanning s t) (trees.each e bs))
    filters : {us vs ws : List Placed} {e f : Tree} {bs : Binders} (s b t : Span)
        → IsBody us bs e → AreBinders (reserved word.In) vs bs → IsExpression 2 ws f
        → IsExpression 10
        (sign_at sign.OpenBrace s ∷ (us ++ (vs ++ (sign_at sign.Bar b ∷ (ws ++ (sign_at sign.CloseBrace t ∷ []))))))
        (node (spanning s t) (trees.filtered_each e bs f))

  -- expressions with commas between, as a list
  pub data AreElements : List Placed → Trees → Type 0 where
    one_element : {us : List Placed} {a : Tree} → IsExpression 2 us a → AreElements us (trees.more a none)
    more_elements : {us vs : List Placed} {xs : Trees} {a : Tree} (s : Span)
        → AreElements us xs → IsExpression 2 vs a
        → AreElements (us ++ (sign_at sign.Comma s ∷ vs)) (with_last xs a)

  -- patterns, each with this token and an expression after it, and ; between
  pub data AreBinders : Lexeme → List Placed → Binders → Type 0 where
    one_binder : {x : Lexeme} {us vs : List Placed} {p : PatternTree} {e : Tree} (s : Span)
        → IsPattern us p → IsExpression 2 vs e
        → AreBinders x (us ++ (token_at x s ∷ vs)) (trees.binder p e no_binders)
    more_binders : {x : Lexeme} {ts us vs : List Placed} {bs : Binders} {p : PatternTree} {e : Tree} (c s : Span)
        → AreBinders x ts bs → IsPattern us p → IsExpression 2 vs e
        → AreBinders x (ts ++ (sign_at sign.Semicolon c ∷ (us ++ (token_at x s ∷ vs)))) (with_last_binder bs p e)

  -- the body of an apply-to-each over these binders: an expression and a :, or nothing
  pub data IsBody : List Placed → Binders → Tree → Type 0 where
    body : {us : List Placed} {bs : Binders} {e : Tree} (c : Span)
        → IsExpression 2 us e
        → IsBody (us ++ (sign_at sign.Colon c ∷ [])) bs e
    bodiless : {bs : Binders} → IsBody [] bs (unwritten_body bs)
