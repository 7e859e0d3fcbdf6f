-- What a token does after an expression.
use Rattle.nesl_lex.specs.Tokens.{Lexeme, reserved, symbol}
use Rattle.nesl_lex.specs.declared.token.Word.TheVariants as word
use Rattle.nesl_lex.specs.declared.token.Sign.TheVariants as sign
use Rattle.nesl_syntax_tree.specs.declared.tree.Operator.TheVariants as operator
use Rattle.nesl_syntax_open.specs.declared.mark.Mark.TheVariants as mark
use Rattle.nesl_syntax_open.specs.declared.mark.Follow.{Follow}
use Rattle.nesl_syntax_open.specs.declared.mark.Follow.TheVariants as follow

-- what a token does after an expression
abbrev pub follow_of : Lexeme → Follow
follow_of (symbol sign.OpenParenthesis) = follow.Call
follow_of (symbol sign.OpenBracket) = follow.Index
follow_of (symbol sign.Comma) = follow.Comma
follow_of (symbol sign.CloseParenthesis) = follow.Mark mark.CloseParenthesis
follow_of (symbol sign.CloseBracket) = follow.Mark mark.CloseBracket
follow_of (symbol sign.CloseBrace) = follow.Mark mark.CloseBrace
follow_of (symbol sign.Colon) = follow.Mark mark.Colon
follow_of (symbol sign.Semicolon) = follow.Mark mark.Semicolon
follow_of (symbol sign.Bar) = follow.Mark mark.Bar
follow_of (symbol sign.Equal) = follow.Mark mark.Equal
follow_of (symbol sign.DoubleEqual) = follow.Operator operator.Equal
follow_of (symbol sign.NotEqual) = follow.Operator operator.NotEqual
follow_of (symbol sign.Less) = follow.Operator operator.Less
follow_of (symbol sign.Greater) = follow.Operator operator.Greater
follow_of (symbol sign.LessOrEqual) = follow.Operator operator.LessOrEqual
follow_of (symbol sign.GreaterOrEqual) = follow.Operator operator.GreaterOrEqual
follow_of (symbol sign.Plus) = follow.Operator operator.Plus
follow_of (symbol sign.DoublePlus) = follow.Operator operator.Append
follow_of (symbol sign.Minus) = follow.Operator operator.Minus
follow_of (symbol sign.LeftArrow) = follow.Operator operator.Write
follow_of (symbol sign.RightArrow) = follow.Operator operator.Read
follow_of (symbol sign.Star) = follow.Operator operator.Times
follow_of (symbol sign.Slash) = follow.Operator operator.Divide
follow_of (reserved word.Then) = follow.Mark mark.Then
follow_of (reserved word.Else) = follow.Mark mark.Else
follow_of (reserved word.In) = follow.Mark mark.In
follow_of (reserved word.Or) = follow.Operator operator.Or
follow_of (reserved word.Nor) = follow.Operator operator.Nor
follow_of (reserved word.Xor) = follow.Operator operator.Xor
follow_of (reserved word.And) = follow.Operator operator.And
follow_of (reserved word.Nand) = follow.Operator operator.Nand
follow_of _ = follow.Nothing
