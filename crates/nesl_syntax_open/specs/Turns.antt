-- What a token leaves after the value of a binder.
use Rattle.std.specs.Prelude.{Option, Some, None}
use Rattle.nesl_lex.specs.declared.token.Span.{Span}
use Rattle.nesl_syntax_open.specs.declared.mark.Mark.{Mark}
use Rattle.nesl_syntax_open.specs.declared.mark.Mark.TheVariants as mark
use Rattle.nesl_syntax_tree.specs.Trees.{Tree, Binders, node}
use Rattle.nesl_syntax_tree.specs.Trees as trees
use Rattle.nesl_syntax_tree.specs.Grammar.{spanning}
use Rattle.nesl_syntax_open.specs.Machine as machine
use Rattle.nesl_syntax_tree.specs.Made.{body_or}
use Rattle.nesl_syntax_open.specs.Machine.{becomes, ends, open_at, binders, body_of, filter}
use Rattle.nesl_syntax_open.specs.Machine.{let_group, each_group}

-- a let with these binders, and an apply-to-each
abbrev pub let_turned : Mark → Span → Binders → Option machine.Turn
let_turned mark.Semicolon s bs = Some (becomes (open_at (binders (let_group s) bs)))
let_turned mark.In s bs = Some (becomes (body_of s bs))
let_turned _ s bs = None

abbrev pub each_turned : Mark → Span → Span → Option Tree → Binders → Option machine.Turn
each_turned mark.Semicolon t s b bs = Some (becomes (open_at (binders (each_group s b) bs)))
each_turned mark.Bar t s b bs = Some (becomes (open_at (filter s b bs)))
each_turned mark.CloseBrace t s b bs = Some (ends (node (spanning s t) (trees.each (body_or b bs) bs)))
each_turned _ t s b bs = None
