-- A function's line that lacks a part.
use Rattle.std.proofs.Common.{◌≡◌, ℕ, List, Option, Some, None, Ok, Err, ap}
use Rattle.nesl_lex.specs.Tokens.{Placed}
use Rattle.nesl_syntax_open.specs.declared.fault.ParseFault.{ParseFault}
use Rattle.nesl_syntax_open.specs.declared.fault.ParseFault.TheVariants.{Syntax, Nested, Memory}
use Rattle.nesl_syntax_open.specs.Machine.{expression}
use Rattle.nesl_syntax_tree.specs.Trees.{Tree}
use Rattle.nesl_syntax.specs.declared.function.Head.{Head}
use Rattle.nesl_syntax.specs.Reading.{Halves, Heads, with_both, head_in, function_of, function_with}
use Rattle.nesl_syntax.specs.Given.{Given, SeesHead, GivesLine}
use Rattle.nesl_syntax.specs.Steps.{GivesTree}

no_head : (e : ParseFault) (x : List ℕ) (o : Option Heads) (p : Option Tree) → Given SeesHead (Err e) o → GivesLine (Err e) (with_both (function_of x) o p)
no_head Syntax x o p h = ap (λ (y : Option Heads). with_both (function_of x) y p) h
no_head Nested x o p h = absurd h
no_head Memory x o p h = tt

-- no head
pub head_fails : (e : ParseFault) (x : List ℕ) (c : Option Halves) (us vs : List Placed) → c ≡ Some (us, vs) → Given SeesHead (Err e) (head_in us) → GivesLine (Err e) (function_with x c)
head_fails e x c us vs k h = rw k (no_head e x (head_in us) (expression vs) h)

no_body : (e : ParseFault) (x : List ℕ) (head : Head) (o : Option Heads) (p : Option Tree) → Given SeesHead (Ok head) o → GivesTree (Err e) p → GivesLine (Err e) (with_both (function_of x) o p)
no_body e x head None p g h = absurd g
no_body Syntax x head (Some a) p g h = ap (with_both (function_of x) (Some a)) h
no_body Nested x head (Some a) p g h = absurd h
no_body Memory x head (Some a) p g h = tt

-- a head, and no body
pub body_fails : (e : ParseFault) (x : List ℕ) (c : Option Halves) (us vs : List Placed) (head : Head) → c ≡ Some (us, vs) → Given SeesHead (Ok head) (head_in us) → GivesTree (Err e) (expression vs) → GivesLine (Err e) (function_with x c)
body_fails e x c us vs head k g h = rw k (no_body e x head (head_in us) (expression vs) g h)
