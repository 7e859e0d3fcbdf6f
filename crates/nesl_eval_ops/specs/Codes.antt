-- How the logic stores a block: as a list of its operations, each before the blocks that it holds.
use Rattle.std.specs.Prelude.{◌≡◌, ℕ, List, [], ◌∷◌, refl}
use Rattle.std.proofs.Common.{ap, ◌∙◌}
use Rattle.std.specs.Coded.{Coded, code_by, coded_list}
use Rattle.nesl_lex.specs.declared.token.Span.{Span}
use Rattle.nesl_eval_code.specs.Block.{Leaf, Maker, Callee, Block, finish, push, enter, make, choose, last, call}
use Rattle.nesl_eval_code.specs.Block.{bind, forget, each, filtered}

-- an operation without the blocks that it holds
pub data Word : Type 0 where
  a_finish : Word
  a_push : ℕ → Leaf → Word
  an_enter : ℕ → Span → Word
  a_make : ℕ → Span → Maker → ℕ → List Leaf → Word
  a_choose : Word
  a_last : Word
  a_call : ℕ → Span → Callee → Word
  a_bind : Word
  a_forget : ℕ → Word
  an_each : Span → ℕ → Word
  a_filtered : Span → ℕ → Word

abbrev pub words : Block → List Word → List Word
words finish ws = a_finish ∷ ws
words (push h l b) ws = a_push h l ∷ words b ws
words (enter h s b) ws = an_enter h s ∷ words b ws
words (make h s m k ls b) ws = a_make h s m k ls ∷ words b ws
words (choose c d b) ws = a_choose ∷ words c (words d (words b ws))
words (last c d) ws = a_last ∷ words c (words d ws)
words (call h s f b) ws = a_call h s f ∷ words b ws
words (bind b) ws = a_bind ∷ words b ws
words (forget m b) ws = a_forget m ∷ words b ws
words (each s k c b) ws = an_each s k ∷ words c (words b ws)
words (filtered s k c d b) ws = a_filtered s k ∷ words c (words d (words b ws))

-- the block made of the first one, two or three of these, before the others
abbrev pub of_one : (Block → Block) → List Block → List Block
of_one f (b ∷ bs) = f b ∷ bs
of_one f [] = []

abbrev pub of_two : (Block → Block → Block) → List Block → List Block
of_two f (c ∷ bs) = of_one (f c) bs
of_two f [] = []

abbrev pub of_three : (Block → Block → Block → Block) → List Block → List Block
of_three f (c ∷ bs) = of_two (f c) bs
of_three f [] = []

abbrev pub read : Word → List Block → List Block
read a_finish bs = finish ∷ bs
read (a_push h l) bs = of_one (push h l) bs
read (an_enter h s) bs = of_one (enter h s) bs
read (a_make h s m k ls) bs = of_one (make h s m k ls) bs
read a_choose bs = of_three choose bs
read a_last bs = of_two last bs
read (a_call h s f) bs = of_one (call h s f) bs
read a_bind bs = of_one bind bs
read (a_forget m) bs = of_one (forget m) bs
read (an_each s k) bs = of_two (each s k) bs
read (a_filtered s k) bs = of_three (filtered s k) bs

abbrev pub read_all : List Word → List Block
read_all [] = []
read_all (w ∷ ws) = read w (read_all ws)

abbrev pub first : List Block → Block
first [] = finish
first (b ∷ bs) = b

pub read-words : (b : Block) (ws : List Word) → read_all (words b ws) ≡ b ∷ read_all ws
read-words finish ws = refl
read-words (push h l b) ws = ap (of_one (push h l)) (read-words b ws)
read-words (enter h s b) ws = ap (of_one (enter h s)) (read-words b ws)
read-words (make h s m k ls b) ws = ap (of_one (make h s m k ls)) (read-words b ws)
read-words (choose c d b) ws =
    ap (of_three choose) (read-words c (words d (words b ws))
    ∙ ap (λ bs. c ∷ bs) (read-words d (words b ws) ∙ ap (λ bs. d ∷ bs) (read-words b ws)))
read-words (last c d) ws = ap (of_two last) (read-words c (words d ws) ∙ ap (λ bs. c ∷ bs) (read-words d ws))
read-words (call h s f b) ws = ap (of_one (call h s f)) (read-words b ws)
read-words (bind b) ws = ap (of_one bind) (read-words b ws)
read-words (forget m b) ws = ap (of_one (forget m)) (read-words b ws)
read-words (each s k c b) ws =
    ap (of_two (each s k)) (read-words c (words b ws) ∙ ap (λ bs. c ∷ bs) (read-words b ws))
read-words (filtered s k c d b) ws =
    ap (of_three (filtered s k)) (read-words c (words d (words b ws))
    ∙ ap (λ bs. c ∷ bs) (read-words d (words b ws) ∙ ap (λ bs. d ∷ bs) (read-words b ws)))

abbrev pub block_code : Coded Word → Coded Block
block_code w =
    code_by (List Word) (coded_list w) (λ b. words b []) (λ ws. first (read_all ws)) (λ b. ap first (read-words b []))
