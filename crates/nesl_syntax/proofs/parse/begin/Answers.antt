use Rattle.std.proofs.Common.{refl}
use Rattle.nesl_syntax.proofs.parse.begin.Goals as goal

pub returns-in-Number : goal.returns-in-Number
returns-in-Number c = λ ws s. rw c.in-Number.is (c.begin_leaf.ensures _ ws s refl refl)

pub returns-in-Truth : goal.returns-in-Truth
returns-in-Truth c = λ ws s. rw c.in-Truth.is (c.begin_leaf-in-Truth.ensures _ ws s refl refl)

pub returns-in-Character : goal.returns-in-Character
returns-in-Character c = λ ws s. rw c.in-Character.is (c.begin_leaf-in-Character.ensures _ ws s refl refl)

pub returns-in-Reserved : goal.returns-in-Reserved
returns-in-Reserved c = λ ws s. rw c.in-Reserved.is (c.begin_word.ensures ws s)

pub returns-in-Symbol : goal.returns-in-Symbol
returns-in-Symbol c = λ ws s. rw c.in-Symbol.is (c.begin_sign.ensures ws s)
