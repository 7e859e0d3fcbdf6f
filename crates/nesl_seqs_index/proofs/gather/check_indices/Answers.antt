use Rattle.nesl_seqs_index.proofs.gather.check_indices.Goals as goal

pub returns-in-Ints : goal.returns-in-Ints
returns-in-Ints g c = rw c.in-Ints.is c.check_named.ensures

pub returns-in-Bools : goal.returns-in-Bools
returns-in-Bools g c = rw c.in-Bools.is c.check_named-in-Bools.ensures

pub returns-in-Chars : goal.returns-in-Chars
returns-in-Chars g c = rw c.in-Chars.is c.check_named-in-Chars.ensures

pub returns-in-Values : goal.returns-in-Values
returns-in-Values g c = rw c.in-Values.is c.check_named-in-Values.ensures
