use Rattle.nesl_eval_column_results.proofs.functions.applied.Goals as goal

pub returns-in-OfOne : goal.returns-in-OfOne
returns-in-OfOne g c = λ s. rw c.in-OfOne.is (c.of_leaf.ensures s)

pub returns-in-OfTwo : goal.returns-in-OfTwo
returns-in-OfTwo g c = λ s. rw c.in-OfTwo.is (c.of_pair.ensures s)

pub returns-in-OfSequences : goal.returns-in-OfSequences
returns-in-OfSequences g c = λ s. rw c.in-OfSequences.is (c.of_sequence.ensures s c.args.count)
