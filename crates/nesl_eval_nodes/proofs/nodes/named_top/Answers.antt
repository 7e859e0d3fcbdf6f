use Rattle.nesl_eval_nodes.proofs.nodes.named_top.Goals as goal

pub returns-in-Some : goal.returns-in-Some
returns-in-Some g c = λ m. rw (← c.in-Some.ensures) (c.find_top.ensures m)
